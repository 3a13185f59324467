-- A schedule that was played is a run of the core.
use Rattle.std.proofs.Common.{◌≡◌, ℕ, zero, suc, ◌+◌, Bool, true, false, nat_eq, if◌then◌else◌, Option, Some, None, option_map, is_none, List, [], ◌∷◌, ◌++◌, length, refl, ap, ◌∙◌, subst}
use Rattle.std.proofs.lemmas.Option.{same_Some}
use Rattle.std.specs.Option.{option_and_then, option_map_or}
use Rattle.cov_base.specs.declared.numbers.TaskNo.{TaskNo}
use Rattle.module_area.specs.declared.places.Place.{Place}
use Rattle.session_book.specs.Meaning.{JobView}
use Rattle.interleave_core.specs.Meaning.{World, Parts, first_parts, Stepped, parts_step, run_on, next_of, most_events, go}
use Rattle.interleave_core.specs.CoreState.{CoreState, core_start, core_after, core_from, go_on}
use Rattle.interleave_core.specs.Going.{HasGone}
use Rattle.interleave_core.specs.MeaningOfEvents.{Stands}
use Rattle.interleave_core.specs.World.{IsWorld}
use Rattle.interleave_core.specs.declared.events.Event.{Event}
use Rattle.interleave_core.specs.declared.events.Shown.TheVariants as shown
use Rattle.interleave_core.proofs.Laws.{run_stands, gone_to, run_on-append}
use Rattle.job_text.specs.Meaning.{LineView, item_at}
use Rattle.job_text.specs.declared.schedule.Item.{Item}
use Rattle.job_text.specs.declared.schedule.Item.TheVariants.{Fetch, Mark, Lift, Do, Go, Plant, Close, End}
use Rattle.schedule_play.specs.Meaning.{Play, Bad, Whole, plants, play, play_item, play_line, play_on, play_end, play_of, item_event, with_item, is_end, IsRun}
use Rattle.schedule_play.specs.declared.playing.Played.{Played}

-- events of the core lead from these parts to those
abbrev HasRun : World → Parts → Parts → Type 0
HasRun w c d = (events : List Event) × (run_on w c events ≡ Some d)

went : (w : World) (n : ℕ) (c : Parts) (t : TaskNo) → HasRun w c (go w n c t)
went w zero c t = ([], refl)
went w (suc n) c t = by_next (λ b. went w n b t) (next_of w c t)
  where
    by_step : ((b : Parts) → HasRun w b (go w n b t)) → (e : Event) (o : Option Stepped) → parts_step w c e ≡ o → HasRun w c (option_map_or (λ (x : Stepped). go w n x.parts t) o c)
    by_step more e None h = ([], refl)
    by_step more e (Some x) h = let r = more x.parts in (e ∷ r.0, ap (option_and_then (λ (y : Stepped). run_on w y.parts r.0)) h ∙ r.1)

    by_next : ((b : Parts) → HasRun w b (go w n b t)) → (o : Option Event) → HasRun w c (option_map_or (λ (x : Stepped). go w n x.parts t) (option_and_then (parts_step w c) o) c)
    by_next more None = ([], refl)
    by_next more (Some e) = by_step more e (parts_step w c e) refl

go_run : (w : World) (c : Parts) (t : TaskNo) (x : Stepped) (b : Bool) → (if b then None else Some (record { parts = go w (most_events w t.0) c t; shown = shown.Done })) ≡ Some x → HasRun w c x.parts
go_run w c t x true h = absurd cc
go_run w c t x false h =
    let same : record { parts = go w (most_events w t.0) c t; shown = shown.Done } ≡ x = cc in
    subst (λ (y : Stepped). HasRun w c y.parts) same (went w (most_events w t.0) c t)

one_run : (w : World) (c : Parts) (o : Option Event) (x : Stepped) → option_and_then (parts_step w c) o ≡ Some x → HasRun w c x.parts
one_run w c None x h = absurd cc
one_run w c (Some e) x h = (e ∷ [], ap (option_and_then (λ (y : Stepped). Some y.parts)) h)

item_run : (w : World) (c : Parts) (item : Item) (x : Stepped) → play_item w c item ≡ Some x → HasRun w c x.parts
item_run w c (Fetch t) x h = one_run w c (item_event w c (Fetch t)) x h
item_run w c (Mark t) x h = one_run w c (item_event w c (Mark t)) x h
item_run w c (Lift t) x h = one_run w c (item_event w c (Lift t)) x h
item_run w c (Do t) x h = one_run w c (item_event w c (Do t)) x h
item_run w c (Plant t) x h = one_run w c (item_event w c (Plant t)) x h
item_run w c (Close t) x h = one_run w c (item_event w c (Close t)) x h
item_run w c (Go t) x h = go_run w c t x (is_none (next_of w c t)) h
item_run w c End x h = absurd cc

whole_parts : (c d : Parts) (ps qs : List Played) → Whole c ps ≡ Whole d qs → c ≡ d
whole_parts c d ps qs h = cc

-- a schedule that was played
play_run : (w : World) (n : ℕ) (c d : Parts) (lines : List LineView) (played : List Played) → play w n c lines ≡ Whole d played → HasRun w c d
play_run w n c d [] played h = absurd cc
play_run w n c d (line ∷ lines) played h = by_item (item_at w.job line.bytes) (λ b ps q. play_run w (n + 1) b d lines ps q) h
  where
    more : Parts → Play
    more e = play w (n + 1) e lines

    Rest : Type 0
    Rest = (b : Parts) (ps : List Played) → play w (n + 1) b lines ≡ Whole d ps → HasRun w b d

    by_end : (ls : List LineView) → play_end n c ls ≡ Whole d played → HasRun w c d
    by_end [] q = ([], ap Some (whole_parts c d [] played q))
    by_end (l ∷ ls) q = absurd cc

    by_play : (p : Played) (x : Stepped) → HasRun w c x.parts → Rest → (all : Play) → more x.parts ≡ all → with_item p all ≡ Whole d played → HasRun w c d
    by_play p x made rest (Bad m) e q = absurd cc
    by_play p x made rest (Whole b ps) e q =
        let behind : HasRun w x.parts d = rest x.parts ps (e ∙ ap (λ (f : Parts). Whole f ps) (whole_parts b d (p ∷ ps) played q)) in
        (made.0 ++ behind.0, run_on-append w c x.parts made.0 behind.0 made.1 ∙ behind.1)

    by_step : (item : Item) → Rest → (o : Option Stepped) → play_item w c item ≡ o → play_on more n item (item_event w c item) o ≡ Whole d played → HasRun w c d
    by_step item rest None step q = absurd cc
    by_step item rest (Some x) step q = by_play (record { item = item; event = item_event w c item; shown = x.shown }) x (item_run w c item x step) rest (more x.parts) refl q

    by_line : (item : Item) → Rest → (b : Bool) → (if b then play_end n c lines else play_on more n item (item_event w c item) (play_item w c item)) ≡ Whole d played → HasRun w c d
    by_line item rest true q = by_end lines q
    by_line item rest false q = by_step item rest (play_item w c item) refl q

    by_item : (o : Option Item) → Rest → play_line more w n c lines o ≡ Whole d played → HasRun w c d
    by_item None rest q = absurd cc
    by_item (Some item) rest q = by_line item rest (is_end item) q

-- with the logs
with_logs : (w : World) (c : CoreState) (events : List Event) (d : Parts) → run_on w c.parts events ≡ Some d → (e : CoreState) × (core_from w c events ≡ Some e) × (e.parts ≡ d)
with_logs w c [] d h = (c, refl, same_Some c.parts d h)
with_logs w c (e ∷ events) d h = by_step (λ b q. with_logs w b events d q) (parts_step w c.parts e) h
  where
    by_step : ((b : CoreState) → run_on w b.parts events ≡ Some d → (f : CoreState) × (core_from w b events ≡ Some f) × (f.parts ≡ d)) → (o : Option Stepped) →
        option_and_then (λ (x : Stepped). run_on w x.parts events) o ≡ Some d → (f : CoreState) × (go_on (λ b. core_from w b events) (option_map (core_after w c e) o) ≡ Some f) × (f.parts ≡ d)
    by_step more None q = absurd cc
    by_step more (Some x) q = more (core_after w c e x).core q

-- of the schedule of a job of one phase
pub play_is_run : (j : JobView) (places : List Place) (count : ℕ) (d : Parts) (lines : List LineView) (played : List Played) → IsWorld (record { job = j; places = places }) → play_of j places count lines ≡ Whole d played →
    IsRun (record { job = j; places = places }) d
play_is_run j places count d lines played is_world h = by_phases (nat_eq (length j.phases) 1) h
  where
    w : World
    w = record { job = j; places = places }

    by_start : (o : Option Parts) → run_on w (first_parts w) (plants w) ≡ o → option_map_or (λ (b : Parts). play w (count + 1) b lines) o (Bad 0) ≡ Whole d played → IsRun w d
    by_start None e q = absurd cc
    by_start (Some c) e q =
        let made = play_run w (count + 1) c d lines played q in
        let events : List Event = plants w ++ made.0 in
        let run : run_on w (first_parts w) events ≡ Some d = run_on-append w (first_parts w) c (plants w) made.0 e ∙ made.1 in
        let all = with_logs w (core_start w) events d run in
        record { events = made.0; run = run; stands = subst (Stands w events) all.2 (run_stands w all.0 events is_world all.1) }

    by_phases : (b : Bool) → (if b then option_map_or (λ (b : Parts). play w (count + 1) b lines) (run_on w (first_parts w) (plants w)) (Bad 0) else Bad 0) ≡ Whole d played → IsRun w d
    by_phases true q = by_start (run_on w (first_parts w) (plants w)) refl q
    by_phases false q = absurd cc

pub goes : (w : World) (c d : Parts) (t : TaskNo) → HasGone w c d t → play_item w c (Go t) ≡ Some (record { parts = d; shown = shown.Done })
goes w c d t h =
    ap (λ (b : Bool). if b then None else Some (record { parts = go w (most_events w t.0) c t; shown = shown.Done })) h.begun
    ∙ ap (λ (e : Parts). Some (record { parts = e; shown = shown.Done })) (gone_to w (most_events w t.0) c d t h.run)

pub stays : (w : World) (c : Parts) (t : TaskNo) → next_of w c t ≡ None → play_item w c (Go t) ≡ None
stays w c t none = ap (λ (o : Option Event). if is_none o then None else Some (record { parts = go w (most_events w t.0) c t; shown = shown.Done })) none
