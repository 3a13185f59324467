-- A schedule's items one by one.
use Rattle.std.specs.Option.{option_map_or}
use Rattle.std.proofs.Common.{◌≡◌, ℕ, ◌+◌, Bool, true, false, nat_eq, ◌==◌, if◌then◌else◌, Option, Some, None, List, [], ◌∷◌, ◌++◌, length, subst, refl, sym, ap, ◌∙◌, arith, append-nil}
use Rattle.module_area.specs.declared.places.Place.{Place}
use Rattle.interleave_core.specs.Meaning.{World, Parts, first_parts, run_on}
use Rattle.session_book.specs.Meaning.{JobView}
use Rattle.job_text.specs.Meaning.{LineView, lines_of, item_at}
use Rattle.job_text.proofs.Laws.{no_lines}
use Rattle.schedule_play.specs.Meaning.{Play, Bad, Whole, with_item, play, play_line, play_end, play_of, plants}
use Rattle.schedule_play.specs.Play.{IsLine, IsUnplayed}
use Rattle.schedule_play.specs.declared.playing.Played.{Played}
use Rattle.schedule_play.specs.declared.playing.ScheduleFault.{ScheduleFault}
use Rattle.schedule_play.specs.declared.playing.ScheduleFault.TheVariants as fault

-- the items that were played before
abbrev pub with_items : List Played → Play → Play
with_items [] x = x
with_items (p ∷ ps) x = with_item p (with_items ps x)

pub with_items-snoc : (ps : List Played) (p : Played) (x : Play) → with_items (ps ++ p ∷ []) x ≡ with_items ps (with_item p x)
with_items-snoc [] p x = refl
with_items-snoc (q ∷ ps) p x = ap (with_item q) (with_items-snoc ps p x)

pub with_items-bad : (ps : List Played) (n : ℕ) → with_items ps (Bad n) ≡ Bad n
with_items-bad [] n = refl
with_items-bad (p ∷ ps) n = ap (with_item p) (with_items-bad ps n)

pub with_items-whole : (ps : List Played) (c : Parts) (qs : List Played) → with_items ps (Whole c qs) ≡ Whole c (ps ++ qs)
with_items-whole [] c qs = refl
with_items-whole (p ∷ ps) c qs = ap (with_item p) (with_items-whole ps c qs)

-- bytes have a line
pub has_line : (bs : List ℕ) → false ≡ (length bs == 0) → lines_of bs ≡ [] → ⊥
has_line bs q e = let none : false ≡ true = q ∙ ap (λ (xs : List ℕ). length xs == 0) (no_lines bs e) in absurd cc

pub no_line : (bs : List ℕ) → length bs ≡ 0 → lines_of bs ≡ []
no_line [] q = refl
no_line (b ∷ bs) q = absurd (omega (arith, q))

-- by what a line came to
pub line_none : (o : Option Played) (x y : Play) (f : Played → Play) → o ≡ None → IsLine o x f y → x ≡ y
line_none None x y f e h = h
line_none (Some p) x y f e h = absurd cc

pub line_some : (o : Option Played) (p : Played) (x y : Play) (f : Played → Play) → o ≡ Some p → IsLine o x f y → x ≡ f p
line_some None p x y f e h = absurd cc
line_some (Some q) p x y f e h = let same : q ≡ p = cc in h ∙ ap f same

pub unplayed : (p : Play) (n : ℕ) (e : ScheduleFault) → p ≡ Bad n → e ≡ fault.Bad n → IsUnplayed p e
unplayed p n e bad is = subst (λ (f : ScheduleFault). IsUnplayed p f) (sym is) bad

-- a play so far: these items were played, and the lines that are left follow
abbrev pub IsSoFar : Play → List Played → World → ℕ → Parts → List LineView → Type 0
IsSoFar all ps w n c rest = all ≡ with_items ps (play w n c rest)

-- by what the next line comes to, whatever follows it
next_line : (all : Play) (ps : List Played) (w : World) (n : ℕ) (c : Parts) (rest : List LineView) (l : LineView) (ls : List LineView) (j : JobView) (x : Play) → IsSoFar all ps w n c rest → rest ≡ l ∷ ls → w.job ≡ j →
    play_line (λ d. play w (n + 1) d ls) w n c ls (item_at j l.bytes) ≡ x → all ≡ with_items ps x
next_line all ps w n c rest l ls j x so is job next =
    let first : play_line (λ d. play w (n + 1) d ls) w n c ls (item_at w.job l.bytes) ≡ x = subst (λ (k : JobView). play_line (λ d. play w (n + 1) d ls) w n c ls (item_at k l.bytes) ≡ x) (sym job) next in
    let whole : play w n c rest ≡ x = ap (λ (r : List LineView). play w n c r) is ∙ first in
    so ∙ ap (with_items ps) whole

pub line_bad : (all : Play) (ps : List Played) (w : World) (n : ℕ) (c : Parts) (rest : List LineView) (l : LineView) (ls : List LineView) (j : JobView) → IsSoFar all ps w n c rest → rest ≡ l ∷ ls → w.job ≡ j →
    ((more : Parts → Play) (m : ℕ) (r : List LineView) → play_line more w m c r (item_at j l.bytes) ≡ Bad m) → all ≡ Bad n
line_bad all ps w n c rest l ls j so is job bad = next_line all ps w n c rest l ls j (Bad n) so is job (bad (λ d. play w (n + 1) d ls) n ls) ∙ with_items-bad ps n

pub line_played : (all : Play) (ps : List Played) (w : World) (n : ℕ) (c d : Parts) (rest : List LineView) (l : LineView) (ls : List LineView) (j : JobView) (p : Played) → IsSoFar all ps w n c rest → rest ≡ l ∷ ls → w.job ≡ j →
    ((more : Parts → Play) (m : ℕ) (r : List LineView) → play_line more w m c r (item_at j l.bytes) ≡ with_item p (more d)) → all ≡ with_items (ps ++ p ∷ []) (play w (n + 1) d ls)
line_played all ps w n c d rest l ls j p so is job played =
    next_line all ps w n c rest l ls j (with_item p (play w (n + 1) d ls)) so is job (played (λ e. play w (n + 1) e ls) n ls) ∙ sym (with_items-snoc ps p (play w (n + 1) d ls))

pub line_ends : (all : Play) (ps : List Played) (w : World) (n : ℕ) (c d : Parts) (rest : List LineView) (l : LineView) (ls : List LineView) (j : JobView) → IsSoFar all ps w n c rest → rest ≡ l ∷ ls → w.job ≡ j →
    ((more : Parts → Play) (m : ℕ) (r : List LineView) → play_line more w m c r (item_at j l.bytes) ≡ play_end m d r) → all ≡ with_items ps (play_end n d ls)
line_ends all ps w n c d rest l ls j so is job ends = next_line all ps w n c rest l ls j (play_end n d ls) so is job (ends (λ e. play w (n + 1) e ls) n ls)

pub ends_whole : (all : Play) (ps : List Played) (n : ℕ) (d : Parts) (ls : List LineView) → all ≡ with_items ps (play_end n d ls) → ls ≡ [] → all ≡ Whole d ps
ends_whole all ps n d ls e none =
    let here : play_end n d ls ≡ Whole d [] = ap (λ (r : List LineView). play_end n d r) none in
    e ∙ (ap (with_items ps) here ∙ (with_items-whole ps d [] ∙ ap (Whole d) (append-nil ps)))

some_end : (n : ℕ) (d : Parts) (ls : List LineView) → (ls ≡ [] → ⊥) → play_end n d ls ≡ Bad (n + 1)
some_end n d [] some = absurd (some refl)
some_end n d (l ∷ ls) some = refl

pub ends_bad : (all : Play) (ps : List Played) (n : ℕ) (d : Parts) (ls : List LineView) → all ≡ with_items ps (play_end n d ls) → (ls ≡ [] → ⊥) → all ≡ Bad (n + 1)
ends_bad all ps n d ls e some = e ∙ (ap (with_items ps) (some_end n d ls some) ∙ with_items-bad ps (n + 1))

pub no_more : (all : Play) (ps : List Played) (w : World) (n : ℕ) (c : Parts) (rest : List LineView) → IsSoFar all ps w n c rest → rest ≡ [] → all ≡ Bad n
no_more all ps w n c rest so none = so ∙ (ap (with_items ps) (ap (λ (r : List LineView). play w n c r) none) ∙ with_items-bad ps n)

-- a schedule whose windows were planted
pub begun : (j : JobView) (places : List Place) (w : World) (count : ℕ) (c : Parts) (lines : List LineView) → w ≡ record { job = j; places = places } → nat_eq (length j.phases) 1 ≡ true → run_on w (first_parts w) (plants w) ≡ Some c →
    play_of j places count lines ≡ play w (count + 1) c lines
begun j places w count c lines is one planted =
    ap (λ (b : Bool). let v : World = record { job = j; places = places } in if b then option_map_or (λ (b : Parts). play v (count + 1) b lines) (run_on v (first_parts v) (plants v)) (Bad 0) else Bad 0) one
    ∙ (ap (λ (v : World). option_map_or (λ (b : Parts). play v (count + 1) b lines) (run_on v (first_parts v) (plants v)) (Bad 0)) (sym is) ∙ ap (λ (o : Option Parts). option_map_or (λ (b : Parts). play w (count + 1) b lines) o (Bad 0)) planted)
