-- What the words of a closed area say.
use Rattle.std.proofs.Common.{◌≡◌, ℕ, zero, suc, ◌+◌, ◌-◌, ◌*◌, ◌/◌, ◌%◌, ◌<◌, ◌≤◌, Bool, true, false, not, ◌&&◌, nat_lt, List, [], ◌∷◌, map, length, get_or, sym, refl, ap, ◌∙◌, subst, inl, inr, arith, mod-lt}
use mathlib.Core.Logic.{dite}
use native.Mathlib.Decide.{ℕ_discrete}
use mathlib.Core.Option.{some}
use lib.ListN.{get_elem?}
use Rattle.std.proofs.lemmas.List.{get_or-take, length-map}
use Rattle.std.proofs.lemmas.Nat.{div-add-mod', div-mul-add, mod-mul-add, div_below}
use Rattle.atomic_table.specs.Table.{State, Final, Seen}
use Rattle.cov_base.specs.declared.facts.Fact.{Fact}
use Rattle.cov_base.specs.Meaning.{FactSet, has_fact, is_full, is_within, no_facts}
use Rattle.module_area.specs.declared.parties.View.{View}
use Rattle.module_area.specs.declared.parties.Role.TheVariants.{Root}
use Rattle.module_area.specs.declared.tallies.Tally.{Tally}
use Rattle.module_area.specs.Meaning.{PlanView, kind_at, window_at, FinalsView, set_at}
use Rattle.module_area.specs.Rule.{Has, last_tag, Held, has_number}
use Rattle.module_area.specs.Drained.{Drained}
use Rattle.module_area.specs.Ended.{AreSettled, HasRace, HasSets, HasTally}
use Rattle.module_area.specs.Race.{beats_of, IsRootOf, OwnAs, Raced}
use Rattle.module_area.proofs.Laws.{index_below, same_tests, count_same}
use Rattle.shared_area.specs.declared.rule.NoSlot.{NoSlot}
use Rattle.shared_area.specs.Words.{facts_of, set_word, base_of, front, cells_in, sets_in, numbers_in}
use Rattle.shared_area.specs.Sets.{AreSets}
use Rattle.shared_area.specs.Told.{has_mark, notes_in}
use Rattle.shared_area.specs.Rule.{IsArea}
use Rattle.shared_area.proofs.NoteLemmas.{seen_most, settled_there, mark_there, mark_shown, pair_there, pair_shown, number_there, number_shown, not_there}
use Rattle.shared_area.proofs.WordLemmas.{set_front}
use Rattle.shared_area.proofs.AnswerLemmas.{set_within, founds}
use Rattle.shared_area.proofs.SumLemmas.{facts_by_marks, pairs_same}
use Rattle.shared_area.proofs.EndLemmas.{end_tag, end_marks, end_over, end_planted, lifts_least, lifts_most}

no_more_out : (g j : Bool) → (g && not j) ≡ false → g ≡ true → j ≡ true
no_more_out true true h e = refl
no_more_out true false h e = absurd (let x : true ≡ false = h in cc)
no_more_out false j h e = absurd cc

abbrev at_index : ℕ → (ℕ × ℕ × Fact) → ℕ × Fact
at_index n x = ((x.0 - 1) * n + x.1, x.2)

has_map : (n : ℕ) (x : ℕ × ℕ × Fact) (l : List (ℕ × ℕ × Fact)) → Has x l → Has (at_index n x) (map (at_index n) l)
has_map n x [] h = absurd h
has_map n x (y ∷ ys) (inl e) = inl (ap (at_index n) e)
has_map n x (y ∷ ys) (inr h) = inr (has_map n x ys h)

-- the session and place of an index give the index
decoded : (n i : ℕ) → (i / n + 1 - 1) * n + i % n ≡ i
decoded n i = let d = div-add-mod' i n in let z : (i / n + 1 - 1) * n ≡ i / n * n = ap (λ k. k * n) (let q : i / n + 1 - 1 ≡ i / n = omega arith in q) in omega (arith, d, z)

positive : (n m i : ℕ) → i < m * n → 0 < n
positive zero m i h = absurd (omega arith)
positive (suc n) m i h = omega arith

session_below : (n m i : ℕ) → i < m * n → i / n + 1 ≤ m
session_below n m i h = omega (arith, div_below i n m (positive n m i h) h)

-- the sets that an area ends with, as they were read off its words
module _ (plan : PlanView) (words : List ℕ) (finals : FinalsView) (places : finals.places ≡ length plan.places) (size : length finals.sets ≡ plan.sessions * length plan.places) (read : AreSets plan words finals.sets) where
  set_is : (s p : ℕ) → 0 < s → s ≤ plan.sessions → p < length plan.places → set_at finals s p ≡ sets_in plan words s p
  set_is s p pos ls l = let n : ℕ = length plan.places in let i : ℕ = (s - 1) * n + p in let inside = index_below n plan.sessions s p pos ls l in let session = div-mul-add (s - 1) n p l in
      let is_s : i / n + 1 ≡ s = omega arith in
      ap (λ k. get_or finals.sets ((s - 1) * k + p) no_facts) places ∙ (read i (omega arith) ∙ (λ j. sets_in plan words (is_s j) (mod-mul-add (s - 1) n p l j)))

-- they stand before the tasks' words
front_sets : (plan : PlanView) (words : List ℕ) (sets : List FactSet) → length sets ≡ plan.sessions * length plan.places → AreSets plan words sets → AreSets plan (front plan words) sets
front_sets plan words sets size read i l = let n : ℕ = length plan.places in let some_place = positive n plan.sessions i (omega (arith, size, l)) in
    let inside = set_front plan (i / n + 1) (i % n) (omega arith) (session_below n plan.sessions i (omega (arith, size, l))) (mod-lt i some_place) in
    read i l ∙ ap (facts_of (kind_at plan (i % n)) (i % n)) (sym (get_or-take (base_of plan) words (set_word n (i / n + 1) (i % n)) 0 inside))

module _ (plan : PlanView) (id : ℕ) (v : View) (tally : Tally) (words : List ℕ) (finals : FinalsView) (root : v.role ≡ Root) (out : (t : ℕ) → (notes_in v tally).out t ≡ false)
    (counted : (tally.marks ≡ length v.marked) × (tally.lifts ≡ length v.lifted)) (places : finals.places ≡ length plan.places) (size : length finals.sets ≡ plan.sessions * length plan.places) (read : AreSets plan words finals.sets) where
  all : (t : ℕ) → Has t v.given → Has t v.joined
  all t h = number_there t v.joined (no_more_out (has_number t v.given) (has_number t v.joined) (out t) (number_shown t v.given h))

  abbrev set_of : (t p : ℕ) → 0 < t → t ≤ plan.sessions → p < length plan.places → set_at finals t p ≡ sets_in plan words t p
  set_of t p pos lt l = set_is plan words finals places size read t p pos lt l

  module _ (views : List View) (r : Held plan (cells_in words) (sets_in plan words) views) (at : get_elem? views id ≡ some v) where
    -- a fact is in a final set exactly where the root has marked it
    marked_exactly : (t p : ℕ) (f : Fact) → 0 < t → t ≤ plan.sessions → p < length plan.places → has_fact (set_at finals t p) f ≡ has_mark t p f v.marked
    marked_exactly t p f pos lt l = ap (λ x. has_fact x f) (set_of t p pos lt l) ∙ same_tests _ _
        (λ h. mark_shown t p f v.marked (end_marks plan (cells_in words) (sets_in plan words) views r id v at root all t p f l pos h))
        (λ h. ((r.kept id v at).marked t p f (mark_there t p f v.marked h)).4)

    ended_sets : HasSets plan (notes_in v tally) finals
    ended_sets = record {
      places = places;
      size = size;
      marked = marked_exactly;
      within = λ t p pos lt l. subst (λ x. is_within (kind_at plan p) x ≡ true) (sym (set_of t p pos lt l)) (set_within plan (cells_in words) (sets_in plan words) views r id v at t p l pos);
      full = λ t p pos lt l h. set_of t p pos lt l ∙ (founds plan (cells_in words) (sets_in plan words) views r id v at t p l pos).full h;
      seen = λ p l. seen_most p (last_tag p v.planted) v.seen (λ t h. let low = ((r.kept id v at).seen p t h).1 in let tag = end_tag plan (cells_in words) (sets_in plan words) views r id v at root all p l in omega (arith, low, tag));
      over = λ t p f pos lt l h. end_over plan (cells_in words) (sets_in plan words) views r id v at root all t p f l pos (subst (λ x. has_fact x f ≡ true) (set_of t p pos lt l) h);
      planted = λ t p f pos lt l h. end_planted plan (cells_in words) (sets_in plan words) views r id v at root all t p f l pos (subst (λ x. has_fact x f ≡ true) (set_of t p pos lt l) h);
    }

    -- the mark that made a fact of the sets
    its_mark : (i : ℕ) (f : Fact) → i < length finals.sets → has_fact (get_or finals.sets i no_facts) f ≡ true → Has (i, f) (map (at_index (length plan.places)) v.marked)
    its_mark i f l h = let n : ℕ = length plan.places in let some_place : 0 < n = positive n plan.sessions i (omega arith) in
        let mark = end_marks plan (cells_in words) (sets_in plan words) views r id v at root all (i / n + 1) (i % n) f (mod-lt i some_place) (omega arith) (subst (λ x. has_fact x f ≡ true) (read i l) h) in
        subst (λ k. Has (k, f) (map (at_index n) v.marked)) (decoded n i) (has_map n (i / n + 1, i % n, f) v.marked mark)

    ended_tally : HasTally plan (notes_in v tally) finals
    ended_tally = record {
      marks = let a = facts_by_marks (map (at_index (length plan.places)) v.marked) finals.sets its_mark in let b = length-map v.marked (at_index (length plan.places)) in let c = counted.0 in omega arith;
      lifts_least = λ tried. let few = lifts_least plan (cells_in words) (sets_in plan words) views r id v at root all (λ t q h. pair_there t q v.free (tried t q (pair_shown t q v.full h))) in
          let same = count_same (λ p. nat_lt 0 (window_at plan p) && is_full (kind_at plan p) (sets_in plan words (window_at plan p) p)) (λ p. nat_lt 0 (window_at plan p) && is_full (kind_at plan p) (set_at finals (window_at plan p) p)) (length plan.places)
          (λ p l. dite (ℕ_discrete (window_at plan p) 0)
          (λ e. ap (λ b. b && is_full (kind_at plan p) (sets_in plan words (window_at plan p) p)) (no_window e) ∙ sym (ap (λ b. b && is_full (kind_at plan p) (set_at finals (window_at plan p) p)) (no_window e)))
          (λ n. ap (λ x. nat_lt 0 (window_at plan p) && is_full (kind_at plan p) x) (sym (set_of (window_at plan p) p (omega arith) (r.is_plan.in_range p l) l)))) in
          let c = counted.1 in omega (arith, few, same, c);
      lifts_most = let most = lifts_most plan (cells_in words) (sets_in plan words) views r id v at root all in
          let same = pairs_same (λ t p. is_full (kind_at plan p) (sets_in plan words t p)) (λ t p. is_full (kind_at plan p) (set_at finals t p)) plan.sessions (length plan.places)
          (λ t p pos lt l. ap (is_full (kind_at plan p)) (sym (set_of t p pos lt l))) in
          let c = counted.1 in omega (arith, most, same, c);
    }
      where
        no_window : {w : ℕ} → w ≡ 0 → nat_lt 0 w ≡ false
        no_window e = ap (λ k. nat_lt 0 k) e

    -- what the root knew as final stands so
    ended_settled : (number : ℕ → ℕ) → Drained plan (cells_in words) (sets_in plan words) number views → AreSettled plan (notes_in v tally) (set_at finals)
    ended_settled number drained t p x pos lt l known = set_of t p pos lt l ∙ (drained.settled id v t p x at (settled_there t p x v.settled known)).2.set

-- the same, by the words that the area had
module _ (plan : PlanView) (id : ℕ) (v : View) (tally : Tally) (words : List ℕ) (slots : List NoSlot) (finals : FinalsView) (root : v.role ≡ Root) (out : (t : ℕ) → (notes_in v tally).out t ≡ false)
    (counted : (tally.marks ≡ length v.marked) × (tally.lifts ≡ length v.lifted)) (places : finals.places ≡ length plan.places) (size : length finals.sets ≡ plan.sessions * length plan.places) (read : AreSets plan words finals.sets) where
  pub ended_race : Final (Seen (IsArea plan) id v) words slots → HasRace (notes_in v tally)
  ended_race h = let r : Raced plan (cells_in (front plan h.0.words)) h.0.views = h.1.0.raced in let mine : IsRootOf r.race v = subst (OwnAs r.race v) root (r.own id v h.1.1) in record {
    race = r.race;
    is_race = r.is_race;
    root = sym mine.own;
    each = λ t g. mine.back t (beats_of t v.back) (mine.all t (all plan id v tally words finals root out counted places size read t (number_there t v.given g)));
    others = λ t g. mine.none t (not_there t v.given g);
  }

  pub ended : Final (Seen (IsArea plan) id v) words slots → HasSets plan (notes_in v tally) finals × HasTally plan (notes_in v tally) finals × AreSettled plan (notes_in v tally) (set_at finals)
  ended h = let s : State NoSlot View = h.0 in let r : IsArea plan s = h.1.0 in let F : List ℕ = front plan words in let shown = front_sets plan words finals.sets size read in
      let held : Held plan (cells_in F) (sets_in plan F) s.views = subst (λ ws. Held plan (cells_in (front plan ws)) (sets_in plan (front plan ws)) s.views) h.2 r.held in
      let drained : Drained plan (cells_in F) (sets_in plan F) (numbers_in plan words) s.views = subst (λ ws. Drained plan (cells_in (front plan ws)) (sets_in plan (front plan ws)) (numbers_in plan ws) s.views) h.2 r.drained in (
        ended_sets plan id v tally F finals root out counted places size shown s.views held h.1.1,
        ended_tally plan id v tally F finals root out counted places size shown s.views held h.1.1,
        ended_settled plan id v tally F finals root out counted places size shown s.views held h.1.1 (numbers_in plan words) drained,
      )
