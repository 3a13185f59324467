-- Visits that are noted one after another.
use Rattle.std.specs.Prelude.{◌≡◌, ℕ, Option, Some, None, option_map, List, [], ◌++◌}
use Rattle.std.specs.List.{find}
use Rattle.std.specs.Option.{option_or}
use Rattle.std.proofs.Common.{refl, sym, ◌∙◌, ap}
use Rattle.std.proofs.lemmas.List.Folds.{find-append}
use Rattle.cov_base.specs.Meaning.{Visit}
use Rattle.cov_base.specs.declared.facts.Fact.{Fact}
use Rattle.module_area.specs.Meaning.{shows, place_of}
use Rattle.module_area.specs.declared.places.Place.{Place}
use Rattle.evidence_check.specs.Meaning.{first_in}
use Rattle.evidence_check.specs.Found.{found_at, Notes}
use Rattle.evidence_check.specs.declared.firsts.First.{First}
use Rattle.evidence_check.specs.declared.firsts.Found.{Found}

abbrev pub first_of : ℕ → Visit → First
first_of t v = record { task = t; before = v.before; subject = v.subject }

or_none : (x : Option First) → option_or x None ≡ x
or_none None = refl
or_none (Some v) = refl

or_or : (x y z : Option First) → option_or (option_or x y) z ≡ option_or x (option_or y z)
or_or None y z = refl
or_or (Some v) y z = refl

map_or : (t : ℕ) (x y : Option Visit)
    → option_map (first_of t) (option_or x y) ≡ option_or (option_map (first_of t) x) (option_map (first_of t) y)
map_or t None y = refl
map_or t (Some v) y = refl

first_in-append : (place : Place) (f : Fact) (t : ℕ) (vs ws : List Visit)
    → first_in place f t (vs ++ ws) ≡ option_or (first_in place f t vs) (first_in place f t ws)
first_in-append place f t vs ws =
    ap (option_map (first_of t)) (find-append (shows place f) vs ws) ∙ map_or t (find (shows place f) vs) (find (shows place f) ws)

pub notes_none : (places : List Place) (t : ℕ) (found : List Found) → Notes places t [] found found
notes_none places t found = record { size = refl; firsts = λ n lt f. sym (or_none (found_at found n f)) }

pub notes_more : (places : List Place) (t : ℕ) (vs ws : List Visit) (old mid new : List Found) → Notes places t vs old mid
    → Notes places t ws mid new → Notes places t (vs ++ ws) old new
notes_more places t vs ws old mid new a b = record {
  size = b.size ∙ a.size;
  firsts = λ n lt f.
      let place : Place = place_of places n in
      b.firsts n lt f ∙ (ap (λ x. option_or x (first_in place f t ws)) (a.firsts n lt f)
      ∙ (or_or (found_at old n f) (first_in place f t vs) (first_in place f t ws) ∙ ap (option_or (found_at old n f)) (sym (first_in-append place f t vs ws))));
}
