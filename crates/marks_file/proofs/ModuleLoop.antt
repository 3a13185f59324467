-- What the loop over modules keeps.
use Rattle.std.proofs.Common.{◌≡◌, ℕ, ◌+◌, ◌-◌, ◌*◌, ◌≤◌, ◌<◌, suc, None, true, List, [], ◌∷◌, ◌++◌, length, drop, ap, sym, ◌∙◌, arith, append_assoc, length-append, length-drop}
use Rattle.std.proofs.lemmas.Bool.{and_parts}
use Rattle.std.specs.List.{flat_map}
use Rattle.std.proofs.lemmas.List.{drop-drop}
use Rattle.std.proofs.lemmas.Grind.{flat_map-append}
use Rattle.marks_file.specs.Meaning.{MarkedView, place_total, module_bytes, first_bad, module_fields, modules_fields, place_count_at, module_at, is_new_name}
use Rattle.marks_file.specs.Reading.{IsFault, modules_at}
use Rattle.marks_file.specs.declared.fault.MarksFault.{MarksFault}
use Rattle.marks_file.specs.declared.fault.MarksFault.TheVariants.{BadMarks, NoMemory}
use Rattle.marks_file.proofs.Parts.{module_size}
use Rattle.marks_file.proofs.FieldLemmas.{first_none, first_some}
use Rattle.marks_file.proofs.SpellLemmas.{AreBytes, bytes_later, length-places_at}
use Rattle.marks_file.proofs.MarksLemmas.{place_total-append}
use Rattle.marks_file.proofs.ModuleLemmas.{module_spelled}

-- i modules with so many places were read, and the others begin at `at`
pub record ModulesSoFar (input : List ℕ) (from count at i before : ℕ) (modules : List MarkedView) : Type 0 where
  pub inside : at ≤ length input
  pub fields : first_bad (modules_fields from [] count (drop from input)) ≡ first_bad (modules_fields at modules (count - i) (drop at input))
  pub value : modules_at count (drop from input) ≡ modules ++ modules_at (count - i) (drop at input)
  pub places : before ≡ place_total modules
  pub few : before ≤ 65536
  pub end : at ≡ from + length (flat_map module_bytes modules)

places_of : (bs : List ℕ) → length (module_at bs).places ≡ place_count_at bs
unfolding module_at
places_of bs = length-places_at (place_count_at bs) (drop 20 bs)

pub modules_step : (input : List ℕ) (from count at i before n : ℕ) (modules : List MarkedView) (m : MarkedView) → AreBytes input → ModulesSoFar input from count at i before modules → i < count
    → first_bad (module_fields at modules (drop at input)) ≡ None → m ≡ module_at (drop at input) → n ≡ length m.places
    → ModulesSoFar input from count (at + (20 + 9 * n)) (i + 1) (before + n) (modules ++ m ∷ [])
modules_step input from count at i before n modules m u s h good is many =
    let k : count - i ≡ suc (count - (i + 1)) = omega arith in
    let bs = drop at input in
    let left = count - (i + 1) in
    let size = module_size (place_count_at bs) in
    let one = module_spelled at modules bs (bytes_later at input u) good in
    let same : n ≡ place_count_at bs = many ∙ (ap (λ (x : MarkedView). length x.places) is ∙ places_of bs) in
    let past : drop size bs ≡ drop (at + size) input = drop-drop size at input in
    let here : at + (20 + 9 * n) ≡ at + size = ap (λ x. at + (20 + 9 * x)) same in
    let inside = s.inside in
    let room = one.room in
    let fits = one.count in
    let long : length (module_bytes m) ≡ size = ap (λ x. length (module_bytes x)) is ∙ omega (arith, ap length one.spelled, length-append (module_bytes (module_at bs)) (drop size bs), length-drop size bs, room) in
    let next : ModulesSoFar input from count (at + size) (i + 1) (before + n) (modules ++ m ∷ []) = record {
      inside = omega (arith, room, length-drop at input, inside);
      fields = s.fields
          ∙ (ap (λ j. first_bad (modules_fields at modules j bs)) k
          ∙ (first_none (module_fields at modules bs) (modules_fields (at + size) (modules ++ module_at bs ∷ []) left (drop size bs)) good
          ∙ (ap (λ x. first_bad (modules_fields (at + size) (modules ++ x ∷ []) left (drop size bs))) (sym is)
          ∙ ap (λ t. first_bad (modules_fields (at + size) (modules ++ m ∷ []) left t)) past)));
      value = s.value
          ∙ (ap (λ j. modules ++ modules_at j bs) k
          ∙ (ap (λ x. modules ++ (x ∷ modules_at left (drop size bs))) (sym is)
          ∙ (ap (λ t. modules ++ (m ∷ modules_at left t)) past
          ∙ sym (append_assoc modules (m ∷ []) (modules_at left (drop (at + size) input))))));
      places = omega (arith, s.places, place_total-append modules m, many);
      few = omega (arith, s.places, fits, same);
      end = omega (arith, s.end, ap length (flat_map-append module_bytes modules (m ∷ [])), length-append (flat_map module_bytes modules) (flat_map module_bytes (m ∷ [])), length-append (module_bytes m) [], long);
    } in
    rw here next

-- the module that was read has a new name
pub next_new : (input : List ℕ) (at : ℕ) (modules : List MarkedView) (m : MarkedView) → AreBytes input → first_bad (module_fields at modules (drop at input)) ≡ None → m ≡ module_at (drop at input) → is_new_name modules m.name ≡ true
next_new input at modules m u good is =
    let one = module_spelled at modules (drop at input) (bytes_later at input u) good in
    rw is (and_parts (is_new_name modules (module_at (drop at input)).name) _ one.is).0

pub modules_stop : (input : List ℕ) (from count at i before : ℕ) (modules : List MarkedView) (fault : MarksFault) → ModulesSoFar input from count at i before modules → i < count
    → IsFault (module_fields at modules (drop at input)) fault → IsFault (modules_fields from [] count (drop from input)) fault
modules_stop input from count at i before modules NoMemory s h bad = tt
modules_stop input from count at i before modules (BadMarks o) s h bad =
    let k : count - i ≡ suc (count - (i + 1)) = omega arith in
    let bs = drop at input in
    let size = module_size (place_count_at bs) in
    s.fields
    ∙ (ap (λ j. first_bad (modules_fields at modules j bs)) k
    ∙ first_some (module_fields at modules bs) (modules_fields (at + size) (modules ++ module_at bs ∷ []) (count - (i + 1)) (drop size bs)) o bad)
