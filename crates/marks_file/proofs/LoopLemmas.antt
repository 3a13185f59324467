-- What the loops of the reader keep.
use Rattle.std.proofs.Common.{◌≡◌, ℕ, ◌+◌, ◌-◌, ◌≤◌, ◌<◌, suc, nat_le, slice_index, None, Some, List, [], ◌∷◌, ◌++◌, length, take, drop, refl, ap, sym, ◌∙◌, arith, append_assoc, append-nil, length-drop, leb-true}
use Rattle.std.proofs.lemmas.Bool.{and_parts}
use Rattle.std.proofs.lemmas.List.{drop-drop}
use Rattle.byteorder.specs.Endian.{big_number}
use Rattle.marks_file.specs.Meaning.{MarkedView, end_location, is_length, FieldAt, first_bad, marked_place_at, place_fields, places_at, places_fields, header_fields, module_fields, place_count_at, module_at}
use Rattle.marks_file.specs.Reading.{IsFault}
use Rattle.marks_file.specs.declared.fault.MarksFault.{MarksFault}
use Rattle.marks_file.specs.declared.fault.MarksFault.TheVariants.{BadMarks, NoMemory}
use Rattle.marks_file.specs.declared.marks.MarkedPlace.{MarkedPlace}
use Rattle.marks_file.proofs.FieldLemmas.{place_record, first_none, first_some}

-- i places were read, and the others begin at `at`, behind one that ends at `end`
pub record PlacesSoFar (input : List ℕ) (from size count at end i : ℕ) (places : List MarkedPlace) : Type 0 where
  pub inside : at ≤ length input
  pub fields : first_bad (places_fields from size 0 count (drop from input)) ≡ first_bad (places_fields at size end (count - i) (drop at input))
  pub value : places_at count (drop from input) ≡ places ++ places_at (count - i) (drop at input)

pub places_start : (input : List ℕ) (from size count : ℕ) → from ≤ length input → PlacesSoFar input from size count from 0 0 []
places_start input from size count h =
    let n : count ≡ count - 0 = omega arith in
    record {
      inside = h;
      fields = ap (λ k. first_bad (places_fields from size 0 k (drop from input))) n;
      value = ap (λ k. places_at k (drop from input)) n;
    }

-- a place that was read lies in its module
pub place_end : (at size end : ℕ) (bs : List ℕ) (p : MarkedPlace) → first_bad (place_fields at size end bs) ≡ None → p ≡ marked_place_at bs → end_location p ≤ size
unfolding marked_place_at is_length
place_end at size end bs p good is =
    let long = (and_parts _ (nat_le (big_number 4 bs + slice_index bs 4) size) (place_record at size end bs good).long).1 in
    rw is (leb-true (big_number 4 bs + slice_index bs 4) size long)

pub places_step : (input : List ℕ) (from size count at end i : ℕ) (places : List MarkedPlace) (p : MarkedPlace) → PlacesSoFar input from size count at end i places → i < count
    → first_bad (place_fields at size end (drop at input)) ≡ None → p ≡ marked_place_at (drop at input)
    → PlacesSoFar input from size count (at + 9) (end_location p) (i + 1) (places ++ p ∷ [])
places_step input from size count at end i places p s h good is =
    let n : count - i ≡ suc (count - (i + 1)) = omega arith in
    let bs = drop at input in
    let m = count - (i + 1) in
    let past : drop 9 bs ≡ drop (at + 9) input = drop-drop 9 at input in
    let room = (place_record at size end bs good).room in
    let inside = s.inside in
    record {
      inside = omega (arith, room, length-drop at input);
      fields = s.fields
          ∙ (ap (λ k. first_bad (places_fields at size end k bs)) n
          ∙ (first_none (place_fields at size end bs) (places_fields (at + 9) size (end_location (marked_place_at bs)) m (drop 9 bs)) good
          ∙ (ap (λ q. first_bad (places_fields (at + 9) size (end_location q) m (drop 9 bs))) (sym is)
          ∙ ap (λ t. first_bad (places_fields (at + 9) size (end_location p) m t)) past)));
      value = s.value
          ∙ (ap (λ k. places ++ places_at k bs) n
          ∙ (ap (λ q. places ++ (q ∷ places_at m (drop 9 bs))) (sym is)
          ∙ (ap (λ t. places ++ (p ∷ places_at m t)) past
          ∙ sym (append_assoc places (p ∷ []) (places_at m (drop (at + 9) input))))));
    }

pub places_stop : (input : List ℕ) (from size count at end i o : ℕ) (places : List MarkedPlace) → PlacesSoFar input from size count at end i places → i < count
    → first_bad (place_fields at size end (drop at input)) ≡ Some o → first_bad (places_fields from size 0 count (drop from input)) ≡ Some o
places_stop input from size count at end i o places s h bad =
    let n : count - i ≡ suc (count - (i + 1)) = omega arith in
    let bs = drop at input in
    s.fields
    ∙ (ap (λ k. first_bad (places_fields at size end k bs)) n
    ∙ first_some (place_fields at size end bs) (places_fields (at + 9) size (end_location (marked_place_at bs)) (count - (i + 1)) (drop 9 bs)) o bad)

pub places_good : (input : List ℕ) (from size count at end i : ℕ) (places : List MarkedPlace) → PlacesSoFar input from size count at end i places → count ≤ i
    → first_bad (places_fields from size 0 count (drop from input)) ≡ None
places_good input from size count at end i places s h =
    let n : count - i ≡ 0 = omega arith in
    s.fields ∙ ap (λ k. first_bad (places_fields at size end k (drop at input))) n

pub places_all : (input : List ℕ) (from size count at end i : ℕ) (places : List MarkedPlace) → PlacesSoFar input from size count at end i places → count ≤ i
    → places ≡ places_at count (drop from input)
places_all input from size count at end i places s h =
    let n : count - i ≡ 0 = omega arith in
    sym (s.value ∙ (ap (λ k. places ++ places_at k (drop at input)) n ∙ append-nil places))

-- a module's places behind its record
module_rest : (input : List ℕ) (at : ℕ) (earlier : List MarkedView) (size count : ℕ) → size ≡ big_number 4 (drop 12 (drop at input)) → count ≡ place_count_at (drop at input)
    → ◌≡◌ {A = List FieldAt} (places_fields (at + 20) size 0 count (drop (at + 20) input)) (places_fields (at + 20) (big_number 4 (drop 12 (drop at input))) 0 (place_count_at (drop at input)) (drop 20 (drop at input)))
module_rest input at earlier size count s c =
    ap (λ z. places_fields (at + 20) z 0 count (drop (at + 20) input)) s
    ∙ (ap (λ n. places_fields (at + 20) (big_number 4 (drop 12 (drop at input))) 0 n (drop (at + 20) input)) c
    ∙ ap (λ t. places_fields (at + 20) (big_number 4 (drop 12 (drop at input))) 0 (place_count_at (drop at input)) t) (sym (drop-drop 20 at input)))

pub module_goes : (input : List ℕ) (at : ℕ) (earlier : List MarkedView) (size count : ℕ) → first_bad (header_fields at earlier (drop at input)) ≡ None
    → size ≡ big_number 4 (drop 12 (drop at input)) → count ≡ place_count_at (drop at input)
    → first_bad (places_fields (at + 20) size 0 count (drop (at + 20) input)) ≡ None
    → first_bad (module_fields at earlier (drop at input)) ≡ None
module_goes input at earlier size count good s c more =
    first_none (header_fields at earlier (drop at input)) (places_fields (at + 20) (big_number 4 (drop 12 (drop at input))) 0 (place_count_at (drop at input)) (drop 20 (drop at input))) good
    ∙ (sym (ap first_bad (module_rest input at earlier size count s c)) ∙ more)

pub module_stops : (input : List ℕ) (at : ℕ) (earlier : List MarkedView) (size count : ℕ) (fault : MarksFault) → first_bad (header_fields at earlier (drop at input)) ≡ None
    → size ≡ big_number 4 (drop 12 (drop at input)) → count ≡ place_count_at (drop at input)
    → IsFault (places_fields (at + 20) size 0 count (drop (at + 20) input)) fault
    → IsFault (module_fields at earlier (drop at input)) fault
module_stops input at earlier size count NoMemory good s c bad = tt
module_stops input at earlier size count (BadMarks offset) good s c bad =
    first_none (header_fields at earlier (drop at input)) (places_fields (at + 20) (big_number 4 (drop 12 (drop at input))) 0 (place_count_at (drop at input)) (drop 20 (drop at input))) good
    ∙ (sym (ap first_bad (module_rest input at earlier size count s c)) ∙ bad)

pub module_value : (input : List ℕ) (at : ℕ) (name : List ℕ) (base size count : ℕ) (places : List MarkedPlace) → name ≡ take 8 (drop at input) → base ≡ big_number 4 (drop 8 (drop at input))
    → size ≡ big_number 4 (drop 12 (drop at input)) → count ≡ place_count_at (drop at input) → places ≡ places_at count (drop (at + 20) input)
    → ◌≡◌ {A = MarkedView} (record { name = name; base = base; size = size; places = places }) (module_at (drop at input))
unfolding module_at
module_value input at name base size count places n b s c p =
    let rest : places ≡ places_at (place_count_at (drop at input)) (drop 20 (drop at input)) = p ∙ (ap (λ k. places_at k (drop (at + 20) input)) c ∙ ap (λ t. places_at (place_count_at (drop at input)) t) (sym (drop-drop 20 at input))) in
    rw (n, b, s, rest) refl
