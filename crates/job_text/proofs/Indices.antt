-- The numbers of a session's modules, one after the other.
use Rattle.std.proofs.Common.{◌≡◌, ℕ, ◌+◌, ◌<◌, Option, Some, None, List, [], ◌∷◌, length, get_or, drop, refl, drop-cons, add-one}
use Rattle.job_text.specs.Meaning.{DraftView, indices_on, put_index, image_index}

indices_none : (j : DraftView) (by : Option (List ℕ)) (ns : List (List ℕ)) → indices_on j by None ns ≡ None
indices_none j by [] = refl
indices_none j by (n ∷ ns) = refl

indices_step : (j : DraftView) (by : Option (List ℕ)) (used : List ℕ) (ns : List (List ℕ)) (i : ℕ) (d : List ℕ) → i < length ns →
    indices_on j by (Some used) (drop i ns) ≡ indices_on j by (put_index j by used (image_index j (get_or ns i d))) (drop (i + 1) ns)
indices_step j by used ns i d h = rw (drop-cons ns i d, add-one) refl

pub indices_stop : (j : DraftView) (by : Option (List ℕ)) (used : List ℕ) (ns : List (List ℕ)) (i : ℕ) (d n : List ℕ) (end : Option (List ℕ)) → i < length ns → n ≡ get_or ns i d →
    put_index j by used (image_index j n) ≡ None → indices_on j by (Some used) (drop i ns) ≡ end → end ≡ None
indices_stop j by used ns i d n end h is e was =
    let stop : put_index j by used (image_index j (get_or ns i d)) ≡ None = rw is at e in
    let r : indices_on j by None (drop (i + 1) ns) ≡ end = rw (indices_step j by used ns i d h, stop) at was in
    rw (← r) (indices_none j by (drop (i + 1) ns))
