-- Visits that are counted one after another, and the room for them.
use Rattle.std.specs.Prelude.{◌≡◌, ℕ, ◌+◌, List, [], ◌∷◌, ◌++◌, get_or}
use Rattle.std.proofs.Common.{refl, ◌∙◌, arith}
use Rattle.cov_base.specs.Meaning.{ImageView, Visit}
use Rattle.module_area.specs.declared.places.Place.{Place}
use Rattle.session_book.specs.Meaning.{no_module}
use Rattle.task_ends.specs.Held.{HasRoom}
use Rattle.task_ends.specs.Meaning.{unlisted_visits}
use Rattle.task_ends.specs.Unlisted.{Adds}

unlisted_visits-append : (places : List Place) (image : ImageView) (vs ws : List Visit)
    → unlisted_visits places image (vs ++ ws) ≡ unlisted_visits places image vs + unlisted_visits places image ws
unlisted_visits-append places image [] ws = omega arith
unlisted_visits-append places image (v ∷ vs) ws =
    let rest = unlisted_visits-append places image vs ws in
    omega (arith, rest)

pub adds_none : (places : List Place) (images : List ImageView) (counts : List ℕ) → Adds places images [] counts counts
adds_none places images counts = record { size = refl; each = λ m lt. omega arith }

pub adds_more : (places : List Place) (images : List ImageView) (vs ws : List Visit) (old mid new : List ℕ)
    → Adds places images vs old mid → Adds places images ws mid new → Adds places images (vs ++ ws) old new
adds_more places images vs ws old mid new a b = record {
  size = b.size ∙ a.size;
  each = λ m lt. let image =
      get_or images m no_module in omega (arith, a.each m lt, b.each m lt, unlisted_visits-append places image vs ws);
}

pub room_later : (modules tasks : ℕ) (counts : List ℕ) (done shown : ℕ) → HasRoom modules tasks counts done shown
    → HasRoom modules tasks counts done (shown + 1)
room_later modules tasks counts done shown r =
    record { size = r.size; tasks_most = r.tasks_most; most = λ m lt. omega (arith, r.most m lt) }

pub room_next : (modules tasks : ℕ) (counts : List ℕ) (done : ℕ) → HasRoom modules tasks counts done 2
    → HasRoom modules tasks counts (done + 1) 0
room_next modules tasks counts done r =
    record { size = r.size; tasks_most = r.tasks_most; most = λ m lt. omega (arith, r.most m lt) }
