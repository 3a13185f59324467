-- Storage over lists: private bytes of a size, one module, and touch bytes.
use Rattle.std.specs.Prelude.{ℕ, ◌+◌, ◌-◌, ◌==◌, ◌&&◌, nat_lt, nat_le, List, length, slice_index}
use Rattle.std.specs.List.{list_any}
use Rattle.cov_base.specs.Meaning.{Memory}

unfoldable pub memory_of : ℕ → ℕ → List ℕ → List ℕ → Memory
memory_of size base image touches = record {
  private = size;
  is_image = λ a. nat_le base a && nat_lt a (base + length image);
  image = λ a. slice_index image (a - base);
  is_touch = λ a. list_any (λ t. t == a) touches;
}
