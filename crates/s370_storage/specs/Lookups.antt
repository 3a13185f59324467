-- How function bytes are tested as they are looked up.
use Rattle.std.specs.Prelude.{◌≡◌, ℕ, ◌<◌, true, false, Option, Result, IfOk, IfErr, IfSome, List}
use Rattle.cov_base.specs.Meaning.{Memory}
use Rattle.s370_state.specs.Meaning.{all_reached, touched, touch_ending}
use Rattle.s370_state.specs.declared.endings.Ending.{Ending}
use Rattle.s370_state.specs.declared.endings.Ending.TheVariants.{Abend}
use Rattle.s370_storage.specs.Meaning.{functions, selected, looked_up}
use Rattle.s370_storage.specs.declared.translate.Found.{Found}

-- the function bytes of the first n arguments are accessible
abbrev pub AreReached : Memory → List ℕ → ℕ → ℕ → ℕ → Type 0
AreReached m bytes a t n = all_reached m (functions m bytes a t n) ≡ true

-- the function bytes of n arguments: code 5 where one isn't accessible, and else how they end the task by touch
pub record LooksUp (m : Memory) (bytes : List ℕ) (a t n : ℕ) (answer : Result (Option Ending) Ending) : Type 0 where
  pub refused : IfErr answer (λ _. all_reached m (functions m bytes a t n) ≡ false)
  pub code : IfErr answer (λ e. e ≡ Abend 5)
  pub reached : IfOk answer (λ _. AreReached m bytes a t n)
  pub touched : IfOk answer (λ met. met ≡ touch_ending (touched m (functions m bytes a t n)))

-- the same of those that a search of n arguments looks up, with the argument that it selects
pub record Searches (m : Memory) (bytes : List ℕ) (a t n : ℕ) (answer : Result Found Ending) : Type 0 where
  pub refused : IfErr answer (λ _. all_reached m (functions m bytes a t (looked_up n (selected m bytes a t n))) ≡ false)
  pub code : IfErr answer (λ e. e ≡ Abend 5)
  pub selected : IfOk answer (λ f. f.selected ≡ selected m bytes a t n)
  pub below : IfOk answer (λ f. IfSome f.selected (λ i. i < n))
  pub reached : IfOk answer (λ f. AreReached m bytes a t (looked_up n f.selected))
  pub touched : IfOk answer (λ f. f.met ≡ touch_ending (touched m (functions m bytes a t (looked_up n f.selected))))
