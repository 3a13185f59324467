-- Turns one after the other.
use Rattle.std.proofs.Common.{◌≡◌, ℕ, ◌+◌, Option, List, [], ◌∷◌, ◌++◌, length, refl, sym, subst, arith}
use Rattle.cov_base.specs.Meaning.{Visit}
use Rattle.brk_table.specs.Meaning.{TablesView}
use Rattle.module_area.specs.Meaning.{ControlView}
use Rattle.task_run.specs.Meaning.{Turn, visits_of}
use Rattle.task_run.specs.Runs.{Goes, Stand, Takes}

-- one more
pub goes_more : {S : Type 0} (takes : ℕ → Turn → S → S → Type 0) (done i : ℕ) (turns : List Turn) (turn : Turn) (x y z : S) → i ≡ done + length turns →
    Goes takes done turns x y → takes (i + 1) turn y z → Goes takes done (turns ++ turn ∷ []) x z
goes_more takes done i [] turn x y z count same took =
    let here : i ≡ done = omega (arith, count) in
    (z, (subst (λ w. takes (done + 1) turn w z) (sym same) (subst (λ n. takes (n + 1) turn y z) here took), refl))
goes_more takes done i (t ∷ ts) turn x y z count goes took =
    (goes.0, (goes.1.0, goes_more takes (done + 1) i ts turn goes.0 y z (omega (arith, count)) goes.1.1 took))

-- under a weaker relation
pub goes_so : {S : Type 0} (takes holds : ℕ → Turn → S → S → Type 0) (done : ℕ) (turns : List Turn) (x y : S) → ((i : ℕ) (turn : Turn) (v w : S) → takes i turn v w → holds i turn v w) →
    Goes takes done turns x y → Goes holds done turns x y
goes_so takes holds done [] x y so same = same
goes_so takes holds done (t ∷ ts) x y so goes = (goes.0, (so (done + 1) t x goes.0 goes.1.0, goes_so takes holds (done + 1) ts goes.0 y so goes.1.1))

-- Where no call and no hook changes what the pass has noted, it has made all visits.
pub goes_made : {H O P : Type 0} (makes : O → TablesView → P → List Visit → P → Type 0) (answers : O → P → ControlView → Option ℕ → P → ControlView → Type 0) (aside : H → O → P → ControlView → ℕ → P → H → Type 0)
    (o : O) (t : TablesView) (done : ℕ) (turns : List Turn) (x y : Stand H P) →
    ((p : P) → makes o t p [] p) → ((p q r : P) (vs ws : List Visit) → makes o t p vs q → makes o t q ws r → makes o t p (vs ++ ws) r) →
    ((p q : P) (c d : ControlView) (call : Option ℕ) → answers o p c call q d → makes o t p [] q) → ((h g : H) (p q : P) (c : ControlView) (i : ℕ) → aside h o p c i q g → makes o t p [] q) →
    Goes (Takes makes answers aside o t) done turns x y → makes o t x.pass (visits_of turns) y.pass
goes_made makes answers aside o t done [] x y none both quiet still same = subst (λ z. makes o t x.pass [] z.pass) same (none x.pass)
goes_made makes answers aside o t done (turn ∷ turns) x y none both quiet still goes =
    let z = goes.0 in
    let took = goes.1.0 in
    let rest = goes_made makes answers aside o t (done + 1) turns z y none both quiet still goes.1.1 in
    let behind = both took.called z.pass y.pass [] (visits_of turns) (still x.hook z.hook took.called z.pass z.control (done + 1) took.hooked) rest in
    let called = both took.visited took.called y.pass [] (visits_of turns) (quiet took.visited took.called x.control z.control turn.call took.answered) behind in
    both x.pass took.visited y.pass turn.visits (visits_of turns) took.made called
