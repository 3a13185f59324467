use Rattle.std.proofs.Common.{◌≡◌, ◌-◌, ◌≤◌, ℕ, length}
use Rattle.module_area.specs.Meaning.{word_at}
use Rattle.interleave_core.specs.Meaning.{run_on}
use Rattle.schedule_play.specs.Play.{Stays}
use Rattle.schedule_play.proofs.PlantLemmas.{plants_from}
use Rattle.schedule_play.proofs.playing.plant_all.Given as goal

abbrev pub invariant-loop-p : goal.invariant-loop-p
invariant-loop-p l = record {
  stays : Stays l.initial.core l.core;
  fresh : (q : ℕ) → l.p ≤ q → (word_at l.core.parts.cells q).tag ≡ 0;
  planted : run_on l.initial.core.world l.initial.core.parts (plants_from l.initial.core.world 0 (length l.windows)) ≡ run_on l.core.world l.core.parts (plants_from l.core.world l.p (length l.windows - l.p));
}
