-- What a runner changes of its pass's notes between instructions.
use Rattle.std.specs.Prelude.{◌≡◌}
use Rattle.module_area.specs.Notes.{Notes}

-- The pass has made boundaries, and has looked at tasks and sets, and has done nothing else.
pub record IsAside (old new : Notes) : Type 0 where
  pub same : new ≡ record old {
    pending = new.pending;
    numbers = new.numbers;
    noted = new.noted;
    settled = new.settled;
    found = new.found;
  }
