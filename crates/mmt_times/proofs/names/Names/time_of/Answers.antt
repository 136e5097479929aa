use Rattle.std.proofs.Common.{refl}
use Rattle.mmt_times.proofs.names.Names.time_of.Goals as goal

pub returns-in_err-slot : goal.returns-in_err-slot
returns-in_err-slot c = rw (c.from_residual.ensures, ← c.self.view_is, ← c.deref.ensures.value, ← c.find.ensures, c.in_err-slot.was) refl

pub returns : goal.returns
returns c = rw (← c.self.view_is, ← c.deref.ensures.value, ← c.in_ok-slot.ensures, c.time_of.ensures) refl
