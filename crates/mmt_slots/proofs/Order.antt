-- The order of waiting jobs.
use Rattle.std.proofs.Common.{◌≡◌, refl}
use Rattle.mmt_slots.specs.declared.line.Waiting.{Waiting}
use Rattle.mmt_slots.specs.Lines.{order_of}
use Rattle.mmt_slots.specs.contracts.line.WaitingOrd.TheImpl.{cmp-value}

pub same_order : (x y : Waiting) → cmp-value.it x y ≡ order_of x y
same_order x y = refl
