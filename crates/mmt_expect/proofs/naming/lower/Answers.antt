use Rattle.std.proofs.Common.{◌<◌, ℕ, arith, length}
use Rattle.std.proofs.lemmas.List.Elements.{recursion_from_All}
use Rattle.mmt_cast.proofs.Listing.{each-at}
use Rattle.mmt_expect.proofs.Walking.{lowered-next, lowered-none}
use Rattle.mmt_expect.proofs.naming.lower.Goals as goal

pub loop-i-init : goal.loop-i-init
loop-i-init c = lowered-none c.args.numbers.now c.args.greatest

pub loop-i-preserved : goal.loop-i-preserved
loop-i-preserved c =
    lowered-next c.args.numbers.now c.loop-i.numbers c.args.places.now c.loop-i.i c.args.greatest c.min.result 0 (omega arith)
    (each-at (λ (m : ℕ). m < length c.args.numbers.now) c.args.places.now c.loop-i.i 0 (recursion_from_All (λ (m : ℕ). m < length c.args.numbers.now) c.args.places.now c.requires) (omega arith))
    c.loop-i.invariant (c.min.ensures)
