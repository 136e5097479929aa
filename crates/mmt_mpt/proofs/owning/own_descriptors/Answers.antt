use Rattle.std.proofs.Common.{refl, map}
use Rattle.mmt_mpt.specs.DescriptorView.{view_descriptor}
use Rattle.mmt_mpt.specs.DescriptorsLeft.{descriptors_left}
use Rattle.mmt_mpt.specs.Owned.{owned_descriptor, unplaced}
use Rattle.mmt_mpt.proofs.Moved.{moved}
use Rattle.mmt_mpt.proofs.owning.own_descriptors.Goals as goal

pub loop-descriptor-preserved : goal.loop-descriptor-preserved
loop-descriptor-preserved c = rw c.in_ok-push.ensures.pushed (
    moved owned_descriptor c.loop-descriptor.owned _ (unplaced (view_descriptor c.in-Some.descriptor)) (map unplaced (descriptors_left c.next.new.self)) (map unplaced (descriptors_left c.args.descriptors))
    (rw c.in-Some.ensures.steps at c.loop-descriptor.invariant)
    (rw c.in_ok-bytes.ensures refl))
