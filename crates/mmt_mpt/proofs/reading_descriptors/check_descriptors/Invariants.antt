use Rattle.std.proofs.Common.{◌≡◌, ◌+◌, length}
use Rattle.mmt_fields.specs.Items.{all_items}
use Rattle.mmt_mpt.specs.DescriptorReading.{descriptor_at}
use Rattle.mmt_mpt.proofs.reading_descriptors.check_descriptors.Given as goal

abbrev pub invariant-loop-rest : goal.invariant-loop-rest
invariant-loop-rest l = record {
  stop : (all_items descriptor_at l.at l.rest).stop ≡ (all_items descriptor_at l.from l.bytes).stop;
  places : l.at + length l.rest ≡ l.from + length l.bytes;
}

abbrev pub decreases-loop-rest : goal.decreases-loop-rest
decreases-loop-rest l = length l.rest
