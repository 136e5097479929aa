-- What contracts see of the iterator over descriptors.
use Rattle.std.specs.Prelude.{List}
use Rattle.mmt_mpt.specs.declared.descriptors.Descriptors.{Descriptors}
use Rattle.mmt_mpt.specs.Descriptor.{PlacedDescriptor}
use Rattle.mmt_mpt.specs.DescriptorReading.{descriptors_from}

-- the descriptors that an iterator has yet to give
abbrev pub descriptors_left : Descriptors → List PlacedDescriptor
descriptors_left s = descriptors_from s.at s.rest.now
