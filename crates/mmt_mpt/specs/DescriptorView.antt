-- What contracts see of a descriptor.
use Rattle.mmt_mpt.specs.declared.descriptor.Descriptor.{Descriptor}
use Rattle.mmt_mpt.specs.Descriptor.{DescriptorValue, PlacedDescriptor}

-- a descriptor with its place, without where it lies in memory
abbrev pub view_descriptor : Descriptor → PlacedDescriptor
view_descriptor d = record { tag = d.tag; from = d.from; bytes = d.bytes.now }

-- the same without its place
abbrev pub value_of : Descriptor → DescriptorValue
value_of d = record { tag = d.tag; bytes = d.bytes.now }
