-- Reading descriptors from left to right, up to the first refusal.
use Rattle.std.specs.Prelude.{ℕ, ◌+◌, List, Result, Ok}
use Rattle.std.specs.Int.{w16, byte_len}
use Rattle.mmt_base.specs.declared.refused.Refused.{Refused}
use Rattle.mmt_fields.specs.Reading.{◌>>=◌, number_at, bytes_at}
use Rattle.mmt_fields.specs.Items.{all_items, items_of}
use Rattle.mmt_mpt.specs.declared.part_why.PartWhy.{PartWhy}
use Rattle.mmt_mpt.specs.declared.part_why.PartWhy.TheVariants as why
use Rattle.mmt_mpt.specs.Descriptor.{DescriptorValue, PlacedDescriptor, length_width, with_places}

-- a descriptor, field by field (ARIB STD-B60)
unfoldable pub descriptor_at : ℕ → List ℕ → Result (DescriptorValue × List ℕ) (Refused PartWhy)
descriptor_at at bytes = do
  tag ← number_at w16 bytes at why.Short
  len ← number_at (length_width tag.0) tag.1 (at + 2) why.Short
  content ← bytes_at len.0 len.1 (at + 2 + byte_len (length_width tag.0)) why.Short
  Ok (record { tag = tag.0; bytes = content.0 }, content.1)

-- a list of descriptors after its length in bytes, which they take to its end (ARIB STD-B60)
unfoldable pub descriptors_at : ℕ → List ℕ → Result (List DescriptorValue × List ℕ) (Refused PartWhy)
descriptors_at at bytes = do
  len ← number_at w16 bytes at why.Short
  inner ← bytes_at len.0 len.1 (at + 2) why.Short
  descriptors ← items_of descriptor_at (at + 2) inner.0
  Ok (descriptors, inner.1)

-- the descriptors that bytes at a place have left, up to the first that does not fit
abbrev pub descriptors_from : ℕ → List ℕ → List PlacedDescriptor
descriptors_from at bytes = with_places at (all_items descriptor_at at bytes).items
