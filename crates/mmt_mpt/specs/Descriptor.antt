-- Descriptors (ARIB STD-B60, MMT-SI descriptors; the width of a length by its tag is this project's rule), and their one spelling.
use Rattle.std.specs.Prelude.{ℕ, ◌+◌, ◌^◌, ◌<◌, nat_lt, if◌then◌else◌, List, [], ◌∷◌, ◌++◌, length}
use Rattle.std.specs.List.{flat_map}
use Rattle.std.specs.Int.{Width, w8, w16, w32, byte_len}
use Rattle.mmt_fields.specs.Reading.{big_endian}

-- a descriptor: its tag and its content (ARIB STD-B60)
pub record DescriptorValue : Type 0 where
  pub tag : ℕ
  pub bytes : List ℕ

-- the first for tags below 0x4000 and from 0x8000 to 0xEFFF, the second from 0x4000 to 0x6FFF and from 0xF000 on, the third from 0x7000 to 0x7FFF (this project's rule)
abbrev pub by_tag : {A : Type 0} → ℕ → A → A → A → A
by_tag tag short middle long = if nat_lt tag 16384 then short else (if nat_lt tag 28672 then middle else (if nat_lt tag 32768 then long else (if nat_lt tag 61440 then short else middle)))

-- the width of a descriptor's length: 8, 16 or 32 bits by its tag (this project's rule)
unfoldable pub length_width : ℕ → Width
length_width tag = by_tag tag w8 w16 w32

-- the number that a descriptor's length is below
unfoldable pub length_limit : ℕ → ℕ
length_limit tag = by_tag tag (2 ^ 8) (2 ^ 16) (2 ^ 32)

-- a descriptor's bytes: tag, length and content (ARIB STD-B60)
unfoldable pub descriptor_bytes : DescriptorValue → List ℕ
descriptor_bytes d = big_endian w16 d.tag ++ (big_endian (length_width d.tag) (length d.bytes) ++ d.bytes)

-- a list of descriptors after its length in bytes (ARIB STD-B60)
unfoldable pub descriptors_bytes : List DescriptorValue → List ℕ
descriptors_bytes ds = big_endian w16 (length (flat_map descriptor_bytes ds)) ++ flat_map descriptor_bytes ds

-- the descriptors that have a spelling: each field fits its bits
pub record DescriptorFits (d : DescriptorValue) : Type 0 where
  pub tag : d.tag < 2 ^ 16
  pub len : length d.bytes < length_limit d.tag

-- a descriptor with the place of its content in the table
pub record PlacedDescriptor : Type 0 where
  pub tag : ℕ
  pub from : ℕ
  pub bytes : List ℕ

-- the descriptors that follow one another from a place on, each with the place of its content
abbrev pub with_places : ℕ → List DescriptorValue → List PlacedDescriptor
with_places at [] = []
with_places at (d ∷ ds) = record { tag = d.tag; from = at + 2 + byte_len (length_width d.tag); bytes = d.bytes } ∷ with_places (at + length (descriptor_bytes d)) ds
