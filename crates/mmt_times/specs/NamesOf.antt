-- The names of an MPT: the MPUs that its timestamp descriptors name, with their times, and what is refused on the way.
use Rattle.std.specs.Prelude.{ℕ, ◌==◌, List, [], ◌∷◌, ◌++◌, map, Option, Some, None, Result, Ok, Err, if◌then◌else◌}
use Rattle.std.specs.List.{flat_map, filter}
use Rattle.mmt_base.specs.declared.refused.Refused.{Refused}
use Rattle.mmt_model.specs.Entries.{Entry}
use Rattle.mmt_mpt.specs.Location.{LocationValue, IsHere}
use Rattle.mmt_mpt.specs.Descriptor.{PlacedDescriptor, with_places}
use Rattle.mmt_mpt.specs.Asset.{PlacedAsset, placed_assets, descriptors_place}
use Rattle.mmt_mpt.specs.Table.{MptValue, assets_place}
use Rattle.mmt_times.specs.declared.times_why.TimesWhy.{TimesWhy}
use Rattle.mmt_times.specs.declared.times_why.TimesWhy.TheVariants as why
use Rattle.mmt_times.specs.Times.{unit_times, pts_or, all_in_range}
use Rattle.mmt_times.specs.Stamps.{PairValue, stamps_tag, stamps_of}
use Rattle.mmt_times.specs.Extended.{ExtendedMpu, ExtendedValue, extended_tag}
use Rattle.mmt_times.specs.ExtendedReading.{extended_of}

-- an entry, or a refusal with the place of its descriptor's content in the table (this project's rule)
pub data NamedValue : Type 0 where
  IsEntry : Entry → NamedValue
  IsRefused : (at : ℕ) → TimesWhy → NamedValue

-- the packet id of a location in the same flow, type 0 (ARIB STD-B60)
abbrev pub here_id : LocationValue → List ℕ
here_id (IsHere id) = id ∷ []
here_id _ = []

-- ---- one descriptor

-- the refusal of a content, at its place (this project's rule)
abbrev pub refused_at : {A : Type 0} → ℕ → Result A (Refused TimesWhy) → List NamedValue
refused_at from (Ok x) = []
refused_at from (Err e) = IsRefused from e.why ∷ []

-- the refusal of a timestamp descriptor of either kind (this project's rule)
abbrev pub refusal_of : PlacedDescriptor → List NamedValue
refusal_of d = if d.tag == stamps_tag then refused_at d.from (stamps_of d.bytes) else (if d.tag == extended_tag then refused_at d.from (extended_of d.bytes) else [])

-- what was read, and nothing where it was refused: a refused descriptor counts as absent (this project's rule)
abbrev pub read_or_none : {A : Type 0} → Result (List A) (Refused TimesWhy) → List A
read_or_none (Ok xs) = xs
read_or_none (Err e) = []

-- the pairs of an MPU timestamp descriptor (ARIB STD-B60)
abbrev pub pairs_of : PlacedDescriptor → List PairValue
pairs_of d = if d.tag == stamps_tag then read_or_none (stamps_of d.bytes) else []

-- an MPU's entry in an extended descriptor: the place of the descriptor's content, the timescale, the pts_offset of access units without one of their own, and the entry (this project's extended timestamp descriptor)
pub record ExtendedEntry : Type 0 where
  pub at : ℕ
  pub timescale : ℕ
  pub default : ℕ
  pub mpu : ExtendedMpu

-- the timescale of a content, or else the configured one (this project's rule)
abbrev pub timescale_or : ℕ → Option ℕ → ℕ
timescale_or configured None = configured
timescale_or configured (Some n) = n

-- the entries of a content at a place (this project's extended timestamp descriptor)
abbrev pub entries_at : ℕ → ℕ → ExtendedValue → List ExtendedEntry
entries_at configured from v = map (λ m. record { at = from; timescale = timescale_or configured v.timescale; default = pts_or 0 v.default; mpu = m }) v.mpus

-- the same, and nothing where the content was refused (this project's rule)
abbrev pub entries_or_none : ℕ → ℕ → Result ExtendedValue (Refused TimesWhy) → List ExtendedEntry
entries_or_none configured from (Ok v) = entries_at configured from v
entries_or_none configured from (Err e) = []

-- the entries of an MPU extended timestamp descriptor (this project's extended timestamp descriptor)
abbrev pub extended_entries : ℕ → PlacedDescriptor → List ExtendedEntry
extended_entries configured d = if d.tag == extended_tag then entries_or_none configured d.from (extended_of d.bytes) else []

-- ---- one pair

-- the access unit times of a presentation time by an entry, or none where one of them is out of range (this project's extended timestamp descriptor)
abbrev pub times_by : ℕ → ExtendedEntry → Option (List ℕ)
times_by time e = all_in_range (unit_times time e.mpu.offset e.timescale e.default 0 e.mpu.aus)

-- what trying entries in order gives: the places of those out of range, and the access unit times (this project's rule)
pub record Tried : Type 0 where
  pub refused : List ℕ
  pub times : List ℕ

-- an entry with all times in range ends the trying, and another is refused and counts as absent (this project's rule)
abbrev pub tried_first : ℕ → Option (List ℕ) → Tried → Tried
tried_first at (Some times) later = record { refused = []; times = times }
tried_first at None later = record { refused = at ∷ later.refused; times = later.times }

-- entries tried in order; where there is none that gives times, there are none (this project's rule)
unfoldable pub tried : ℕ → List ExtendedEntry → Tried
tried time [] = record { refused = []; times = [] }
tried time (e ∷ es) = tried_first e.at (times_by time e) (tried time es)

-- the entries for an MPU number (this project's rule)
abbrev pub for_mpu : ℕ → List ExtendedEntry → List ExtendedEntry
for_mpu mpu es = filter (λ e. e.mpu.mpu == mpu) es

-- the refusals of a pair's trying, and directly after them its entry (this project's rule)
abbrev pub names_of_tried : ℕ → PairValue → Tried → List NamedValue
names_of_tried id p t = map (λ at. IsRefused at why.Range) t.refused ++ (IsEntry (record { packet_id = id; mpu = p.mpu; time = p.time; aus = t.times }) ∷ [])

-- the names that a pair gives at a location's packet id, by the extended entries of its asset (this project's rule)
abbrev pub names_of_pair : List ExtendedEntry → ℕ → PairValue → List NamedValue
names_of_pair es id p = names_of_tried id p (tried p.time (for_mpu p.mpu es))

-- ---- one asset

-- the names at a location's packet id: of each timestamp descriptor in order each pair in order (this project's rule)
abbrev pub names_at : ℕ → List PlacedDescriptor → ℕ → List NamedValue
names_at configured ds id = flat_map (names_of_pair (flat_map (extended_entries configured) ds) id) (flat_map pairs_of ds)

-- the refusals of an asset's descriptors once, and then the names at each packet id; nothing without a location of type 0 (this project's rule)
abbrev pub names_by_ids : ℕ → List PlacedDescriptor → List ℕ → List NamedValue
names_by_ids configured ds [] = []
names_by_ids configured ds (id ∷ ids) = flat_map refusal_of ds ++ flat_map (names_at configured ds) (id ∷ ids)

-- the names of an asset (this project's rule)
abbrev pub names_of_asset : ℕ → PlacedAsset → List NamedValue
names_of_asset configured a = names_by_ids configured (with_places (descriptors_place a.at a.asset.id a.asset.locations) a.asset.descriptors) (flat_map here_id a.asset.locations)

-- ---- the table

-- the names of an MPT, its assets in order, where the configured timescale holds for extended descriptors without one (this project's rule)
unfoldable pub names_of : ℕ → MptValue → List NamedValue
names_of configured m = flat_map (names_of_asset configured) (placed_assets (assets_place m.package_id m.descriptors) m.assets)
