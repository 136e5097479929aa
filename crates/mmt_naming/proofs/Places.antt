-- The refusals of an MPT lie in it.
use Rattle.std.proofs.Common.{◌≡◌, ℕ, ◌+◌, ◌<◌, Bool, true, false, ◌==◌, cond, List, [], ◌∷◌, ◌++◌, map, length, Option, Some, None, arith}
use Rattle.std.specs.Prelude.{Result, Ok, Err}
use Rattle.std.specs.List.{flat_map, filter, AllByRecursion}
use Rattle.std.proofs.lemmas.List.{length-append}
use Rattle.mmt_base.specs.declared.refused.Refused.{Refused}
use Rattle.mmt_mpt.specs.Descriptor.{DescriptorValue, PlacedDescriptor, with_places, descriptor_bytes}
use Rattle.mmt_mpt.specs.Asset.{AssetValue, PlacedAsset, placed_assets, descriptors_place, asset_bytes}
use Rattle.mmt_mpt.specs.Table.{MptValue, MptFits, assets_place}
use Rattle.mmt_mpt.proofs.Sizes.{descriptor_long, asset_long, inner_long}
use Rattle.mmt_times.specs.declared.times_why.TimesWhy.{TimesWhy}
use Rattle.mmt_times.specs.declared.times_why.TimesWhy.TheVariants as why
use Rattle.mmt_times.specs.Stamps.{PairValue, stamps_tag, stamps_of}
use Rattle.mmt_times.specs.Extended.{ExtendedMpu, ExtendedValue, extended_tag}
use Rattle.mmt_times.specs.ExtendedReading.{extended_of}
use Rattle.mmt_times.specs.NamesOf.{IsEntry, IsRefused, here_id, refused_at, refusal_of, pairs_of, ExtendedEntry, timescale_or, entries_or_none, extended_entries, times_by, Tried, tried_first, tried, for_mpu, names_of_pair, names_at, names_by_ids, names_of_asset, names_of}
use Rattle.mmt_times.specs.Times.{pts_or}
use Rattle.mmt_naming.specs.Places.{IsInTable}

-- ---- each item of lists that were put together

all_both : {A : Type 0} (P : A → Type 0) (xs ys : List A) → AllByRecursion P xs → AllByRecursion P ys → AllByRecursion P (xs ++ ys)
all_both P [] ys a b = b
all_both P (x ∷ xs) ys a b = (a.0, all_both P xs ys a.1 b)

all_flat : {A B : Type 0} (Q : A → Type 0) (P : B → Type 0) (f : A → List B) → ((x : A) → Q x → AllByRecursion P (f x)) → (xs : List A) → AllByRecursion Q xs → AllByRecursion P (flat_map f xs)
all_flat Q P f each [] a = tt
all_flat Q P f each (x ∷ xs) a = all_both P (f x) (flat_map f xs) (each x a.0) (all_flat Q P f each xs a.1)

all_flat_any : {A B : Type 0} (P : B → Type 0) (f : A → List B) → ((x : A) → AllByRecursion P (f x)) → (xs : List A) → AllByRecursion P (flat_map f xs)
all_flat_any P f each [] = tt
all_flat_any P f each (x ∷ xs) = all_both P (f x) (flat_map f xs) (each x) (all_flat_any P f each xs)

all_filtered : {A : Type 0} (P : A → Type 0) (test : A → Bool) (xs : List A) → AllByRecursion P xs → AllByRecursion P (filter test xs)
all_filtered P test [] a = tt
all_filtered P test (x ∷ xs) a = go (test x) (all_filtered P test xs a.1)
  where
    go : (b : Bool) → AllByRecursion P (filter test xs) → AllByRecursion P (cond b (x ∷ filter test xs) (filter test xs))
    go true rest = (a.0, rest)
    go false rest = rest

-- ---- one descriptor

abbrev IsFromIn : PlacedDescriptor → Type 0
IsFromIn d = d.from < 65540

abbrev IsAtIn : ExtendedEntry → Type 0
IsAtIn e = e.at < 65540

refused_in : {A : Type 0} (from : ℕ) (r : Result A (Refused TimesWhy)) → from < 65540 → AllByRecursion IsInTable (refused_at from r)
refused_in from (Ok x) lies = tt
refused_in from (Err e) lies = (lies, tt)

refusal_in : (d : PlacedDescriptor) → IsFromIn d → AllByRecursion IsInTable (refusal_of d)
refusal_in d lies = go (d.tag == stamps_tag) (d.tag == extended_tag)
  where
    go : (a b : Bool) → AllByRecursion IsInTable (cond a (refused_at d.from (stamps_of d.bytes)) (cond b (refused_at d.from (extended_of d.bytes)) []))
    go true b = refused_in d.from (stamps_of d.bytes) lies
    go false true = refused_in d.from (extended_of d.bytes) lies
    go false false = tt

mpus_in : (from timescale default : ℕ) (ms : List ExtendedMpu) → from < 65540 → AllByRecursion IsAtIn (map (λ m. record { at = from; timescale = timescale; default = default; mpu = m }) ms)
mpus_in from timescale default [] lies = tt
mpus_in from timescale default (m ∷ ms) lies = (lies, mpus_in from timescale default ms lies)

entries_in : (configured from : ℕ) (r : Result ExtendedValue (Refused TimesWhy)) → from < 65540 → AllByRecursion IsAtIn (entries_or_none configured from r)
entries_in configured from (Ok v) lies = mpus_in from (timescale_or configured v.timescale) (pts_or 0 v.default) v.mpus lies
entries_in configured from (Err e) lies = tt

extended_in : (configured : ℕ) (d : PlacedDescriptor) → IsFromIn d → AllByRecursion IsAtIn (extended_entries configured d)
extended_in configured d lies = go (d.tag == extended_tag)
  where
    go : (b : Bool) → AllByRecursion IsAtIn (cond b (entries_or_none configured d.from (extended_of d.bytes)) [])
    go true = entries_in configured d.from (extended_of d.bytes) lies
    go false = tt

-- ---- one pair

first_in : (at : ℕ) (times : Option (List ℕ)) (later : Tried) → at < 65540 → AllByRecursion (λ n. n < 65540) later.refused → AllByRecursion (λ n. n < 65540) (tried_first at times later).refused
first_in at (Some times) later lies rest = tt
first_in at None later lies rest = (lies, rest)

tried_in : (time : ℕ) (es : List ExtendedEntry) → AllByRecursion IsAtIn es → AllByRecursion (λ n. n < 65540) (tried time es).refused
unfolding tried
tried_in time [] a = tt
tried_in time (e ∷ es) a = first_in e.at (times_by time e) (tried time es) a.0 (tried_in time es a.1)

ranges_in : (ats : List ℕ) → AllByRecursion (λ n. n < 65540) ats → AllByRecursion IsInTable (map (λ at. IsRefused at why.Range) ats)
ranges_in [] a = tt
ranges_in (n ∷ ns) a = (a.0, ranges_in ns a.1)

pair_in : (es : List ExtendedEntry) (id : ℕ) (p : PairValue) → AllByRecursion IsAtIn es → AllByRecursion IsInTable (names_of_pair es id p)
pair_in es id p a =
    let t = tried p.time (for_mpu p.mpu es) in
    all_both IsInTable (map (λ at. IsRefused at why.Range) t.refused) (IsEntry (record { packet_id = id; mpu = p.mpu; time = p.time; aus = t.times }) ∷ [])
    (ranges_in t.refused (tried_in p.time (for_mpu p.mpu es) (all_filtered IsAtIn (λ e. e.mpu.mpu == p.mpu) es a))) (tt, tt)

-- ---- one asset

at_in : (configured : ℕ) (ds : List PlacedDescriptor) → AllByRecursion IsFromIn ds → (id : ℕ) → AllByRecursion IsInTable (names_at configured ds id)
at_in configured ds a id =
    let es = flat_map (extended_entries configured) ds in
    all_flat_any IsInTable (names_of_pair es id) (λ p. pair_in es id p (all_flat IsFromIn IsAtIn (extended_entries configured) (extended_in configured) ds a)) (flat_map pairs_of ds)

ids_in : (configured : ℕ) (ds : List PlacedDescriptor) (ids : List ℕ) → AllByRecursion IsFromIn ds → AllByRecursion IsInTable (names_by_ids configured ds ids)
ids_in configured ds [] a = tt
ids_in configured ds (id ∷ ids) a =
    all_both IsInTable (flat_map refusal_of ds) (flat_map (names_at configured ds) (id ∷ ids))
    (all_flat IsFromIn IsInTable refusal_of refusal_in ds a) (all_flat_any IsInTable (names_at configured ds) (at_in configured ds a) (id ∷ ids))

placed_in : (at : ℕ) (ds : List DescriptorValue) → at + length (flat_map descriptor_bytes ds) < 65540 → AllByRecursion IsFromIn (with_places at ds)
placed_in at [] fits = tt
placed_in at (d ∷ ds) fits =
    let both : length (flat_map descriptor_bytes (d ∷ ds)) ≡ length (descriptor_bytes d) + length (flat_map descriptor_bytes ds) = length-append (descriptor_bytes d) (flat_map descriptor_bytes ds) in
    let own = descriptor_long d in
    (omega (arith, both, own), placed_in (at + length (descriptor_bytes d)) ds (omega (arith, both)))

abbrev IsAssetIn : PlacedAsset → Type 0
IsAssetIn a = a.at + length (asset_bytes a.asset) < 65540

asset_in : (configured : ℕ) (a : PlacedAsset) → IsAssetIn a → AllByRecursion IsInTable (names_of_asset configured a)
asset_in configured a lies =
    let long = asset_long a.asset in
    ids_in configured (with_places (descriptors_place a.at a.asset.id a.asset.locations) a.asset.descriptors) (flat_map here_id a.asset.locations)
    (placed_in (descriptors_place a.at a.asset.id a.asset.locations) a.asset.descriptors (omega (arith, long)))

-- ---- the table

assets_in : (at : ℕ) (xs : List AssetValue) → at + length (flat_map asset_bytes xs) < 65540 → AllByRecursion IsAssetIn (placed_assets at xs)
assets_in at [] fits = tt
assets_in at (a ∷ xs) fits =
    let both : length (flat_map asset_bytes (a ∷ xs)) ≡ length (asset_bytes a) + length (flat_map asset_bytes xs) = length-append (asset_bytes a) (flat_map asset_bytes xs) in
    (omega (arith, both), assets_in (at + length (asset_bytes a)) xs (omega (arith, both)))

-- the refusals of an MPT that has a spelling lie in it
pub names_in_table : (configured : ℕ) (m : MptValue) → MptFits m → AllByRecursion IsInTable (names_of configured m)
unfolding names_of
names_in_table configured m fits =
    let long = inner_long m in
    all_flat IsAssetIn IsInTable (names_of_asset configured) (asset_in configured) (placed_assets (assets_place m.package_id m.descriptors) m.assets)
    (assets_in (assets_place m.package_id m.descriptors) m.assets (omega (arith, long, fits.len)))
