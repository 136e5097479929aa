-- How long spelled items are, and going over items as they are spelled.
use Rattle.std.proofs.Common.{◌≡◌, ℕ, suc, ◌+◌, ◌*◌, ◌<◌, ◌≤◌, List, [], ◌∷◌, ◌++◌, length, map, drop, get_or, sym, ap, subst, ◌∙◌, add-one, arith, drop-cons}
use Rattle.std.specs.List.{flat_map, All}
use Rattle.std.specs.Int.{byte_len}
use Rattle.std.proofs.lemmas.List.{length-append, length-map, get_or-map}
use Rattle.std.proofs.lemmas.List.Elements.{All-head, All-tail}
use Rattle.mmt_fields.proofs.Numbers.{length_big_endian}
use Rattle.mmt_mpt.specs.Location.{LocationValue, IsHere, InIp4, InIp6, InStream, InIp6Stream, AtUrl, LocationFits, flow_bytes, stream_bytes, flow_stream_bytes, url_bytes, location_bytes}
use Rattle.mmt_mpt.specs.LocationWriting.{location_size}
use Rattle.mmt_mpt.specs.Descriptor.{DescriptorValue, length_width, descriptor_bytes, descriptors_bytes}
use Rattle.mmt_mpt.specs.Asset.{AssetValue, AssetFits, head_bytes, asset_bytes}
use Rattle.mmt_mpt.specs.Table.{MptValue, mpt_inner}
use Rattle.mmt_mpt.proofs.DescriptorSteps.{length-descriptor}

-- ---- from item to item

pub left_step : {A B : Type 0} (f : B → List ℕ) (v : A → B) (xs : List A) (i : ℕ) (x : A) → i < length xs → x ≡ get_or xs i x
    → flat_map f (map v (drop i xs)) ≡ f (v x) ++ flat_map f (map v (drop (i + 1) xs))
left_step {A} f v xs i x lt is = rw add-one (
    ap (λ (ys : List A). flat_map f (map v ys)) (drop-cons xs i x lt)
    ∙ ap (λ (y : A). f (v y) ++ flat_map f (map v (drop (suc i) xs))) (sym is))

pub left_long : {A B : Type 0} (f : B → List ℕ) (v : A → B) (xs : List A) (i : ℕ) (x : A) → i < length xs → x ≡ get_or xs i x
    → length (flat_map f (map v (drop i xs))) ≡ length (f (v x)) + length (flat_map f (map v (drop (i + 1) xs)))
left_long f v xs i x lt is = ap length (left_step f v xs i x lt is) ∙ length-append (f (v x)) (flat_map f (map v (drop (i + 1) xs)))

pub one_fits : {A B : Type 0} (P : B → Type 0) (v : A → B) (xs : List A) (i : ℕ) (x : A) → i < length xs → x ≡ get_or xs i x → All P (map v xs) → P (v x)
one_fits {A} {B} P v xs i x lt is all =
    let in' : i < length (map v xs) = rw length-map lt in
    let same : get_or (map v xs) i (v x) ≡ v x = get_or-map v xs i x (v x) lt ∙ ap v (sym is) in
    subst P same (all i (v x) in')

pub at_most : {B : Type 0} (f : B → List ℕ) (P : B → Type 0) (n : ℕ) → ((b : B) → P b → length (f b) ≤ n) → (bs : List B) → All P bs → length (flat_map f bs) ≤ n * length bs
at_most f P n each [] all = omega arith
at_most f P n each (b ∷ bs) all =
    let here = each b (All-head P b bs all) in
    let rest = at_most f P n each bs (All-tail P b bs all) in
    let sum = length-append (f b) (flat_map f bs) in
    grind (arith, here, rest, sum)

-- ---- descriptors

pub descriptor_long : (d : DescriptorValue) → length (descriptor_bytes d) ≡ 2 + byte_len (length_width d.tag) + length d.bytes
descriptor_long d = length-descriptor d

-- ---- locations

pub location_long : (v : LocationValue) → length (location_bytes v) ≡ location_size v
unfolding location_bytes flow_bytes stream_bytes flow_stream_bytes url_bytes
location_long (IsHere id) = simp (length-append, length_big_endian) (omega arith)
location_long (InIp4 f) = simp (length-append, length_big_endian) (omega arith)
location_long (InIp6 f) = simp (length-append, length_big_endian) (omega arith)
location_long (InStream s) = simp (length-append, length_big_endian) (omega arith)
location_long (InIp6Stream s) = simp (length-append, length_big_endian) (omega arith)
location_long (AtUrl text) = simp (length-append, length_big_endian) (omega arith)

location_most : (v : LocationValue) → LocationFits v → length (location_bytes v) ≤ 257
location_most (IsHere id) f = omega (arith, location_long (IsHere id))
location_most (InIp4 x) f = omega (arith, location_long (InIp4 x))
location_most (InIp6 x) f = omega (arith, location_long (InIp6 x))
location_most (InStream x) f = omega (arith, location_long (InStream x))
location_most (InIp6Stream x) f = omega (arith, location_long (InIp6Stream x))
location_most (AtUrl text) f = omega (arith, location_long (AtUrl text))

pub locations_most : (vs : List LocationValue) → All LocationFits vs → length (flat_map location_bytes vs) ≤ 257 * length vs
locations_most vs all = at_most location_bytes LocationFits 257 location_most vs all

-- ---- assets

pub asset_long : (a : AssetValue) → length (asset_bytes a) ≡ 14 + length a.id + length (flat_map location_bytes a.locations) + length (flat_map descriptor_bytes a.descriptors)
unfolding asset_bytes head_bytes descriptors_bytes
asset_long a = simp (length-append, length_big_endian) (omega arith)

asset_most : (a : AssetValue) → AssetFits a → length (asset_bytes a) ≤ 131339
asset_most a f =
    let long = asset_long a in
    let locations = locations_most a.locations f.locations in
    omega (arith, long, locations, f.head.id, f.head.count, f.descriptors.len)

pub assets_most : (vs : List AssetValue) → All AssetFits vs → length (flat_map asset_bytes vs) ≤ 131339 * length vs
assets_most vs all = at_most asset_bytes AssetFits 131339 asset_most vs all

-- ---- a table

pub inner_long : (v : MptValue) → length (mpt_inner v) ≡ 5 + length v.package_id + length (flat_map descriptor_bytes v.descriptors) + length (flat_map asset_bytes v.assets)
unfolding mpt_inner descriptors_bytes
inner_long v = simp (length-append, length_big_endian) (omega arith)
