-- What is read as an MPT was spelled so, and what is spelled so is read.
use Rattle.std.proofs.Common.{◌≡◌, ℕ, suc, ◌+◌, ◌-◌, ◌*◌, ◌/◌, ◌%◌, ◌^◌, ◌<◌, true, eqb, List, [], ◌∷◌, ◌++◌, length, get_or, Result, Ok, Err, refl, ap, ◌∙◌, arith, eq-eqb}
use Rattle.std.specs.List.{flat_map, All}
use Rattle.std.specs.Int.{w8, w16}
use Rattle.std.proofs.lemmas.Bool.{eqb-true}
use Rattle.std.proofs.lemmas.List.{append-nil}
use Rattle.mmt_base.specs.declared.refused.Refused.{Refused}
use Rattle.mmt_fields.specs.Reading.{big_endian}
use Rattle.mmt_fields.proofs.Codec.{Stage, Field, Always, field, checked_rest, made, spelled}
use Rattle.mmt_fields.proofs.Numbers.{u8_field, u16_field, bytes_field}
use Rattle.mmt_lists.specs.Counted.{counted, counted_of}
use Rattle.mmt_lists.proofs.CountedItems.{counted_all}
use Rattle.mmt_lists.proofs.Variants.{placed_field, checked_left}
use Rattle.mmt_mpt.specs.declared.part_why.PartWhy.{PartWhy}
use Rattle.mmt_mpt.specs.declared.mpt_why.MptWhy.TheVariants as why
use Rattle.mmt_mpt.specs.Refusals.{in_table}
use Rattle.mmt_mpt.specs.Descriptor.{descriptors_bytes}
use Rattle.mmt_mpt.specs.DescriptorReading.{descriptors_at}
use Rattle.mmt_mpt.specs.Asset.{AssetFits, DescriptorsFit, asset_bytes}
use Rattle.mmt_mpt.specs.AssetReading.{asset_at}
use Rattle.mmt_mpt.specs.Table.{MptValue, PartsFit, mpt_id, mpt_inner, mpt_spelling, MptFits}
use Rattle.mmt_mpt.specs.TableReading.{assets_of, mpt_of}
use Rattle.mmt_mpt.proofs.DescriptorLaw.{descriptors_field}
use Rattle.mmt_mpt.proofs.AssetLaw.{asset_field}

table_ok : {A : Type 0} (number : ℕ) (r : Result A (Refused PartWhy)) (x : A) → in_table number r ≡ Ok x → r ≡ Ok x
table_ok number (Ok y) x e = ap Ok (cc)
table_ok number (Err d) x e = absurd cc

table_descriptors : (at : ℕ) → Field (λ bytes. in_table 0 (descriptors_at at bytes)) descriptors_bytes DescriptorsFit
table_descriptors at =
    let here = descriptors_field at in
    record {
      takes = λ bytes x rest are e. here.takes bytes x rest are (table_ok 0 (descriptors_at at bytes) (x, rest) e);
      again = λ x rest fits. rw (here.again x rest fits) refl;
    }

table_assets : (n at : ℕ) → Field (assets_of n at) (flat_map asset_bytes) (λ xs. (length xs ≡ n) × All AssetFits xs)
unfolding assets_of
table_assets n at =
    let here = counted_all asset_at asset_bytes AssetFits asset_field n at in
    record {
      takes = λ bytes x rest are e. here.takes bytes x rest are (table_ok (length (counted n asset_at at bytes).items) (counted_of n asset_at at bytes) (x, rest) e);
      again = λ x rest fits. rw (here.again x rest fits) refl;
    }

-- a table begins with the id of an MPT
abbrev pub Begins : List ℕ → Type 0
Begins bytes = get_or bytes 0 0 ≡ mpt_id

first_is : (id : ℕ) (rest : List ℕ) → id < 2 ^ 8 → get_or (big_endian w8 id ++ rest) 0 0 ≡ 32 → 32 ≡ id
unfolding big_endian
first_is id rest lt e = let is : id % 256 ≡ 32 = e in omega arith

none_left : (bytes : List ℕ) → eqb (length bytes) 0 ≡ true → bytes ≡ []
none_left [] e = refl
none_left (b ∷ bytes) e = absurd (let long : suc (length bytes) ≡ 0 = eqb-true _ _ e in omega arith)

mpt_stage : Stage MptFits Always Begins mpt_of (λ v. big_endian w8 32 ++ (big_endian w8 v.version ++ (big_endian w16 (length (mpt_inner v)) ++ (big_endian w8 (4 * v.reserved + v.mode) ++ (big_endian w8 (length v.package_id) ++ (v.package_id ++ (descriptors_bytes v.descriptors ++ (big_endian w8 (length v.assets) ++ (flat_map asset_bytes v.assets ++ [])))))))))
unfolding mpt_of mpt_inner
mpt_stage =
    field _ (λ v. 32) (u8_field 0 why.Short) (λ v c f. omega arith) (λ id id_lt.
    field _ (λ v. v.version) (u8_field 1 why.Short) (λ v c f. let p = f.parts in p.version) (λ version version_lt.
    field _ (λ v. length (mpt_inner v)) (u16_field 2 why.Short) (λ v c f. f.len) (λ len len_lt.
    checked_rest (λ rest. eqb (length rest) len) 2 why.Length _ (λ v c f. let is_len : length (mpt_inner v) ≡ len = c.0 in eq-eqb _ _ (simp append-nil is_len)) (
    field _ (λ v. 4 * v.reserved + v.mode) (u8_field 4 why.Short) (λ v c f. let p = f.parts in omega (arith, p.mode, p.reserved)) (λ flags flags_lt.
    field _ (λ v. length v.package_id) (u8_field 5 why.Short) (λ v c f. let p = f.parts in p.package_id) (λ package_len package_lt.
    field _ (λ v. v.package_id) (bytes_field package_len 6 why.Short) (λ v c f. c.0) (λ package_id package_is.
    field _ (λ v. v.descriptors) (table_descriptors (6 + package_len)) (λ v c f. let p = f.parts in p.descriptors) (λ descriptors descriptors_fit.
    field _ (λ v. length v.assets) (placed_field (λ rest. 4 + len - length rest) (λ at. u8_field at why.Short)) (λ v c f. let p = f.parts in p.count) (λ count count_lt.
    field _ (λ v. v.assets) (placed_field (λ rest. 4 + len - length rest) (table_assets count)) (λ v c f. let p = f.parts in (c.0, p.assets)) (λ assets assets_fit.
    checked_left (λ rest. eqb (length rest) 0) (λ rest. 4 + len - length rest) why.Length _ (λ v c f. refl) (
    made (λ v. []) (λ rest. record { version = version; mode = flags % 4; reserved = flags / 4; package_id = package_id; descriptors = descriptors; assets = assets })
    (λ rest are known.
    let empty : rest ≡ [] = none_left rest known.0 in
    let flags_is : 4 * (flags / 4) + flags % 4 ≡ flags = omega arith in
    let all = eqb-true _ _ known.1.0 in
    let is_len : length (mpt_inner (record { version = version; mode = flags % 4; reserved = flags / 4; package_id = package_id; descriptors = descriptors; assets = assets })) ≡ len =
    rw (flags_is, package_is, assets_fit.0) (ap length (rw (empty, append-nil) refl) ∙ all) in (
      empty,
      (refl, (assets_fit.0, (refl, (refl, (package_is, (flags_is, (is_len, (refl, (first_is id _ id_lt known.1.1, tt))))))))),
      record { parts = record { version = version_lt; mode = omega arith; reserved = omega arith; package_id = rw package_is package_lt; descriptors = descriptors_fit; count = rw assets_fit.0 count_lt; assets = assets_fit.1 }; len = rw is_len len_lt },
    ))
    (λ v c f.
    let p = f.parts in
    let is : 4 * v.reserved + v.mode ≡ flags = c.1.1.1.1.1.0 in
    let mode : flags % 4 ≡ v.mode = omega (arith, p.mode) in
    let reserved : flags / 4 ≡ v.reserved = omega (arith, p.mode) in
    rw (mode, reserved, ← c.0, ← c.1.1.0, ← c.1.1.1.0, ← c.1.1.1.1.1.1.1.0) refl))))))))))))

pub mpt_format : Stage MptFits Always Begins mpt_of mpt_spelling
unfolding mpt_spelling mpt_inner
mpt_format = spelled _ (λ v c f. simp append-nil refl) mpt_stage

-- what was written is read back
pub read_back : (v : MptValue) → MptFits v → mpt_of (mpt_spelling v) ≡ Ok v
read_back v fits = mpt_format.again v tt fits

-- what was read can be written
pub parts_of : (v w : MptValue) → w ≡ v → MptFits v → PartsFit w
parts_of v w same fits = rw same fits.parts
