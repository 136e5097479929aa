-- A table that is sent is read back.
use Rattle.std.proofs.Common.{◌≡◌, ℕ, ◌+◌, ◌*◌, ◌^◌, ◌<◌, ◌≤◌, suc, Bool, true, false, nat_lt, cond, List, [], ◌∷◌, ◌++◌, map, length, get_or, take, drop, arith, subst}
use Rattle.std.specs.Int.{div_ceil}
use Rattle.std.specs.List.{AllByRecursion, flat_map, sum_by}
use Rattle.std.proofs.lemmas.List.{length-map, length-take}
use Rattle.std.proofs.lemmas.List.Elements.{All-from_recursion, recursion_from_All}
use Rattle.std.proofs.lemmas.List.Sums.{sum_by-cons}
use Rattle.mmt_cast.proofs.Lengths.{descriptors-long, extended-long, inner-is, stamps-long, table-long}
use Rattle.mmt_cast.proofs.Listing.{each-append, each-map_numbers, length-map_from}
use Rattle.mmt_cast.proofs.Tables.{each-block, each-filter, index-each}
use Rattle.mmt_cast.specs.Placing.{PlacedMpu, all_mpus, map_from, mpus_of}
use Rattle.mmt_cast.specs.Right.{mpu_at, no_placed_mpu}
use Rattle.mmt_cast.specs.SentTables.{extended_of_mpu, pair_of, sent_asset, sent_descriptors, sent_table, stamps_of_21}
use Rattle.mmt_cast.specs.Tables.{asset_length, is_named_by, named_of_asset, table_length}
use Rattle.mmt_cast.specs.TablesRead.{FitsFields, FitsTable, TablesAreSpelled}
use Rattle.mmt_model.specs.Carrying.{numbers}
use Rattle.mmt_model.specs.Right.{no_asset}
use Rattle.mmt_model.specs.declared.programmes.Asset.{Asset}
use Rattle.mmt_model.specs.declared.programmes.Programme.{Programme}
use Rattle.mmt_mpt.proofs.TableLaw.{read_back}
use Rattle.mmt_mpt.specs.Asset.{AssetFits, DescriptorsFit}
use Rattle.mmt_mpt.specs.Descriptor.{DescriptorFits, DescriptorValue, descriptor_bytes, length_limit}
use Rattle.mmt_mpt.specs.Location.{IsHere, LocationFits}
use Rattle.mmt_mpt.specs.Table.{MptFits}
use Rattle.mmt_times.specs.Extended.{extended_bytes, extended_tag}
use Rattle.mmt_times.specs.Writing.{written_extended}

stamp-fits : (named : List PlacedMpu) (k : ℕ) → DescriptorFits (stamps_of_21 named k)
unfolding stamps_of_21 length_limit
stamp-fits named k =
    let some : List PlacedMpu = take 21 (drop (k * 21) named) in
    record { tag = omega arith; len = omega (arith, stamps-long (map pair_of some), length-map some pair_of, length-take 21 (drop (k * 21) named)) }

extended-fits : (m : PlacedMpu) → FitsTable m → AllByRecursion DescriptorFits (extended_of_mpu m)
unfolding extended_of_mpu length_limit
extended-fits m f = go (nat_lt 0 (length m.value.aus))
  where
    go : (b : Bool) → AllByRecursion DescriptorFits (cond b (record { tag = extended_tag; bytes = extended_bytes (written_extended m.in_asset.timescale m.value) } ∷ []) [])
    go true = (record { tag = omega arith; len = omega (arith, extended-long m, f.few) }, tt)
    go false = tt

extended-all : (ms : List PlacedMpu) → AllByRecursion FitsTable ms → AllByRecursion DescriptorFits (flat_map extended_of_mpu ms)
extended-all [] f = tt
extended-all (m ∷ ms) f = each-append DescriptorFits (extended_of_mpu m) (flat_map extended_of_mpu ms) (extended-fits m f.0) (extended-all ms f.1)

descriptors-fit : (named : List PlacedMpu) → AllByRecursion FitsTable named → length (flat_map descriptor_bytes (sent_descriptors named)) < 2 ^ 16 → DescriptorsFit (sent_descriptors named)
unfolding sent_descriptors
descriptors-fit named f short =
    let stamps : List DescriptorValue = map (stamps_of_21 named) (numbers 0 (div_ceil (length named) 21)) in
    record {
      len = short;
      each = All-from_recursion DescriptorFits (stamps ++ flat_map extended_of_mpu named)
          (each-append DescriptorFits stamps (flat_map extended_of_mpu named) (each-map_numbers DescriptorFits (stamps_of_21 named) 0 (div_ceil (length named) 21) (λ k a b. stamp-fits named k)) (extended-all named f));
    }

-- the fields of an asset
abbrev FieldsFit : Asset → Type 0
FieldsFit a = (length a.id < 2 ^ 8) × (a.kind < 2 ^ 32) × (a.packet_id < 2 ^ 16)

asset-fits : (names : List (ℕ × ℕ)) (a : ℕ) (asset : Asset) → FieldsFit asset → AllByRecursion FitsTable (named_of_asset names a asset) → asset_length names a asset ≤ 65535 → AssetFits (sent_asset names a asset)
unfolding sent_asset asset_length
asset-fits names a asset fields f short =
    record {
      head = record { identifier_type = omega arith; scheme = omega arith; id = fields.0; kind = fields.1; reserved = omega arith; count = omega arith };
      locations = All-from_recursion LocationFits (IsHere asset.packet_id ∷ []) (fields.2, tt);
      descriptors = descriptors-fit (named_of_asset names a asset) f (omega (arith, short, descriptors-long (named_of_asset names a asset)));
    }

assets-fit : (names : List (ℕ × ℕ)) (n : ℕ) (assets : List Asset) → AllByRecursion FieldsFit assets → ((j : ℕ) → j < length assets → AllByRecursion FitsTable (named_of_asset names (n + j) (get_or assets j no_asset)))
    → sum_by (λ k. k) (map_from (asset_length names) n assets) ≤ 65535 → AllByRecursion AssetFits (map_from (sent_asset names) n assets)
unfolding map_from
assets-fit names n [] fields h short = tt
assets-fit names n (x ∷ xs) fields h short =
    let z : n + 0 ≡ n = omega arith in
    let s = sum_by-cons (λ k. k) (asset_length names n x) (map_from (asset_length names) (n + 1) xs) in (
      asset-fits names n x fields.0 (subst (λ a. AllByRecursion FitsTable (named_of_asset names a x)) z (h 0 (omega arith))) (omega (arith, s, short)),
      assets-fit names (n + 1) xs fields.1 (λ j l. (let e : n + suc j ≡ n + 1 + j = omega arith in subst (λ a. AllByRecursion FitsTable (named_of_asset names a (get_or xs j no_asset))) e (h (suc j) (omega arith)))) (omega (arith, s, short)),
    )

table-fits : (programme : Programme) (version : ℕ) (names : List (ℕ × ℕ)) → FitsFields programme → version < 2 ^ 8 → table_length programme names ≤ 65535 → MptFits (sent_table programme version names)
unfolding sent_table table_length all_mpus mpu_at named_of_asset
table-fits programme version names fits v short =
    let mpus : AllByRecursion FitsTable (all_mpus programme) = index-each FitsTable (all_mpus programme) no_placed_mpu fits.mpus in
    record {
      parts = record {
        version = v;
        mode = omega arith;
        reserved = omega arith;
        package_id = fits.package_id;
        descriptors = record { len = omega arith; each = All-from_recursion DescriptorFits [] tt };
        count = omega (arith, fits.assets, length-map_from (sent_asset names) 0 programme.assets);
        assets = All-from_recursion AssetFits (map_from (sent_asset names) 0 programme.assets)
            (assets-fit names 0 programme.assets (recursion_from_All FieldsFit programme.assets fits.each)
            (λ j l. each-filter FitsTable (is_named_by names) (mpus_of (0 + j) (get_or programme.assets j no_asset)) (each-block FitsTable 0 programme.assets j mpus l)) (omega (arith, short)));
      };
      len = omega (arith, inner-is programme version names, short);
    }

pub tables-spelled : TablesAreSpelled
tables-spelled programme version names = (
  table-long programme version names,
  (λ fits v short. read_back (sent_table programme version names) (table-fits programme version names fits v short)),
)
