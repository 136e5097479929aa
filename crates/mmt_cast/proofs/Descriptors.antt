-- What a receiver reads in the descriptors of an asset.
use Rattle.std.proofs.Common.{◌≡◌, ℕ, ◌+◌, ◌^◌, ◌<◌, Bool, true, false, ◌==◌, nat_lt, inl, inr, cond, List, [], ◌∷◌, ◌++◌, map, length, arith, refl, ap, sym, ◌∙◌, ⊎_elim, subst, Option, Some, None, Ok}
use Rattle.std.specs.Int.{byte_len}
use Rattle.std.specs.List.{AllByRecursion, flat_map}
use Rattle.std.specs.Option.{IsSome}
use Rattle.std.proofs.lemmas.Bool.{cases_Bool, eq-eqb, ltb-false, ne_eqb}
use Rattle.std.proofs.lemmas.List.{length-map, nil_from_length}
use Rattle.std.proofs.lemmas.List.Elements.{All-from_recursion, All-map, All-weaker}
use Rattle.mmt_cast.proofs.Listing.{IsIn, each-in}
use Rattle.mmt_cast.specs.Placing.{PlacedMpu, entry_of_mpu}
use Rattle.mmt_cast.specs.SentTables.{extended_of_mpu}
use Rattle.mmt_cast.specs.TablesRead.{FitsTable}
use Rattle.mmt_mpt.specs.Descriptor.{DescriptorValue, descriptor_bytes, length_width, with_places}
use Rattle.mmt_times.proofs.Laws.{extended_again}
use Rattle.mmt_times.specs.Extended.{AuFits, ExtendedFits, MpuFits, extended_bytes, extended_tag}
use Rattle.mmt_times.specs.NamesOf.{ExtendedEntry, entries_or_none, extended_entries, for_mpu, tried, tried_first}
use Rattle.mmt_times.specs.ExtendedReading.{extended_of}
use Rattle.mmt_times.specs.Times.{all_in_range, in_range, unit_times, with_first}
use Rattle.mmt_times.specs.Writing.{au_value, written_extended, written_mpu}
use Rattle.mmt_model.specs.declared.programmes.Au.{Au}

-- ---- where descriptors end

abbrev pub end_at : ℕ → List DescriptorValue → ℕ
end_at at [] = at
end_at at (d ∷ ds) = end_at (at + length (descriptor_bytes d)) ds

pub places-append : (at : ℕ) (xs ys : List DescriptorValue) → with_places at (xs ++ ys) ≡ with_places at xs ++ with_places (end_at at xs) ys
places-append at [] ys = refl
places-append at (x ∷ xs) ys = ap (λ l. record { tag = x.tag; from = at + 2 + byte_len (length_width x.tag); bytes = x.bytes } ∷ l) (places-append (at + length (descriptor_bytes x)) xs ys)

-- ---- extended descriptors

-- an extended descriptor fits and is read back
extended-fits : (m : PlacedMpu) → FitsTable m → ExtendedFits (written_extended m.in_asset.timescale m.value)
extended-fits m f =
    record {
      reserved = omega arith;
      kind = omega arith;
      timescale = f.timescale;
      has_default = refl;
      default = tt;
      mpus = All-from_recursion (MpuFits true) (written_mpu m.value ∷ []) (
        record {
          mpu = f.number;
          leap = omega arith;
          reserved = omega arith;
          offset = f.offset;
          count = omega (arith, f.few, length-map m.value.aus au_value);
          aus = All-map (AuFits true) au_value m.value.aus (All-weaker (λ (a : Au). (a.dts_pts < 2 ^ 16) × (a.pts < 2 ^ 16)) (λ (a : Au). AuFits true (au_value a)) (λ a h. record { dts_pts = h.0; own = refl; pts = h.1 }) m.value.aus f.aus);
        },
        tt,
      );
    }

pub extended-read : (m : PlacedMpu) → FitsTable m → extended_of (extended_bytes (written_extended m.in_asset.timescale m.value)) ≡ Ok (written_extended m.in_asset.timescale m.value)
extended-read m f = extended_again (written_extended m.in_asset.timescale m.value) (extended-fits m f)

-- the entry of an MPU in its extended descriptor at a place
abbrev pub own_entry : ℕ → PlacedMpu → ExtendedEntry
own_entry p m = record { at = p; timescale = m.in_asset.timescale; default = 0; mpu = written_mpu m.value }

-- the extended entries of an MPU number among those of several MPUs
abbrev pub found_in : ℕ → ℕ → ℕ → List PlacedMpu → List ExtendedEntry
found_in configured n at ms = for_mpu n (flat_map (extended_entries configured) (with_places at (flat_map extended_of_mpu ms)))

abbrev pub descriptor_of : PlacedMpu → DescriptorValue
descriptor_of m = record { tag = extended_tag; bytes = extended_bytes (written_extended m.in_asset.timescale m.value) }

found-with : (configured n at : ℕ) (m : PlacedMpu) (ms : List PlacedMpu) → FitsTable m → nat_lt 0 (length m.value.aus) ≡ true
    → found_in configured n at (m ∷ ms)
    ≡ cond (m.value.number == n) (own_entry (at + 2 + byte_len (length_width extended_tag)) m ∷ found_in configured n (at + length (descriptor_bytes (descriptor_of m))) ms) (found_in configured n (at + length (descriptor_bytes (descriptor_of m))) ms)
unfolding extended_of_mpu
found-with configured n at m ms f t =
    let p : ℕ = at + 2 + byte_len (length_width extended_tag) in
    let later : ℕ = at + length (descriptor_bytes (descriptor_of m)) in
    ap (λ (b : Bool). for_mpu n (flat_map (extended_entries configured) (with_places at (cond b (descriptor_of m ∷ []) [] ++ flat_map extended_of_mpu ms)))) t
    ∙ ap (λ r. for_mpu n (entries_or_none configured p r ++ flat_map (extended_entries configured) (with_places later (flat_map extended_of_mpu ms)))) (extended-read m f)

found-without : (configured n at : ℕ) (m : PlacedMpu) (ms : List PlacedMpu) → nat_lt 0 (length m.value.aus) ≡ false → found_in configured n at (m ∷ ms) ≡ found_in configured n at ms
unfolding extended_of_mpu
found-without configured n at m ms t = ap (λ (b : Bool). for_mpu n (flat_map (extended_entries configured) (with_places at (cond b (descriptor_of m ∷ []) [] ++ flat_map extended_of_mpu ms)))) t

-- no entry has another number
tried-none : (configured n time at : ℕ) (ms : List PlacedMpu) → AllByRecursion FitsTable ms → AllByRecursion (λ (y : PlacedMpu). y.value.number ≡ n → ⊥) ms → tried time (found_in configured n at ms) ≡ record { refused = []; times = [] }
unfolding tried
tried-none configured n time at [] f ne = refl
tried-none configured n time at (m ∷ ms) f ne =
    ⊎_elim
    (λ (t : nat_lt 0 (length m.value.aus) ≡ true).
    (let later : ℕ = at + length (descriptor_bytes (descriptor_of m)) in
    ap (tried time) (found-with configured n at m ms f.0 t ∙ ap (λ (b : Bool). cond b (own_entry (at + 2 + byte_len (length_width extended_tag)) m ∷ found_in configured n later ms) (found_in configured n later ms)) (ne_eqb m.value.number n ne.0))
    ∙ tried-none configured n time later ms f.1 ne.1))
    (λ (t : nat_lt 0 (length m.value.aus) ≡ false). ap (tried time) (found-without configured n at m ms t) ∙ tried-none configured n time at ms f.1 ne.1)
    (cases_Bool (nat_lt 0 (length m.value.aus)))

rest-some : (t : ℕ) (o : Option (List ℕ)) → IsSome (with_first t o) → IsSome o
rest-some t None s = s
rest-some t (Some ts) s = refl

-- all times in range are all the times
range-all : (ts : List (Option ℕ)) → IsSome (all_in_range ts) → all_in_range ts ≡ Some (in_range ts)
unfolding all_in_range in_range
range-all [] s = refl
range-all (None ∷ ts) s = absurd cc
range-all (Some t ∷ ts) s = ap (with_first t) (range-all ts (rest-some t (all_in_range ts) s))

-- the numbers of MPUs differ
abbrev pub NumbersDiffer : List PlacedMpu → Type 0
NumbersDiffer [] = Unit {0}
NumbersDiffer (m ∷ ms) = AllByRecursion (λ (y : PlacedMpu). y.value.number ≡ m.value.number → ⊥) ms × NumbersDiffer ms

tried-head : (configured at : ℕ) (t : PlacedMpu) (ms : List PlacedMpu) → FitsTable t → AllByRecursion FitsTable ms → AllByRecursion (λ (y : PlacedMpu). y.value.number ≡ t.value.number → ⊥) ms
    → tried t.value.time.0 (found_in configured t.value.number at (t ∷ ms)) ≡ record { refused = []; times = (entry_of_mpu t).aus }
unfolding tried entry_of_mpu in_range unit_times
tried-head configured at t ms f fs d =
    ⊎_elim
    (λ (some : nat_lt 0 (length t.value.aus) ≡ true).
    (let later : ℕ = at + length (descriptor_bytes (descriptor_of t)) in
    let p : ℕ = at + 2 + byte_len (length_width extended_tag) in
    ap (tried t.value.time.0) (found-with configured t.value.number at t ms f some ∙ ap (λ (b : Bool). cond b (own_entry p t ∷ found_in configured t.value.number later ms) (found_in configured t.value.number later ms)) (eq-eqb t.value.number t.value.number refl))
    ∙ ap (λ o. tried_first p o (tried t.value.time.0 (found_in configured t.value.number later ms))) (range-all (unit_times t.value.time.0 t.value.decoding_offset t.in_asset.timescale 0 0 (map au_value t.value.aus)) f.times)))
    (λ (none : nat_lt 0 (length t.value.aus) ≡ false).
    (let l : length t.value.aus ≡ 0 = omega (arith, ltb-false 0 (length t.value.aus) none) in
    let e : t.value.aus ≡ [] = nil_from_length t.value.aus l in
    ap (tried t.value.time.0) (found-without configured t.value.number at t ms none)
    ∙ (tried-none configured t.value.number t.value.time.0 at ms fs d
    ∙ ap (λ aus. record { refused = []; times = in_range (unit_times t.value.time.0 t.value.decoding_offset t.in_asset.timescale 0 0 (map au_value aus)) }) (sym e))))
    (cases_Bool (nat_lt 0 (length t.value.aus)))

pub tried-own : (configured at : ℕ) (t : PlacedMpu) (ms : List PlacedMpu) → AllByRecursion FitsTable ms → NumbersDiffer ms → IsIn t ms
    → tried t.value.time.0 (found_in configured t.value.number at ms) ≡ record { refused = []; times = (entry_of_mpu t).aus }
unfolding tried entry_of_mpu
tried-own configured at t [] f d i = absurd i
tried-own configured at t (m ∷ ms) f d (inl same) =
    subst (λ z. tried t.value.time.0 (found_in configured t.value.number at (z ∷ ms)) ≡ record { refused = []; times = (entry_of_mpu t).aus }) (sym same)
    (tried-head configured at t ms (subst FitsTable same f.0) f.1 (subst (λ (z : PlacedMpu). AllByRecursion (λ (y : PlacedMpu). y.value.number ≡ z.value.number → ⊥) ms) same d.0))
tried-own configured at t (m ∷ ms) f d (inr i) =
    let other : m.value.number ≡ t.value.number → ⊥ = λ e. each-in (λ (y : PlacedMpu). y.value.number ≡ m.value.number → ⊥) t ms d.0 i (sym e) in
    let later : ℕ = at + length (descriptor_bytes (descriptor_of m)) in
    let p : ℕ = at + 2 + byte_len (length_width extended_tag) in
    ⊎_elim
    (λ (some : nat_lt 0 (length m.value.aus) ≡ true).
    ap (tried t.value.time.0) (found-with configured t.value.number at m ms f.0 some ∙ ap (λ (b : Bool). cond b (own_entry p m ∷ found_in configured t.value.number later ms) (found_in configured t.value.number later ms)) (ne_eqb m.value.number t.value.number other))
    ∙ tried-own configured later t ms f.1 d.1 i)
    (λ (none : nat_lt 0 (length m.value.aus) ≡ false). ap (tried t.value.time.0) (found-without configured t.value.number at m ms none) ∙ tried-own configured at t ms f.1 d.1 i)
    (cases_Bool (nat_lt 0 (length m.value.aus)))
