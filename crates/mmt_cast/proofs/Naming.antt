-- The names that a receiver reads of an asset in a table that is sent.
use Rattle.std.proofs.Common.{◌≡◌, ℕ, ◌+◌, ◌*◌, zero, suc, Bool, true, false, nat_lt, inl, inr, cond, List, [], ◌∷◌, ◌++◌, map, length, take, drop, arith, refl, ap, ap₂, sym, ◌∙◌, Ok}
use Rattle.std.specs.Int.{div_ceil}
use Rattle.std.specs.List.{AllByRecursion, flat_map}
use Rattle.std.proofs.lemmas.List.{append-nil, drop-drop, map-append, take_all}
use Rattle.std.proofs.lemmas.List.Concat.{flat_map-append}
use Rattle.std.proofs.lemmas.List.Elements.{All-from_recursion}
use Rattle.mmt_cast.proofs.Descriptors.{NumbersDiffer, descriptor_of, end_at, extended-read, places-append, tried-own}
use Rattle.mmt_cast.proofs.Listing.{IsIn}
use Rattle.mmt_frag.proofs.PartsJoined.{parts-enough, take-add}
use Rattle.mmt_cast.specs.Placing.{PlacedMpu, entry_of_mpu}
use Rattle.mmt_cast.specs.SentTables.{extended_of_mpu, pair_of, sent_asset, sent_descriptors, stamps_of_21}
use Rattle.mmt_cast.specs.Tables.{named_of_asset}
use Rattle.mmt_cast.specs.TablesRead.{FitsTable}
use Rattle.mmt_model.specs.Carrying.{numbers}
use Rattle.mmt_model.specs.declared.programmes.Asset.{Asset}
use Rattle.mmt_mpt.specs.Asset.{descriptors_place}
use Rattle.mmt_mpt.specs.Descriptor.{PlacedDescriptor, descriptor_bytes, with_places}
use Rattle.mmt_mpt.specs.Location.{IsHere}
use Rattle.mmt_times.proofs.Laws.{stamps_again}
use Rattle.mmt_times.specs.NamesOf.{IsEntry, NamedValue, extended_entries, names_at, names_of_asset, names_of_pair, names_of_tried, pairs_of, read_or_none, refusal_of, refused_at}
use Rattle.mmt_times.specs.Stamps.{PairFits, PairValue, stamps_bytes, stamps_of}

-- ---- parts of a list

each-take : {X : Type 0} (P : X → Type 0) (n : ℕ) (xs : List X) → AllByRecursion P xs → AllByRecursion P (take n xs)
each-take P zero xs e = tt
each-take P (suc n) [] e = tt
each-take P (suc n) (x ∷ xs) e = (e.0, each-take P n xs e.1)

each-drop : {X : Type 0} (P : X → Type 0) (n : ℕ) (xs : List X) → AllByRecursion P xs → AllByRecursion P (drop n xs)
each-drop P zero xs e = e
each-drop P (suc n) [] e = tt
each-drop P (suc n) (x ∷ xs) e = each-drop P n xs e.1

pairs-fit : (ms : List PlacedMpu) → AllByRecursion FitsTable ms → AllByRecursion PairFits (map pair_of ms)
pairs-fit [] f = tt
pairs-fit (m ∷ ms) f = (record { mpu = f.0.number; time = f.0.time }, pairs-fit ms f.1)

chunks : {X Y : Type 0} (f : X → Y) (xs : List X) (j n : ℕ) → flat_map (λ k. map f (take 21 (drop (k * 21) xs))) (numbers j n) ≡ map f (take (n * 21) (drop (j * 21) xs))
unfolding numbers
chunks f xs j zero = let z : 0 ≡ 0 * 21 = omega arith in ap (λ m. map f (take m (drop (j * 21) xs))) z
chunks f xs j (suc n) =
    let s : 21 + n * 21 ≡ suc n * 21 = omega arith in
    let t : j * 21 + 21 ≡ (j + 1) * 21 = omega arith in
    ap (λ l. map f (take 21 (drop (j * 21) xs)) ++ l) (chunks f xs (j + 1) n ∙ ap (λ m. map f (take (n * 21) (drop m xs))) (sym t) ∙ ap (λ l. map f (take (n * 21) l)) (sym (drop-drop 21 (j * 21) xs)))
    ∙ (sym (map-append f (take 21 (drop (j * 21) xs)) (take (n * 21) (drop 21 (drop (j * 21) xs))))
    ∙ (ap (map f) (sym (take-add 21 (n * 21) (drop (j * 21) xs))) ∙ ap (λ m. map f (take m (drop (j * 21) xs))) s))

-- ---- timestamp descriptors

stamps-read : (named : List PlacedMpu) (k : ℕ) → AllByRecursion FitsTable named → stamps_of (stamps_bytes (map pair_of (take 21 (drop (k * 21) named)))) ≡ Ok (map pair_of (take 21 (drop (k * 21) named)))
stamps-read named k f =
    let some : List PlacedMpu = take 21 (drop (k * 21) named) in
    stamps_again (map pair_of some) (All-from_recursion PairFits (map pair_of some) (pairs-fit some (each-take FitsTable 21 (drop (k * 21) named) (each-drop FitsTable (k * 21) named f))))

stamps-pairs : (named : List PlacedMpu) (at j n : ℕ) → AllByRecursion FitsTable named → flat_map pairs_of (with_places at (map (stamps_of_21 named) (numbers j n))) ≡ flat_map (λ k. map pair_of (take 21 (drop (k * 21) named))) (numbers j n)
unfolding numbers stamps_of_21
stamps-pairs named at j zero f = refl
stamps-pairs named at j (suc n) f =
    ap₂ (λ (a b : List PairValue). a ++ b) (ap read_or_none (stamps-read named j f)) (stamps-pairs named (at + length (descriptor_bytes (stamps_of_21 named j))) (j + 1) n f)

stamps-refusals : (named : List PlacedMpu) (at j n : ℕ) → AllByRecursion FitsTable named → flat_map refusal_of (with_places at (map (stamps_of_21 named) (numbers j n))) ≡ []
unfolding numbers stamps_of_21
stamps-refusals named at j zero f = refl
stamps-refusals named at j (suc n) f =
    ap₂ (λ (a b : List NamedValue). a ++ b) (ap (refused_at _) (stamps-read named j f)) (stamps-refusals named (at + length (descriptor_bytes (stamps_of_21 named j))) (j + 1) n f)

stamps-extended : (configured : ℕ) (named : List PlacedMpu) (at j n : ℕ) → flat_map (extended_entries configured) (with_places at (map (stamps_of_21 named) (numbers j n))) ≡ []
unfolding numbers stamps_of_21
stamps-extended configured named at j zero = refl
stamps-extended configured named at j (suc n) = stamps-extended configured named (at + length (descriptor_bytes (stamps_of_21 named j))) (j + 1) n

-- ---- extended descriptors

extended-pairs : (at : ℕ) (ms : List PlacedMpu) → flat_map pairs_of (with_places at (flat_map extended_of_mpu ms)) ≡ []
unfolding extended_of_mpu
extended-pairs at [] = refl
extended-pairs at (m ∷ ms) = go (nat_lt 0 (length m.value.aus)) (extended-pairs at ms) (extended-pairs (at + length (descriptor_bytes (descriptor_of m))) ms)
  where
    go : (b : Bool) → flat_map pairs_of (with_places at (flat_map extended_of_mpu ms)) ≡ [] → flat_map pairs_of (with_places (at + length (descriptor_bytes (descriptor_of m))) (flat_map extended_of_mpu ms)) ≡ []
        → flat_map pairs_of (with_places at (cond b (descriptor_of m ∷ []) [] ++ flat_map extended_of_mpu ms)) ≡ []
    go true here later = later
    go false here later = here

extended-refusals : (at : ℕ) (ms : List PlacedMpu) → AllByRecursion FitsTable ms → flat_map refusal_of (with_places at (flat_map extended_of_mpu ms)) ≡ []
unfolding extended_of_mpu
extended-refusals at [] f = refl
extended-refusals at (m ∷ ms) f = go (nat_lt 0 (length m.value.aus)) (extended-refusals at ms f.1) (extended-refusals (at + length (descriptor_bytes (descriptor_of m))) ms f.1)
  where
    go : (b : Bool) → flat_map refusal_of (with_places at (flat_map extended_of_mpu ms)) ≡ [] → flat_map refusal_of (with_places (at + length (descriptor_bytes (descriptor_of m))) (flat_map extended_of_mpu ms)) ≡ []
        → flat_map refusal_of (with_places at (cond b (descriptor_of m ∷ []) [] ++ flat_map extended_of_mpu ms)) ≡ []
    go true here later = ap₂ (λ (a b : List NamedValue). a ++ b) (ap (refused_at _) (extended-read m f.0)) later
    go false here later = here

-- ---- an asset

-- where timestamp descriptors end
abbrev stamps_end : ℕ → List PlacedMpu → ℕ
stamps_end at named = end_at at (map (stamps_of_21 named) (numbers 0 (div_ceil (length named) 21)))

both : {A : Type 0} (F : PlacedDescriptor → List A) (at : ℕ) (named : List PlacedMpu)
    → flat_map F (with_places at (sent_descriptors named)) ≡ flat_map F (with_places at (map (stamps_of_21 named) (numbers 0 (div_ceil (length named) 21)))) ++ flat_map F (with_places (stamps_end at named) (flat_map extended_of_mpu named))
unfolding sent_descriptors
both F at named =
    ap (flat_map F) (places-append at (map (stamps_of_21 named) (numbers 0 (div_ceil (length named) 21))) (flat_map extended_of_mpu named))
    ∙ flat_map-append F (with_places at (map (stamps_of_21 named) (numbers 0 (div_ceil (length named) 21)))) (with_places (stamps_end at named) (flat_map extended_of_mpu named))

all-pairs : (at : ℕ) (named : List PlacedMpu) → AllByRecursion FitsTable named → flat_map pairs_of (with_places at (sent_descriptors named)) ≡ map pair_of named
all-pairs at named f =
    let n : ℕ = div_ceil (length named) 21 in
    let z : 0 * 21 ≡ 0 = omega arith in
    both pairs_of at named
    ∙ (ap₂ (λ (a b : List PairValue). a ++ b) (stamps-pairs named at 0 n f ∙ chunks pair_of named 0 n) (extended-pairs (stamps_end at named) named)
    ∙ (append-nil (map pair_of (take (n * 21) (drop (0 * 21) named)))
    ∙ (ap (λ m. map pair_of (take (n * 21) (drop m named))) z ∙ ap (map pair_of) (take_all (n * 21) named (parts-enough (length named) 21 (omega arith))))))

no-refusals : (at : ℕ) (named : List PlacedMpu) → AllByRecursion FitsTable named → flat_map refusal_of (with_places at (sent_descriptors named)) ≡ []
no-refusals at named f = both refusal_of at named ∙ ap₂ (λ (a b : List NamedValue). a ++ b) (stamps-refusals named at 0 (div_ceil (length named) 21) f) (extended-refusals (stamps_end at named) named f)

-- the name of an MPU at a packet id
abbrev name_at : ℕ → PlacedMpu → NamedValue
name_at id m = IsEntry (record { packet_id = id; mpu = m.value.number; time = m.value.time.0; aus = (entry_of_mpu m).aus })

names-each : (configured at id : ℕ) (named ms : List PlacedMpu) → AllByRecursion FitsTable named → NumbersDiffer named → ((t : PlacedMpu) → IsIn t ms → IsIn t named)
    → flat_map (names_of_pair (flat_map (extended_entries configured) (with_places at (flat_map extended_of_mpu named))) id) (map pair_of ms) ≡ map (name_at id) ms
names-each configured at id named [] f d h = refl
names-each configured at id named (m ∷ ms) f d h =
    ap₂ (λ (a b : List NamedValue). a ++ b) (ap (names_of_tried id (pair_of m)) (tried-own configured at m named f d (h m (inl refl)))) (names-each configured at id named ms f d (λ t i. h t (inr i)))

all-names : (configured at id : ℕ) (named : List PlacedMpu) → AllByRecursion FitsTable named → NumbersDiffer named → names_at configured (with_places at (sent_descriptors named)) id ≡ map (name_at id) named
all-names configured at id named f d =
    ap₂ (λ es ps. flat_map (names_of_pair es id) ps)
    (both (extended_entries configured) at named ∙ ap (λ l. l ++ flat_map (extended_entries configured) (with_places (stamps_end at named) (flat_map extended_of_mpu named))) (stamps-extended configured named at 0 (div_ceil (length named) 21)))
    (all-pairs at named f)
    ∙ names-each configured (stamps_end at named) id named named f d (λ t i. i)

entries-of : (asset : Asset) (ms : List PlacedMpu) → AllByRecursion (λ (m : PlacedMpu). m.in_asset ≡ asset) ms → map (name_at asset.packet_id) ms ≡ map (λ m. IsEntry (entry_of_mpu m)) ms
unfolding entry_of_mpu
entries-of asset [] e = refl
entries-of asset (m ∷ ms) e =
    ap₂ (λ (x : NamedValue) l. x ∷ l) (ap (λ (a : Asset). IsEntry (record { packet_id = a.packet_id; mpu = m.value.number; time = m.value.time.0; aus = (entry_of_mpu m).aus })) (sym e.0)) (entries-of asset ms e.1)

pub names-of-asset : (configured at : ℕ) (names : List (ℕ × ℕ)) (a : ℕ) (asset : Asset)
    → AllByRecursion FitsTable (named_of_asset names a asset) → NumbersDiffer (named_of_asset names a asset) → AllByRecursion (λ (m : PlacedMpu). m.in_asset ≡ asset) (named_of_asset names a asset)
    → names_of_asset configured (record { at = at; asset = sent_asset names a asset }) ≡ map (λ m. IsEntry (entry_of_mpu m)) (named_of_asset names a asset)
unfolding sent_asset
names-of-asset configured at names a asset f d e =
    let named : List PlacedMpu = named_of_asset names a asset in
    let from : ℕ = descriptors_place at asset.id (IsHere asset.packet_id ∷ []) in
    ap₂ (λ (x y : List NamedValue). x ++ (y ++ [])) (no-refusals from named f) (all-names configured from asset.packet_id named f d ∙ entries-of asset named e)
    ∙ append-nil (map (λ m. IsEntry (entry_of_mpu m)) named)
