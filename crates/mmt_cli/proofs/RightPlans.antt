-- Each programme that a plan is read as is right.
use Rattle.std.proofs.Common.{◌≡◌, ℕ, suc, ◌+◌, ◌-◌, ◌*◌, ◌<◌, ◌≤◌, ◌^◌, Bool, true, false, ◌&&◌, nat_le, nat_lt, List, [], ◌∷◌, codes, length, Option, Some, None, option_map, option_and_then, Result, Ok, Err, if◌then◌else◌, refl, sym, ap, subst, arith}
use Rattle.std.proofs.lemmas.Bool.{and_parts, leb-true}
use Rattle.std.proofs.lemmas.Bool.Decides.{nat_tests}
use Rattle.std.proofs.lemmas.List.Elements.{All-cons, All-nil}
use Rattle.std.specs.List.{All}
use Rattle.std.specs.Str.{bytes_eq, is_utf8}
use Rattle.serde_json.specs.Data.{Data, Items, no_items, item}
use Rattle.serde_json.specs.Events.{items_len}
use Rattle.serde_json.specs.Find.{as_array, as_number, as_str, as_u64}
use Rattle.serde_json.specs.Read.{read}
use Rattle.mmt_base.specs.declared.ticks.LongTick.{LongTick}
use Rattle.mmt_command.specs.Flows.{flow_text}
use Rattle.mmt_model.specs.Right.{AreRising, FitsAus, HasKeyOf, IsFileName, IsFrom, IsKind, IsRight, IsRightAsset, IsRightAu, IsRightFlow, IsRightMpu, IsRightParams, IsRightUnit}
use Rattle.mmt_model.specs.declared.programmes.Asset.{Asset}
use Rattle.mmt_model.specs.declared.programmes.Programme.{Programme}
use Rattle.mmt_plan.proofs.Agreeing.{right as agreed_right}
use Rattle.mmt_plan.proofs.Counts.{programme_is_few}
use Rattle.mmt_plan.proofs.FileNumbers.{kept, named, placed}
use Rattle.mmt_plan.proofs.FlowTexts.{range_of}
use Rattle.mmt_plan.proofs.FourCharacters.{four}
use Rattle.mmt_plan.proofs.Gives.{Gives, Has, after, skip, there}
use Rattle.mmt_plan.proofs.Nodes.{read_nodes}
use Rattle.mmt_plan.proofs.Rising.{rising}
use Rattle.mmt_plan.specs.Alone.{IsAlone, IsAssetAlone, IsFew, IsRightSending, IsSignalAlone}
use Rattle.mmt_plan.specs.Assets.{asset_at, asset_keys, asset_of, is_printed, kind_at, kind_in}
use Rattle.mmt_plan.specs.Aus.{as_pair_in, au_at, au_of, two_numbers}
use Rattle.mmt_plan.specs.Flows.{as_flow, flow_at, flow_from, flow_in, is_in_range}
use Rattle.mmt_plan.specs.Members.{array_at, array_from_at, as_array_from, as_array_of, as_number_in, as_text_of, boolean_at, is_object_at, is_within, list_at, list_from_at, member_at, no_other_at, number_at, right_member, text_at, where_true}
use Rattle.mmt_plan.specs.Mpus.{most_aus, mpu_at, mpu_keys, mpu_of, unit_in}
use Rattle.mmt_plan.specs.Nodes.{nodes}
use Rattle.mmt_plan.specs.Plan.{bytes_of, json_in, json_of, plan, programme_in}
use Rattle.mmt_plan.specs.Reading.{◌>>=◌, each, each_with}
use Rattle.mmt_plan.specs.Signals.{is_table_at, message_of, names_at, pair_at, parameters_of, rises_after, signal_at, signal_of, table_of}
use Rattle.mmt_plan.specs.Tops.{assets_at, params_at, programme_at, programme_of, sending_at, top_keys, top_spot}
use Rattle.mmt_plan.specs.Units.{header_at, item_at, item_keys, timed_at, timed_keys, unit_at}
use Rattle.mmt_plan.specs.Wholes.{agreeing, are_ids_once, are_named, are_numbers_once, each_checked}
use Rattle.mmt_plan.specs.declared.ends.Refusal.{Refusal}
use Rattle.mmt_plan.specs.declared.spots.Spot.{Spot}
use Rattle.mmt_plan.specs.declared.units.UnitHeader.{UnitHeader}

-- ---- what holds of a value that may be there

tested : {A : Type 0} (P : A → Type 0) (test : A → Bool) → ((x : A) → test x ≡ true → P x) → (o : Option A) → Has P (option_and_then (where_true test) o)
tested P test h None = tt
tested P test h (Some x) = by (test x) refl
  where
    by : (b : Bool) → test x ≡ b → Has P (if b then Some x else None)
    by true e = h x e
    by false e = tt

chosen : {A : Type 0} (P : A → Type 0) (b : Bool) (x : A) → (b ≡ true → P x) → Has P (if b then Some x else None)
chosen P true x h = h refl
chosen P false x h = tt

then_has : {A B : Type 0} (P : A → Type 0) (Q : B → Type 0) (f : A → Option B) → ((a : A) → P a → Has Q (f a)) → (o : Option A) → Has P o → Has Q (option_and_then f o)
then_has P Q f h None p = tt
then_has P Q f h (Some x) p = h x p

map_has : {A B : Type 0} (P : A → Type 0) (Q : B → Type 0) (f : A → B) → ((a : A) → P a → Q (f a)) → (o : Option A) → Has P o → Has Q (option_map f o)
map_has P Q f h None p = tt
map_has P Q f h (Some x) p = h x p

any_has : {A : Type 0} (o : Option A) → Has (λ (x : A). Unit {0}) o
any_has None = tt
any_has (Some x) = tt

known_has : {A : Type 0} (P : A → Type 0) (o : Option A) → ((x : A) → o ≡ Some x → P x) → Has P o
known_has P None h = tt
known_has P (Some x) h = h x refl

-- ---- what holds of a value that is read

weaker : {A : Type 0} (P Q : A → Type 0) (r : Result A Refusal) → Gives P r → ((x : A) → P x → Q x) → Gives Q r
weaker P Q (Ok x) h k = k x h
weaker P Q (Err e) h k = tt

known : {A B : Type 0} (Q : B → Type 0) (f : A → Result B Refusal) (r : Result A Refusal) → ((x : A) → r ≡ Ok x → Gives Q (f x)) → Gives Q (r >>= f)
known Q f (Ok x) h = h x refl
known Q f (Err e) h = tt

picked : {A : Type 0} (P : A → Type 0) (b : Bool) (x : A) (e : Refusal) → (b ≡ true → P x) → Gives P (if b then Ok x else Err e)
picked P true x e h = h refl
picked P false x e h = tt

unless : {A : Type 0} (P : A → Type 0) (b : Bool) (x : A) (e : Refusal) → (b ≡ false → P x) → Gives P (if b then Err e else Ok x)
unless P true x e h = tt
unless P false x e h = h refl

-- ---- the members of an object

abbrev Within : ℕ → ℕ → ℕ → Type 0
Within least most n = (least ≤ n) × (n ≤ most)

within : (least most n : ℕ) → is_within least most n ≡ true → Within least most n
within least most n e = let both = and_parts (nat_le least n) (nat_le n most) e in (leb-true least n both.0, leb-true n most both.1)

right_gives : {A : Type 0} (P : A → Type 0) (as_right : Data → Option A) → ((m : Data) → Has P (as_right m)) → (s : Spot) (field : ℕ) (name : List ℕ) (d : Data) → Gives P (right_member as_right s field name d)
right_gives P as_right h s field name d = skip _ _ (member_at s field name d) (λ m. there P _ (as_right m) (h m))

number_in : (least most : ℕ) (m : Data) → Has (Within least most) (as_number_in least most m)
number_in least most m = tested (Within least most) (is_within least most) (within least most) (option_and_then as_u64 (as_number m))

number_gives : (least most : ℕ) (s : Spot) (field : ℕ) (name : List ℕ) (d : Data) → Gives (Within least most) (number_at least most s field name d)
unfolding number_at
number_gives least most s field name d = right_gives (Within least most) (as_number_in least most) (number_in least most) s field name d

text_gives : (least most : ℕ) (s : Spot) (field : ℕ) (name : List ℕ) (d : Data) → Gives (λ (t : List ℕ). Within least most (length t)) (text_at least most s field name d)
unfolding text_at
text_gives least most s field name d =
    right_gives (λ (t : List ℕ). Within least most (length t)) (as_text_of least most)
    (λ m. tested (λ (t : List ℕ). Within least most (length t)) (λ t. is_within least most (length t)) (λ t. within least most (length t)) (as_str m)) s field name d

array_gives : (least most : ℕ) (s : Spot) (field : ℕ) (name : List ℕ) (d : Data) → Gives (λ (ds : Items). Within least most (items_len ds)) (array_at least most s field name d)
unfolding array_at
array_gives least most s field name d =
    right_gives (λ (ds : Items). Within least most (items_len ds)) (as_array_of least most)
    (λ m. tested (λ (ds : Items). Within least most (items_len ds)) (λ ds. is_within least most (items_len ds)) (λ ds. within least most (items_len ds)) (as_array m)) s field name d

array_from_gives : (least : ℕ) (s : Spot) (field : ℕ) (name : List ℕ) (d : Data) → Gives (λ (ds : Items). least ≤ items_len ds) (array_from_at least s field name d)
unfolding array_from_at
array_from_gives least s field name d =
    right_gives (λ (ds : Items). least ≤ items_len ds) (as_array_from least)
    (λ m. tested (λ (ds : Items). least ≤ items_len ds) (λ ds. nat_le least (items_len ds)) (λ ds e. leb-true least (items_len ds) e) (as_array m)) s field name d

-- the next step after a number and after a text
by_number : {B : Type 0} (Q : B → Type 0) (f : ℕ → Result B Refusal) (least most : ℕ) (s : Spot) (field : ℕ) (name : List ℕ) (d : Data) → ((n : ℕ) → Within least most n → Gives Q (f n)) → Gives Q (number_at least most s field name d >>= f)
by_number Q f least most s field name d k = after Q f (Within least most) (number_at least most s field name d) (number_gives least most s field name d) k

by_text : {B : Type 0} (Q : B → Type 0) (f : List ℕ → Result B Refusal) (least most : ℕ) (s : Spot) (field : ℕ) (name : List ℕ) (d : Data) → ((t : List ℕ) → Within least most (length t) → Gives Q (f t)) → Gives Q (text_at least most s field name d >>= f)
by_text Q f least most s field name d k = after Q f (λ t. Within least most (length t)) (text_at least most s field name d) (text_gives least most s field name d) k

-- ---- lists

module _ {A : Type 0} (P : A → Type 0) (reader : ℕ → Data → Result A Refusal) (h : (n : ℕ) (d : Data) → Gives P (reader n d)) where
  abbrev AreRead : Items → List A → Type 0
  AreRead ds xs = All P xs × (length xs ≡ items_len ds)

  each_first : (n : ℕ) (d : Data) (ds : Items) → each reader n (item d ds) ≡ (reader n d >>= λ x. each reader (n + 1) ds >>= λ xs. Ok (x ∷ xs))
  unfolding each
  each_first n d ds = refl

  each_none : (n : ℕ) → each reader n no_items ≡ Ok []
  unfolding each
  each_none n = refl

  each_gives : (n : ℕ) (ds : Items) → Gives (AreRead ds) (each reader n ds)
  each_gives n no_items = subst (Gives (AreRead no_items)) (sym (each_none n)) (All-nil P, refl)
  each_gives n (item d ds) =
      subst (Gives (AreRead (item d ds))) (sym (each_first n d ds))
      (after _ _ P (reader n d) (h n d) (λ x px. after _ _ (AreRead ds) (each reader (n + 1) ds) (each_gives (n + 1) ds) (λ xs all. (All-cons P x xs px all.0, ap suc all.1))))

list_gives : {A : Type 0} (P : A → Type 0) (reader : Spot → ℕ → Data → Result A Refusal) (least most : ℕ) (s : Spot) → ((n : ℕ) (d : Data) → Gives P (reader s n d)) → (field : ℕ) (name : List ℕ) (d : Data)
    → Gives (λ (xs : List A). All P xs × Within least most (length xs)) (list_at reader least most s field name d)
unfolding list_at
list_gives P reader least most s h field name d =
    after _ _ (λ ds. Within least most (items_len ds)) (array_at least most s field name d) (array_gives least most s field name d)
    (λ ds w. weaker _ _ (each (reader s) 0 ds) (each_gives P (reader s) h 0 ds) (λ xs all. (all.0, subst (Within least most) (sym all.1) w)))

list_from_gives : {A : Type 0} (P : A → Type 0) (reader : Spot → ℕ → Data → Result A Refusal) (least : ℕ) (s : Spot) → ((n : ℕ) (d : Data) → Gives P (reader s n d)) → (field : ℕ) (name : List ℕ) (d : Data)
    → Gives (λ (xs : List A). All P xs × (least ≤ length xs)) (list_from_at reader least s field name d)
unfolding list_from_at
list_from_gives P reader least s h field name d =
    after _ _ (λ ds. least ≤ items_len ds) (array_from_at least s field name d) (array_from_gives least s field name d)
    (λ ds w. weaker _ _ (each (reader s) 0 ds) (each_gives P (reader s) h 0 ds) (λ xs all. (all.0, subst (λ (n : ℕ). least ≤ n) (sym all.1) w)))

-- ---- units

-- the header of a unit is right
record IsHeader (timed : Bool) (h : UnitHeader) : Type 0 where
  key : HasKeyOf timed h.priority h.dependency h.key
  priority : h.priority < 2 ^ 8
  dependency : h.dependency < 2 ^ 8

timed_gives : (s : Spot) (d : Data) → Gives (IsHeader true) (timed_at s d)
unfolding timed_at
timed_gives s d =
    by_number _ _ 0 (2 ^ 32 - 1) s 4 (codes "movie_fragment") d (λ fragment f. by_number _ _ 0 (2 ^ 32 - 1) s 5 (codes "sample") d (λ sample m. by_number _ _ 0 (2 ^ 32 - 1) s 6 (codes "offset") d (λ offset o.
    by_number _ _ 0 255 s 7 (codes "priority") d (λ priority p. by_number _ _ 0 255 s 8 (codes "dependency") d (λ dependency q. skip _ _ (no_other_at s timed_keys d) (λ _.
    record { key = (omega (arith, f.1), omega (arith, m.1), omega (arith, o.1)); priority = omega (arith, p.1); dependency = omega (arith, q.1) }))))))

item_gives : (s : Spot) (d : Data) → Gives (IsHeader false) (item_at s d)
unfolding item_at
item_gives s d =
    by_number _ _ 0 (2 ^ 32 - 1) s 4 (codes "item") d (λ n w. skip _ _ (no_other_at s item_keys d) (λ _.
    record { key = (omega (arith, w.1), refl, refl); priority = omega arith; dependency = omega arith }))

header_gives : (timed : Bool) (s : Spot) (d : Data) → Gives (IsHeader timed) (header_at timed s d)
header_gives true s d = timed_gives s d
header_gives false s d = item_gives s d

unit_gives : (s : Spot) (d : Data) → Gives (IsRightUnit s.start s.timed) (unit_at s d)
unfolding unit_at
unit_gives s d =
    skip _ _ (is_object_at s d) (λ _. by_number _ _ 0 (2 ^ 47) s 1 (codes "at") d (λ at a. by_number _ _ 0 (2 ^ 40) s 2 (codes "from") d (λ from f. by_number _ _ 1 16777216 s 3 (codes "length") d (λ size l.
    after _ _ (IsHeader s.timed) (header_at s.timed s d) (header_gives s.timed s d) (λ header h.
    record { at = (omega arith, omega (arith, a.1)); from = f.1; some = l.0; length = l.1; key = h.key; priority = h.priority; dependency = h.dependency })))))

-- ---- access units

abbrev BothWithin : ℕ → ℕ × ℕ → Type 0
BothWithin most p = (p.0 ≤ most) × (p.1 ≤ most)

two_has : (most : ℕ) (ds : Items) → Has (BothWithin most) (two_numbers most ds)
two_has most no_items = tt
two_has most (item x no_items) = tt
two_has most (item x (item y no_items)) =
    then_has (Within 0 most) (BothWithin most) (λ a. option_map (λ b. (a, b)) (as_number_in 0 most y)) (λ a w. map_has (Within 0 most) (BothWithin most) (λ b. (a, b)) (λ b v. (w.1, v.1)) (as_number_in 0 most y) (number_in 0 most y)) (as_number_in 0 most x) (number_in 0 most x)
two_has most (item x (item y (item z ds))) = tt

pair_has : (most : ℕ) (d : Data) → Has (BothWithin most) (as_pair_in most d)
unfolding as_pair_in
pair_has most d = then_has (λ (ds : Items). Unit {0}) (BothWithin most) (two_numbers most) (λ ds _. two_has most ds) (as_array d) (any_has (as_array d))

au_gives : (s : Spot) (n : ℕ) (d : Data) → Gives IsRightAu (au_at s n d)
unfolding au_at
au_gives s n d = there IsRightAu _ _ (map_has (BothWithin 65535) IsRightAu au_of (λ p w. record { dts_pts = omega (arith, w.0); pts = omega (arith, w.1) }) (as_pair_in 65535 d) (pair_has 65535 d))

-- ---- MPUs

fits : (timed : Bool) (n : ℕ) → n ≤ most_aus timed → FitsAus timed n
fits true n le = le
fits false n le = omega arith

mpu_gives : (s : Spot) (d : Data) → Gives (IsRightMpu s.start s.timed) (mpu_of s d)
unfolding mpu_of
mpu_gives s d =
    skip _ _ (is_object_at s d) (λ _. by_number _ _ 0 (2 ^ 32 - 1) s 1 (codes "number") d (λ number n. by_number _ _ 0 (2 ^ 64 - 1) s 2 (codes "time") d (λ time t. by_number _ _ 0 65535 s 3 (codes "decoding_offset") d (λ offset o.
    after _ _ _ (list_at au_at 0 (most_aus s.timed) s 4 (codes "aus") d) (list_gives IsRightAu au_at 0 (most_aus s.timed) s (au_gives s) 4 (codes "aus") d) (λ aus a.
    after _ _ _ (list_from_at unit_in 1 s 5 (codes "units") d) (list_from_gives (IsRightUnit s.start s.timed) unit_in 1 s (λ k e. unit_gives _ e) 5 (codes "units") d) (λ units u. skip _ _ (no_other_at s mpu_keys d) (λ _.
    record { number = omega (arith, n.1); time = omega (arith, t.1); decoding_offset = omega (arith, o.1); few = fits s.timed (length aus) a.1.1; aus = a.0; some = u.1; units = u.0 })))))))

-- ---- assets

kind_has : (text : List ℕ) → Has IsKind (kind_in text)
kind_has [] = tt
kind_has (a ∷ []) = tt
kind_has (a ∷ b ∷ []) = tt
kind_has (a ∷ b ∷ c ∷ []) = tt
kind_has (a ∷ b ∷ c ∷ d ∷ []) =
    chosen IsKind (is_printed a && is_printed b && is_printed c && is_printed d) (a * 16777216 + b * 65536 + c * 256 + d) (λ t.
    let r = and_parts (is_printed a && is_printed b && is_printed c) (is_printed d) t in
    let q = and_parts (is_printed a && is_printed b) (is_printed c) r.0 in
    let p = and_parts (is_printed a) (is_printed b) q.0 in
    four a b c d p.0 p.1 q.1 r.1)
kind_has (a ∷ b ∷ c ∷ d ∷ e ∷ more) = tt

kind_gives : (s : Spot) (d : Data) → Gives IsKind (kind_at s d)
unfolding kind_at
kind_gives s d = right_gives IsKind (λ v. option_and_then kind_in (as_str v)) (λ v. then_has (λ (t : List ℕ). Unit {0}) IsKind kind_in (λ t _. kind_has t) (as_str v) (any_has (as_str v))) s 3 (codes "type") d

-- an asset is right by itself, and the names of files with its own are names
record IsAssetRead (start : ℕ) (files : List (List ℕ)) (x : Asset × List (List ℕ)) : Type 0 where
  alone : IsAssetAlone start (length x.1) x.0
  names : All IsFileName files → All IsFileName x.1
  more : length files ≤ length x.1

asset_gives : (s : Spot) (files : List (List ℕ)) (d : Data) → Gives (IsAssetRead s.start files) (asset_of s files d)
unfolding asset_of
asset_gives s files d =
    skip _ _ (is_object_at s d) (λ _. by_number _ _ 1 65535 s 1 (codes "packet_id") d (λ packet_id i. by_text _ _ 1 255 s 2 (codes "id") d (λ id t. after _ _ IsKind (kind_at s d) (kind_gives s d) (λ kind k. skip _ _ (boolean_at s 4 (codes "timed") d) (λ timed.
    by_number _ _ 1 (2 ^ 32 - 1) s 5 (codes "timescale") d (λ timescale m. by_text _ _ 1 255 s 6 (codes "file") d (λ file f.
    after _ _ _ (list_from_at mpu_at 1 (record s { timed = timed }) 7 (codes "mpus") d) (list_from_gives (IsRightMpu s.start timed) mpu_at 1 (record s { timed = timed }) (λ n e. mpu_gives _ e) 7 (codes "mpus") d) (λ mpus u. skip _ _ (no_other_at s asset_keys d) (λ _.
    record {
      alone = record {
        mpus = u.0;
        right = λ numbers. record {
          id_some = t.0;
          id = t.1;
          packet_id_some = i.0;
          packet_id = omega (arith, i.1);
          kind = k;
          timescale_some = m.0;
          timescale = omega (arith, m.1);
          file = placed file files;
          some = u.1;
          mpus = u.0;
          numbers = numbers;
        };
      };
      names = λ all. named file files (record { some = f.0; short = f.1 }) all;
      more = kept file files;
    })))))))))

-- it is so with more files
more_files : (start n m : ℕ) (a : Asset) → n ≤ m → IsAssetAlone start n a → IsAssetAlone start m a
more_files start n m a le alone = record {
  mpus = alone.mpus;
  right = λ numbers. let r : IsRightAsset start n a = alone.right numbers in record {
    id_some = r.id_some;
    id = r.id;
    packet_id_some = r.packet_id_some;
    packet_id = r.packet_id;
    kind = r.kind;
    timescale_some = r.timescale_some;
    timescale = r.timescale;
    file = omega (arith, r.file, le);
    some = r.some;
    mpus = r.mpus;
    numbers = r.numbers;
  };
}

-- so are assets, each by the names of files after it
record AreAssetsRead (start : ℕ) (files : List (List ℕ)) (many : ℕ) (x : List Asset × List (List ℕ)) : Type 0 where
  alone : All (IsAssetAlone start (length x.1)) x.0
  names : All IsFileName files → All IsFileName x.1
  more : length files ≤ length x.1
  count : length x.0 ≡ many

module _ (s : Spot) where
  with_first : (files : List (List ℕ)) (n : ℕ) (d : Data) (ds : Items) → each_with (asset_at s) files n (item d ds) ≡ (asset_at s files n d >>= λ (x : Asset × List (List ℕ)). each_with (asset_at s) x.1 (n + 1) ds >>= λ (xs : List Asset × List (List ℕ)). Ok (x.0 ∷ xs.0, xs.1))
  unfolding each_with
  with_first files n d ds = refl

  with_none : (files : List (List ℕ)) (n : ℕ) → each_with (asset_at s) files n no_items ≡ Ok ([], files)
  unfolding each_with
  with_none files n = refl

  joined : (files : List (List ℕ)) (count : ℕ) (x : Asset × List (List ℕ)) (xs : List Asset × List (List ℕ)) → IsAssetRead s.start files x → AreAssetsRead s.start x.1 count xs → AreAssetsRead s.start files (suc count) (x.0 ∷ xs.0, xs.1)
  joined files count x xs one all = record {
    alone = All-cons (IsAssetAlone s.start (length xs.1)) x.0 xs.0 (more_files s.start (length x.1) (length xs.1) x.0 all.more one.alone) all.alone;
    names = λ h. all.names (one.names h);
    more = omega (arith, one.more, all.more);
    count = ap suc all.count;
  }

  each_asset : (files : List (List ℕ)) (n : ℕ) (ds : Items) → Gives (AreAssetsRead s.start files (items_len ds)) (each_with (asset_at s) files n ds)
  each_asset files n no_items =
      subst (Gives (AreAssetsRead s.start files 0)) (sym (with_none files n)) (record { alone = All-nil (IsAssetAlone s.start (length files)); names = λ h. h; more = omega arith; count = refl })
  each_asset files n (item d ds) =
      subst (Gives (AreAssetsRead s.start files (suc (items_len ds)))) (sym (with_first files n d ds))
      (after _ _ (IsAssetRead s.start files) (asset_at s files n d) (asset_gives _ files d)
      (λ (x : Asset × List (List ℕ)) one. after _ _ (AreAssetsRead s.start x.1 (items_len ds)) (each_with (asset_at s) x.1 (n + 1) ds) (each_asset x.1 (n + 1) ds) (λ (xs : List Asset × List (List ℕ)) all. joined files (items_len ds) x xs one all)))

-- the assets of a plan
record AreAssets (start : ℕ) (x : List Asset × List (List ℕ)) : Type 0 where
  alone : All (IsAssetAlone start (length x.1)) x.0
  names : All IsFileName x.1
  some : 1 ≤ length x.0
  few : length x.0 ≤ 255

assets_gives : (s : Spot) (d : Data) → Gives (AreAssets s.start) (assets_at s d)
unfolding assets_at
assets_gives s d =
    after _ _ (λ ds. Within 1 255 (items_len ds)) (array_at 1 255 s 13 (codes "assets") d) (array_gives 1 255 s 13 (codes "assets") d)
    (λ ds w. weaker _ _ (each_with (asset_at s) [] 0 ds) (each_asset s [] 0 ds)
    (λ x all. record { alone = all.alone; names = all.names (All-nil IsFileName); some = omega (arith, w.0, all.count); few = omega (arith, w.1, all.count) }))

-- ---- signalling messages

names_gives : (s : Spot) (d : Data) → Gives AreRising (names_at s d)
unfolding names_at
names_gives s d = skip _ _ (list_from_at pair_at 0 s 3 (codes "names") d) (λ names. picked AreRising (rises_after None names) names _ (rising names))

message_gives : (table : Bool) (start : ℕ) (at : LongTick) (s : Spot) (d : Data) → IsFrom start at → Gives (IsSignalAlone start) (message_of table at s d)
unfolding parameters_of table_of
message_gives true start at s d from = after _ _ AreRising (names_at s d) (names_gives s d) (λ names r. skip _ _ (no_other_at s _ d) (λ _. (from, r)))
message_gives false start at s d from = skip _ _ (no_other_at s _ d) (λ _. from)

signal_gives : (s : Spot) (d : Data) → Gives (IsSignalAlone s.start) (signal_of s d)
unfolding signal_of
signal_gives s d =
    skip _ _ (is_object_at s d) (λ _. by_number _ _ 0 (2 ^ 47) s 1 (codes "at") d (λ at a. skip _ _ (is_table_at s d) (λ table.
    message_gives table s.start (record { 0 = s.start + at }) s d (omega arith, omega (arith, a.1)))))

-- ---- the plan itself

flow_has : (text : List ℕ) → Has IsRightFlow (flow_in text)
unfolding flow_in
flow_has text =
    chosen IsRightFlow (is_in_range (flow_from text) && bytes_eq text (flow_text (flow_from text))) (flow_from text) (λ t.
    let r = range_of (flow_from text) (and_parts (is_in_range (flow_from text)) (bytes_eq text (flow_text (flow_from text))) t).0 in
    record { address = r.address; port_some = r.port_low; port = r.port_high; no_ntp = r.not_ntp })

flow_gives : (s : Spot) (field : ℕ) (name : List ℕ) (d : Data) → Gives IsRightFlow (flow_at s field name d)
unfolding flow_at
flow_gives s field name d = right_gives IsRightFlow as_flow (λ m. then_has (λ (t : List ℕ). Unit {0}) IsRightFlow flow_in (λ t _. flow_has t) (as_str m) (any_has (as_str m))) s field name d

sending_gives : (s : Spot) (d : Data) → Gives IsRightSending (sending_at s d)
unfolding sending_at
sending_gives s d =
    after _ _ IsRightFlow (flow_at s 1 (codes "flow") d) (flow_gives s 1 (codes "flow") d) (λ flow f. after _ _ IsRightFlow (flow_at s 2 (codes "source") d) (flow_gives s 2 (codes "source") d) (λ source o.
    by_number _ _ 0 4095 s 3 (codes "context") d (λ context c. by_number _ _ 0 65535 s 4 (codes "full_every") d (λ every e. by_number _ _ 64 60000 s 5 (codes "limit") d (λ limit l. by_number _ _ 0 65535 s 6 (codes "spacing") d (λ spacing p.
    record { flow = f; source = o; context = c.1; full_every = e.1; limit_low = l.0; limit = l.1; spacing = p.1 }))))))

params_gives : (s : Spot) (d : Data) → Gives IsRightParams (params_at s d)
unfolding params_at
params_gives s d =
    by_number _ _ 0 (2 ^ 32 - 1) s 8 (codes "bound") d (λ bound b. by_number _ _ 0 (2 ^ 32 - 1) s 9 (codes "window") d (λ window w. by_number _ _ 0 (2 ^ 32 - 1) s 10 (codes "delay") d (λ delay l.
    record { bound = omega (arith, b.1); window = omega (arith, w.1); delay = omega (arith, l.1) })))

programme_gives : (s : Spot) (d : Data) → Gives IsAlone (programme_at s d)
unfolding programme_at
programme_gives s d =
    skip _ _ (is_object_at s d) (λ _. after _ _ IsRightSending (sending_at s d) (sending_gives s d) (λ sending v. by_text _ _ 1 255 s 7 (codes "package") d (λ package_id t.
    after _ _ IsRightParams (params_at s d) (params_gives s d) (λ params p. by_number _ _ 0 (2 ^ 47) s 11 (codes "start") d (λ start b.
    after _ _ _ (list_from_at signal_at 0 (record s { start = start }) 12 (codes "signalling") d) (list_from_gives (IsSignalAlone start) signal_at 0 (record s { start = start }) (λ n e. signal_gives _ e) 12 (codes "signalling") d) (λ signals g.
    after _ _ (AreAssets start) (assets_at (record s { start = start }) d) (assets_gives (record s { start = start }) d) (λ assets a. skip _ _ (no_other_at s top_keys d) (λ _.
    record {
      few = a.few;
      start = start;
      signals = g.0;
      assets = a.alone;
      right = λ known assets_right ids few. record {
        flow = v.flow;
        source = v.source;
        context = v.context;
        full_every = v.full_every;
        limit_low = v.limit_low;
        limit = v.limit;
        spacing = v.spacing;
        package_some = t.0;
        package_id = t.1;
        params = p;
        start = start;
        start_fits = b.1;
        signals = known;
        assets_some = a.some;
        assets_few = a.few;
        assets = assets_right;
        ids = ids;
        files = a.names;
        few_signals = few.signals;
        few_units = few.units;
      };
    }))))))))

agreeing_gives : (p : Programme) → IsAlone p → IsFew p → Gives IsRight (agreeing p)
unfolding agreeing
agreeing_gives p alone few =
    known _ _ (are_ids_once p.assets) (λ _ ids. known _ _ (each_checked are_numbers_once 0 p.assets) (λ _ numbers. known _ _ (each_checked (are_named p.assets) 0 p.signals) (λ _ names.
    agreed_right p alone few ids numbers names)))

-- ---- the bytes of a plan

json_gives : (bytes : List ℕ) → Gives (λ (d : Data). nodes d ≤ length bytes + 1) (json_of bytes)
unfolding json_of json_in
json_gives bytes = there (λ (d : Data). nodes d ≤ length bytes + 1) _ _ (by (is_utf8 bytes))
  where
    by : (b : Bool) → Has (λ (d : Data). nodes d ≤ length bytes + 1) (if b then read bytes else None)
    by true = known_has (λ (d : Data). nodes d ≤ length bytes + 1) (read bytes) (λ d e. read_nodes bytes d e)
    by false = tt

bytes_give : (bytes : List ℕ) → length bytes ≤ 16777216 → Gives IsRight (programme_in bytes)
unfolding programme_in
bytes_give bytes short =
    after _ _ (λ (d : Data). nodes d ≤ length bytes + 1) (json_of bytes) (json_gives bytes) (λ d few. known _ _ (programme_of d) (λ p is.
    agreeing_gives p (subst (Gives IsAlone) is (programme_gives top_spot d)) (programme_is_few d (Ok p) (omega (arith, few, short)) is)))

short_bytes : (seen : Option (List ℕ)) → Gives (λ (bytes : List ℕ). length bytes ≤ 16777216) (bytes_of seen)
unfolding bytes_of
short_bytes None = tt
short_bytes (Some bytes) = unless (λ (xs : List ℕ). length xs ≤ 16777216) (nat_lt 16777216 (length bytes)) bytes _ (λ e. grind (arith, nat_tests))

plan_gives : (seen : Option (List ℕ)) → Gives IsRight (plan seen)
unfolding plan
plan_gives seen = after _ _ (λ (bytes : List ℕ). length bytes ≤ 16777216) (bytes_of seen) (short_bytes seen) (λ bytes short. bytes_give bytes short)

-- each programme that a plan is read as is right
pub plans_are_right : (seen : Option (List ℕ)) (p : Programme) → plan seen ≡ Ok p → IsRight p
plans_are_right seen p is = subst (Gives IsRight) is (plan_gives seen)
