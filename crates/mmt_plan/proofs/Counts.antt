-- A programme has no more units and no more signalling messages than the JSON value of its plan has nodes.
use Rattle.std.proofs.Common.{◌≡◌, ℕ, zero, suc, ◌+◌, ◌-◌, ◌<◌, ◌≤◌, ◌^◌, Bool, true, false, List, [], ◌∷◌, codes, length, get_or, Option, Some, None, option_and_then, Result, Ok, Err, Ordering, Less, Equal, Greater, if◌then◌else◌, refl, sym, subst, arith}
use Rattle.std.specs.Prelude.{IfOk}
use Rattle.std.specs.List.{sum_by}
use Rattle.std.specs.Ordering.{match_ordering, nat_cmp}
use Rattle.std.specs.Cmp.Lexicographic.{slice_cmp}
use Rattle.std.proofs.lemmas.List.Sums.{sum_by-cons}
use Rattle.serde_json.specs.Data.{Data, null, boolean, number, string, array, object, Items, no_items, item, Members, no_members, member}
use Rattle.serde_json.specs.Find.{get, get_member, as_array}
use Rattle.serde_json.specs.View.{view, items_view}
use Rattle.serde_json.specs.declared.value.Value.{Value}
use Rattle.mmt_model.specs.declared.programmes.Asset.{Asset}
use Rattle.mmt_model.specs.declared.programmes.Au.{Au}
use Rattle.mmt_model.specs.declared.programmes.Mpu.{Mpu}
use Rattle.mmt_model.specs.declared.programmes.Params.{Params}
use Rattle.mmt_model.specs.declared.programmes.Programme.{Programme}
use Rattle.mmt_model.specs.declared.programmes.Signal.{Signal}
use Rattle.mmt_model.specs.declared.programmes.Unit as model
use Rattle.mmt_plan.specs.Assets.{kind_at, asset_keys, asset_of, asset_at}
use Rattle.mmt_plan.specs.Aus.{au_at}
use Rattle.mmt_plan.specs.Members.{as_array_of, as_array_from, where_true, is_object_at, member_at, right_member, number_at, text_at, boolean_at, array_at, array_from_at, list_at, list_from_at, no_other_at}
use Rattle.mmt_plan.specs.Mpus.{most_aus, mpu_keys, mpu_of, mpu_at, unit_in}
use Rattle.mmt_plan.specs.Names.{place_of, with_name}
use Rattle.mmt_plan.specs.Nodes.{nodes, item_nodes, member_nodes}
use Rattle.mmt_plan.specs.Reading.{◌>>=◌, each, each_with, IsAnswer}
use Rattle.mmt_model.specs.Right.{units_of_asset}
use Rattle.mmt_plan.specs.Alone.{IsFew}
use Rattle.mmt_plan.specs.Signals.{signal_at}
use Rattle.mmt_plan.specs.Tops.{top_keys, sending_at, params_at, assets_at, programme_at, programme_of, top_spot}
use Rattle.mmt_plan.specs.declared.ends.PlanEnd.{PlanEnd}
use Rattle.mmt_plan.specs.declared.ends.Refusal.{Refusal}
use Rattle.mmt_plan.specs.declared.spots.Spot.{Spot}
use Rattle.mmt_plan.specs.declared.tops.SendingValues.{SendingValues}
use Rattle.mmt_plan.proofs.Gives.{Gives, Has, after, skip, there, answered}

-- how many units the assets have in all
abbrev units_in_all : List Asset → ℕ
units_in_all assets = sum_by units_of_asset assets

some_node : (d : Data) → 1 ≤ nodes d
some_node null = omega arith
some_node (boolean b) = omega arith
some_node (number n) = omega arith
some_node (string s) = omega arith
some_node (array ds) = omega arith
some_node (object ms) = omega arith

-- ---- the members of an object

one_of : (n : ℕ) (o : Ordering) (a b c : Option Data) → Has (λ m. nodes m ≤ n) a → Has (λ m. nodes m ≤ n) b → Has (λ m. nodes m ≤ n) c → Has (λ m. nodes m ≤ n) (match_ordering o a b c)
one_of n Less a b c p q r = p
one_of n Equal a b c p q r = q
one_of n Greater a b c p q r = r

more : (n m : ℕ) → n ≤ m → (o : Option Data) → Has (λ x. nodes x ≤ n) o → Has (λ x. nodes x ≤ m) o
more n m le None h = tt
more n m le (Some x) h = omega arith

member_within : (k : List ℕ) (ms : Members) → Has (λ m. nodes m ≤ member_nodes ms) (get_member k ms)
member_within k no_members = tt
member_within k (member l d ms) =
    let rest : Has (λ m. nodes m ≤ nodes d + member_nodes ms) (get_member k ms) = more (member_nodes ms) (nodes d + member_nodes ms) (omega arith) _ (member_within k ms) in
    one_of (nodes d + member_nodes ms) (slice_cmp nat_cmp k l) (get_member k ms) (Some d) (get_member k ms) rest (omega arith) rest

fewer : (n : ℕ) (o : Option Data) → Has (λ x. nodes x ≤ n) o → Has (λ x. nodes x < 1 + n) o
fewer n None h = tt
fewer n (Some x) h = omega arith

within : (k : List ℕ) (d : Data) → Has (λ m. nodes m < nodes d) (get k d)
within k null = tt
within k (boolean b) = tt
within k (number n) = tt
within k (string s) = tt
within k (array ds) = tt
within k (object ms) = fewer (member_nodes ms) _ (member_within k ms)

member_at_within : (s : Spot) (field : ℕ) (name : List ℕ) (d : Data) → Gives (λ m. nodes m < nodes d) (member_at s field name d)
unfolding member_at
member_at_within s field name d = there (λ m. nodes m < nodes d) _ _ (within name d)

-- ---- a member that is an array

where_so : {A : Type 0} (P : A → Type 0) (test : A → Bool) (o : Option A) → Has P o → Has P (option_and_then (where_true test) o)
where_so P test None h = tt
where_so P test (Some x) h = by (test x)
  where
    by : (b : Bool) → Has P (if b then Some x else None)
    by true = h
    by false = tt

items_of : (d : Data) → Has (λ ds. item_nodes ds < nodes d) (as_array d)
items_of null = tt
items_of (boolean b) = tt
items_of (number n) = tt
items_of (string s) = tt
items_of (array ds) = omega arith
items_of (object ms) = tt

less : (n m : ℕ) → n < m → (o : Option Items) → Has (λ ds. item_nodes ds < n) o → Has (λ ds. item_nodes ds < m) o
less n m lt None h = tt
less n m lt (Some x) h = omega arith

array_by : (as_right : Data → Option Items) → ((d : Data) → Has (λ ds. item_nodes ds < nodes d) (as_right d)) → (s : Spot) (field : ℕ) (name : List ℕ) (d : Data) → Gives (λ ds. item_nodes ds < nodes d) (right_member as_right s field name d)
array_by as_right h s field name d =
    after _ _ (λ m. nodes m < nodes d) (member_at s field name d) (member_at_within s field name d) (λ m lt. there (λ ds. item_nodes ds < nodes d) _ _ (less (nodes m) (nodes d) lt _ (h m)))

pub array_within : (least most : ℕ) (s : Spot) (field : ℕ) (name : List ℕ) (d : Data) → Gives (λ ds. item_nodes ds < nodes d) (array_at least most s field name d)
unfolding array_at
array_within least most s field name d = array_by (as_array_of least most) (λ m. where_so (λ ds. item_nodes ds < nodes m) _ (as_array m) (items_of m)) s field name d

pub array_from_within : (least : ℕ) (s : Spot) (field : ℕ) (name : List ℕ) (d : Data) → Gives (λ ds. item_nodes ds < nodes d) (array_from_at least s field name d)
unfolding array_from_at
array_from_within least s field name d = array_by (as_array_from least) (λ m. where_so (λ ds. item_nodes ds < nodes m) _ (as_array m) (items_of m)) s field name d

-- the items of the array that a member is are fewer than the nodes of its object
pub through : (s : Spot) (field : ℕ) (name : List ℕ) (d m : Data) (ds : Items) → Ok m ≡ member_at s field name d → Some ds ≡ as_array m → item_nodes ds < nodes d
through s field name d m ds is are =
    let one : nodes m < nodes d = subst (Gives (λ x. nodes x < nodes d)) (sym is) (member_at_within s field name d) in
    let two : item_nodes ds < nodes m = subst (Has (λ xs. item_nodes xs < nodes m)) (sym are) (items_of m) in
    omega arith

-- ---- the items of an array

pub length_within : (vs : List Value) → length vs ≤ item_nodes (items_view vs)
length_within [] = omega arith
length_within (v ∷ vs) = omega (arith, some_node (view v), length_within vs)

place_within : (vs : List Value) (i : ℕ) (v : Value) → i < length vs → nodes (view (get_or vs i v)) ≤ item_nodes (items_view vs)
place_within [] i v lt = absurd (omega arith)
place_within (w ∷ vs) zero v lt = omega arith
place_within (w ∷ vs) (suc i) v lt = omega (arith, place_within vs i v (omega arith))

pub item_within : (vs : List Value) (i : ℕ) (v : Value) → i < length vs → v ≡ get_or vs i v → nodes (view v) ≤ item_nodes (items_view vs)
item_within vs i v lt is = subst (λ w. nodes (view w) ≤ item_nodes (items_view vs)) (sym is) (place_within vs i v lt)

module _ {A : Type 0} (read : ℕ → Data → Result A Refusal) where
  each_first : (n : ℕ) (d : Data) (ds : Items) → each read n (item d ds) ≡ (read n d >>= λ x. each read (n + 1) ds >>= λ xs. Ok (x ∷ xs))
  unfolding each
  each_first n d ds = refl

  each_none : (n : ℕ) → each read n no_items ≡ Ok []
  unfolding each
  each_none n = refl

  pub each_length : (n : ℕ) (ds : Items) → Gives (λ xs. length xs ≤ item_nodes ds) (each read n ds)
  each_length n no_items = subst (Gives (λ xs. length xs ≤ 0)) (sym (each_none n)) (omega arith)
  each_length n (item d ds) =
      subst (Gives (λ xs. length xs ≤ nodes d + item_nodes ds)) (sym (each_first n d ds))
      (skip _ _ (read n d) (λ x. after _ _ (λ xs. length xs ≤ item_nodes ds) (each read (n + 1) ds) (each_length (n + 1) ds) (λ xs le. omega (arith, some_node d))))

  pub each_sum : (f : A → ℕ) → ((n : ℕ) (d : Data) → Gives (λ x. f x ≤ nodes d) (read n d)) → (n : ℕ) (ds : Items) → Gives (λ xs. sum_by f xs ≤ item_nodes ds) (each read n ds)
  each_sum f h n no_items = subst (Gives (λ xs. sum_by f xs ≤ 0)) (sym (each_none n)) (omega arith)
  each_sum f h n (item d ds) =
      subst (Gives (λ xs. sum_by f xs ≤ nodes d + item_nodes ds)) (sym (each_first n d ds))
      (after _ _ (λ x. f x ≤ nodes d) (read n d) (h n d) (λ x one. after _ _ (λ xs. sum_by f xs ≤ item_nodes ds) (each read (n + 1) ds) (each_sum f h (n + 1) ds) (λ xs le. omega (arith, sum_by-cons f x xs))))

module _ {S A : Type 0} (read : S → ℕ → Data → Result (A × S) Refusal) (f : A → ℕ) (h : (state : S) (n : ℕ) (d : Data) → Gives (λ (x : A × S). f x.0 ≤ nodes d) (read state n d)) where
  with_first : (state : S) (n : ℕ) (d : Data) (ds : Items) → each_with read state n (item d ds) ≡ (read state n d >>= λ (x : A × S). each_with read x.1 (n + 1) ds >>= λ (xs : List A × S). Ok (x.0 ∷ xs.0, xs.1))
  unfolding each_with
  with_first state n d ds = refl

  with_none : (state : S) (n : ℕ) → each_with read state n no_items ≡ Ok ([], state)
  unfolding each_with
  with_none state n = refl

  pub each_with_sum : (state : S) (n : ℕ) (ds : Items) → Gives (λ (xs : List A × S). sum_by f xs.0 ≤ item_nodes ds) (each_with read state n ds)
  each_with_sum state n no_items = subst (Gives (λ (xs : List A × S). sum_by f xs.0 ≤ 0)) (sym (with_none state n)) (omega arith)
  each_with_sum state n (item d ds) =
      subst (Gives (λ (xs : List A × S). sum_by f xs.0 ≤ nodes d + item_nodes ds)) (sym (with_first state n d ds))
      (after _ _ (λ (x : A × S). f x.0 ≤ nodes d) (read state n d) (h state n d)
      (λ (x : A × S) one. after _ _ (λ (xs : List A × S). sum_by f xs.0 ≤ item_nodes ds) (each_with read x.1 (n + 1) ds) (each_with_sum x.1 (n + 1) ds) (λ (xs : List A × S) le. omega (arith, sum_by-cons f x.0 xs.0))))

-- ---- the lists of a plan

shorter : {A : Type 0} (n m : ℕ) (r : Result (List A) Refusal) → Gives (λ xs. length xs ≤ n) r → n < m → Gives (λ xs. length xs < m) r
shorter n m (Ok xs) h lt = omega arith
shorter n m (Err e) h lt = tt

lower : {A : Type 0} (f : A → ℕ) (n m : ℕ) (r : Result (List A) Refusal) → Gives (λ xs. sum_by f xs ≤ n) r → n < m → Gives (λ xs. sum_by f xs ≤ m) r
lower f n m (Ok xs) h lt = omega arith
lower f n m (Err e) h lt = tt

lower_first : {S : Type 0} (n m : ℕ) (r : Result (List Asset × S) Refusal) → Gives (λ (x : List Asset × S). sum_by units_of_asset x.0 ≤ n) r → n < m → Gives (λ (x : List Asset × S). units_in_all x.0 < m) r
lower_first n m (Ok xs) h lt = omega arith
lower_first n m (Err e) h lt = tt

list_length : {A : Type 0} (read : Spot → ℕ → Data → Result A Refusal) (least : ℕ) (s : Spot) (field : ℕ) (name : List ℕ) (d : Data) → Gives (λ xs. length xs < nodes d) (list_from_at read least s field name d)
unfolding list_from_at
list_length read least s field name d =
    after _ _ (λ ds. item_nodes ds < nodes d) (array_from_at least s field name d) (array_from_within least s field name d)
    (λ ds lt. shorter (item_nodes ds) (nodes d) _ (each_length (read s) 0 ds) lt)

list_sum : {A : Type 0} (read : Spot → ℕ → Data → Result A Refusal) (f : A → ℕ) → ((s : Spot) (n : ℕ) (d : Data) → Gives (λ x. f x ≤ nodes d) (read s n d))
    → (least : ℕ) (s : Spot) (field : ℕ) (name : List ℕ) (d : Data) → Gives (λ xs. sum_by f xs ≤ nodes d) (list_from_at read least s field name d)
unfolding list_from_at
list_sum read f h least s field name d =
    after _ _ (λ ds. item_nodes ds < nodes d) (array_from_at least s field name d) (array_from_within least s field name d)
    (λ ds lt. lower f (item_nodes ds) (nodes d) _ (each_sum (read s) f (h s) 0 ds) lt)

abbrev units_in_mpu : Mpu → ℕ
units_in_mpu m = length m.units

mpu_by : (n : ℕ) (r1 : Result (Unit {0}) Refusal) (r2 r3 r4 : Result ℕ Refusal) (r5 : Result (List Au) Refusal) (r6 : Result (List model.Unit) Refusal) (r7 : Result (Unit {0}) Refusal) → Gives (λ us. length us < n) r6
    → Gives (λ (m : Mpu). units_in_mpu m ≤ n) (do
      _ ← r1
      n2 ← r2
      time ← r3
      decoding_offset ← r4
      aus ← r5
      units ← r6
      _ ← r7
      Ok (record { number = n2; time = record { 0 = time }; decoding_offset = decoding_offset; aus = aus; units = units }))
mpu_by n (Err e) r2 r3 r4 r5 r6 r7 h = tt
mpu_by n (Ok a) (Err e) r3 r4 r5 r6 r7 h = tt
mpu_by n (Ok a) (Ok b) (Err e) r4 r5 r6 r7 h = tt
mpu_by n (Ok a) (Ok b) (Ok c) (Err e) r5 r6 r7 h = tt
mpu_by n (Ok a) (Ok b) (Ok c) (Ok d) (Err e) r6 r7 h = tt
mpu_by n (Ok a) (Ok b) (Ok c) (Ok d) (Ok f) (Err e) r7 h = tt
mpu_by n (Ok a) (Ok b) (Ok c) (Ok d) (Ok f) (Ok g) (Err e) h = tt
mpu_by n (Ok a) (Ok b) (Ok c) (Ok d) (Ok f) (Ok g) (Ok i) h = omega arith

mpu_within : (s : Spot) (d : Data) → Gives (λ (m : Mpu). units_in_mpu m ≤ nodes d) (mpu_of s d)
unfolding mpu_of
mpu_within s d =
    mpu_by (nodes d) (is_object_at s d) (number_at 0 (2 ^ 32 - 1) s 1 (codes "number") d) (number_at 0 (2 ^ 64 - 1) s 2 (codes "time") d) (number_at 0 65535 s 3 (codes "decoding_offset") d) (list_at au_at 0 (most_aus s.timed) s 4 (codes "aus") d)
    (list_from_at unit_in 1 s 5 (codes "units") d) (no_other_at s mpu_keys d) (list_length unit_in 1 s 5 (codes "units") d)

asset_by : (n : ℕ) (files : List (List ℕ)) (r1 : Result (Unit {0}) Refusal) (r2 : Result ℕ Refusal) (r3 : Result (List ℕ) Refusal) (r4 : Result ℕ Refusal) (r5 : Result Bool Refusal) (r6 : Result ℕ Refusal) (r7 : Result (List ℕ) Refusal) (r8 : Bool → Result (List Mpu) Refusal) (r9 : Result (Unit {0}) Refusal)
    → ((t : Bool) → Gives (λ ms. sum_by units_in_mpu ms ≤ n) (r8 t))
    → Gives (λ (x : Asset × List (List ℕ)). units_of_asset x.0 ≤ n) (do
      _ ← r1
      packet_id ← r2
      id ← r3
      kind ← r4
      timed ← r5
      timescale ← r6
      file ← r7
      mpus ← r8 timed
      _ ← r9
      Ok (record { packet_id = packet_id; id = id; kind = kind; timed = timed; timescale = timescale; file = place_of file files; mpus = mpus }, with_name file files))
asset_by n files (Err e) r2 r3 r4 r5 r6 r7 r8 r9 h = tt
asset_by n files (Ok a) (Err e) r3 r4 r5 r6 r7 r8 r9 h = tt
asset_by n files (Ok a) (Ok b) (Err e) r4 r5 r6 r7 r8 r9 h = tt
asset_by n files (Ok a) (Ok b) (Ok c) (Err e) r5 r6 r7 r8 r9 h = tt
asset_by n files (Ok a) (Ok b) (Ok c) (Ok d) (Err e) r6 r7 r8 r9 h = tt
asset_by n files (Ok a) (Ok b) (Ok c) (Ok d) (Ok t) (Err e) r7 r8 r9 h = tt
asset_by n files (Ok a) (Ok b) (Ok c) (Ok d) (Ok t) (Ok g) (Err e) r8 r9 h = tt
asset_by n files (Ok a) (Ok b) (Ok c) (Ok d) (Ok t) (Ok g) (Ok file) r8 r9 h = last (r8 t) r9 (h t)
  where
    last : (r : Result (List Mpu) Refusal) (r9 : Result (Unit {0}) Refusal) → Gives (λ ms. sum_by units_in_mpu ms ≤ n) r
        → Gives (λ (x : Asset × List (List ℕ)). units_of_asset x.0 ≤ n) (do
          mpus ← r
          _ ← r9
          Ok (record { packet_id = b; id = c; kind = d; timed = t; timescale = g; file = place_of file files; mpus = mpus }, with_name file files))
    last (Err e) r9 h = tt
    last (Ok ms) (Err e) h = tt
    last (Ok ms) (Ok x) h = h

asset_within : (s : Spot) (files : List (List ℕ)) (d : Data) → Gives (λ (x : Asset × List (List ℕ)). units_of_asset x.0 ≤ nodes d) (asset_of s files d)
unfolding asset_of
asset_within s files d =
    asset_by (nodes d) files (is_object_at s d) (number_at 1 65535 s 1 (codes "packet_id") d) (text_at 1 255 s 2 (codes "id") d) (kind_at s d) (boolean_at s 4 (codes "timed") d) (number_at 1 (2 ^ 32 - 1) s 5 (codes "timescale") d) (text_at 1 255 s 6 (codes "file") d)
    (λ timed. list_from_at mpu_at 1 (record s { timed = timed }) 7 (codes "mpus") d) (no_other_at s asset_keys d) (λ timed. list_sum mpu_at units_in_mpu (λ t n e. mpu_within _ e) 1 (record s { timed = timed }) 7 (codes "mpus") d)

assets_by : (n : ℕ) (r : Result Items Refusal) (f : Items → Result (List Asset × List (List ℕ)) Refusal) → Gives (λ ds. item_nodes ds < n) r → ((ds : Items) → Gives (λ (x : List Asset × List (List ℕ)). sum_by units_of_asset x.0 ≤ item_nodes ds) (f ds))
    → Gives (λ (x : List Asset × List (List ℕ)). units_in_all x.0 < n) (r >>= f)
assets_by n (Err e) f h k = tt
assets_by n (Ok ds) f h k = lower_first (item_nodes ds) n (f ds) (k ds) h

assets_within : (s : Spot) (d : Data) → Gives (λ (x : List Asset × List (List ℕ)). units_in_all x.0 < nodes d) (assets_at s d)
unfolding assets_at
assets_within s d =
    assets_by (nodes d) (array_at 1 255 s 13 (codes "assets") d) (λ ds. each_with (asset_at s) [] 0 ds) (array_within 1 255 s 13 (codes "assets") d)
    (λ ds. each_with_sum (asset_at s) units_of_asset (λ files n e. asset_within _ files e) [] 0 ds)

abbrev fewer_than : ℕ → Programme → Type 0
fewer_than n p = (length p.signals < n) × (units_in_all p.assets < n)

programme_by : (n : ℕ) (r1 : Result (Unit {0}) Refusal) (r2 : Result SendingValues Refusal) (r3 : Result (List ℕ) Refusal) (r4 : Result Params Refusal) (r5 : Result ℕ Refusal) (r6 : ℕ → Result (List Signal) Refusal) (r7 : ℕ → Result (List Asset × List (List ℕ)) Refusal) (r8 : Result (Unit {0}) Refusal)
    → ((t : ℕ) → Gives (λ xs. length xs < n) (r6 t)) → ((t : ℕ) → Gives (λ (x : List Asset × List (List ℕ)). units_in_all x.0 < n) (r7 t))
    → Gives (fewer_than n) (do
      _ ← r1
      sending ← r2
      package_id ← r3
      params ← r4
      start ← r5
      signals ← r6 start
      assets ← r7 start
      _ ← r8
      Ok (record { flow = sending.flow; source = sending.source; context = sending.context; full_every = sending.full_every; limit = sending.limit; spacing = sending.spacing; «package» = package_id; params = params; signals = signals; assets = assets.0; files = assets.1 }))
programme_by n (Err e) r2 r3 r4 r5 r6 r7 r8 h k = tt
programme_by n (Ok a) (Err e) r3 r4 r5 r6 r7 r8 h k = tt
programme_by n (Ok a) (Ok b) (Err e) r4 r5 r6 r7 r8 h k = tt
programme_by n (Ok a) (Ok b) (Ok c) (Err e) r5 r6 r7 r8 h k = tt
programme_by n (Ok a) (Ok b) (Ok c) (Ok d) (Err e) r6 r7 r8 h k = tt
programme_by n (Ok a) (Ok b) (Ok c) (Ok d) (Ok t) r6 r7 r8 h k = last (r6 t) (r7 t) r8 (h t) (k t)
  where
    last : (r : Result (List Signal) Refusal) (s : Result (List Asset × List (List ℕ)) Refusal) (r8 : Result (Unit {0}) Refusal) → Gives (λ xs. length xs < n) r → Gives (λ (x : List Asset × List (List ℕ)). units_in_all x.0 < n) s
        → Gives (fewer_than n) (do
          signals ← r
          assets ← s
          _ ← r8
          Ok (record { flow = b.flow; source = b.source; context = b.context; full_every = b.full_every; limit = b.limit; spacing = b.spacing; «package» = c; params = d; signals = signals; assets = assets.0; files = assets.1 }))
    last (Err e) s r8 h k = tt
    last (Ok xs) (Err e) r8 h k = tt
    last (Ok xs) (Ok ys) (Err e) h k = tt
    last (Ok xs) (Ok ys) (Ok x) h k = (h, k)

programme_within : (s : Spot) (d : Data) → Gives (fewer_than (nodes d)) (programme_at s d)
unfolding programme_at
programme_within s d =
    programme_by (nodes d) (is_object_at s d) (sending_at s d) (text_at 1 255 s 7 (codes "package") d) (params_at s d) (number_at 0 (2 ^ 47) s 11 (codes "start") d)
    (λ start. list_from_at signal_at 0 (record s { start = start }) 12 (codes "signalling") d) (λ start. assets_at (record s { start = start }) d) (no_other_at s top_keys d)
    (λ start. list_length signal_at 0 (record s { start = start }) 12 (codes "signalling") d) (λ start. assets_within (record s { start = start }) d)

few : (n : ℕ) → n < 2 ^ 32 → (r : Result Programme Refusal) → Gives (fewer_than n) r → Gives IsFew r
few n lt (Ok p) h = record { signals = let a = h.0 in omega arith; units = let a = h.1 in omega arith }
few n lt (Err e) h = tt

-- the programme of a plan with fewer than 2^32 nodes is few
pub programme_is_few : (d : Data) (r : Result Programme PlanEnd) → nodes d < 2 ^ 32 → IsAnswer (programme_of d) r → IfOk r IsFew
programme_is_few d r lt is = answered IsFew (programme_of d) r (few (nodes d) lt (programme_of d) (programme_within top_spot d)) is
