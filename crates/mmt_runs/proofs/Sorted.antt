-- The due units stand in their order.
use Rattle.std.proofs.Common.{◌≡◌, ℕ, ◌+◌, ◌<◌, Bool, true, false, ◌&&◌, ◌==◌, cond, List, [], ◌∷◌, ◌++◌, map, length, refl, ◌∙◌, arith, filter, Option, Some, None, ◌⊎◌, ⊎_elim}
use Rattle.std.specs.List.{flat_map}
use Rattle.std.proofs.lemmas.Bool.Decides.{nat_tests}
use Rattle.mmt_base.specs.Ticks.{low, is_passed, due_of}
use Rattle.mmt_model.specs.Packets.{Heard, Payload, DataUnit}
use Rattle.mmt_model.specs.declared.keys.UnitKey.{UnitKey}
use Rattle.mmt_model.specs.declared.keys.UnitKey.TheVariants as keys
use Rattle.mmt_model.specs.declared.keys.Part.TheVariants as parts
use Rattle.mmt_model.specs.Sorted.{insert_by, sort_by}
use Rattle.mmt_model.specs.Entries.{Entry}
use Rattle.mmt_model.specs.Handing.{Presentation, key_numbers, precedes, order_numbers, is_presented_before, presentations_by, named_units, due_units, time_of}
use Rattle.mmt_model.specs.Units.{units_of, MediaUnit, units_by, whole_units, unit_from, joined_unit, rest_of_run, media_link, next_number}
use Rattle.mmt_model.proofs.Preceding.{before-one_way, before-through, before-either}
use Rattle.mmt_times.specs.Known.{Known}
use Rattle.mmt_pool.specs.Holding.{Kept, IsInOrder}
use Rattle.mmt_pool.specs.Holding.{is_before as stands_before}
use Rattle.mmt_runs.specs.Reading.{heard}
use Rattle.mmt_runs.proofs.Rising.{Each, Rising, order_rising}

each_append : {X : Type 0} (P : X → Type 0) (xs ys : List X) → Each P xs → Each P ys → Each P (xs ++ ys)
each_append P [] ys a b = b
each_append P (x ∷ xs) ys a b = (a.0, each_append P xs ys a.1 b)

each_map : {X : Type 0} (P Q : X → Type 0) (xs : List X) → ((x : X) → P x → Q x) → Each P xs → Each Q xs
each_map P Q [] f h = tt
each_map P Q (x ∷ xs) f h = (f x h.0, each_map P Q xs f h.1)

rising_append : {X : Type 0} (b : X → X → Bool) (xs ys : List X) → Rising b xs → Rising b ys → Each (λ x. Each (λ y. b x y ≡ true) ys) xs → Rising b (xs ++ ys)
rising_append b [] ys r s h = s
rising_append b (x ∷ xs) ys r s h = (each_append (λ y. b x y ≡ true) xs ys r.0 h.0, rising_append b xs ys r.1 s h.1)

-- the order of packets, and places in them
unfoldable pub comes_first : MediaUnit → MediaUnit → Bool
comes_first u v = precedes (u.packet_id ∷ u.number ∷ u.place ∷ []) (v.packet_id ∷ v.number ∷ v.place ∷ [])

later_place : (u v : MediaUnit) → u.packet_id ≡ v.packet_id → u.number ≡ v.number → u.place < v.place → comes_first u v ≡ true
unfolding comes_first precedes
later_place u v a b l = grind (arith, nat_tests)

later_packet : (u v : MediaUnit) (p q : Kept) → u.packet_id ≡ p.packet_id → u.number ≡ p.number → v.packet_id ≡ q.packet_id → v.number ≡ q.number → stands_before p q ≡ true → comes_first u v ≡ true
unfolding comes_first precedes stands_before
later_packet u v p q a b c d l = grind (arith, nat_tests)

each_whole : (p : Heard) (mpu : ℕ) (u : MediaUnit) (place : ℕ) (pieces : List DataUnit) → u.packet_id ≡ p.packet_id → u.number ≡ p.number → u.place < place → Each (λ v. comes_first u v ≡ true) (whole_units p mpu place pieces)
unfolding whole_units unit_from
each_whole p mpu u place [] a b l = tt
each_whole p mpu u place (piece ∷ pieces) a b l = (later_place u (unit_from p mpu place piece piece.bytes) a b l, each_whole p mpu u (place + 1) pieces a b (omega arith))

rising_whole : (p : Heard) (mpu place : ℕ) (pieces : List DataUnit) → Rising comes_first (whole_units p mpu place pieces)
unfolding whole_units unit_from
rising_whole p mpu place [] = tt
rising_whole p mpu place (piece ∷ pieces) = (each_whole p mpu (unit_from p mpu place piece piece.bytes) (place + 1) pieces refl refl (omega arith), rising_whole p mpu (place + 1) pieces)

abbrev IsIn : Heard → MediaUnit → Type 0
IsIn p u = (u.packet_id ≡ p.packet_id) × (u.number ≡ p.number)

in_whole : (p : Heard) (mpu place : ℕ) (pieces : List DataUnit) → Each (IsIn p) (whole_units p mpu place pieces)
unfolding whole_units unit_from
in_whole p mpu place [] = tt
in_whole p mpu place (piece ∷ pieces) = ((refl, refl), in_whole p mpu (place + 1) pieces)

in_joined_unit : (p : Heard) (mpu : ℕ) (piece : DataUnit) (parts : Option (List (List ℕ))) → Each (IsIn p) (joined_unit p mpu piece parts)
unfolding joined_unit unit_from
in_joined_unit p mpu piece None = tt
in_joined_unit p mpu piece (Some parts) = ((refl, refl), tt)

rising_joined_unit : (p : Heard) (mpu : ℕ) (piece : DataUnit) (parts : Option (List (List ℕ))) → Rising comes_first (joined_unit p mpu piece parts)
unfolding joined_unit
rising_joined_unit p mpu piece None = tt
rising_joined_unit p mpu piece (Some parts) = (tt, tt)

in_units : (all : List Heard) (p : Heard) (c : Payload) → Each (IsIn p) (units_by all p c)
unfolding units_by
in_units all p (Payload.Media parts.Whole timed mpu pieces) = in_whole p mpu 0 pieces
in_units all p (Payload.Media parts.First timed mpu []) = tt
in_units all p (Payload.Media parts.First timed mpu (piece ∷ [])) = in_joined_unit p mpu piece (rest_of_run (media_link timed mpu) all p.packet_id (length all) (next_number p.number))
in_units all p (Payload.Media parts.First timed mpu (piece ∷ q ∷ qs)) = tt
in_units all p (Payload.Media parts.Middle timed mpu pieces) = tt
in_units all p (Payload.Media parts.Last timed mpu pieces) = tt
in_units all p (Payload.Signalling part messages) = tt
in_units all p Payload.Other = tt

rising_units : (all : List Heard) (p : Heard) (c : Payload) → Rising comes_first (units_by all p c)
unfolding units_by
rising_units all p (Payload.Media parts.Whole timed mpu pieces) = rising_whole p mpu 0 pieces
rising_units all p (Payload.Media parts.First timed mpu []) = tt
rising_units all p (Payload.Media parts.First timed mpu (piece ∷ [])) = rising_joined_unit p mpu piece (rest_of_run (media_link timed mpu) all p.packet_id (length all) (next_number p.number))
rising_units all p (Payload.Media parts.First timed mpu (piece ∷ q ∷ qs)) = tt
rising_units all p (Payload.Media parts.Middle timed mpu pieces) = tt
rising_units all p (Payload.Media parts.Last timed mpu pieces) = tt
rising_units all p (Payload.Signalling part messages) = tt
rising_units all p Payload.Other = tt

abbrev units_in : List Heard → List Kept → List MediaUnit
units_in all ps = flat_map (λ p. units_by all p p.payload) (map heard ps)

heard_id : (p : Kept) → (heard p).packet_id ≡ p.packet_id
unfolding heard
heard_id p = refl

heard_number : (p : Kept) → (heard p).number ≡ p.number
unfolding heard
heard_number p = refl

after_packet : (all : List Heard) (u : MediaUnit) (p : Kept) (ps : List Kept) → IsIn (heard p) u → Each (λ q. stands_before p q ≡ true) ps → Each (λ v. comes_first u v ≡ true) (units_in all ps)
after_packet all u p [] i h = tt
after_packet all u p (q ∷ ps) i h =
    each_append (λ v. comes_first u v ≡ true) (units_by all (heard q) (heard q).payload) (units_in all ps)
    (each_map (IsIn (heard q)) (λ v. comes_first u v ≡ true) (units_by all (heard q) (heard q).payload)
    (λ v j. later_packet u v p q (i.0 ∙ heard_id p) (i.1 ∙ heard_number p) (j.0 ∙ heard_id q) (j.1 ∙ heard_number q) h.0)
    (in_units all (heard q) (heard q).payload))
    (after_packet all u p ps i h.1)

rising_all : (all : List Heard) (ps : List Kept) → Rising stands_before ps → Rising comes_first (units_in all ps)
rising_all all [] r = tt
rising_all all (p ∷ ps) r =
    rising_append comes_first (units_by all (heard p) (heard p).payload) (units_in all ps) (rising_units all (heard p) (heard p).payload) (rising_all all ps r.1)
    (each_map (IsIn (heard p)) (λ u. Each (λ v. comes_first u v ≡ true) (units_in all ps)) (units_by all (heard p) (heard p).payload) (λ u i. after_packet all u p ps i r.0) (in_units all (heard p) (heard p).payload))

abbrev pub due_first : Presentation → Presentation → Bool
due_first d e = comes_first d.unit e.unit

each_times : (P : MediaUnit → Type 0) (base : ℕ) (es : List Entry) (u : MediaUnit) → P u → Each (λ d. P d.unit) (presentations_by base es u)
unfolding presentations_by
each_times P base [] u a = tt
each_times P base (e ∷ es) u a = go ((e.packet_id == u.packet_id) && (e.mpu == u.mpu)) (each_times P base es u a)
  where
    go : (b : Bool) → Each (λ d. P d.unit) (presentations_by base es u) → Each (λ d. P d.unit) (cond b (record { unit = u; time = time_of base e u } ∷ []) (presentations_by base es u))
    go true ih = (a, tt)
    go false ih = ih

rising_times : (base : ℕ) (es : List Entry) (u : MediaUnit) → Rising due_first (presentations_by base es u)
unfolding presentations_by
rising_times base [] u = tt
rising_times base (e ∷ es) u = go ((e.packet_id == u.packet_id) && (e.mpu == u.mpu)) (rising_times base es u)
  where
    go : (b : Bool) → Rising due_first (presentations_by base es u) → Rising due_first (cond b (record { unit = u; time = time_of base e u } ∷ []) (presentations_by base es u))
    go true ih = (tt, tt)
    go false ih = ih

each_named : (P : MediaUnit → Type 0) (base : ℕ) (es : List Entry) (us : List MediaUnit) → Each P us → Each (λ d. P d.unit) (named_units base es us)
unfolding named_units
each_named P base es [] h = tt
each_named P base es (u ∷ us) h = each_append (λ d. P d.unit) (presentations_by base es u) (flat_map (presentations_by base es) us) (each_times P base es u h.0) (each_named P base es us h.1)

rising_named : (base : ℕ) (es : List Entry) (us : List MediaUnit) → Rising comes_first us → Rising due_first (named_units base es us)
unfolding named_units
rising_named base es [] r = tt
rising_named base es (u ∷ us) r =
    rising_append due_first (presentations_by base es u) (flat_map (presentations_by base es) us) (rising_times base es u) (rising_named base es us r.1)
    (each_times (λ v. Each (λ e. comes_first v e.unit ≡ true) (flat_map (presentations_by base es) us)) base es u (each_named (λ w. comes_first u w ≡ true) base es us r.0))

each_filter : {X : Type 0} (P : X → Type 0) (p : X → Bool) (xs : List X) → Each P xs → Each P (filter p xs)
each_filter P p [] h = tt
each_filter P p (x ∷ xs) h = go (p x) (each_filter P p xs h.1)
  where
    go : (b : Bool) → Each P (filter p xs) → Each P (cond b (x ∷ filter p xs) (filter p xs))
    go true ih = (h.0, ih)
    go false ih = ih

rising_filter : {X : Type 0} (b : X → X → Bool) (p : X → Bool) (xs : List X) → Rising b xs → Rising b (filter p xs)
rising_filter b p [] r = tt
rising_filter b p (x ∷ xs) r = go (p x) (rising_filter b p xs r.1)
  where
    go : (t : Bool) → Rising b (filter p xs) → Rising b (cond t (x ∷ filter p xs) (filter p xs))
    go true ih = (each_filter (λ y. b x y ≡ true) p xs r.0, ih)
    go false ih = ih

length_keys : (k : UnitKey) (n p : ℕ) → length (key_numbers k ++ n ∷ p ∷ []) ≡ 6
unfolding key_numbers
length_keys (keys.Item i) n p = refl
length_keys (keys.Timed a b c) n p = refl

same_end : (j k : UnitKey) (n p m q : ℕ) → key_numbers j ++ n ∷ p ∷ [] ≡ key_numbers k ++ m ∷ q ∷ [] → (n ≡ m) × (p ≡ q)
unfolding key_numbers
same_end (keys.Item i) (keys.Item l) n p m q e = (cc, cc)
same_end (keys.Item i) (keys.Timed a b c) n p m q e = (cc, cc)
same_end (keys.Timed x y z) (keys.Item l) n p m q e = (cc, cc)
same_end (keys.Timed x y z) (keys.Timed a b c) n p m q e = (cc, cc)

other_rows : (d e : Presentation) → due_first d e ≡ true → order_numbers d ≡ order_numbers e → ⊥
unfolding order_numbers comes_first
other_rows d e f same =
    let a : d.unit.packet_id ≡ e.unit.packet_id = cc in
    let t : key_numbers d.unit.key ++ d.unit.number ∷ d.unit.place ∷ [] ≡ key_numbers e.unit.key ++ e.unit.number ∷ e.unit.place ∷ [] = cc in
    let n = same_end d.unit.key e.unit.key d.unit.number d.unit.place e.unit.number e.unit.place t in
    let g : precedes (e.unit.packet_id ∷ e.unit.number ∷ e.unit.place ∷ []) (e.unit.packet_id ∷ e.unit.number ∷ e.unit.place ∷ []) ≡ true = rw (a, n.0, n.1) at f in
    before-one_way _ _ g g

pub either : (d e : Presentation) → due_first d e ≡ true → (is_presented_before d e ≡ true) ⊎ (is_presented_before e d ≡ true)
unfolding is_presented_before order_numbers
either d e f = before-either (order_numbers d) (order_numbers e) (omega (arith, length_keys d.unit.key d.unit.number d.unit.place, length_keys e.unit.key e.unit.number e.unit.place)) (other_rows d e f)

pub through : (c d e : Presentation) → is_presented_before c d ≡ true → is_presented_before d e ≡ true → is_presented_before c e ≡ true
unfolding is_presented_before
through c d e a b = before-through (order_numbers c) (order_numbers d) (order_numbers e) a b

abbrev pub Apart : Presentation → Presentation → Type 0
Apart d e = (is_presented_before d e ≡ true) ⊎ (is_presented_before e d ≡ true)

each_insert : (P : Presentation → Type 0) (d : Presentation) (ds : List Presentation) → P d → Each P ds → Each P (insert_by is_presented_before d ds)
unfolding insert_by
each_insert P d [] a h = (a, tt)
each_insert P d (e ∷ ds) a h = go (is_presented_before e d) (each_insert P d ds a h.1)
  where
    go : (b : Bool) → Each P (insert_by is_presented_before d ds) → Each P (cond b (e ∷ insert_by is_presented_before d ds) (d ∷ e ∷ ds))
    go true ih = (h.0, ih)
    go false ih = (a, h)

each_sort : (P : Presentation → Type 0) (ds : List Presentation) → Each P ds → Each P (sort_by is_presented_before ds)
unfolding sort_by
each_sort P [] h = tt
each_sort P (d ∷ ds) h = each_insert P d (sort_by is_presented_before ds) h.0 (each_sort P ds h.1)

rising_insert : (d : Presentation) (ds : List Presentation) → Rising is_presented_before ds → Each (Apart d) ds → Rising is_presented_before (insert_by is_presented_before d ds)
unfolding insert_by
rising_insert d [] r h = (tt, tt)
rising_insert d (e ∷ ds) r h = go (is_presented_before e d) refl (rising_insert d ds r.1 h.1)
  where
    before : is_presented_before e d ≡ false → is_presented_before d e ≡ true
    before f = ⊎_elim (λ (a : is_presented_before d e ≡ true). a) (λ (a : is_presented_before e d ≡ true). absurd cc) h.0

    go : (b : Bool) → is_presented_before e d ≡ b → Rising is_presented_before (insert_by is_presented_before d ds) → Rising is_presented_before (cond b (e ∷ insert_by is_presented_before d ds) (d ∷ e ∷ ds))
    go true f ih = (each_insert (λ y. is_presented_before e y ≡ true) d ds f r.0, ih)
    go false f ih = let a = before f in ((a, each_map (λ y. is_presented_before e y ≡ true) (λ y. is_presented_before d y ≡ true) ds (λ y b. through d e y a b) r.0), r)

rising_sort : (ds : List Presentation) → Rising due_first ds → Rising is_presented_before (sort_by is_presented_before ds)
unfolding sort_by
rising_sort [] r = tt
rising_sort (d ∷ ds) r = rising_insert d (sort_by is_presented_before ds) (rising_sort ds r.1) (each_sort (Apart d) ds (each_map (λ e. due_first d e ≡ true) (Apart d) ds (λ e f. either d e f) r.0))

pub named_rising : (known : Known) (kept : List Kept) → IsInOrder kept → Rising due_first (named_units known.sample_base known.entries (units_of (map heard kept)))
unfolding units_of
named_rising known kept order = rising_named known.sample_base known.entries (units_of (map heard kept)) (rising_all (map heard kept) kept (order_rising kept order))

-- the due units of kept packets rise strictly in the order in which they are handed out
pub due_rising : (known : Known) (kept : List Kept) (from to : ℕ) → IsInOrder kept → Rising is_presented_before (due_units known.sample_base known.entries (units_of (map heard kept)) from to)
due_rising known kept from to order =
    rising_sort (filter (λ d. is_passed (low (due_of d.time)) from to) (named_units known.sample_base known.entries (units_of (map heard kept))))
    (rising_filter due_first (λ d. is_passed (low (due_of d.time)) from to) (named_units known.sample_base known.entries (units_of (map heard kept)))
    (named_rising known kept order))
