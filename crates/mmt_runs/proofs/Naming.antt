-- The named units that begin in a packet are in the index.
use Rattle.std.proofs.Common.{◌≡◌, ℕ, ◌+◌, Bool, List, [], ◌∷◌, ◌++◌, ◌⊎◌, inl, inr, ⊎_elim, map, length, refl, ap, sym, ◌∙◌, subst, Option, Some, None, IfSome}
use Rattle.std.specs.List.{flat_map}
use Rattle.mmt_model.specs.Entries.{Entry}
use Rattle.mmt_model.specs.Handing.{Presentation, presentations_by, named_units, order_numbers}
use Rattle.mmt_model.specs.declared.keys.UnitKey.{UnitKey}
use Rattle.mmt_model.specs.Packets.{DataUnit, Heard, Payload}
use Rattle.mmt_model.specs.declared.keys.Part.TheVariants as parts
use Rattle.mmt_model.specs.Units.{MediaUnit, units_by, whole_units, unit_from, joined_unit, rest_of_run, media_link, next_number}
use Rattle.mmt_pool.specs.declared.types.Span.{Span}
use Rattle.mmt_pool.specs.Holding.{Kept}
use Rattle.mmt_pool.specs.Holding.{packet_at as kept_at}
use Rattle.mmt_times.specs.Known.{Known, time_in}
use Rattle.mmt_times.proofs.Presented.{timed, presented}
use Rattle.mmt_runs.specs.declared.index.Due.{Due}
use Rattle.mmt_runs.specs.Index.{IsIn, HasKey, HasEach, HasTimes, begun_by, spelled_at, due_at}
use Rattle.mmt_runs.specs.Choosing.{named_at}
use Rattle.mmt_runs.specs.Reading.{heard}
use Rattle.mmt_runs.specs.Seeking.{Among, named_of}
use Rattle.mmt_runs.proofs.Linking.{found_at}

pub among_append : (d : Presentation) (xs ys : List Presentation) → Among d (xs ++ ys) → Among d xs ⊎ Among d ys
among_append d [] ys a = inr a
among_append d (x ∷ xs) ys a = ⊎_elim (λ (e : x ≡ d). inl (inl e)) (λ (b : Among d (xs ++ ys)). ⊎_elim (λ (c : Among d xs). inl (inr c)) (λ (c : Among d ys). inr c) (among_append d xs ys b)) a

pub among_left : (d : Presentation) (xs ys : List Presentation) → Among d xs → Among d (xs ++ ys)
among_left d [] ys a = absurd a
among_left d (x ∷ xs) ys a = ⊎_elim (λ (e : x ≡ d). inl e) (λ (b : Among d xs). inr (among_left d xs ys b)) a

pub among_right : (d : Presentation) (xs ys : List Presentation) → Among d ys → Among d (xs ++ ys)
among_right d [] ys a = a
among_right d (x ∷ xs) ys a = inr (among_right d xs ys a)

-- the place of a unit with its time, that begins in this packet
abbrev there : Span → Presentation → Due
there s d = record { numbers = order_numbers d; span = s }

timed_at : (u : MediaUnit) (o : Option ℕ) (d : Presentation) (index : List Due) (s : Span) → Among d (timed u o) → IfSome o (λ t. IsIn index (there s (record { unit = u; time = t }))) → IsIn index (there s d)
timed_at u None d index s a h = absurd a
timed_at u (Some t) d index s (inl e) h = subst (λ (x : Presentation). IsIn index (there s x)) e h
timed_at u (Some t) d index s (inr a) h = absurd a

-- a unit of a data unit, by its numbers
same_there : (u : MediaUnit) (t : ℕ) (s : Span) (mpu place : ℕ) (key : UnitKey) → u.packet_id ≡ s.packet_id → u.number ≡ s.number → u.mpu ≡ mpu → u.key ≡ key → u.place ≡ place → there s (record { unit = u; time = t }) ≡ due_at t s mpu key place
unfolding order_numbers
same_there u t s mpu place key i n m k p = rw (i, n, m, k, p) refl

-- one unit, of a data unit of the packet
one_indexed : (known : Known) (index : List Due) (s : Span) (mpu place : ℕ) (x : DataUnit) (u : MediaUnit) (d : Presentation) → u.packet_id ≡ s.packet_id → u.number ≡ s.number → u.mpu ≡ mpu → u.key ≡ x.key → u.place ≡ place
    → Among d (presentations_by known.sample_base known.entries u) → HasKey index known s mpu place x.key → IsIn index (there s d)
one_indexed known index s mpu place x u d i n m k p a h =
    timed_at u (time_in known u.packet_id u.mpu u.key) d index s (subst (λ l. Among d l) (presented known.sample_base known.entries u) a)
    (go (time_in known u.packet_id u.mpu u.key) (rw (i, m, k) h))
  where
    go : (o : Option ℕ) → IfSome o (λ t. IsIn index (due_at t s mpu x.key place)) → IfSome o (λ t. IsIn index (there s (record { unit = u; time = t })))
    go None h = h
    go (Some t) h = subst (λ q. IsIn index q) (sym (same_there u t s mpu place x.key i n m k p)) h

whole_indexed : (known : Known) (index : List Due) (s : Span) (mpu : ℕ) (p : Heard) (place : ℕ) (xs : List DataUnit) (d : Presentation) → p.packet_id ≡ s.packet_id → p.number ≡ s.number
    → Among d (flat_map (presentations_by known.sample_base known.entries) (whole_units p mpu place xs)) → HasEach index known s mpu place xs → IsIn index (there s d)
unfolding whole_units unit_from
whole_indexed known index s mpu p place [] d i n a h = absurd a
whole_indexed known index s mpu p place (x ∷ xs) d i n a h =
    ⊎_elim
    (λ (b : Among d (presentations_by known.sample_base known.entries (unit_from p mpu place x x.bytes))). one_indexed known index s mpu place x (unit_from p mpu place x x.bytes) d i n refl refl refl b h.0)
    (λ (b : Among d (flat_map (presentations_by known.sample_base known.entries) (whole_units p mpu (place + 1) xs))). whole_indexed known index s mpu p (place + 1) xs d i n b h.1)
    (among_append d (presentations_by known.sample_base known.entries (unit_from p mpu place x x.bytes)) (flat_map (presentations_by known.sample_base known.entries) (whole_units p mpu (place + 1) xs)) a)

joined_indexed : (known : Known) (index : List Due) (s : Span) (mpu : ℕ) (p : Heard) (x : DataUnit) (o : Option (List (List ℕ))) (d : Presentation) → p.packet_id ≡ s.packet_id → p.number ≡ s.number
    → Among d (flat_map (presentations_by known.sample_base known.entries) (joined_unit p mpu x o)) → HasKey index known s mpu 0 x.key → IsIn index (there s d)
unfolding joined_unit unit_from
joined_indexed known index s mpu p x None d i n a h = absurd a
joined_indexed known index s mpu p x (Some rest) d i n a h =
    ⊎_elim (λ (b : Among d (presentations_by known.sample_base known.entries _)). one_indexed known index s mpu 0 x _ d i n refl refl refl b h) (λ (b : ⊥). absurd b)
    (among_append d (presentations_by known.sample_base known.entries _) [] a)

-- a named unit that begins in a packet is in the index
units_indexed : (known : Known) (index : List Due) (s : Span) (all : List Heard) (p : Heard) (c : Payload) (d : Presentation) → p.packet_id ≡ s.packet_id → p.number ≡ s.number
    → Among d (named_units known.sample_base known.entries (units_by all p c)) → HasTimes index known s c → IsIn index (there s d)
unfolding units_by named_units
units_indexed known index s all p (Payload.Media parts.Whole timed mpu xs) d i n a h = whole_indexed known index s mpu p 0 xs d i n a h
units_indexed known index s all p (Payload.Media parts.First timed mpu []) d i n a h = absurd a
units_indexed known index s all p (Payload.Media parts.First timed mpu (x ∷ [])) d i n a h = joined_indexed known index s mpu p x (rest_of_run (media_link timed mpu) all p.packet_id (length all) (next_number p.number)) d i n a h.0
units_indexed known index s all p (Payload.Media parts.First timed mpu (x ∷ y ∷ ys)) d i n a h = absurd a
units_indexed known index s all p (Payload.Media parts.Middle timed mpu xs) d i n a h = absurd a
units_indexed known index s all p (Payload.Media parts.Last timed mpu xs) d i n a h = absurd a
units_indexed known index s all p (Payload.Signalling part messages) d i n a h = absurd a
units_indexed known index s all p Payload.Other d i n a h = absurd a

units_begun : (known : Known) (all : List Heard) (p : Heard) (c : Payload) (d : Presentation) → Among d (named_units known.sample_base known.entries (units_by all p c)) → (mpu : ℕ) × (begun_by c ≡ Some mpu)
unfolding units_by named_units
units_begun known all p (Payload.Media parts.Whole timed mpu xs) d a = (mpu, refl)
units_begun known all p (Payload.Media parts.First timed mpu []) d a = absurd a
units_begun known all p (Payload.Media parts.First timed mpu (x ∷ [])) d a = (mpu, refl)
units_begun known all p (Payload.Media parts.First timed mpu (x ∷ y ∷ ys)) d a = absurd a
units_begun known all p (Payload.Media parts.Middle timed mpu xs) d a = absurd a
units_begun known all p (Payload.Media parts.Last timed mpu xs) d a = absurd a
units_begun known all p (Payload.Signalling part messages) d a = absurd a
units_begun known all p Payload.Other d a = absurd a

heard_id : (p : Kept) → (heard p).packet_id ≡ p.packet_id
unfolding heard
heard_id p = refl

heard_number : (p : Kept) → (heard p).number ≡ p.number
unfolding heard
heard_number p = refl

pub named_indexed : (known : Known) (index : List Due) (kept : List Kept) (s : Span) (d : Presentation) → Among d (named_of known kept s) → HasTimes index known s (spelled_at (kept_at kept s.packet_id s.number)) → IsIn index (record { numbers = order_numbers d; span = s })
unfolding named_at
named_indexed known index kept s d a h = go (kept_at kept s.packet_id s.number) (found_at kept s.packet_id s.number) a h
  where
    go : (o : Option Kept) → ((p : Kept) → o ≡ Some p → (p.packet_id ≡ s.packet_id) × (p.number ≡ s.number)) → Among d (named_at known (map heard kept) o) → HasTimes index known s (spelled_at o) → IsIn index (record { numbers = order_numbers d; span = s })
    go None f a h = absurd a
    go (Some p) f a h = units_indexed known index s (map heard kept) (heard p) (heard p).payload d (heard_id p ∙ (f p refl).0) (heard_number p ∙ (f p refl).1) a h

pub named_begun : (known : Known) (kept : List Kept) (s : Span) (d : Presentation) → Among d (named_of known kept s) → (mpu : ℕ) × (begun_by (spelled_at (kept_at kept s.packet_id s.number)) ≡ Some mpu)
unfolding named_at
named_begun known kept s d a = go (kept_at kept s.packet_id s.number) a
  where
    go : (o : Option Kept) → Among d (named_at known (map heard kept) o) → (mpu : ℕ) × (begun_by (spelled_at o) ≡ Some mpu)
    go None a = absurd a
    go (Some p) a = units_begun known (map heard kept) (heard p) (heard p).payload d a
