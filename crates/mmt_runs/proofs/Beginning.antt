-- The named units that begin in a packet, by its payload.
use Rattle.std.proofs.Common.{◌≡◌, ℕ, ◌+◌, ◌<◌, ◌^◌, Bool, List, [], ◌∷◌, map, length, arith, refl, ap, ap₂, ◌∙◌, Option, Some, None, inl, inr}
use Rattle.std.specs.Prelude.{Result, Ok, Err}
use Rattle.mmt_base.specs.declared.refused.Refused.{Refused}
use Rattle.mmt_packet.specs.declared.packet.Kind.{Kind}
use Rattle.mmt_packet.specs.declared.packet.Kind.TheVariants as kinds
use Rattle.mmt_mpu.specs.Reading.{payload_of}
use Rattle.mmt_mpu.specs.Spelling.{Value, UnitValue}
use Rattle.mmt_mpu.specs.declared.types.MpuWhy.{MpuWhy}
use Rattle.mmt_sig.specs.declared.head.SigWhy.{SigWhy}
use Rattle.mmt_sig.specs.Payload.{Payload as Signals}
use Rattle.mmt_sig.specs.PayloadReading.{payload_of as signals_of}
use Rattle.mmt_model.specs.Packets.{Heard, Payload, DataUnit}
use Rattle.mmt_model.specs.declared.keys.Part.{Part}
use Rattle.mmt_model.specs.declared.keys.Part.TheVariants as parts
use Rattle.mmt_model.specs.Handing.{named_units}
use Rattle.mmt_model.specs.Units.{MediaUnit, units_by, whole_units, unit_from, joined_unit, rest_of_run, media_link, next_number}
use Rattle.mmt_times.specs.Known.{Known}
use Rattle.mmt_pool.specs.Holding.{Kept}
use Rattle.mmt_pool.specs.Holding.{packet_at as kept_at}
use Rattle.mmt_runs.specs.Reading.{heard, media_of, signals_by, payload_by, data_unit_of}
use Rattle.mmt_runs.specs.Media.{media_at, if_media}
use Rattle.mmt_runs.specs.Lone.{Lone}
use Rattle.mmt_runs.specs.Offers.{bare, whole_of, run_of, HasRest}
use Rattle.mmt_runs.specs.Choosing.{named_at}
use Rattle.mmt_runs.proofs.Linking.{found_at}
use Rattle.mmt_runs.proofs.UnitSizes.{payload_fits, total}
use Rattle.mmt_runs.proofs.Held.{whole_held}

-- units by a payload
abbrev pub units_of_bytes : List Heard → ℕ → ℕ → List ℕ → List MediaUnit
units_of_bytes all id number bytes = units_by all (bare id number) (media_of (payload_of bytes))

bare_whole : (h : Heard) (mpu place : ℕ) (pieces : List DataUnit) → whole_units h mpu place pieces ≡ whole_units (bare h.packet_id h.number) mpu place pieces
unfolding whole_units unit_from
bare_whole h mpu place [] = refl
bare_whole h mpu place (p ∷ ps) = ap (λ l. unit_from h mpu place p p.bytes ∷ l) (bare_whole h mpu (place + 1) ps)

bare_joined : (h : Heard) (mpu : ℕ) (piece : DataUnit) (o : Option (List (List ℕ))) → joined_unit h mpu piece o ≡ joined_unit (bare h.packet_id h.number) mpu piece o
unfolding joined_unit unit_from
bare_joined h mpu piece None = refl
bare_joined h mpu piece (Some ps) = refl

bare_units : (all : List Heard) (h : Heard) (c : Payload) → units_by all h c ≡ units_by all (bare h.packet_id h.number) c
unfolding units_by
bare_units all h (Payload.Media parts.Whole timed mpu pieces) = bare_whole h mpu 0 pieces
bare_units all h (Payload.Media parts.First timed mpu []) = refl
bare_units all h (Payload.Media parts.First timed mpu (p ∷ [])) = bare_joined h mpu p (rest_of_run (media_link timed mpu) all h.packet_id (length all) (next_number h.number))
bare_units all h (Payload.Media parts.First timed mpu (p ∷ q ∷ qs)) = refl
bare_units all h (Payload.Media parts.Middle timed mpu pieces) = refl
bare_units all h (Payload.Media parts.Last timed mpu pieces) = refl
bare_units all h (Payload.Signalling part messages) = refl
bare_units all h Payload.Other = refl

payload_heard : (p : Kept) → (heard p).payload ≡ payload_by p.kind p.payload
unfolding heard
payload_heard p = refl

heard_bare : (p : Kept) → bare (heard p).packet_id (heard p).number ≡ bare p.packet_id p.number
unfolding heard
heard_bare p = refl

other_units : (all : List Heard) (h : Heard) → units_by all h Payload.Other ≡ []
unfolding units_by
other_units all h = refl

signals_units : (all : List Heard) (h : Heard) (r : Result Signals (Refused SigWhy)) → units_by all h (signals_by r) ≡ []
unfolding units_by
signals_units all h (Ok v) = refl
signals_units all h (Err e) = refl

units_kind : (all : List Heard) (id number : ℕ) (k : Kind) (payload bytes : List ℕ) → if_media k payload ≡ Some bytes → units_by all (bare id number) (payload_by k payload) ≡ units_of_bytes all id number bytes
units_kind all id number kinds.Mpu payload bytes e = let s : payload ≡ bytes = cc in ap (units_of_bytes all id number) s
units_kind all id number kinds.Generic payload bytes e = absurd cc
units_kind all id number kinds.Signalling payload bytes e = absurd cc

units_none : (all : List Heard) (id number : ℕ) (k : Kind) (payload : List ℕ) → if_media k payload ≡ None → units_by all (bare id number) (payload_by k payload) ≡ []
units_none all id number kinds.Mpu payload e = absurd cc
units_none all id number kinds.Generic payload e = other_units all (bare id number)
units_none all id number kinds.Signalling payload e = signals_units all (bare id number) (signals_of payload)

units_kept : (all : List Heard) (p : Kept) → units_by all (heard p) (heard p).payload ≡ units_by all (bare p.packet_id p.number) (payload_by p.kind p.payload)
units_kept all p = bare_units all (heard p) (heard p).payload ∙ ap₂ (λ h c. units_by all h c) (heard_bare p) (payload_heard p)

pub named_none : (names : Known) (us : List MediaUnit) → us ≡ [] → named_units names.sample_base names.entries us ≡ []
unfolding named_units
named_none names us e = rw e refl

named_by_none : (names : Known) (all : List Heard) (o : Option Kept) → media_at o ≡ None → named_at names all o ≡ []
unfolding named_at
named_by_none names all None e = refl
named_by_none names all (Some p) e = named_none names _ (units_kept all p ∙ units_none all p.packet_id p.number p.kind p.payload e)

named_by_some : (names : Known) (all : List Heard) (id number : ℕ) (bytes : List ℕ) (o : Option Kept) → ((p : Kept) → o ≡ Some p → (p.packet_id ≡ id) × (p.number ≡ number)) → media_at o ≡ Some bytes → named_at names all o ≡ named_units names.sample_base names.entries (units_of_bytes all id number bytes)
unfolding named_at
named_by_some names all id number bytes None f e = absurd cc
named_by_some names all id number bytes (Some p) f e =
    let g = f p refl in
    ap (named_units names.sample_base names.entries) (units_kept all p ∙ (units_kind all p.packet_id p.number p.kind p.payload bytes e ∙ ap₂ (λ i n. units_of_bytes all i n bytes) g.0 g.1))

pub nothing_named : (names : Known) (all : List Heard) (kept : List Kept) (id number : ℕ) → media_at (kept_at kept id number) ≡ None → named_at names all (kept_at kept id number) ≡ []
nothing_named names all kept id number e = named_by_none names all (kept_at kept id number) e

pub media_named : (names : Known) (all : List Heard) (kept : List Kept) (id number : ℕ) (bytes : List ℕ) → media_at (kept_at kept id number) ≡ Some bytes → named_at names all (kept_at kept id number) ≡ named_units names.sample_base names.entries (units_of_bytes all id number bytes)
media_named names all kept id number bytes e = named_by_some names all id number bytes (kept_at kept id number) (found_at kept id number) e

pub refused_units : (all : List Heard) (id number : ℕ) (bytes : List ℕ) (e : Refused MpuWhy) → payload_of bytes ≡ Err e → units_of_bytes all id number bytes ≡ []
refused_units all id number bytes e is = ap (λ r. units_by all (bare id number) (media_of r)) is ∙ other_units all (bare id number)

by_value : (all : List Heard) (id number : ℕ) (bytes : List ℕ) (v : Value) (part : Part) → payload_of bytes ≡ Ok v → v.head.part ≡ part → units_of_bytes all id number bytes ≡ units_by all (bare id number) (Payload.Media part v.head.timed v.head.mpu (map data_unit_of v.units))
by_value all id number bytes v part is p = ap (λ r. units_by all (bare id number) (media_of r)) is ∙ ap (λ x. units_by all (bare id number) (Payload.Media x v.head.timed v.head.mpu (map data_unit_of v.units))) p

pub whole_bytes : (all : List Heard) (id number : ℕ) (bytes : List ℕ) (v : Value) → payload_of bytes ≡ Ok v → v.head.part ≡ parts.Whole → units_of_bytes all id number bytes ≡ whole_of id number v.head.mpu 0 v.units
unfolding units_by
whole_bytes all id number bytes v is p = by_value all id number bytes v parts.Whole is p

pub middle_bytes : (all : List Heard) (id number : ℕ) (bytes : List ℕ) (v : Value) → payload_of bytes ≡ Ok v → v.head.part ≡ parts.Middle → units_of_bytes all id number bytes ≡ []
unfolding units_by
middle_bytes all id number bytes v is p = by_value all id number bytes v parts.Middle is p

pub last_bytes : (all : List Heard) (id number : ℕ) (bytes : List ℕ) (v : Value) → payload_of bytes ≡ Ok v → v.head.part ≡ parts.Last → units_of_bytes all id number bytes ≡ []
unfolding units_by
last_bytes all id number bytes v is p = by_value all id number bytes v parts.Last is p

first_units : (all : List Heard) (id number : ℕ) (timed : Bool) (mpu : ℕ) (us : List UnitValue) (o : Option UnitValue) → Lone us o → units_by all (bare id number) (Payload.Media parts.First timed mpu (map data_unit_of us)) ≡ run_of all id number timed mpu (length all) o
unfolding units_by
first_units all id number timed mpu us (Some u) e = ap (λ x. units_by all (bare id number) (Payload.Media parts.First timed mpu (map data_unit_of x))) e
first_units all id number timed mpu us None (inl e) = ap (λ x. units_by all (bare id number) (Payload.Media parts.First timed mpu (map data_unit_of x))) e
first_units all id number timed mpu us None (inr (x, y, ys, e)) = ap (λ x. units_by all (bare id number) (Payload.Media parts.First timed mpu (map data_unit_of x))) e

pub first_bytes : (all : List Heard) (id number : ℕ) (bytes : List ℕ) (v : Value) (o : Option UnitValue) → payload_of bytes ≡ Ok v → v.head.part ≡ parts.First → Lone v.units o → units_of_bytes all id number bytes ≡ run_of all id number v.head.timed v.head.mpu (length all) o
first_bytes all id number bytes v o is p l = by_value all id number bytes v parts.First is p ∙ first_units all id number v.head.timed v.head.mpu v.units o l

pub length_mapped : {A B : Type 0} (f : A → B) (xs : List A) → length (map f xs) ≡ length xs
length_mapped f [] = refl
length_mapped f (x ∷ xs) = omega (arith, length_mapped f xs)

-- its bytes and those of the rest of its run are held
pub first_has_rest : (kept : List Kept) (id number : ℕ) (timed : Bool) (mpu : ℕ) (bytes : List ℕ) (v : Value) (u : UnitValue) → number < 2 ^ 32 → media_at (kept_at kept id number) ≡ Some bytes → payload_of bytes ≡ Ok v → v.units ≡ u ∷ []
    → HasRest kept id number timed mpu (length u.bytes)
first_has_rest kept id number timed mpu bytes v u a m is l most rest b e =
    omega (arith, ap total l, payload_fits bytes v is, whole_held timed mpu kept id most number bytes rest a b m e)
