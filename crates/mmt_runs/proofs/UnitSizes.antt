-- The bytes of a payload's data units are among the payload's.
use Rattle.std.proofs.Common.{◌≡◌, ℕ, zero, suc, ◌+◌, ◌-◌, ◌≤◌, ◌<◌, ◌^◌, Bool, true, false, leb, nat_lt, ◌&&◌, ◌||◌, ◌==◌, nat_le, ◌/◌, ◌%◌, cond, List, [], ◌∷◌, map, length, take, drop, Option, Some, None, Result, Ok, Err, refl, ap, sym, ◌∙◌, arith}
use Rattle.std.specs.Int.{w8, w16, w32}
use Rattle.std.specs.List.{AllByRecursion}
use Rattle.std.proofs.lemmas.List.{length-append, take-append-drop}
use Rattle.mmt_base.specs.declared.refused.Refused.{Refused}
use Rattle.mmt_fields.specs.Reading.{number_at, bytes_at, check}
use Rattle.mmt_fields.proofs.Codec.{bind_ok, ok_is}
use Rattle.mmt_fields.proofs.Numbers.{number_leaves, guard_ok}
use Rattle.mmt_model.specs.Packets.{Payload}
use Rattle.mmt_model.specs.Units.{Link, media_link, same_flag}
use Rattle.mmt_model.specs.declared.keys.Part.{Part}
use Rattle.mmt_model.specs.declared.keys.Part.TheVariants as parts
use Rattle.mmt_mpu.specs.declared.types.MpuWhy.{MpuWhy}
use Rattle.mmt_mpu.specs.declared.types.MpuWhy.TheVariants as why
use Rattle.mmt_mpu.specs.Spelling.{UnitHead, UnitValue, Value, head_length, end_of}
use Rattle.mmt_mpu.specs.Reading.{head_at, unit_at, lone_at, go_on, walk, all_units, unless_stopped, units_of, payload_of}
use Rattle.mmt_runs.specs.Lending.{link_bytes}
use Rattle.mmt_runs.specs.Reading.{media_of, data_unit_of}
use Rattle.mmt_runs.proofs.Sums.{link_cost}

-- how many bytes the units have together
abbrev pub total : List UnitValue → ℕ
total [] = 0
total (u ∷ us) = length u.bytes + total us

head_fits : (timed : Bool) (at : ℕ) (bytes : List ℕ) (x : UnitHead × List ℕ) → head_at timed at bytes ≡ Ok x → length x.1 ≤ length bytes
unfolding head_at
head_fits true at bytes x e =
    let a = bind_ok (number_at w32 bytes at why.Short) _ x e in
    let b = bind_ok (number_at w32 a.0.1 (at + 4) why.Short) _ x a.2 in
    let c = bind_ok (number_at w32 b.0.1 (at + 8) why.Short) _ x b.2 in
    let p = bind_ok (number_at w8 c.0.1 (at + 12) why.Short) _ x c.2 in
    let d = bind_ok (number_at w8 p.0.1 (at + 13) why.Short) _ x p.2 in
    let is : length d.0.1 ≡ length x.1 = ap (λ (y : UnitHead × List ℕ). length y.1) (ok_is _ x d.2) in
    omega (arith, number_leaves w32 bytes at why.Short a.0 a.1, number_leaves w32 a.0.1 (at + 4) why.Short b.0 b.1, number_leaves w32 b.0.1 (at + 8) why.Short c.0 c.1, number_leaves w8 c.0.1 (at + 12) why.Short p.0 p.1, number_leaves w8 p.0.1 (at + 13) why.Short d.0 d.1)
head_fits false at bytes x e =
    let a = bind_ok (number_at w32 bytes at why.Short) _ x e in
    let is : length a.0.1 ≡ length x.1 = ap (λ (y : UnitHead × List ℕ). length y.1) (ok_is _ x a.2) in
    omega (arith, number_leaves w32 bytes at why.Short a.0 a.1)

cut : (n : ℕ) (bytes : List ℕ) → length (take n bytes) + length (drop n bytes) ≡ length bytes
cut n bytes = sym (length-append (take n bytes) (drop n bytes)) ∙ ap length (take-append-drop n bytes)

bytes_cut : (count : ℕ) (bytes : List ℕ) (at : ℕ) (short : MpuWhy) (x : List ℕ × List ℕ) → bytes_at count bytes at short ≡ Ok x → length x.0 + length x.1 ≡ length bytes
unfolding bytes_at
bytes_cut count bytes at short x e =
    let g = guard_ok (nat_lt (length bytes) count) (record { at = at; why = short }) (take count bytes, drop count bytes) x e in
    let a : length (take count bytes) ≡ length x.0 = ap (λ (y : List ℕ × List ℕ). length y.0) g.1 in
    let b : length (drop count bytes) ≡ length x.1 = ap (λ (y : List ℕ × List ℕ). length y.1) g.1 in
    omega (arith, a, b, cut count bytes)

unit_fits : (timed : Bool) (at : ℕ) (bytes : List ℕ) (x : UnitValue × List ℕ) → unit_at timed at bytes ≡ Ok x → length x.0.bytes + length x.1 ≤ length bytes
unfolding unit_at
unit_fits timed at bytes x e =
    let a = bind_ok (number_at w16 bytes at why.Short) _ x e in
    let w = bind_ok (check (leb (head_length timed) a.0.0 && leb a.0.0 (length a.0.1)) at why.Overrun) _ x a.2 in
    let h = bind_ok (head_at timed (at + 2) a.0.1) _ x w.2 in
    let b = bind_ok (bytes_at (a.0.0 - head_length timed) h.0.1 (at + 2 + head_length timed) why.Short) _ x h.2 in
    let is : length b.0.1 ≡ length x.1 = ap (λ (y : UnitValue × List ℕ). length y.1) (ok_is _ x b.2) in
    let so : length b.0.0 ≡ length x.0.bytes = ap (λ (y : UnitValue × List ℕ). length y.0.bytes) (ok_is _ x b.2) in
    omega (arith, is, so, number_leaves w16 bytes at why.Short a.0 a.1, head_fits timed (at + 2) a.0.1 h.0 h.1, bytes_cut (a.0.0 - head_length timed) h.0.1 (at + 2 + head_length timed) why.Short b.0 b.1)

lone_fits : (timed : Bool) (at : ℕ) (bytes : List ℕ) (u : UnitValue) → lone_at timed at bytes ≡ Ok u → length u.bytes ≤ length bytes
unfolding lone_at
lone_fits timed at bytes u e =
    let w = bind_ok (check (leb (head_length timed) (length bytes)) at why.Short) _ u e in
    let h = bind_ok (head_at timed at bytes) _ u w.2 in
    let is : length h.0.1 ≡ length u.bytes = ap (λ (y : UnitValue). length y.bytes) (ok_is _ u h.2) in
    omega (arith, is, head_fits timed at bytes h.0 h.1)

walk_fits : (n : ℕ) (timed : Bool) (at : ℕ) (bytes : List ℕ) → total (walk n timed at bytes).units ≤ length bytes
unfolding walk
walk_fits zero timed at bytes = omega arith
walk_fits (suc n) timed at [] = omega arith
walk_fits (suc n) timed at (b ∷ bytes) = go (unit_at timed at (b ∷ bytes)) refl (λ a rest. walk_fits n timed a rest)
  where
    go : (r : Result (UnitValue × List ℕ) (Refused MpuWhy)) → unit_at timed at (b ∷ bytes) ≡ r → ((a : ℕ) (rest : List ℕ) → total (walk n timed a rest).units ≤ length rest)
        → total (go_on r (λ u. walk n timed (end_of u.0) u.1)).units ≤ length (b ∷ bytes)
    go (Ok u) is f = omega (arith, f (end_of u.0) u.1, unit_fits timed at (b ∷ bytes) u is)
    go (Err d) is f = omega arith

all_fit : (stop : Option (Refused MpuWhy)) (found us : List UnitValue) → unless_stopped stop found ≡ Ok us → found ≡ us
all_fit None found us e = cc
all_fit (Some d) found us e = absurd cc

units_fit : (aggregated timed : Bool) (bytes : List ℕ) (us : List UnitValue) → units_of aggregated timed bytes ≡ Ok us → total us ≤ length bytes
unfolding units_of
units_fit true timed bytes us e = let same = ap total (all_fit (all_units timed 8 bytes).stop (all_units timed 8 bytes).units us e) in omega (arith, same, walk_fits (length bytes) timed 8 bytes)
units_fit false timed bytes us e =
    let a = bind_ok (lone_at timed 8 bytes) _ us e in
    let is : length a.0.bytes + 0 ≡ total us = ap total (ok_is _ us a.2) in
    omega (arith, is, lone_fits timed 8 bytes a.0 a.1)

-- beside its data units a payload has eight bytes
pub payload_fits : (bytes : List ℕ) (v : Value) → payload_of bytes ≡ Ok v → 8 + total v.units ≤ length bytes
unfolding payload_of
payload_fits bytes v e =
    let len = bind_ok (number_at w16 bytes 0 why.Short) _ v e in
    let whole = bind_ok (check (length len.0.1 == len.0.0) 0 why.Length) _ v len.2 in
    let flags = bind_ok (number_at w8 len.0.1 2 why.Short) _ v whole.2 in
    let units = bind_ok (check (nat_le 2 (flags.0.0 / 16)) 2 (why.Metadata (flags.0.0 / 16))) _ v flags.2 in
    let known = bind_ok (check (nat_le (flags.0.0 / 16) 2) 2 (why.FragmentType (flags.0.0 / 16))) _ v units.2 in
    let part = bind_ok (check ((flags.0.0 % 2 == 0) || (flags.0.0 / 2 % 4 == 0)) 2 why.AggregatedPart) _ v known.2 in
    let counter = bind_ok (number_at w8 flags.0.1 3 why.Short) _ v part.2 in
    let mpu = bind_ok (number_at w32 counter.0.1 4 why.Short) _ v counter.2 in
    let found = bind_ok (units_of (flags.0.0 % 2 == 1) (flags.0.0 / 8 % 2 == 1) mpu.0.1) _ v mpu.2 in
    let is : total found.0 ≡ total v.units = ap (λ (w : Value). total w.units) (ok_is _ v found.2) in
    omega (arith, is, number_leaves w16 bytes 0 why.Short len.0 len.1, number_leaves w8 len.0.1 2 why.Short flags.0 flags.1, number_leaves w8 flags.0.1 3 why.Short counter.0 counter.1, number_leaves w32 counter.0.1 4 why.Short mpu.0 mpu.1, units_fit (flags.0.0 % 2 == 1) (flags.0.0 / 8 % 2 == 1) mpu.0.1 found.0 found.1)

-- each unit is short where the payload is
each_short : (us : List UnitValue) (n : ℕ) → total us ≤ n → AllByRecursion (λ u. length u.bytes ≤ n) us
each_short [] n l = tt
each_short (u ∷ us) n l = (omega (arith, l), each_short us n (omega (arith, l)))

pub units_short : (bytes : List ℕ) (v : Value) → payload_of bytes ≡ Ok v → AllByRecursion (λ u. length u.bytes ≤ length bytes) v.units
units_short bytes v e = each_short v.units (length bytes) (omega (arith, payload_fits bytes v e))

if_cost : (b : Bool) (l : Link) (n : ℕ) → link_cost 8 l ≤ n → link_cost 8 (cond b l Link.Break) ≤ n
if_cost true l n e = e
if_cost false l n e = omega arith

link_fits : (timed : Bool) (mpu : ℕ) (part : Part) (t : Bool) (m : ℕ) (us : List UnitValue) → link_cost 8 (media_link timed mpu (Payload.Media part t m (map data_unit_of us))) ≤ 8 + total us
unfolding media_link
link_fits timed mpu parts.Whole t m us = omega arith
link_fits timed mpu parts.First t m us = omega arith
link_fits timed mpu parts.Middle t m [] = omega arith
link_fits timed mpu parts.Middle t m (u ∷ []) = if_cost (same_flag timed t && (mpu == m)) (Link.Inner u.bytes) _ (omega arith)
link_fits timed mpu parts.Middle t m (u ∷ w ∷ us) = omega arith
link_fits timed mpu parts.Last t m [] = omega arith
link_fits timed mpu parts.Last t m (u ∷ []) = if_cost (same_flag timed t && (mpu == m)) (Link.End u.bytes) _ (omega arith)
link_fits timed mpu parts.Last t m (u ∷ w ∷ us) = omega arith

pub other_fits : (timed : Bool) (mpu n : ℕ) → link_cost 8 (media_link timed mpu Payload.Other) ≤ n
unfolding media_link
other_fits timed mpu n = omega arith

-- a part has at least eight bytes less than the payload that it is in
pub media_fits : (timed : Bool) (mpu : ℕ) (bytes : List ℕ) → link_cost 8 (media_link timed mpu (media_of (payload_of bytes))) ≤ length bytes
media_fits timed mpu bytes = go (payload_of bytes) refl
  where
    go : (r : Result Value (Refused MpuWhy)) → payload_of bytes ≡ r → link_cost 8 (media_link timed mpu (media_of r)) ≤ length bytes
    go (Ok v) is = omega (arith, payload_fits bytes v is, link_fits timed mpu v.head.part v.head.timed v.head.mpu v.units)
    go (Err d) is = other_fits timed mpu (length bytes)

bytes_cost : (l : Link) → length (link_bytes l) ≤ link_cost 8 l
bytes_cost (Link.Inner bytes) = omega arith
bytes_cost (Link.End bytes) = omega arith
bytes_cost Link.Break = omega arith

-- a link of a short payload has few bytes
pub short_link : (timed : Bool) (mpu : ℕ) (bytes : List ℕ) (l : Link) → l ≡ media_link timed mpu (media_of (payload_of bytes)) → length bytes < 2 ^ 31 → length (link_bytes l) < 2 ^ 31
short_link timed mpu bytes l is short = omega (arith, bytes_cost l, ap (link_cost 8) is, media_fits timed mpu bytes, short)

below : (us : List UnitValue) (n m : ℕ) → n < m → AllByRecursion (λ u. length u.bytes ≤ n) us → AllByRecursion (λ u. length u.bytes < m) us
below [] n m l h = tt
below (u ∷ us) n m l h = (omega (arith, l, h.0), below us n m l h.1)

pub units_below : (bytes : List ℕ) (v : Value) → payload_of bytes ≡ Ok v → length bytes < 2 ^ 31 → AllByRecursion (λ u. length u.bytes < 2 ^ 31) v.units
units_below bytes v e short = below v.units (length bytes) (2 ^ 31) short (units_short bytes v e)
