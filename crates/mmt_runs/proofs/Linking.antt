-- What a payload is to a run.
use Rattle.std.proofs.Common.{◌≡◌, ℕ, Bool, true, false, not, ◌&&◌, ◌==◌, cond, List, [], ◌∷◌, map, refl, ap, sym, ◌∙◌, Option, Some, None, option_map, inl, inr, zero, suc, ◌-◌, arith}
use Rattle.std.proofs.lemmas.Bool.{eq-eqb, eqb-true, and_parts}
use mathlib.Core.Bool.{beq}
use Rattle.mmt_model.specs.Packets.{Payload, DataUnit, Heard}
use Rattle.mmt_model.specs.declared.keys.Part.{Part}
use Rattle.mmt_model.specs.declared.keys.Part.TheVariants as parts
use Rattle.mmt_model.specs.Units.{Link, media_link, link_at, packet_at, same_flag, next_number, rest_of_run, after_link}
use Rattle.mmt_packet.specs.declared.packet.Kind.{Kind}
use Rattle.mmt_packet.specs.declared.packet.Kind.TheVariants as kinds
use Rattle.mmt_mpu.specs.Reading.{payload_of}
use Rattle.mmt_mpu.specs.Spelling.{Value, UnitValue}
use Rattle.mmt_mpu.specs.declared.types.MpuWhy.{MpuWhy}
use Rattle.mmt_base.specs.declared.refused.Refused.{Refused}
use Rattle.std.specs.Prelude.{Result, Ok, Err}
use Rattle.mmt_sig.specs.declared.head.SigWhy.{SigWhy}
use Rattle.mmt_sig.specs.Payload.{Payload as Signals}
use Rattle.mmt_sig.specs.PayloadReading.{payload_of as signals_of}
use Rattle.mmt_runs.specs.Lone.{Lone}
use Rattle.mmt_runs.specs.Media.{media_at, if_media}
use Rattle.mmt_runs.specs.Lending.{all_parts, parts_from, link_bytes}
use Rattle.mmt_pool.specs.Holding.{Kept, is_at}
use Rattle.mmt_pool.specs.Holding.{packet_at as kept_at}
use Rattle.mmt_runs.specs.Reading.{heard, media_of, payload_by, signals_by, data_unit_of}

pub no_piece : (timed : Bool) (mpu : ℕ) (part : Part) (t : Bool) (m : ℕ) → media_link timed mpu (Payload.Media part t m []) ≡ Link.Break
unfolding media_link
no_piece timed mpu parts.Whole t m = refl
no_piece timed mpu parts.First t m = refl
no_piece timed mpu parts.Middle t m = refl
no_piece timed mpu parts.Last t m = refl

pub two_pieces : (timed : Bool) (mpu : ℕ) (part : Part) (t : Bool) (m : ℕ) (p q : DataUnit) (ps : List DataUnit) → media_link timed mpu (Payload.Media part t m (p ∷ q ∷ ps)) ≡ Link.Break
unfolding media_link
two_pieces timed mpu parts.Whole t m p q ps = refl
two_pieces timed mpu parts.First t m p q ps = refl
two_pieces timed mpu parts.Middle t m p q ps = refl
two_pieces timed mpu parts.Last t m p q ps = refl

pub other_run : (timed : Bool) (mpu : ℕ) (part : Part) (t : Bool) (m : ℕ) (p : DataUnit) → (same_flag timed t && (mpu == m)) ≡ false → media_link timed mpu (Payload.Media part t m (p ∷ [])) ≡ Link.Break
unfolding media_link
other_run timed mpu parts.Whole t m p e = refl
other_run timed mpu parts.First t m p e = refl
other_run timed mpu parts.Middle t m p e = rw e refl
other_run timed mpu parts.Last t m p e = rw e refl

pub middle_run : (timed : Bool) (mpu : ℕ) (t : Bool) (m : ℕ) (p : DataUnit) → (same_flag timed t && (mpu == m)) ≡ true → media_link timed mpu (Payload.Media parts.Middle t m (p ∷ [])) ≡ Link.Inner p.bytes
unfolding media_link
middle_run timed mpu t m p e = rw e refl

pub last_run : (timed : Bool) (mpu : ℕ) (t : Bool) (m : ℕ) (p : DataUnit) → (same_flag timed t && (mpu == m)) ≡ true → media_link timed mpu (Payload.Media parts.Last t m (p ∷ [])) ≡ Link.End p.bytes
unfolding media_link
last_run timed mpu t m p e = rw e refl

-- the heard packet of a kept one
pub heard_at : (kept : List Kept) (id number : ℕ) → packet_at (map heard kept) id number ≡ option_map heard (kept_at kept id number)
unfolding packet_at heard is_at
heard_at [] id number = refl
heard_at (p ∷ kept) id number = go ((p.packet_id == id) && (p.number == number)) (heard_at kept id number)
  where
    go : (b : Bool) → packet_at (map heard kept) id number ≡ option_map heard (kept_at kept id number) → cond b (Some (heard p)) (packet_at (map heard kept) id number) ≡ option_map heard (cond b (Some p) (kept_at kept id number))
    go true ih = refl
    go false ih = ih

-- the kept packet of a span has its packet id and number
pub found_at : (kept : List Kept) (id number : ℕ) (p : Kept) → kept_at kept id number ≡ Some p → (p.packet_id ≡ id) × (p.number ≡ number)
unfolding is_at
found_at [] id number p e = absurd cc
found_at (q ∷ kept) id number p e = go ((q.packet_id == id) && (q.number == number)) refl (λ f. found_at kept id number p f) e
  where
    go : (b : Bool) → ((q.packet_id == id) && (q.number == number)) ≡ b → (kept_at kept id number ≡ Some p → (p.packet_id ≡ id) × (p.number ≡ number)) → cond b (Some q) (kept_at kept id number) ≡ Some p → (p.packet_id ≡ id) × (p.number ≡ number)
    go true t ih f = let s : q ≡ p = cc in let h = and_parts (q.packet_id == id) (q.number == number) t in (sym (ap (λ x. x.packet_id) s) ∙ eqb-true q.packet_id id h.0, sym (ap (λ x. x.number) s) ∙ eqb-true q.number number h.1)
    go false t ih f = ih f

pub payload_heard : (p : Kept) → (heard p).payload ≡ payload_by p.kind p.payload
unfolding heard
payload_heard p = refl

link_some : (link : Payload → Link) (h : Heard) → link_at link (Some h) ≡ link h.payload
unfolding link_at
link_some link h = refl

link_none : (link : Payload → Link) → link_at link None ≡ Link.Break
unfolding link_at
link_none link = refl

pub refused_link : (timed : Bool) (mpu : ℕ) (r : Result Value (Refused MpuWhy)) (e : Refused MpuWhy) → r ≡ Err e → media_link timed mpu (media_of r) ≡ Link.Break
unfolding media_link
refused_link timed mpu r e is = rw is refl

pub lone_link : (timed : Bool) (mpu : ℕ) (r : Result Value (Refused MpuWhy)) (v : Value) (u : UnitValue) → r ≡ Ok v → v.units ≡ u ∷ [] → media_link timed mpu (media_of r) ≡ media_link timed mpu (Payload.Media v.head.part v.head.timed v.head.mpu (data_unit_of u ∷ []))
lone_link timed mpu r v u is l = ap (λ x. media_link timed mpu (media_of x)) is ∙ ap (λ us. media_link timed mpu (Payload.Media v.head.part v.head.timed v.head.mpu (map data_unit_of us))) l

pub other_link : (timed : Bool) (mpu : ℕ) (r : Result Value (Refused MpuWhy)) (v : Value) → r ≡ Ok v → Lone v.units None → media_link timed mpu (media_of r) ≡ Link.Break
other_link timed mpu r v is (inl e) = ap (λ x. media_link timed mpu (media_of x)) is ∙ (ap (λ us. media_link timed mpu (Payload.Media v.head.part v.head.timed v.head.mpu (map data_unit_of us))) e ∙ no_piece timed mpu v.head.part v.head.timed v.head.mpu)
other_link timed mpu r v is (inr (x, y, ys, e)) = ap (λ x. media_link timed mpu (media_of x)) is ∙ (ap (λ us. media_link timed mpu (Payload.Media v.head.part v.head.timed v.head.mpu (map data_unit_of us))) e ∙ two_pieces timed mpu v.head.part v.head.timed v.head.mpu (data_unit_of x) (data_unit_of y) (map data_unit_of ys))

pub not_whole : (timed : Bool) (mpu : ℕ) (t : Bool) (m : ℕ) (p : DataUnit) → media_link timed mpu (Payload.Media parts.Whole t m (p ∷ [])) ≡ Link.Break
unfolding media_link
not_whole timed mpu t m p = refl

pub not_first : (timed : Bool) (mpu : ℕ) (t : Bool) (m : ℕ) (p : DataUnit) → media_link timed mpu (Payload.Media parts.First t m (p ∷ [])) ≡ Link.Break
unfolding media_link
not_first timed mpu t m p = refl

pub flag_same : (a b : Bool) → b ≡ a → same_flag a b ≡ true
flag_same true true e = refl
flag_same true false e = absurd cc
flag_same false true e = absurd cc
flag_same false false e = refl

-- the parts that are left
pub parts_step : (link : Payload → Link) (kept : List Heard) (id left : ℕ) (bytes : List ℕ) (number : ℕ) → (left ≡ 0 → ⊥) → all_parts link kept id left bytes number ≡ bytes ∷ parts_from link kept id (left - 1) number
parts_step link kept id zero bytes number n = absurd (n refl)
parts_step link kept id (suc left) bytes number n = ap (λ k. bytes ∷ parts_from link kept id k number) (omega arith)

pub parts_rest : (link : Payload → Link) (kept : List Heard) (id left : ℕ) (bytes : List ℕ) (number number' : ℕ) → (left ≡ 0 → ⊥) → bytes ≡ link_bytes (link_at link (packet_at kept id number)) → number' ≡ next_number number
    → all_parts link kept id left bytes number' ≡ parts_from link kept id left number
unfolding parts_from
parts_rest link kept id zero bytes number number' n b m = absurd (n refl)
parts_rest link kept id (suc left) bytes number number' n b m = rw (b, m) refl

media_kind : (timed : Bool) (mpu : ℕ) (kind : Kind) (payload bytes : List ℕ) → if_media kind payload ≡ Some bytes → media_link timed mpu (payload_by kind payload) ≡ media_link timed mpu (media_of (payload_of bytes))
media_kind timed mpu kinds.Mpu payload bytes e = let same : payload ≡ bytes = cc in ap (λ x. media_link timed mpu (media_of (payload_of x))) same
media_kind timed mpu kinds.Generic payload bytes e = absurd cc
media_kind timed mpu kinds.Signalling payload bytes e = absurd cc

pub signals_link : (timed : Bool) (mpu : ℕ) (r : Result Signals (Refused SigWhy)) → media_link timed mpu (signals_by r) ≡ Link.Break
unfolding media_link
signals_link timed mpu (Ok v) = refl
signals_link timed mpu (Err e) = refl

none_kind : (timed : Bool) (mpu : ℕ) (kind : Kind) (payload : List ℕ) → if_media kind payload ≡ None → media_link timed mpu (payload_by kind payload) ≡ Link.Break
unfolding media_link
none_kind timed mpu kinds.Mpu payload e = absurd cc
none_kind timed mpu kinds.Generic payload e = refl
none_kind timed mpu kinds.Signalling payload e = signals_link timed mpu (signals_of payload)

some_by : (timed : Bool) (mpu : ℕ) (bytes : List ℕ) (o : Option Kept) → media_at o ≡ Some bytes → link_at (media_link timed mpu) (option_map heard o) ≡ media_link timed mpu (media_of (payload_of bytes))
some_by timed mpu bytes None e = absurd cc
some_by timed mpu bytes (Some p) e = link_some (media_link timed mpu) (heard p) ∙ (ap (media_link timed mpu) (payload_heard p) ∙ media_kind timed mpu p.kind p.payload bytes e)

none_by : (timed : Bool) (mpu : ℕ) (o : Option Kept) → media_at o ≡ None → link_at (media_link timed mpu) (option_map heard o) ≡ Link.Break
none_by timed mpu None e = link_none (media_link timed mpu)
none_by timed mpu (Some p) e = link_some (media_link timed mpu) (heard p) ∙ (ap (media_link timed mpu) (payload_heard p) ∙ none_kind timed mpu p.kind p.payload e)

pub some_media : (timed : Bool) (mpu : ℕ) (kept : List Kept) (id number : ℕ) (bytes : List ℕ) → media_at (kept_at kept id number) ≡ Some bytes → link_at (media_link timed mpu) (packet_at (map heard kept) id number) ≡ media_link timed mpu (media_of (payload_of bytes))
some_media timed mpu kept id number bytes e = rw (heard_at kept id number) (some_by timed mpu bytes (kept_at kept id number) e)

pub none_media : (timed : Bool) (mpu : ℕ) (kept : List Kept) (id number : ℕ) → media_at (kept_at kept id number) ≡ None → link_at (media_link timed mpu) (packet_at (map heard kept) id number) ≡ Link.Break
none_media timed mpu kept id number e = rw (heard_at kept id number) (none_by timed mpu (kept_at kept id number) e)

-- a kept packet by its kind and its payload
pub at_none : (o : Option Kept) → option_map (λ p. p.kind) o ≡ None → media_at o ≡ None
at_none None e = refl
at_none (Some p) e = absurd cc

pub at_other : (o : Option Kept) (k : Kind) → option_map (λ p. p.kind) o ≡ Some k → (k ≡ kinds.Mpu → ⊥) → media_at o ≡ None
at_other None k e n = refl
at_other (Some p) k e n = let same : p.kind ≡ k = cc in go p.kind (λ f. n (sym same ∙ f))
  where
    go : (j : Kind) → (j ≡ kinds.Mpu → ⊥) → if_media j p.payload ≡ None
    go kinds.Mpu m = absurd (m refl)
    go kinds.Generic m = refl
    go kinds.Signalling m = refl

pub at_mpu : (o : Option Kept) → option_map (λ p. p.kind) o ≡ Some kinds.Mpu → media_at o ≡ option_map (λ p. p.payload) o
at_mpu None e = refl
at_mpu (Some p) e = let same : p.kind ≡ kinds.Mpu = cc in ap (λ k. if_media k p.payload) same

pub and_second : (a b : Bool) → b ≡ false → (a && b) ≡ false
and_second true b e = e
and_second false b e = refl

pub flag_from : (a b : Bool) (m : ℕ) (n : ℕ) → b ≡ a → n ≡ m → (same_flag a b && (m == n)) ≡ true
flag_from a b m n e f = rw (flag_same a b e, eq-eqb m n (sym f)) refl

pub flag_not : (a b : Bool) → not (beq b a) ≡ true → same_flag a b ≡ false
flag_not true true e = absurd cc
flag_not true false e = refl
flag_not false true e = refl
flag_not false false e = absurd cc

pub flag_yes : (a b : Bool) → not (beq b a) ≡ false → b ≡ a
flag_yes true true e = refl
flag_yes true false e = absurd cc
flag_yes false true e = absurd cc
flag_yes false false e = refl

pub and_first : (a b : Bool) → a ≡ false → (a && b) ≡ false
and_first true b e = absurd cc
and_first false b e = refl

-- how a run goes on
pub run_none : (link : Payload → Link) (kept : List Heard) (id number fuel : ℕ) → fuel ≡ 0 → rest_of_run link kept id fuel number ≡ None
unfolding rest_of_run
run_none link kept id number fuel e = rw e refl

pub run_step : (link : Payload → Link) (kept : List Heard) (id number fuel : ℕ) → (fuel ≡ 0 → ⊥) → rest_of_run link kept id fuel number ≡ after_link (link_at link (packet_at kept id number)) (rest_of_run link kept id (fuel - 1) (next_number number))
unfolding rest_of_run
run_step link kept id number zero n = absurd (n refl)
run_step link kept id number (suc fuel) n = ap (λ k. after_link (link_at link (packet_at kept id number)) (rest_of_run link kept id k (next_number number))) (omega arith)

pub run_break : (link : Payload → Link) (kept : List Heard) (id number fuel : ℕ) → (fuel ≡ 0 → ⊥) → link_at link (packet_at kept id number) ≡ Link.Break → rest_of_run link kept id fuel number ≡ None
unfolding after_link
run_break link kept id number fuel n e = rw (run_step link kept id number fuel n, e) refl

pub run_end : (link : Payload → Link) (kept : List Heard) (id number fuel : ℕ) (bytes : List ℕ) → (fuel ≡ 0 → ⊥) → link_at link (packet_at kept id number) ≡ Link.End bytes → rest_of_run link kept id fuel number ≡ Some (parts_from link kept id 1 number)
unfolding after_link parts_from
run_end link kept id number fuel bytes n e = rw (run_step link kept id number fuel n, e) refl

pub run_inner_none : (link : Payload → Link) (kept : List Heard) (id number fuel : ℕ) (bytes : List ℕ) → (fuel ≡ 0 → ⊥) → link_at link (packet_at kept id number) ≡ Link.Inner bytes → rest_of_run link kept id (fuel - 1) (next_number number) ≡ None
    → rest_of_run link kept id fuel number ≡ None
unfolding after_link
run_inner_none link kept id number fuel bytes n e r = rw (run_step link kept id number fuel n, e, r) refl

pub run_inner_some : (link : Payload → Link) (kept : List Heard) (id number fuel count : ℕ) (bytes : List ℕ) → (fuel ≡ 0 → ⊥) → link_at link (packet_at kept id number) ≡ Link.Inner bytes
    → rest_of_run link kept id (fuel - 1) (next_number number) ≡ Some (parts_from link kept id count (next_number number)) → rest_of_run link kept id fuel number ≡ Some (parts_from link kept id (suc count) number)
unfolding after_link parts_from
run_inner_some link kept id number fuel count bytes n e r = rw (run_step link kept id number fuel n, e, r) refl
