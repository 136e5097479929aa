-- The lone message of a payload, or the part of one, as a link of a run.
use Rattle.std.proofs.Common.{◌≡◌, ℕ, ◌+◌, ◌≤◌, Bool, true, false, ◌||◌, ◌==◌, ◌%◌, ◌/◌, List, [], ◌∷◌, map, length, refl, ap, sym, ◌∙◌, Option, Some, None, option_map, arith, subst}
use Rattle.std.specs.Prelude.{Result, Ok, Err}
use Rattle.std.specs.Int.{w8}
use Rattle.std.proofs.lemmas.Bool.{eqb-true}
use Rattle.mmt_base.specs.declared.refused.Refused.{Refused}
use Rattle.mmt_model.specs.declared.keys.Part.{Part}
use Rattle.mmt_model.specs.declared.keys.Part.TheVariants as parts
use Rattle.mmt_model.specs.Packets.{Heard, Payload}
use Rattle.mmt_model.specs.Units.{Link, Message, packet_at, link_at, signal_link, message, message_by, rest_of_run, next_number}
use Rattle.mmt_packet.specs.declared.packet.Kind.{Kind}
use Rattle.mmt_packet.specs.declared.packet.Kind.TheVariants as kinds
use Rattle.mmt_pool.specs.Holding.{Kept}
use Rattle.mmt_pool.specs.Holding.{packet_at as kept_at}
use Rattle.mmt_sig.specs.declared.head.SigWhy.{SigWhy}
use Rattle.mmt_sig.specs.Payload.{Payload as Signals}
use Rattle.mmt_sig.specs.PayloadReading.{payload_of, messages_of}
use Rattle.mmt_model.specs.Parts.{part_of as part_by}
use Rattle.mmt_runs.specs.Reading.{heard, signals_by, payload_by, media_of}
use Rattle.mmt_runs.proofs.Sums.{link_cost, IsWithin, weight_at, at_each, heard_length}
use Rattle.mmt_runs.proofs.Linking.{heard_at, payload_heard}
use Rattle.mmt_mpu.specs.declared.types.MpuWhy.{MpuWhy}
use Rattle.mmt_mpu.specs.Spelling.{Value as Mpu}
use Rattle.mmt_mpu.specs.Reading.{payload_of as mpu_of}
use Rattle.mmt_fields.specs.Reading.{◌>>=◌, check, number_at}
use Rattle.mmt_fields.proofs.Codec.{bind_ok, ok_is}
use Rattle.mmt_fields.proofs.Numbers.{number_leaves}
use Rattle.mmt_sig.specs.declared.head.SigWhy.TheVariants as why
use Rattle.mmt_runs.specs.MessageParts.{if_signalling, signalling_at, lone_part, lone_at}

-- a lone message or part as a link of a run
abbrev pub link_of : Option (Part × List ℕ) → Link
link_of None = Link.Break
link_of (Some (parts.Whole, bytes)) = Link.Break
link_of (Some (parts.First, bytes)) = Link.Break
link_of (Some (parts.Middle, bytes)) = Link.Inner bytes
link_of (Some (parts.Last, bytes)) = Link.End bytes

payload_link : (payload : Payload) → signal_link payload ≡ link_of (lone_part payload)
unfolding signal_link lone_part
payload_link (Payload.Media part timed mpu us) = refl
payload_link Payload.Other = refl
payload_link (Payload.Signalling parts.Whole []) = refl
payload_link (Payload.Signalling parts.Whole (b ∷ [])) = refl
payload_link (Payload.Signalling parts.Whole (b ∷ d ∷ ds)) = refl
payload_link (Payload.Signalling parts.First []) = refl
payload_link (Payload.Signalling parts.First (b ∷ [])) = refl
payload_link (Payload.Signalling parts.First (b ∷ d ∷ ds)) = refl
payload_link (Payload.Signalling parts.Middle []) = refl
payload_link (Payload.Signalling parts.Middle (b ∷ [])) = refl
payload_link (Payload.Signalling parts.Middle (b ∷ d ∷ ds)) = refl
payload_link (Payload.Signalling parts.Last []) = refl
payload_link (Payload.Signalling parts.Last (b ∷ [])) = refl
payload_link (Payload.Signalling parts.Last (b ∷ d ∷ ds)) = refl

pub lone_link : (o : Option Heard) → link_at signal_link o ≡ link_of (lone_at o)
unfolding link_at lone_at
lone_link None = refl
lone_link (Some h) = payload_link h.payload

-- the messages that begin with a lone message or part
abbrev pub begun : List Heard → Heard → Option (Part × List ℕ) → List Message
begun kept p None = []
begun kept p (Some (parts.Whole, bytes)) = []
begun kept p (Some (parts.First, bytes)) = message p bytes (rest_of_run signal_link kept p.packet_id (length kept) (next_number p.number))
begun kept p (Some (parts.Middle, bytes)) = []
begun kept p (Some (parts.Last, bytes)) = []

pub lone_message : (kept : List Heard) (p : Heard) (payload : Payload) → message_by kept p payload ≡ begun kept p (lone_part payload)
unfolding message_by lone_part
lone_message kept p (Payload.Media part timed mpu us) = refl
lone_message kept p Payload.Other = refl
lone_message kept p (Payload.Signalling parts.Whole []) = refl
lone_message kept p (Payload.Signalling parts.Whole (b ∷ [])) = refl
lone_message kept p (Payload.Signalling parts.Whole (b ∷ d ∷ ds)) = refl
lone_message kept p (Payload.Signalling parts.First []) = refl
lone_message kept p (Payload.Signalling parts.First (b ∷ [])) = refl
lone_message kept p (Payload.Signalling parts.First (b ∷ d ∷ ds)) = refl
lone_message kept p (Payload.Signalling parts.Middle []) = refl
lone_message kept p (Payload.Signalling parts.Middle (b ∷ [])) = refl
lone_message kept p (Payload.Signalling parts.Middle (b ∷ d ∷ ds)) = refl
lone_message kept p (Payload.Signalling parts.Last []) = refl
lone_message kept p (Payload.Signalling parts.Last (b ∷ [])) = refl
lone_message kept p (Payload.Signalling parts.Last (b ∷ d ∷ ds)) = refl

-- ---- what a payload spells

pub refused_lone : (r : Result Signals (Refused SigWhy)) (e : Refused SigWhy) → r ≡ Err e → lone_part (signals_by r) ≡ None
unfolding lone_part
refused_lone r e is = rw is refl

pub not_lone : (r : Result Signals (Refused SigWhy)) (v : Signals) → r ≡ Ok v → (length v.messages ≡ 1 → ⊥) → lone_part (signals_by r) ≡ None
unfolding lone_part
not_lone r v is n = rw is (go v.messages n)
  where
    go : (ms : List (List ℕ)) → (length ms ≡ 1 → ⊥) → lone_part (Payload.Signalling v.head.part ms) ≡ None
    go [] n = refl
    go (m ∷ []) n = absurd (n refl)
    go (m ∷ o ∷ ms) n = refl

pub is_lone : (r : Result Signals (Refused SigWhy)) (v : Signals) (bytes : List ℕ) (more : List (List ℕ)) → r ≡ Ok v → length v.messages ≡ 1 → v.messages ≡ bytes ∷ more → lone_part (signals_by r) ≡ Some (v.head.part, bytes)
unfolding lone_part
is_lone r v bytes more is n e = rw is (go v.messages n e)
  where
    go : (ms : List (List ℕ)) → length ms ≡ 1 → ms ≡ bytes ∷ more → lone_part (Payload.Signalling v.head.part ms) ≡ Some (v.head.part, bytes)
    go [] n e = absurd (omega arith)
    go (m ∷ []) n e = let same : m ≡ bytes = cc in rw same refl
    go (m ∷ o ∷ ms) n e = absurd (omega arith)

-- ---- the packet of a span

-- a kept packet by its kind and its payload
pub signals_none : (o : Option Kept) → option_map (λ p. p.kind) o ≡ None → signalling_at o ≡ None
signals_none None e = refl
signals_none (Some p) e = absurd cc

pub signals_other : (o : Option Kept) (k : Kind) → option_map (λ p. p.kind) o ≡ Some k → (k ≡ kinds.Signalling → ⊥) → signalling_at o ≡ None
signals_other None k e n = refl
signals_other (Some p) k e n = let same : p.kind ≡ k = cc in go p.kind (λ f. n (sym same ∙ f))
  where
    go : (j : Kind) → (j ≡ kinds.Signalling → ⊥) → if_signalling j p.payload ≡ None
    go kinds.Mpu m = refl
    go kinds.Generic m = refl
    go kinds.Signalling m = absurd (m refl)

pub signals_at : (o : Option Kept) → option_map (λ p. p.kind) o ≡ Some kinds.Signalling → signalling_at o ≡ option_map (λ p. p.payload) o
signals_at None e = refl
signals_at (Some p) e = let same : p.kind ≡ kinds.Signalling = cc in ap (λ k. if_signalling k p.payload) same

media_lone : (r : Result Mpu (Refused MpuWhy)) → lone_part (media_of r) ≡ None
unfolding lone_part
media_lone (Ok v) = refl
media_lone (Err e) = refl

other_lone : lone_part Payload.Other ≡ None
unfolding lone_part
other_lone = refl

kind_none : (bytes : List ℕ) (k : Kind) → if_signalling k bytes ≡ None → lone_part (payload_by k bytes) ≡ None
kind_none bytes kinds.Mpu e = media_lone (mpu_of bytes)
kind_none bytes kinds.Generic e = other_lone
kind_none bytes kinds.Signalling e = absurd cc

kind_some : (payload bytes : List ℕ) (k : Kind) → if_signalling k payload ≡ Some bytes → lone_part (payload_by k payload) ≡ lone_part (signals_by (payload_of bytes))
kind_some payload bytes kinds.Mpu e = absurd cc
kind_some payload bytes kinds.Generic e = absurd cc
kind_some payload bytes kinds.Signalling e = let s : payload ≡ bytes = cc in rw s refl

lone_none : (o : Option Kept) → signalling_at o ≡ None → lone_at (option_map heard o) ≡ None
unfolding lone_at
lone_none None e = refl
lone_none (Some p) e = rw (payload_heard p) (kind_none p.payload p.kind e)

lone_some : (bytes : List ℕ) (o : Option Kept) → signalling_at o ≡ Some bytes → lone_at (option_map heard o) ≡ lone_part (signals_by (payload_of bytes))
unfolding lone_at
lone_some bytes None e = absurd cc
lone_some bytes (Some p) e = rw (payload_heard p) (kind_some p.payload bytes p.kind e)

pub none_at : (kept : List Kept) (id number : ℕ) → signalling_at (kept_at kept id number) ≡ None → lone_at (packet_at (map heard kept) id number) ≡ None
none_at kept id number e = rw (heard_at kept id number) (lone_none (kept_at kept id number) e)

pub some_at : (kept : List Kept) (id number : ℕ) (bytes : List ℕ) → signalling_at (kept_at kept id number) ≡ Some bytes → lone_at (packet_at (map heard kept) id number) ≡ lone_part (signals_by (payload_of bytes))
some_at kept id number bytes e = rw (heard_at kept id number) (lone_some bytes (kept_at kept id number) e)

-- ---- a part has two bytes less than its payload

-- what a part counts for: two, and its bytes
abbrev pub part_cost : Option (Part × List ℕ) → ℕ
part_cost None = 0
part_cost (Some (parts.Whole, bytes)) = 0
part_cost (Some (parts.First, bytes)) = 2 + length bytes
part_cost (Some (parts.Middle, bytes)) = 2 + length bytes
part_cost (Some (parts.Last, bytes)) = 2 + length bytes

cost_lone : (part : Part) (bytes : List ℕ) → part_cost (Some (part, bytes)) ≤ 2 + length bytes
cost_lone parts.Whole bytes = omega arith
cost_lone parts.First bytes = omega arith
cost_lone parts.Middle bytes = omega arith
cost_lone parts.Last bytes = omega arith

cost_whole : (part : Part) (ms : List (List ℕ)) → part ≡ parts.Whole → part_cost (lone_part (Payload.Signalling part ms)) ≤ 0
unfolding lone_part
cost_whole part [] e = omega arith
cost_whole part (m ∷ []) e = rw e (omega arith)
cost_whole part (m ∷ o ∷ ms) e = omega arith

lone_is : (part : Part) (bytes : List ℕ) → lone_part (Payload.Signalling part (bytes ∷ [])) ≡ Some (part, bytes)
unfolding lone_part
lone_is part bytes = refl

whole_flags : (n : ℕ) → ((n % 2 == 0) || (n / 64 == 0)) ≡ true → (n % 2 == 1) ≡ true → n / 64 ≡ 0
whole_flags n w a = go (n % 2 == 0) (n / 64 == 0) refl refl w
  where
    go : (x y : Bool) → (n % 2 == 0) ≡ x → (n / 64 == 0) ≡ y → (x || y) ≡ true → n / 64 ≡ 0
    go true y e f w = absurd (let s : n % 2 ≡ 0 = eqb-true (n % 2) 0 e in let t : n % 2 ≡ 1 = eqb-true (n % 2) 1 a in omega arith)
    go false true e f w = eqb-true (n / 64) 0 f
    go false false e f w = absurd cc

checked_true : (b : Bool) (at : ℕ) (why : SigWhy) (u : Unit {0}) → check b at why ≡ Ok u → b ≡ true
checked_true true at why u e = refl
checked_true false at why u e = absurd cc

sized_messages : (aggregated long : Bool) (part : Part) (bytes : List ℕ) (ms : List (List ℕ)) → (aggregated ≡ true → part ≡ parts.Whole) → messages_of aggregated long bytes ≡ Ok ms → part_cost (lone_part (Payload.Signalling part ms)) ≤ 2 + length bytes
unfolding messages_of
sized_messages true long part bytes ms w e = omega (arith, cost_whole part ms (w refl))
sized_messages false long part bytes ms w e = let s : bytes ∷ [] ≡ ms = cc in rw (← s) (rw (lone_is part bytes) (cost_lone part bytes))

abbrev spelled : ℕ → ℕ → List (List ℕ) → Signals
spelled n counter ms = record { head = record { part = part_by (n / 64); reserved = n / 4 % 16; long = (n / 2 % 2 == 1); aggregated = (n % 2 == 1); counter = counter }; messages = ms }

abbrev last_step : ℕ → ℕ × List ℕ → Result Signals (Refused SigWhy)
last_step n counter = messages_of (n % 2 == 1) (n / 2 % 2 == 1) counter.1 >>= λ messages. Ok (spelled n counter.0 messages)

abbrev third_step : ℕ × List ℕ → Result Signals (Refused SigWhy)
third_step a = number_at w8 a.1 1 why.Short >>= λ counter. last_step a.0 counter

abbrev second_step : ℕ × List ℕ → Result Signals (Refused SigWhy)
second_step a = check ((a.0 % 2 == 0) || (a.0 / 64 == 0)) 0 why.AggregatedPart >>= λ whole. third_step a

abbrev IsSized : Signals → ℕ → Type 0
IsSized v n = part_cost (lone_part (Payload.Signalling v.head.part v.messages)) ≤ n

sized_last : (n : ℕ) (counter : ℕ × List ℕ) (v : Signals) → ((n % 2 == 1) ≡ true → part_by (n / 64) ≡ parts.Whole) → last_step n counter ≡ Ok v → IsSized v (2 + length counter.1)
sized_last n counter v w e =
    let m = bind_ok (messages_of (n % 2 == 1) (n / 2 % 2 == 1) counter.1) (λ messages. Ok (spelled n counter.0 messages)) v e in
    let is : spelled n counter.0 m.0 ≡ v = ok_is (spelled n counter.0 m.0) v m.2 in
    subst (λ x. IsSized x (2 + length counter.1)) is (sized_messages (n % 2 == 1) (n / 2 % 2 == 1) (part_by (n / 64)) counter.1 m.0 w m.1)

sized_third : (a : ℕ × List ℕ) (v : Signals) → ((a.0 % 2 == 1) ≡ true → part_by (a.0 / 64) ≡ parts.Whole) → third_step a ≡ Ok v → IsSized v (1 + length a.1)
sized_third a v w e =
    let x = bind_ok (number_at w8 a.1 1 why.Short) (λ counter. last_step a.0 counter) v e in
    omega (arith, number_leaves w8 a.1 1 why.Short x.0 x.1, sized_last a.0 x.0 v w x.2)

sized_second : (a : ℕ × List ℕ) (v : Signals) → second_step a ≡ Ok v → IsSized v (1 + length a.1)
sized_second a v e =
    let x = bind_ok (check ((a.0 % 2 == 0) || (a.0 / 64 == 0)) 0 why.AggregatedPart) (λ whole. third_step a) v e in
    sized_third a v (λ agg. ap part_by (whole_flags a.0 (checked_true ((a.0 % 2 == 0) || (a.0 / 64 == 0)) 0 why.AggregatedPart x.0 x.1) agg)) x.2

sized_ok : (bytes : List ℕ) (v : Signals) → payload_of bytes ≡ Ok v → IsSized v (length bytes)
unfolding payload_of
sized_ok bytes v e =
    let x = bind_ok (number_at w8 bytes 0 why.Short) second_step v e in
    omega (arith, number_leaves w8 bytes 0 why.Short x.0 x.1, sized_second x.0 v x.2)

sized_read : (bytes : List ℕ) (r : Result Signals (Refused SigWhy)) → payload_of bytes ≡ r → part_cost (lone_part (signals_by r)) ≤ length bytes
sized_read bytes (Ok v) e = sized_ok bytes v e
sized_read bytes (Err d) e = rw other_lone (omega arith)

sized_kind : (bytes : List ℕ) (k : Kind) → part_cost (lone_part (payload_by k bytes)) ≤ length bytes
sized_kind bytes kinds.Mpu = rw (media_lone (mpu_of bytes)) (omega arith)
sized_kind bytes kinds.Generic = rw other_lone (omega arith)
sized_kind bytes kinds.Signalling = sized_read bytes (payload_of bytes) refl

-- a part of a message has at least two bytes less than the payload that it is in
pub part_within : (p : Kept) → part_cost (lone_part (heard p).payload) ≤ length p.payload
part_within p = rw (payload_heard p) (sized_kind p.payload p.kind)

link_within : (o : Option (Part × List ℕ)) → link_cost 2 (link_of o) ≤ part_cost o
link_within None = omega arith
link_within (Some (parts.Whole, bytes)) = omega arith
link_within (Some (parts.First, bytes)) = omega arith
link_within (Some (parts.Middle, bytes)) = omega arith
link_within (Some (parts.Last, bytes)) = omega arith

pub signals_within : IsWithin 2 signal_link
signals_within p = rw (payload_link (heard p).payload) (omega (arith, link_within (lone_part (heard p).payload), part_within p))

-- and so has the part in the packet of a number
pub first_within : (kept : List Kept) (id number : ℕ) (bytes : List ℕ) → lone_at (packet_at (map heard kept) id number) ≡ Some (parts.First, bytes) → 2 + length bytes ≤ weight_at (λ h. h.length) (packet_at (map heard kept) id number)
unfolding lone_at
first_within kept id number bytes e =
    let w : part_cost (lone_at (packet_at (map heard kept) id number)) ≤ weight_at (λ h. h.length) (packet_at (map heard kept) id number) =
    at_each (λ o. part_cost (lone_at o) ≤ weight_at (λ h. h.length) o) (omega arith) (λ p. omega (arith, part_within p, heard_length p)) kept id number in
    rw e at w
