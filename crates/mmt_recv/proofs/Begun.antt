-- A packet in which no unit begins is kept: what was told of the others is still right.
use Rattle.std.proofs.Common.{◌≡◌, ℕ, ◌+◌, Bool, true, false, ◌||◌, cond, List, [], ◌∷◌, length, Option, Some, None, Result, Ok, Err, refl, ap, ◌∙◌}
use Rattle.std.specs.Prelude.{nat_lt}
use Rattle.std.specs.List.{list_any}
use Rattle.mmt_base.specs.declared.refused.Refused.{Refused}
use Rattle.mmt_base.specs.Ticks.{is_after, plus}
use Rattle.mmt_model.specs.Keeping.{Outcome}
use Rattle.mmt_model.specs.Sorted.{insert_by}
use Rattle.mmt_packet.specs.declared.packet.Kind.TheVariants as kinds
use Rattle.mmt_pool.specs.Doing.{span_of}
use Rattle.mmt_pool.specs.Holding.{Holding, Kept, IsInOrder, held, is_at, is_before, packet_at}
use Rattle.mmt_pool.specs.Outcome.{pool_outcome}
use Rattle.mmt_times.specs.Known.{Known}
use Rattle.mmt_mpu.specs.Reading.{payload_of}
use Rattle.mmt_mpu.specs.Spelling.{Value as Mpu}
use Rattle.mmt_sig.specs.declared.head.SigWhy.{SigWhy}
use Rattle.mmt_sig.specs.Payload.{Payload as Signals}
use Rattle.mmt_runs.specs.Index.{begun_by, spelled_at}
use Rattle.mmt_runs.specs.Reading.{heard, media_of, signals_by}
use Rattle.mmt_runs.specs.Told.{IsTold, Tracked}
use Rattle.mmt_runs.proofs.Indexing.{times-none}
use Rattle.mmt_runs.proofs.Spans.{added_told}

-- a packet that was stored was not kept before
new_by : (late again full : Bool) → cond late Outcome.Late (cond again Outcome.Repeat (cond full Outcome.Full Outcome.Stored)) ≡ Outcome.Stored → again ≡ false
new_by true again full e = absurd cc
new_by false true full e = absurd cc
new_by false false full e = refl

pub stored_new : (h : Holding) (clock delay : ℕ) (p : Kept) → pool_outcome h clock delay p ≡ Outcome.Stored → list_any (is_at p.packet_id p.number) h.kept ≡ false
unfolding pool_outcome
stored_new h clock delay p e = new_by (is_after clock (plus p.time delay)) (list_any (is_at p.packet_id p.number) h.kept) (nat_lt h.bound (held h.kept + length p.payload)) e

left_false : (x y : Bool) → (x || y) ≡ false → x ≡ false
left_false true y e = e
left_false false y e = refl

right_false : (x y : Bool) → (x || y) ≡ false → y ≡ false
right_false true y e = absurd cc
right_false false y e = e

shut_later : (id number : ℕ) (q : Kept) (ps : List Kept) → is_at id number q ≡ false → begun_by (spelled_at (packet_at ps id number)) ≡ None → begun_by (spelled_at (packet_at (q ∷ ps) id number)) ≡ None
shut_later id number q ps other shut = rw other shut

-- nothing begins in the kept packet of a span that no packet has
shut_new : (id number : ℕ) (kept : List Kept) → list_any (is_at id number) kept ≡ false → begun_by (spelled_at (packet_at kept id number)) ≡ None
shut_new id number [] e = refl
shut_new id number (q ∷ kept) e =
    shut_later id number q kept (left_false (is_at id number q) (list_any (is_at id number) kept) e) (shut_new id number kept (right_false (is_at id number q) (list_any (is_at id number) kept) e))

shut_front : (p : Kept) (rest : Option Kept) (b : Bool) → begun_by (heard p).payload ≡ None → begun_by (spelled_at rest) ≡ None → begun_by (spelled_at (cond b (Some p) rest)) ≡ None
shut_front p rest true shut others = shut
shut_front p rest false shut others = others

-- nor in that of a packet that was inserted, where none begins in it
shut_here : (p : Kept) (kept : List Kept) → begun_by (heard p).payload ≡ None → list_any (is_at p.packet_id p.number) kept ≡ false
    → begun_by (spelled_at (packet_at (insert_by is_before p kept) p.packet_id p.number)) ≡ None
unfolding insert_by
shut_here p [] shut e = shut_front p None (is_at p.packet_id p.number p) shut refl
shut_here p (q ∷ kept) shut e =
    let other : is_at p.packet_id p.number q ≡ false = left_false (is_at p.packet_id p.number q) (list_any (is_at p.packet_id p.number) kept) e in
    let others : list_any (is_at p.packet_id p.number) kept ≡ false = right_false (is_at p.packet_id p.number q) (list_any (is_at p.packet_id p.number) kept) e in
    go (is_before q p) other (shut_here p kept shut others) (shut_new p.packet_id p.number kept others)
  where
    go : (before : Bool) → is_at p.packet_id p.number q ≡ false
        → begun_by (spelled_at (packet_at (insert_by is_before p kept) p.packet_id p.number)) ≡ None → begun_by (spelled_at (packet_at kept p.packet_id p.number)) ≡ None
        → begun_by (spelled_at (packet_at (cond before (q ∷ insert_by is_before p kept) (p ∷ q ∷ kept)) p.packet_id p.number)) ≡ None
    go true other after later = shut_later p.packet_id p.number q (insert_by is_before p kept) other after
    go false other after later = shut_front p (packet_at (q ∷ kept) p.packet_id p.number) (is_at p.packet_id p.number p) shut (shut_later p.packet_id p.number q kept other later)

-- what was told is right with the packet
pub shut_told : (told : Tracked) (known : Known) (p : Kept) (kept now : List Kept) → begun_by (heard p).payload ≡ None → list_any (is_at p.packet_id p.number) kept ≡ false
    → IsTold told kept known → now ≡ insert_by is_before p kept → IsInOrder now → IsTold told now known
shut_told told known p kept now shut new t placed o =
    let here : begun_by (spelled_at (packet_at now p.packet_id p.number)) ≡ None = ap (λ ps. begun_by (spelled_at (packet_at ps p.packet_id p.number))) placed ∙ shut_here p kept shut new in
    added_told told told (span_of p) p kept now known (rw here tt) (λ t n. refl) (λ d h. h) (λ i. times-none told.index known (span_of p) _ here) (λ i. i) t refl placed o

-- units begin in no signalling
signals_shut : (x : Result Signals (Refused SigWhy)) → begun_by (signals_by x) ≡ None
signals_shut (Ok v) = refl
signals_shut (Err e) = refl

pub signalling_shut : (p : Kept) → p.kind ≡ kinds.Signalling → begun_by (heard p).payload ≡ None
unfolding heard
signalling_shut p kind = rw kind (signals_shut _)

-- nor in a media payload that is read so
pub media_shut_by : (p : Kept) (v : Mpu) → p.kind ≡ kinds.Mpu → payload_of p.payload ≡ Ok v → begun_by (media_of (Ok v)) ≡ None → begun_by (heard p).payload ≡ None
unfolding heard
media_shut_by p v kind read shut = rw (kind, read) shut
