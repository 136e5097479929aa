-- The parts of a whole run of media have together no more bytes than are held.
use Rattle.std.proofs.Common.{◌≡◌, ℕ, ◌+◌, ◌≤◌, ◌<◌, ◌^◌, Bool, List, ◌∷◌, map, length, Option, Some, None, option_map, ap, arith}
use Rattle.std.proofs.lemmas.List.{length-append}
use Rattle.mmt_model.specs.Units.{media_link, packet_at, next_number, rest_of_run, joined, joined_unit}
use Rattle.mmt_packet.specs.declared.packet.Kind.{Kind}
use Rattle.mmt_packet.specs.declared.packet.Kind.TheVariants as kinds
use Rattle.mmt_sig.specs.PayloadReading.{payload_of as signals_of}
use Rattle.mmt_pool.specs.Holding.{Kept, held}
use Rattle.mmt_pool.specs.Holding.{packet_at as kept_at}
use Rattle.mmt_runs.specs.Media.{media_at, if_media}
use Rattle.mmt_mpu.specs.Spelling.{UnitValue}
use Rattle.mmt_runs.specs.Offers.{bare, run_of}
use Rattle.mmt_runs.specs.Reading.{heard, payload_by, data_unit_of}
use Rattle.mmt_runs.proofs.Sums.{link_cost, IsWithin, weight_at, heard_length, cost_bytes, run_fits, rest_fits, same_rest, next_below}
use Rattle.mmt_runs.proofs.Linking.{heard_at, payload_heard, signals_link}
use Rattle.mmt_runs.proofs.UnitSizes.{media_fits, other_fits}

pub joined_length : (b : List ℕ) (bs : List (List ℕ)) → length (joined (b ∷ bs)) ≡ length b + length (joined bs)
joined_length b bs = length-append b (joined bs)

within_kind : (timed : Bool) (mpu : ℕ) (bytes : List ℕ) (k : Kind) → link_cost 8 (media_link timed mpu (payload_by k bytes)) ≤ length bytes
within_kind timed mpu bytes kinds.Mpu = media_fits timed mpu bytes
within_kind timed mpu bytes kinds.Generic = other_fits timed mpu (length bytes)
within_kind timed mpu bytes kinds.Signalling = rw (signals_link timed mpu (signals_of bytes)) (omega arith)

pub media_within : (timed : Bool) (mpu : ℕ) → IsWithin 8 (media_link timed mpu)
media_within timed mpu p = rw (payload_heard p) (within_kind timed mpu p.payload p.kind)

-- the rest of a run has no more bytes than are held
pub rest_held : (timed : Bool) (mpu : ℕ) (kept : List Kept) (id most number : ℕ) (ps : List (List ℕ)) → number < 2 ^ 32 → held kept < 2 ^ 32 → rest_of_run (media_link timed mpu) (map heard kept) id most number ≡ Some ps → length (joined ps) ≤ held kept
rest_held timed mpu kept id most number ps a b e =
    omega (arith, cost_bytes 8 ps, rest_fits 8 (media_link timed mpu) (omega arith) (media_within timed mpu) kept id most number ps a b e)

same_bytes : (k : Kind) (payload bytes : List ℕ) → if_media k payload ≡ Some bytes → payload ≡ bytes
same_bytes kinds.Mpu payload bytes e = cc
same_bytes kinds.Generic payload bytes e = absurd cc
same_bytes kinds.Signalling payload bytes e = absurd cc

-- the packet of a media payload counts for the payload's bytes
media_weighs : (kept : List Kept) (id number : ℕ) (bytes : List ℕ) → media_at (kept_at kept id number) ≡ Some bytes → weight_at (λ h. h.length) (packet_at (map heard kept) id number) ≡ length bytes
media_weighs kept id number bytes e = rw (heard_at kept id number) (go (kept_at kept id number) e)
  where
    go : (o : Option Kept) → media_at o ≡ Some bytes → weight_at (λ h. h.length) (option_map heard o) ≡ length bytes
    go None f = absurd cc
    go (Some p) f = omega (arith, heard_length p, ap length (same_bytes p.kind p.payload bytes f))

-- nor has it together with the packet before it
pub whole_held : (timed : Bool) (mpu : ℕ) (kept : List Kept) (id most number : ℕ) (bytes : List ℕ) (ps : List (List ℕ)) → number < 2 ^ 32 → held kept < 2 ^ 32 → media_at (kept_at kept id number) ≡ Some bytes
    → rest_of_run (media_link timed mpu) (map heard kept) id most (next_number number) ≡ Some ps → length bytes + length (joined ps) ≤ held kept
whole_held timed mpu kept id most number bytes ps a b m e =
    omega (arith, media_weighs kept id number bytes m, cost_bytes 8 ps, run_fits 8 (media_link timed mpu) (omega arith) (media_within timed mpu) kept id most number ps a b e)

-- a run has no more packets than bytes are held
pub run_held : (timed : Bool) (mpu : ℕ) (kept : List Kept) (id number : ℕ) (u : UnitValue) → held kept < 2 ^ 32
    → run_of (map heard kept) id number timed mpu (held kept) (Some u) ≡ run_of (map heard kept) id number timed mpu (length (map heard kept)) (Some u)
run_held timed mpu kept id number u b = ap (joined_unit (bare id number) mpu (data_unit_of u)) (same_rest 8 (media_link timed mpu) (omega arith) (media_within timed mpu) kept id (next_number number) (next_below number) b)
