-- A packet tunes with the same values by what is read of it and by what its payload spells.
use Rattle.std.proofs.Common.{◌≡◌, ℕ, Bool, true, false, ◌==◌, cond, List, Option, Some, None, Result, Ok, Err, refl}
use Rattle.mmt_base.specs.declared.refused.Refused.{Refused}
use Rattle.mmt_model.specs.declared.programmes.Params.{Params}
use Rattle.mmt_packet.specs.declared.packet.Kind.{Kind}
use Rattle.mmt_mpu.specs.declared.types.MpuWhy.{MpuWhy}
use Rattle.mmt_mpu.specs.Spelling.{Value as Mpu}
use Rattle.mmt_mpu.specs.Reading.{payload_of as mpu_of}
use Rattle.mmt_sig.specs.declared.head.SigWhy.{SigWhy}
use Rattle.mmt_sig.specs.Payload.{Payload as Signals}
use Rattle.mmt_sig.specs.PayloadReading.{payload_of as signals_of}
use Rattle.mmt_runs.specs.Reading.{heard, media_of, payload_by, signals_by}
use Rattle.mmt_tune.specs.Tuning.{is_signalling, values_in}
use Rattle.mmt_headline.specs.Tuning.{TunesAlike, values_spelled}
use Rattle.mmt_packet.specs.declared.packet.Kind.TheVariants as kinds

never : (b : Bool) → ◌≡◌ {A = Option Params} (cond b None None) None
never true = refl
never false = refl

no-media : (bound : ℕ) (r : Result Mpu (Refused MpuWhy)) → values_spelled bound (media_of r) ≡ None
no-media bound (Ok v) = refl
no-media bound (Err e) = refl

signals : (bound : ℕ) (r : Result Signals (Refused SigWhy)) → values_spelled bound (signals_by r) ≡ values_in bound r
signals bound (Ok v) = refl
signals bound (Err e) = refl

by-kind : (bound packet_id : ℕ) (kind : Kind) (bytes : List ℕ)
    → cond (packet_id == 0) (values_spelled bound (payload_by kind bytes)) None ≡ cond (is_signalling kind packet_id) (values_in bound (signals_of bytes)) None
by-kind bound packet_id kinds.Mpu bytes = rw (no-media bound (mpu_of bytes)) (never (packet_id == 0))
by-kind bound packet_id kinds.Generic bytes = never (packet_id == 0)
by-kind bound packet_id kinds.Signalling bytes = rw (signals bound (signals_of bytes)) refl

pub tunes-alike : TunesAlike
unfolding heard
tunes-alike (Some values) bound p = refl
tunes-alike None bound p = by-kind bound p.packet_id p.kind p.payload
