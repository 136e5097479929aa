-- A payload that is written is read as what it spells.
use Rattle.std.proofs.Common.{◌≡◌, ℕ, ◌+◌, ◌<◌, ◌^◌, Bool, List, [], ◌∷◌, map, length, Ok, refl, ap, ◌∙◌, arith, eq-eqb}
use Rattle.std.proofs.lemmas.List.{length-append}
use Rattle.mmt_fields.proofs.Numbers.{length_big_endian}
use Rattle.mmt_model.specs.Carrying.{payload_carried}
use Rattle.mmt_model.specs.Packets.{DataUnit, Payload}
use Rattle.mmt_model.specs.declared.keys.Part.{Part}
use Rattle.mmt_mpu.specs.declared.types.MpuHead.{MpuHead}
use Rattle.mmt_mpu.specs.Spelling.{UnitValue, spelling as units_spelling}
use Rattle.mmt_mpu.specs.Reading.{payload_of as mpu_of}
use Rattle.mmt_mpu.specs.Writing.{bytes_place, placed, total_length}
use Rattle.mmt_mpu.proofs.Calls.{all_long}
use Rattle.mmt_mpu.proofs.Written.{written_is_read}
use Rattle.mmt_sig.specs.Payload.{Fits, messages_bytes, spelling as signals_spelling}
use Rattle.mmt_sig.specs.PayloadReading.{payload_of as signals_of}
use Rattle.mmt_sig.proofs.PayloadLaw.{payload_format}
use Rattle.mmt_runs.specs.Reading.{data_unit_of, media_of, signals_by}
use Rattle.mmt_sent.specs.Payloads.{Message, Units, as_signals, as_unit, written}
use Rattle.mmt_headline.specs.Heard.{PayloadsAreRead, PayloadsSpell}
use Rattle.mmt_model.specs.declared.casts.Carries.TheVariants as carries

-- ---- data units

units-again : (aggregated timed : Bool) (at : ℕ) (ds : List DataUnit) → map data_unit_of (placed aggregated timed at (map as_unit ds)) ≡ ds
units-again aggregated timed at [] = refl
units-again aggregated timed at (d ∷ ds) = ap (λ (xs : List DataUnit). d ∷ xs) (units-again aggregated timed (bytes_place aggregated timed at + length d.bytes) ds)

units-long : (head : MpuHead) (us : List UnitValue) → length (units_spelling (record { head = head; units = us })) ≡ total_length head us
unfolding units_spelling
units-long head us = simp (length-append, length_big_endian) (omega (arith, all_long head 8 us))

-- ---- one message or part of one

pub signals-read : (part : Part) (counter : ℕ) (message : List ℕ) → counter < 2 ^ 8 → signals_of (signals_spelling (as_signals part counter message)) ≡ Ok (as_signals part counter message)
signals-read part counter message lt =
    let fits : Fits (as_signals part counter message) = record { part = tt; reserved = omega arith; counter = lt; messages = refl } in
    let law = payload_format in law.again (as_signals part counter message) tt fits

signals-long : (part : Part) (counter : ℕ) (message : List ℕ) → length (signals_spelling (as_signals part counter message)) ≡ 2 + length message
unfolding signals_spelling messages_bytes
signals-long part counter message = simp (length-append, length_big_endian) (omega arith)

-- ---- a payload

pub payloads : PayloadsAreRead
payloads (Units head units) packet_id can id =
    let read : mpu_of (units_spelling (record { head = head; units = map as_unit units })) ≡ Ok (record { head = head; units = placed head.aggregated head.timed 8 (map as_unit units) }) = written_is_read head (map as_unit units) can in
    record {
      payload = ap media_of read ∙ ap (Payload.Media head.part head.timed head.mpu) (units-again head.aggregated head.timed 8 units);
      opened = rw read refl;
      long = units-long head (map as_unit units);
    }
payloads (Message part counter message) packet_id can id =
    let read : signals_of (signals_spelling (as_signals part counter message)) ≡ Ok (as_signals part counter message) = signals-read part counter message can in
    record {
      payload = ap signals_by read;
      opened = rw (read, eq-eqb packet_id 0 id) refl;
      long = signals-long part counter message;
    }

pub spell : PayloadsSpell
unfolding written payload_carried
spell cast contents (carries.Whole u) = refl
spell cast contents (carries.Fragment u k) = refl
spell cast contents (carries.Group f c) = refl
spell cast contents (carries.Parameters s) = refl
spell cast contents (carries.Table s) = refl
spell cast contents (carries.TablePart s k) = refl
