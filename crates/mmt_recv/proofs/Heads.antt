-- How long the header of an MMTP packet is, and what is noted of signalling before tuning.
use Rattle.std.proofs.Common.{◌≡◌, ℕ, ◌+◌, ◌<◌, ◌^◌, Bool, true, length, Option, Some, None, refl, sym, ◌∙◌, arith}
use Rattle.std.specs.Prelude.{IfSome}
use Rattle.std.specs.Option.{is_some}
use Rattle.mmt_fields.proofs.Flags.{bit_below}
use Rattle.mmt_packet.specs.Spelling.{Value, Ext, ExtFits, Fits, extension_length, head_length, spelling}
use Rattle.mmt_packet.proofs.Lengths.{length_spelling}
use Rattle.mmt_sig.specs.PayloadReading.{payload_of}
use Rattle.mmt_tune.specs.Tuning.{is_signalling}
use Rattle.mmt_recv.specs.Noting.{lines_of, untuned_notes, untuned_signals}

pub head_is : (v : Value) (n : ℕ) → n + length v.payload ≡ length (spelling v) → n ≡ head_length v
head_is v n e = omega (arith, e, length_spelling v)

extension_small : (o : Option Ext) → IfSome o ExtFits → extension_length o < 65540
extension_small None fits = omega arith
extension_small (Some e) fits = let l = fits.len in omega (arith, l)

pub head_small : (v : Value) → Fits v → head_length v < 2 ^ 17
head_small v fits = omega (arith, bit_below (is_some v.counter), extension_small v.extension fits.extension)

signals_here : (b : Bool) → b ≡ true → (bound place : ℕ) (v : Value) → is_signalling v.kind v.packet_id ≡ b → lines_of (untuned_notes bound (record { place = place; packet = v })) ≡ lines_of (untuned_signals bound (place + head_length v) (payload_of v.payload))
signals_here b yes' bound place v is = rw (is ∙ yes') refl

pub signals_are : (bound place : ℕ) (v : Value) → is_signalling v.kind v.packet_id ≡ true → lines_of (untuned_signals bound (place + head_length v) (payload_of v.payload)) ≡ lines_of (untuned_notes bound (record { place = place; packet = v }))
signals_are bound place v is = sym (signals_here true refl bound place v is)
