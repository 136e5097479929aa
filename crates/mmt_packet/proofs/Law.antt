-- What is read as a packet was spelled so, and what is spelled so is read.
use Rattle.std.proofs.Common.{◌≡◌, ℕ, ◌+◌, ◌*◌, ◌/◌, ◌%◌, ◌^◌, ◌<◌, Bool, true, false, eqb, ltb, List, ◌++◌, length, refl, sym, ap, append_assoc}
use Rattle.std.specs.Prelude.{not}
use Rattle.std.specs.Option.{is_some}
use Rattle.std.specs.Int.{w16, w32}
use Rattle.mmt_fields.specs.Reading.{big_endian}
use Rattle.mmt_fields.proofs.Codec.{Stage, Field, Format, Always, field, checked, made, field_of}
use Rattle.mmt_fields.proofs.Numbers.{u8_field, u16_field, u32_field, bytes_field, optional_field}
use Rattle.mmt_packet.specs.declared.packet.PacketWhy.TheVariants as why
use Rattle.mmt_packet.specs.Spelling.{Value, Ext, Fits, ExtFits, first_byte, second_byte, extension, spelling, is_scrambled}
use Rattle.mmt_packet.specs.Reading.{kind_of, counter_at, extension_at, extension_place, packet_of}
use Rattle.mmt_packet.proofs.Bits.{one_below, one_version, one_fec, one_counter, one_extension, one_rap, two_below, two_known, two_kind, reserved_again, one_again, two_again, reserved_below}

abbrev ExtRest : Type 0
ExtRest = Ext × List ℕ

not_true : (b : Bool) → not b ≡ true → b ≡ false
not_true true e = absurd cc
not_true false e = refl

extension_stage : (at : ℕ) → Stage {V = ExtRest} (λ p. ExtFits p.0) Always Always (extension_at at) (λ p. big_endian w16 p.0.kind ++ (big_endian w16 (length p.0.bytes) ++ (p.0.bytes ++ p.1)))
unfolding extension_at
extension_stage at =
    field _ (λ p. p.0.kind) (u16_field at why.Short) (λ v c f. f.kind) (λ kind kind_lt.
    field _ (λ p. length p.0.bytes) (u16_field (at + 2) why.Short) (λ v c f. f.len) (λ len len_lt.
    field _ (λ p. p.0.bytes) (bytes_field len (at + 4) why.Short) (λ v c f. c.0) (λ body body_len.
    checked (not (is_scrambled (record { kind = kind; bytes = body }))) (at + 4) why.Scrambled _ (λ v c f. rw (← c.0, ← c.1.1.0) (ap not f.clear)) (λ clear.
    made (λ p. p.1) (λ rest. (record { kind = kind; bytes = body }, rest)) (λ rest are known. (refl, (refl, (body_len, (refl, tt))), record { kind = kind_lt; len = rw body_len len_lt; clear = not_true _ clear })) (λ v c f. rw (← c.0, ← c.1.1.0) refl)))))

extension_field : (at : ℕ) → Field (extension_at at) extension ExtFits
unfolding extension
extension_field at = field_of extension (extension_stage at) (λ v. simp append_assoc)

counter_field : Field counter_at (big_endian w32) (λ n. n < 2 ^ 32)
counter_field = u32_field 12 why.Short

first_below : (v : Value) → Fits v → first_byte v < 2 ^ 8
first_below v f = one_below (is_some v.counter) (is_some v.extension) v.rap v.reserved f.reserved

pub packet_format : Format Fits packet_of spelling
unfolding packet_of spelling
packet_format =
    field _ first_byte (u8_field 0 why.Short) (λ v c f. first_below v f) (λ a a_lt.
    checked (eqb (a / 64) 0) 0 (why.Version (a / 64)) _ (λ v c f. rw (← c.0) (one_version (is_some v.counter) (is_some v.extension) v.rap v.reserved f.reserved)) (λ version.
    checked (eqb (a / 8 % 4) 0) 0 (why.Fec (a / 8 % 4)) _ (λ v c f. rw (← c.0) (one_fec (is_some v.counter) (is_some v.extension) v.rap v.reserved f.reserved)) (λ fec.
    field _ second_byte (u8_field 1 why.Short) (λ v c f. two_below v.kind v.reserved) (λ b b_lt.
    checked (ltb (b % 64) 3) 1 (why.Kind (b % 64)) _ (λ v c f. rw (← c.0) (two_known v.kind v.reserved)) (λ known.
    field _ (λ v. v.packet_id) (u16_field 2 why.Short) (λ v c f. f.packet_id) (λ id id_lt.
    field _ (λ v. v.time) (u32_field 4 why.Short) (λ v c f. f.time) (λ time time_lt.
    field _ (λ v. v.number) (u32_field 8 why.Short) (λ v c f. f.number) (λ number number_lt.
    field _ (λ v. v.counter) (optional_field (eqb (a / 32 % 2) 1) counter_field) (λ v c f. (rw (← c.1.1.1.1.0) (sym (one_counter (is_some v.counter) (is_some v.extension) v.rap v.reserved f.reserved)), f.counter)) (λ counter counter_fits.
    field _ (λ v. v.extension) (optional_field (eqb (a / 2 % 2) 1) (extension_field (extension_place (eqb (a / 32 % 2) 1)))) (λ v c f. (rw (← c.1.1.1.1.1.0) (sym (one_extension (is_some v.counter) (is_some v.extension) v.rap v.reserved f.reserved)), f.extension)) (λ extension extension_fits.
    made (λ v. v.payload) (λ rest. record { counter = counter; rap = (eqb (a % 2) 1); reserved = 4 * (a / 4 % 2) + b / 64; kind = kind_of (b % 64); packet_id = id; time = time; number = number; extension = extension; payload = rest })
    (λ rest are seen.
    let second = two_again a b b_lt known in
    let first = one_again a b a_lt b_lt version fec in
    (refl, (refl, (refl, (refl, (refl, (refl, (second, (rw (counter_fits.0, extension_fits.0) first, tt))))))), record { counter = counter_fits.1; reserved = reserved_below a b b_lt; packet_id = id_lt; time = time_lt; number = number_lt; extension = extension_fits.1 }))
    (λ v c f.
    let first = c.1.1.1.1.1.1.0 in
    let second = c.1.1.1.1.1.0 in
    let rap : eqb (a % 2) 1 ≡ v.rap = rw (← first) (one_rap (is_some v.counter) (is_some v.extension) v.rap v.reserved f.reserved) in
    let reserved : 4 * (a / 4 % 2) + b / 64 ≡ v.reserved = rw (← first, ← second) (reserved_again (is_some v.counter) (is_some v.extension) v.rap v.kind v.reserved f.reserved) in
    let kind : kind_of (b % 64) ≡ v.kind = rw (← second) (two_kind v.kind v.reserved) in
    rw (rap, reserved, kind, ← c.0, ← c.1.0, ← c.1.1.0, ← c.1.1.1.0, ← c.1.1.1.1.0) refl)))))))))))
