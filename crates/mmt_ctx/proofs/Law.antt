-- What is read as a header-compressed packet was spelled so, and what is spelled so is read.
use Rattle.std.proofs.Common.{◌≡◌, ℕ, inl, inr, ◌+◌, ◌*◌, ◌/◌, ◌%◌, ◌^◌, ◌<◌, true, ◌||◌, eqb, leb, List, ◌++◌, length, Option, Some, None, refl, sym, append_assoc, arith, eq-eqb}
use Rattle.std.specs.Option.{is_some}
use Rattle.std.specs.Int.{w8, w16, w32, w128}
use Rattle.std.proofs.lemmas.Bool.{eqb-true, le-leb, or_cases}
use Rattle.std.proofs.lemmas.List.{length-append}
use Rattle.mmt_fields.specs.Reading.{big_endian}
use Rattle.mmt_fields.proofs.Codec.{Stage, Field, Format, Always, field, checked, checked_rest, made, field_of}
use Rattle.mmt_fields.proofs.Numbers.{u8_field, u16_field, u32_field, u128_field, optional_field, length_big_endian}
use Rattle.mmt_ip.specs.declared.packet.Ip6Header.{Ip6Header}
use Rattle.mmt_ip.specs.Spelling.{HeaderFits, first_word}
use Rattle.mmt_ip.proofs.Law.{made_header, header_is, header_fits}
use Rattle.mmt_ctx.specs.declared.packet.CtxWhy.TheVariants as why
use Rattle.mmt_ctx.specs.Spelling.{Fits, header_type, full_header, spelling}
use Rattle.mmt_ctx.specs.Reading.{header_at, packet_of}

abbrev HeaderRest : Type 0
HeaderRest = Ip6Header × List ℕ

header_stage : Stage {V = HeaderRest} (λ p. HeaderFits p.0) Always Always header_at (λ p. big_endian w32 (first_word p.0) ++ (big_endian w8 17 ++ (big_endian w8 p.0.hop_limit ++ (big_endian w128 p.0.source ++ (big_endian w128 p.0.destination ++ (big_endian w16 p.0.source_port ++ (big_endian w16 p.0.destination_port ++ p.1)))))))
unfolding header_at
header_stage =
    checked_rest (λ bytes. leb 42 (length bytes)) 3 why.Short _ (λ v c f. le-leb 42 _ (simp (length-append, length_big_endian) (omega arith))) (
    field _ (λ p. first_word p.0) (u32_field 3 why.Short) (λ v c f. omega arith) (λ word word_lt.
    checked (eqb (word / 2 ^ 28) 6) 3 (why.Version (word / 2 ^ 28)) _ (λ v c f. eq-eqb _ _ (omega arith)) (λ version.
    field _ (λ p. 17) (u8_field 7 why.Short) (λ v c f. omega arith) (λ next next_lt.
    checked (eqb next 17) 7 (why.NextHeader next) _ (λ v c f. eq-eqb _ _ (sym c.0)) (λ udp.
    field _ (λ p. p.0.hop_limit) (u8_field 8 why.Short) (λ v c f. f.hop_limit) (λ hop hop_lt.
    field _ (λ p. p.0.source) (u128_field 9 why.Short) (λ v c f. f.source) (λ source source_lt.
    field _ (λ p. p.0.destination) (u128_field 25 why.Short) (λ v c f. f.destination) (λ destination destination_lt.
    field _ (λ p. p.0.source_port) (u16_field 41 why.Short) (λ v c f. f.source_port) (λ source_port source_port_lt.
    field _ (λ p. p.0.destination_port) (u16_field 43 why.Short) (λ v c f. f.destination_port) (λ destination_port destination_port_lt.
    made (λ p. p.1) (λ rest. (made_header word hop source destination source_port destination_port, rest))
    (λ rest are known.
    let next_is : 17 ≡ next = sym (eqb-true _ _ udp) in
    let version_is : word / 2 ^ 28 ≡ 6 = eqb-true _ _ version in (
      refl,
      (refl, (refl, (refl, (refl, (refl, (next_is, (omega arith, tt))))))),
      header_fits word hop source destination source_port destination_port hop_lt source_lt destination_lt source_port_lt destination_port_lt,
    ))
    (λ v c f. let same : made_header word hop source destination source_port destination_port ≡ v.0 = header_is v.0 word hop source destination source_port destination_port f c.1.1.1.1.1.1.0 c.1.1.1.1.0 c.1.1.1.0 c.1.1.0 c.1.0 c.0 in rw same refl)))))))))))

header_field : Field header_at full_header HeaderFits
unfolding full_header
header_field = field_of full_header header_stage (λ v. simp append_assoc)

type_below : (o : Option Ip6Header) → header_type o < 2 ^ 8
type_below (Some h) = omega arith
type_below None = omega arith

type_known : (o : Option Ip6Header) → (eqb (header_type o) 96 || eqb (header_type o) 97) ≡ true
type_known (Some h) = refl
type_known None = refl

type_some : (o : Option Ip6Header) → is_some o ≡ eqb (header_type o) 96
type_some (Some h) = refl
type_some None = refl

type_again : (o : Option Ip6Header) (kind : ℕ) → is_some o ≡ eqb kind 96 → (eqb kind 96 || eqb kind 97) ≡ true → header_type o ≡ kind
type_again (Some h) kind some known = sym (eqb-true kind 96 (sym some))
type_again None kind some known =
    elim (or_cases (eqb kind 96) (eqb kind 97) known) [
      | inl e ↦ absurd cc
      | inr e ↦ sym (eqb-true kind 97 e)
    ]

pub packet_format : Format Fits packet_of spelling
unfolding packet_of spelling
packet_format =
    checked_rest (λ bytes. leb 3 (length bytes)) 0 why.Short _ (λ v c f. le-leb 3 _ (simp (length-append, length_big_endian) (omega arith))) (
    field _ (λ v. 16 * v.context + v.number) (u16_field 0 why.Short) (λ v c f. omega arith) (λ word word_lt.
    field _ (λ v. header_type v.header) (u8_field 2 why.Short) (λ v c f. type_below v.header) (λ kind kind_lt.
    checked (eqb kind 96 || eqb kind 97) 2 (why.OtherKind kind) _ (λ v c f. rw (← c.0) (type_known v.header)) (λ known.
    field _ (λ v. v.header) (optional_field (eqb kind 96) header_field) (λ v c f. (rw (← c.0) (type_some v.header), f.header)) (λ header header_fits.
    made (λ v. v.payload) (λ rest. record { context = word / 16; number = word % 16; header = header; payload = rest })
    (λ rest are seen. (refl, (refl, (type_again header kind header_fits.0 known, (omega arith, tt))), record { context = omega arith; number = omega arith; header = header_fits.1 }))
    (λ v c f.
    let word_is : 16 * v.context + v.number ≡ word = c.1.1.0 in
    let context : word / 16 ≡ v.context = omega (arith, word_is, f.number) in
    let number : word % 16 ≡ v.number = omega (arith, word_is, f.number) in
    rw (context, number, ← c.0) refl))))))
