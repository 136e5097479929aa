-- What is read as a packet was spelled so, and what is spelled so is read.
use Rattle.std.proofs.Common.{◌≡◌, ℕ, zero, suc, inl, inr, ◌-◌, ◌+◌, ◌/◌, ◌%◌, ◌^◌, ◌<◌, ◌≤◌, Bool, true, false, ◌||◌, eqb, leb, List, length, refl, sym, ap, ◌∙◌, arith, eq-eqb}
use Rattle.std.specs.Prelude.{not}
use Rattle.std.proofs.lemmas.Bool.{eqb-true, le-leb, or_left, or_right, or_cases}
use Rattle.std.proofs.lemmas.Bool.Decides.{nat_tests}
use Rattle.std.proofs.lemmas.List.{length-append}
use Rattle.mmt_fields.proofs.Codec.{Format, field, checked, checked_rest, made}
use Rattle.mmt_fields.proofs.Numbers.{u8_field, u16_field, u32_field, u128_field, length_big_endian}
use Rattle.mmt_ip.specs.declared.packet.Ip6Header.{Ip6Header}
use Rattle.mmt_ip.specs.declared.packet.IpWhy.TheVariants as why
use Rattle.mmt_ip.specs.Spelling.{HeaderFits, Fits, first_word, udp_length, covered, checksum, sum_of, sum_field, spelling}
use Rattle.mmt_ip.specs.Sum.{written, ones_sum}
use Rattle.mmt_ip.specs.Reading.{packet_of}

abbrev pub made_header : ℕ → ℕ → ℕ → ℕ → ℕ → ℕ → Ip6Header
made_header word hop source destination source_port destination_port = record { traffic_class = word / 2 ^ 20 % 2 ^ 8; flow_label = word % 2 ^ 20; hop_limit = hop; source = source; destination = destination; source_port = source_port; destination_port = destination_port }

pub header_is : (h : Ip6Header) (word hop source destination source_port destination_port : ℕ) → HeaderFits h → first_word h ≡ word → h.hop_limit ≡ hop → h.source ≡ source → h.destination ≡ destination → h.source_port ≡ source_port → h.destination_port ≡ destination_port
    → made_header word hop source destination source_port destination_port ≡ h
header_is h word hop source destination source_port destination_port f w a b c d e =
    let tc : word / 2 ^ 20 % 2 ^ 8 ≡ h.traffic_class = omega arith in
    let fl : word % 2 ^ 20 ≡ h.flow_label = omega arith in
    rw (tc, fl, ← a, ← b, ← c, ← d, ← e) refl

pub header_fits : (word hop source destination source_port destination_port : ℕ) → hop < 2 ^ 8 → source < 2 ^ 128 → destination < 2 ^ 128 → source_port < 2 ^ 16 → destination_port < 2 ^ 16 → HeaderFits (made_header word hop source destination source_port destination_port)
header_fits word hop source destination source_port destination_port a b c d e = record { traffic_class = omega arith; flow_label = omega arith; hop_limit = a; source = b; destination = c; source_port = d; destination_port = e }

written_below : (n : ℕ) → n ≤ 65535 → written n < 2 ^ 16
written_below zero le = omega arith
written_below (suc n) le = omega arith

some_is_not_zero : (n : ℕ) → 0 < n → eqb n 0 ≡ false
some_is_not_zero n lt = grind (arith, nat_tests)

written_some : (n : ℕ) → eqb (written n) 0 ≡ false
written_some zero = refl
written_some (suc n) = some_is_not_zero (suc n) (omega arith)

sum_below : (s : Bool) (h : Ip6Header) (p : List ℕ) → sum_of s h p < 2 ^ 16
unfolding checksum
sum_below true h p = written_below (65535 - ones_sum (covered h p)) (omega arith)
sum_below false h p = omega arith

sum_right : (s : Bool) (h : Ip6Header) (p : List ℕ) (n : ℕ) → sum_of s h p ≡ n → (eqb n 0 || eqb n (checksum h p)) ≡ true
sum_right true h p n e = or_right (eqb n 0) (eqb n (checksum h p)) (eq-eqb _ _ (sym e))
sum_right false h p n e = or_left (eqb n 0) (eqb n (checksum h p)) (eq-eqb _ _ (sym e))

sum_back : (h : Ip6Header) (p : List ℕ) (n : ℕ) → (eqb n 0 || eqb n (checksum h p)) ≡ true → sum_of (not (eqb n 0)) h p ≡ n
sum_back h p zero e = refl
sum_back h p (suc n) e =
    elim (or_cases (eqb (suc n) 0) (eqb (suc n) (checksum h p)) e) [
      | inl z ↦ absurd (let bad : suc n ≡ 0 = eqb-true _ _ z in omega arith)
      | inr r ↦ rw (some_is_not_zero (suc n) (omega arith)) (sym (eqb-true _ _ r))
    ]

summed_back : (s : Bool) (h : Ip6Header) (p : List ℕ) (n : ℕ) → sum_of s h p ≡ n → not (eqb n 0) ≡ s
unfolding checksum
summed_back true h p n e = rw (← e) (ap not (written_some (65535 - ones_sum (covered h p))))
summed_back false h p n e = rw (← e) refl

pub packet_format : Format Fits packet_of spelling
unfolding packet_of spelling
packet_format =
    checked_rest (λ bytes. leb 40 (length bytes)) 0 why.Short _ (λ v c f. le-leb 40 _ (simp (length-append, length_big_endian) (omega arith))) (
    field _ (λ v. first_word v.header) (u32_field 0 why.Short) (λ v c f. omega arith) (λ word word_lt.
    checked (eqb (word / 2 ^ 28) 6) 0 (why.Version (word / 2 ^ 28)) _ (λ v c f. eq-eqb _ _ (omega arith)) (λ version.
    field _ (λ v. udp_length v.payload) (u16_field 4 why.Short) (λ v c f. f.len) (λ len len_lt.
    field _ (λ v. 17) (u8_field 6 why.Short) (λ v c f. omega arith) (λ next next_lt.
    checked (eqb next 17) 6 (why.NextHeader next) _ (λ v c f. eq-eqb _ _ (sym c.0)) (λ udp.
    field _ (λ v. v.header.hop_limit) (u8_field 7 why.Short) (λ v c f. f.header.hop_limit) (λ hop hop_lt.
    field _ (λ v. v.header.source) (u128_field 8 why.Short) (λ v c f. f.header.source) (λ source source_lt.
    field _ (λ v. v.header.destination) (u128_field 24 why.Short) (λ v c f. f.header.destination) (λ destination destination_lt.
    checked_rest (λ rest. eqb (length rest) len) 4 why.Length _ (λ v c f. let is_len : udp_length v.payload ≡ len = c.1.1.1.1.0 in eq-eqb _ _ (simp (length-append, length_big_endian) (omega arith))) (
    checked_rest (λ rest. leb 8 (length rest)) 40 why.Short _ (λ v c f. le-leb 8 _ (simp (length-append, length_big_endian) (omega arith))) (
    field _ (λ v. v.header.source_port) (u16_field 40 why.Short) (λ v c f. f.header.source_port) (λ source_port source_port_lt.
    field _ (λ v. v.header.destination_port) (u16_field 42 why.Short) (λ v c f. f.header.destination_port) (λ destination_port destination_port_lt.
    field _ (λ v. udp_length v.payload) (u16_field 44 why.Short) (λ v c f. f.len) (λ udp_len udp_len_lt.
    checked (eqb udp_len len) 44 why.Length _ (λ v c f. eq-eqb _ _ (sym c.0 ∙ c.1.1.1.1.1.1.1.0)) (λ same.
    field _ (λ v. sum_field v) (u16_field 46 why.Short) (λ v c f. sum_below v.summed v.header v.payload) (λ sum sum_lt.
    checked_rest (λ rest. eqb sum 0 || eqb sum (checksum (made_header word hop source destination source_port destination_port) rest)) 46 why.Checksum _
    (λ v c f. let header_same : made_header word hop source destination source_port destination_port ≡ v.header = header_is v.header word hop source destination source_port destination_port f.header c.1.1.1.1.1.1.1.1.1.0 c.1.1.1.1.1.1.0 c.1.1.1.1.1.0 c.1.1.1.1.0 c.1.1.1.0 c.1.1.0 in rw header_same (sum_right v.summed v.header v.payload sum c.0)) (
    made (λ v. v.payload) (λ rest. record { header = made_header word hop source destination source_port destination_port; summed = not (eqb sum 0); payload = rest })
    (λ rest are known.
    let long = eqb-true _ _ known.1.1.0 in
    let is_len : 8 + length rest ≡ len = omega (arith, simp (length-append, length_big_endian) at long) in
    let next_is : 17 ≡ next = sym (eqb-true _ _ udp) in
    let same_is : udp_len ≡ len = eqb-true _ _ same in
    let version_is : word / 2 ^ 28 ≡ 6 = eqb-true _ _ version in (
      refl,
      (sum_back (made_header word hop source destination source_port destination_port) rest sum known.0, (omega arith, (refl, (refl, (refl, (refl, (refl, (next_is, (is_len, (omega arith, tt)))))))))),
      record { header = header_fits word hop source destination source_port destination_port hop_lt source_lt destination_lt source_port_lt destination_port_lt; len = omega arith },
    ))
    (λ v c f. let header_same : made_header word hop source destination source_port destination_port ≡ v.header = header_is v.header word hop source destination source_port destination_port f.header c.1.1.1.1.1.1.1.1.1.0 c.1.1.1.1.1.1.0 c.1.1.1.1.1.0 c.1.1.1.1.0 c.1.1.1.0 c.1.1.0 in rw (header_same, summed_back v.summed v.header v.payload sum c.0) refl))))))))))))))))))
