-- Each unit of a cast stands in the packets of its sending.
use Rattle.std.proofs.Common.{◌≡◌, ℕ, ◌+◌, ◌<◌, ◌≤◌, true, List, map, length, get_or, drop, arith, refl, ap, ap₂, sym, ◌∙◌, subst}
use Rattle.std.proofs.lemmas.List.{length-take}
use Rattle.mmt_cast.proofs.Found.{found, numbers-fit}
use Rattle.mmt_cast.proofs.Numbering.{before}
use Rattle.mmt_frag.proofs.PartsJoined.{joined-parts}
use Rattle.mmt_cast.proofs.Reading.{entry-of-unit, length-mpus, mpu-of, placed-unit, unit-sent}
use Rattle.mmt_cast.proofs.SentIn.{IsSentIn, sent-in}
use Rattle.mmt_cast.proofs.Spanning.{places, spanned}
use Rattle.mmt_cast.specs.Casting.{Span, cast_of, due_of_placed, planned, time_of_unit, unit_as_sent, with_number}
use Rattle.mmt_cast.specs.Placing.{PlacedMpu, PlacedUnit, all_units, entry_of_mpu}
use Rattle.mmt_cast.specs.Right.{IsRight, contents_of, unit_at, unit_bytes}
use Rattle.mmt_cast.specs.Sending.{Sending, id_of, packet_count, packet_of}
use Rattle.mmt_model.specs.Carrying.{Contents, IsPacketAt, IsSentUnit, entry_of_unit, first_of_places, has_part, last_of_places, numbers, place_of, places_of_unit, sent_unit}
use Rattle.mmt_base.specs.Ticks.{due_of}
use Rattle.mmt_model.specs.Entries.{Entry}
use Rattle.mmt_model.specs.Handing.{time_for}
use Rattle.mmt_model.specs.Survival.{no_packet}
use Rattle.mmt_model.specs.Units.{joined}
use Rattle.mmt_model.specs.declared.casts.Cast.{Cast}
use Rattle.mmt_model.specs.declared.casts.Sent.{Sent}
use Rattle.mmt_model.specs.declared.casts.SentUnit.{SentUnit}
use Rattle.mmt_model.specs.declared.programmes.Programme.{Programme}

part-at : (programme : Programme) (u : ℕ) (sent : IsSentIn programme u) (k : ℕ) → k < packet_count programme sent.sending
    → (let packets = (cast_of programme).packets in let c = before programme sent.front sent.sending in
    IsPacketAt packets (place_of packets (id_of sent.sending) (c + k)) (id_of sent.sending) (c + k) × (has_part u k (get_or packets (place_of packets (id_of sent.sending) (c + k)) no_packet).carries ≡ true))
unfolding with_number packet_of
part-at programme u sent k l =
    let f = found programme sent.front sent.back sent.sending k sent.is l in (
      record { of = f.of; has_id = ap (λ (p : Sent). p.packet_id) f.at; has_number = ap (λ (p : Sent). p.number) f.at },
      ap (λ (p : Sent). has_part u k p.carries) f.at ∙ sent.of.part k l,
    )

entry-id : (m : PlacedMpu) → (entry_of_mpu m).packet_id ≡ m.in_asset.packet_id
unfolding entry_of_mpu
entry-id m = refl

-- a unit's bytes are no more than its length
bytes-le : (files : ℕ → List ℕ) (x : PlacedUnit) → length (unit_bytes files x) ≤ x.value.length
unfolding unit_bytes
bytes-le files x = omega (arith, length-take x.value.length (drop x.value.from (files x.in_mpu.in_asset.file)))

-- the count, the first number and the packet id of a unit are those of its sending
pub record IsReadOff (programme : Programme) (files messages : ℕ → List ℕ) (u : ℕ) (sent : IsSentIn programme u) : Type 0 where
  pub count : (sent_unit (cast_of programme) u).count ≡ packet_count programme sent.sending
  pub number : (sent_unit (cast_of programme) u).first_number ≡ before programme sent.front sent.sending
  pub id : (entry_of_unit (cast_of programme) (contents_of programme files messages) u).packet_id ≡ id_of sent.sending

pub read-off : (programme : Programme) (files messages : ℕ → List ℕ) (u : ℕ) → u < length (all_units programme) → (sent : IsSentIn programme u) → IsReadOff programme files messages u sent
unfolding unit_as_sent
read-off programme files messages u l sent =
    let is : sent_unit (cast_of programme) u ≡ unit_as_sent programme u (unit_at programme u) = unit-sent programme u l in
    let s = spanned programme sent.front sent.back sent.sending sent.is in
    record {
      count = ap (λ (z : SentUnit). z.count) is ∙ (ap (λ (z : Span). z.count) sent.span ∙ s.count);
      number = ap (λ (z : SentUnit). z.first_number) is ∙ (ap (λ (z : Span). z.first_number) sent.span ∙ s.first_number sent.of.some);
      id = ap (λ (e : Entry). e.packet_id) (entry-of-unit programme files messages u l) ∙ (entry-id (unit_at programme u).in_mpu ∙ sym sent.of.id);
    }

pub unit-right : (programme : Programme) (files messages : ℕ → List ℕ) → IsRight programme → length (planned programme) ≤ 16777216 → (u : ℕ) → u < length (all_units programme)
    → IsSentUnit (cast_of programme) (contents_of programme files messages) u
unfolding unit_as_sent contents_of places_of_unit time_of_unit due_of_placed
unit-right programme files messages right few u l =
    let cast : Cast = cast_of programme in
    let contents : Contents = contents_of programme files messages in
    let x : PlacedUnit = unit_at programme u in
    let sent = sent-in programme right u l in
    let y : Sending = sent.sending in
    let c : ℕ = before programme sent.front y in
    let n : ℕ = packet_count programme y in
    let is : sent_unit cast u ≡ unit_as_sent programme u x = unit-sent programme u l in
    let entry : entry_of_unit cast contents u ≡ entry_of_mpu x.in_mpu = entry-of-unit programme files messages u l in
    let s = spanned programme sent.front sent.back y sent.is in
    let off = read-off programme files messages u l sent in
    let count : (sent_unit cast u).count ≡ n = off.count in
    let number : (sent_unit cast u).first_number ≡ c = off.number in
    let id : (entry_of_unit cast contents u).packet_id ≡ id_of y = off.id in
    let members : places_of_unit cast contents u ≡ places programme y c =
    ap (λ i. map (place_of cast.packets i) (numbers (sent_unit cast u).first_number (sent_unit cast u).count)) id
    ∙ ap₂ (λ f m. map (place_of cast.packets (id_of y)) (numbers f m)) number count in
    let mpu = mpu-of programme u l in
    record {
      known = omega (arith, mpu, (placed-unit programme u l).0, length-mpus programme);
      some = omega (arith, count, sent.of.some);
      low = omega (arith, count, number, numbers-fit programme sent.front sent.back y sent.is, few);
      each = λ k below.
          subst (λ i. IsPacketAt cast.packets (place_of cast.packets i ((sent_unit cast u).first_number + k)) i ((sent_unit cast u).first_number + k) × (has_part u k (get_or cast.packets (place_of cast.packets i ((sent_unit cast u).first_number + k)) no_packet).carries ≡ true)) (sym id)
          (subst (λ f. IsPacketAt cast.packets (place_of cast.packets (id_of y) (f + k)) (id_of y) (f + k) × (has_part u k (get_or cast.packets (place_of cast.packets (id_of y) (f + k)) no_packet).carries ≡ true)) (sym number)
          (part-at programme u sent k (omega (arith, below, count))));
      whole = ap (λ m. joined (map (contents.part u) (numbers 0 m))) count ∙ joined-parts programme.limit (unit_bytes files x) n (omega (arith, bytes-le files x, sent.of.enough));
      key = sym (ap (λ (z : SentUnit). z.key) is);
      time = ap (λ (z : SentUnit). z.time.0) is ∙ (ap (λ e. time_for 1 e x.value.key) (sym entry) ∙ ap (time_for 1 (entry_of_unit cast contents u)) (sym (ap (λ (z : SentUnit). z.key) is)));
      due = ap (λ (z : SentUnit). z.due.0) is ∙ ap due_of (sym (ap (λ (z : SentUnit). z.time.0) is));
      first = ap (λ (z : SentUnit). z.first.0) is ∙ (ap (λ (z : Span). z.first.0) sent.span ∙ (s.first ∙ ap (first_of_places cast.packets) (sym members)));
      last = ap (λ (z : SentUnit). z.last.0) is ∙ (ap (λ (z : Span). z.last.0) sent.span ∙ (s.last ∙ ap (last_of_places cast.packets) (sym members)));
    }
