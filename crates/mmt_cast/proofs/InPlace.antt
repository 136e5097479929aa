-- What each packet of a cast carries goes with its packet id and number.
use Rattle.std.proofs.Common.{◌≡◌, ℕ, ◌+◌, ◌<◌, ◌≤◌, zero, suc, Bool, true, false, ◌==◌, cond, nat_le, nat_lt, List, ◌∷◌, ◌++◌, length, get_or, arith, refl, ap, sym, ◌∙◌}
use Rattle.std.proofs.lemmas.Bool.{and_from, eq-eqb, eqb-false, eqb-true, le-leb, lt-ltb}
use Rattle.mmt_cast.proofs.Copies.{table-copied}
use Rattle.mmt_cast.proofs.Found.{each-sent}
use Rattle.mmt_cast.proofs.Listing.{each-at}
use Rattle.mmt_cast.proofs.Numbering.{before}
use Rattle.mmt_cast.proofs.Reading.{length-units, mpu-of}
use Rattle.mmt_cast.proofs.Rightness.{IsGroup, IsRightSending}
use Rattle.mmt_cast.proofs.SentIn.{IsSentIn, one-mpu, right-sending, sent-at}
use Rattle.mmt_cast.proofs.Tabling.{table-read}
use Rattle.mmt_cast.proofs.Units.{read-off}
use Rattle.mmt_cast.specs.Casting.{cast_of, copies_as_sent, with_number}
use Rattle.mmt_frag.specs.Cuts.{parts}
use Rattle.mmt_cast.specs.Placing.{PlacedMpu, PlacedUnit, all_units}
use Rattle.mmt_cast.specs.Right.{IsRight, contents_of, unit_at}
use Rattle.mmt_cast.specs.Sending.{Sending, carried, id_of, packet_count, packet_of, sendings}
use Rattle.mmt_cast.specs.Tables.{table_message_length}
use Rattle.mmt_model.specs.Carrying.{IsInItsPlace, copy_place, entry_of_unit, no_table_copy, sent_unit, table_copy}
use Rattle.mmt_model.specs.Survival.{no_packet}
use Rattle.mmt_model.specs.declared.casts.Cast.{Cast}
use Rattle.mmt_model.specs.declared.casts.Sent.{Sent}
use Rattle.mmt_model.specs.declared.casts.TableCopy.{TableCopy}
use Rattle.mmt_model.specs.declared.programmes.Programme.{Programme}
use Rattle.mmt_model.specs.declared.casts.Carries.TheVariants as carries

-- a number of at least 1 that is not 1 is at least 2
two-from : (n : ℕ) → 1 ≤ n → (n == 1) ≡ false → 2 ≤ n
two-from zero l e = absurd (omega arith)
two-from (suc zero) l e = absurd (eqb-false 1 1 e refl)
two-from (suc (suc n)) l e = omega arith

timed-same : (programme : Programme) (files messages : ℕ → List ℕ) (u f : ℕ) → (unit_at programme u).in_mpu ≡ (unit_at programme f).in_mpu → (contents_of programme files messages).timed u ≡ (contents_of programme files messages).timed f
unfolding contents_of
timed-same programme files messages u f e = ap (λ (m : PlacedMpu). m.in_asset.timed) e

-- each sending's packets are in their places
pub in-its-place : (programme : Programme) (files messages : ℕ → List ℕ) → IsRight programme → (a b : List Sending) (x : Sending) (k : ℕ) → sendings programme ≡ a ++ x ∷ b → k < packet_count programme x
    → IsInItsPlace (cast_of programme) (contents_of programme files messages) (id_of x) (before programme a x + k) (carried programme x k)
unfolding carried id_of packet_count table_copy cast_of
in-its-place programme files messages right a b (Sending.Parameters s at) k e l = tt
in-its-place programme files messages right a b (Sending.Table s at bytes) k e l =
    let x : Sending = Sending.Table s at bytes in
    let is : IsRightSending programme x = right-sending programme a b x e in
    let names : List (ℕ × ℕ) = is.1 in
    let e' : sendings programme ≡ a ++ Sending.Table s at (table_message_length programme names) ∷ b = e ∙ ap (λ n. a ++ Sending.Table s at n ∷ b) is.3 in
    let r = table-read programme right s at names a b e' in
    let t = table-copied programme s (record { 0 = at }) names is.0 is.2 in
    let count : (get_or (copies_as_sent programme) (copy_place (copies_as_sent programme) s) no_table_copy).count ≡ parts bytes programme.limit = ap (λ (w : TableCopy). w.count) t.1 ∙ (r.count ∙ ap (λ n. parts n programme.limit) (sym is.3)) in
    let number : (get_or (copies_as_sent programme) (copy_place (copies_as_sent programme) s) no_table_copy).first_number ≡ before programme a x = ap (λ (w : TableCopy). w.first_number) t.1 ∙ (r.number ∙ ap (λ n. before programme a (Sending.Table s at n)) (sym is.3)) in
    go t.0 (parts bytes programme.limit) l (omega (arith, r.some, ap (λ n. parts n programme.limit) is.3)) count number (parts bytes programme.limit == 1) refl
  where
    go : copy_place (copies_as_sent programme) s < length (copies_as_sent programme) → (n : ℕ) → k < n → 1 ≤ n → (get_or (copies_as_sent programme) (copy_place (copies_as_sent programme) s) no_table_copy).count ≡ n
        → (get_or (copies_as_sent programme) (copy_place (copies_as_sent programme) s) no_table_copy).first_number ≡ before programme a (Sending.Table s at bytes) → (t : Bool) → (n == 1) ≡ t
        → IsInItsPlace (cast_of programme) (contents_of programme files messages) 0 (before programme a (Sending.Table s at bytes) + k) (cond t (carries.Table s) (carries.TablePart s k))
    go there n below some count number true one = (there, refl, omega (arith, number, below, eqb-true n 1 one), omega (arith, count, eqb-true n 1 one))
    go there n below some count number false more = (there, refl, omega (arith, number), omega (arith, count, below), omega (arith, count, two-from n some more))
in-its-place programme files messages right a b (Sending.Alone u y) k e l =
    let x : Sending = Sending.Alone u y in
    let is : IsRightSending programme x = right-sending programme a b x e in
    let sent : IsSentIn programme u = sent-at programme right u is.0 a b x e (eq-eqb u u refl) in
    let off = read-off programme files messages u is.0 sent in
    go (omega (arith, is.0, length-units programme)) (parts y.value.length programme.limit) l sent.of.some (sym off.id) off.count off.number (parts y.value.length programme.limit == 1) refl
  where
    go : u < length (cast_of programme).units → (n : ℕ) → k < n → 1 ≤ n → y.in_mpu.in_asset.packet_id ≡ (entry_of_unit (cast_of programme) (contents_of programme files messages) u).packet_id
        → (sent_unit (cast_of programme) u).count ≡ n → (sent_unit (cast_of programme) u).first_number ≡ before programme a (Sending.Alone u y) → (t : Bool) → (n == 1) ≡ t
        → IsInItsPlace (cast_of programme) (contents_of programme files messages) y.in_mpu.in_asset.packet_id (before programme a (Sending.Alone u y) + k) (cond t (carries.Whole u) (carries.Fragment u k))
    go there n below some id count number true one = (there, id, omega (arith, number, below, eqb-true n 1 one), omega (arith, count, eqb-true n 1 one))
    go there n below some id count number false more = (there, id, omega (arith, number), omega (arith, count, below), omega (arith, count, two-from n some more))
in-its-place programme files messages right a b (Sending.Group f c y bytes) k e l =
    let cast : Cast = cast_of programme in
    let x : Sending = Sending.Group f c y bytes in
    let is : IsRightSending programme x = right-sending programme a b x e in
    let group : IsGroup programme f c y = is.3 in
    let first : (unit_at programme f).mpu_place ≡ y.mpu_place = ap (λ (z : PlacedUnit). z.mpu_place) is.2 in (
      omega (arith, is.1, length-units programme),
      (λ u from below.
          (let lu : u < length (all_units programme) = omega (arith, is.1, below) in
          let lf : f < length (all_units programme) = omega (arith, is.1, is.0) in
          let sent : IsSentIn programme u = sent-at programme right u lu a b x e (and_from (nat_le f u) (nat_lt u (f + c)) (le-leb f u from) (lt-ltb u (f + c) below)) in
          let off = read-off programme files messages u lu sent in
          let same : (unit_at programme u).mpu_place ≡ (unit_at programme f).mpu_place = (group u from below).0 ∙ sym first in
          (sym off.id, omega (arith, off.number, l), off.count, timed-same programme files messages u f (one-mpu programme u f lu lf same), mpu-of programme u lu ∙ (same ∙ sym (mpu-of programme f lf))))),
    )

pub packets-right : (programme : Programme) (files messages : ℕ → List ℕ) → IsRight programme → (n : ℕ) → n < length (cast_of programme).packets
    → (let p = get_or (cast_of programme).packets n no_packet in IsInItsPlace (cast_of programme) (contents_of programme files messages) p.packet_id p.number p.carries)
unfolding with_number packet_of
packets-right programme files messages right n l =
    each-at (λ (p : Sent). IsInItsPlace (cast_of programme) (contents_of programme files messages) p.packet_id p.number p.carries) (cast_of programme).packets n no_packet
    (each-sent programme (λ (p : Sent). IsInItsPlace (cast_of programme) (contents_of programme files messages) p.packet_id p.number p.carries) (λ a b x k e below. in-its-place programme files messages right a b x k e below)) l
