-- The cast of a right programme goes with what it is to carry.
use Rattle.std.proofs.Common.{◌≡◌, ℕ, ◌<◌, Bool, true, false, cond, List, [], length, get_or, arith, refl, ap, ap₂, sym, ◌∙◌, subst, Option, Some, None}
use Rattle.mmt_base.specs.declared.ticks.LongTick.{LongTick}
use Rattle.mmt_cast.proofs.Found.{each-sent}
use Rattle.mmt_cast.proofs.InPlace.{packets-right}
use Rattle.mmt_cast.proofs.Listing.{each-at}
use Rattle.mmt_frag.proofs.PartsJoined.{one-part}
use Rattle.mmt_cast.proofs.Placed.{IsPlaced, climbs, mpu-place, placed}
use Rattle.mmt_cast.proofs.Reading.{length-mpus, length-units, mpu-of, mpu-sent}
use Rattle.mmt_cast.proofs.Refusals.{few-packets, short-tables}
use Rattle.mmt_cast.proofs.Rightness.{IsRightSending}
use Rattle.mmt_cast.proofs.SentIn.{right-sending}
use Rattle.mmt_cast.proofs.Tabling.{copy-right}
use Rattle.mmt_cast.proofs.Units.{unit-right}
use Rattle.mmt_cast.specs.Casting.{cast_of, copies_as_sent, long_tick, mpu_as_sent, place_of_mpu, with_number}
use Rattle.mmt_cast.specs.Placing.{PlacedMpu, all_mpus, all_units, entry_of_mpu}
use Rattle.mmt_cast.specs.Right.{CastIsRight, IsMessage, IsRight, contents_of, mpu_at, no_mpu, no_placed_mpu, signal_at}
use Rattle.mmt_cast.specs.Sending.{Sending, carried, packet_of}
use Rattle.mmt_model.specs.Carrying.{mpu_of, named_from_of, tick_of}
use Rattle.mmt_model.specs.Survival.{no_packet}
use Rattle.mmt_model.specs.Entries.{Entry}
use Rattle.mmt_model.specs.Right.{no_asset}
use Rattle.mmt_model.specs.declared.casts.Carries.{Carries}
use Rattle.mmt_model.specs.declared.casts.Sent.{Sent}
use Rattle.mmt_model.specs.declared.casts.SentMpu.{SentMpu}
use Rattle.mmt_model.specs.declared.programmes.Asset.{Asset}
use Rattle.mmt_model.specs.declared.programmes.Mpu.{Mpu}
use Rattle.mmt_model.specs.declared.programmes.Programme.{Programme}
use Rattle.mmt_model.specs.declared.casts.Carries.TheVariants as carries
use Rattle.mmt_model.specs.declared.programmes.Signal.TheVariants as signals

-- ---- buffer messages

-- a packet with a buffer message has one that is the programme's
abbrev pub IsParameters : Programme → Carries → Type 0
IsParameters programme (carries.Parameters s) = (s < length programme.signals) × (at : LongTick) × (signal_at programme s ≡ signals.Parameters at)
IsParameters programme (carries.Whole u) = Unit {0}
IsParameters programme (carries.Fragment u k) = Unit {0}
IsParameters programme (carries.Group f c) = Unit {0}
IsParameters programme (carries.Table s) = Unit {0}
IsParameters programme (carries.TablePart s k) = Unit {0}

of-parameters : (programme : Programme) (x : Sending) (k : ℕ) → IsRightSending programme x → IsParameters programme (carried programme x k)
unfolding carried
of-parameters programme (Sending.Parameters s at) k is = (is.0, record { 0 = at }, is.1)
of-parameters programme (Sending.Table s at bytes) k is = go _
  where
    go : (t : Bool) → IsParameters programme (cond t (carries.Table s) (carries.TablePart s k))
    go true = tt
    go false = tt
of-parameters programme (Sending.Alone u x) k is = go _
  where
    go : (t : Bool) → IsParameters programme (cond t (carries.Whole u) (carries.Fragment u k))
    go true = tt
    go false = tt
of-parameters programme (Sending.Group f c x bytes) k is = tt

parameters-right : (programme : Programme) (files messages : ℕ → List ℕ) (names_in : List ℕ → List Entry) → IsRight programme
    → ((s : ℕ) → s < length programme.signals → IsMessage programme names_in (signal_at programme s) (messages s))
    → (n s : ℕ) → n < length (cast_of programme).packets → (get_or (cast_of programme).packets n no_packet).carries ≡ carries.Parameters s → names_in ((contents_of programme files messages).message_part s 0) ≡ []
unfolding contents_of with_number packet_of
parameters-right programme files messages names_in right spelled n s l e =
    let q : Sent = get_or (cast_of programme).packets n no_packet in
    let is : IsParameters programme q.carries =
    each-at (λ (p : Sent). IsParameters programme p.carries) (cast_of programme).packets n no_packet
    (each-sent programme (λ (p : Sent). IsParameters programme p.carries) (λ a b x k split below. of-parameters programme x k (right-sending programme a b x split))) l in
    let of : IsParameters programme (carries.Parameters s) = subst (IsParameters programme) e is in
    let m : IsMessage programme names_in (signals.Parameters of.1) (messages s) = subst (λ signal. IsMessage programme names_in signal (messages s)) of.2 (spelled s of.0) in
    ap names_in (one-part programme.limit (messages s) (omega (arith, m.0, right.limit))) ∙ m.1

-- ---- MPUs

entry-number : (m : PlacedMpu) → (entry_of_mpu m).mpu ≡ m.value.number
unfolding entry_of_mpu
entry-number m = refl

entry-id : (m : PlacedMpu) → (entry_of_mpu m).packet_id ≡ m.in_asset.packet_id
unfolding entry_of_mpu
entry-id m = refl

placed-at : (programme : Programme) (m : ℕ) → m < length (all_mpus programme) → IsPlaced programme (mpu_at programme m)
unfolding mpu_at
placed-at programme m l = each-at (IsPlaced programme) (all_mpus programme) m no_placed_mpu (placed programme) l

mpus-differ : (programme : Programme) → IsRight programme → (m j : ℕ) → m < length (all_mpus programme) → j < length (all_mpus programme)
    → (entry_of_mpu (mpu_at programme m)).packet_id ≡ (entry_of_mpu (mpu_at programme j)).packet_id → (entry_of_mpu (mpu_at programme m)).mpu ≡ (entry_of_mpu (mpu_at programme j)).mpu → m ≡ j
mpus-differ programme right m j lm lj ids numbers =
    let x : PlacedMpu = mpu_at programme m in
    let y : PlacedMpu = mpu_at programme j in
    let px = placed-at programme m lm in
    let py = placed-at programme j lj in
    let one_id : x.in_asset.packet_id ≡ y.in_asset.packet_id = sym (entry-id x) ∙ (ids ∙ entry-id y) in
    let one_number : x.value.number ≡ y.value.number = sym (entry-number x) ∙ (numbers ∙ entry-number y) in
    let asset : x.asset ≡ y.asset = right.one_id x.asset y.asset px.0 py.0 (ap (λ (a : Asset). a.packet_id) px.1 ∙ (one_id ∙ sym (ap (λ (a : Asset). a.packet_id) py.1))) in
    let in_asset : x.in_asset ≡ y.in_asset = sym px.1 ∙ (ap (λ i. get_or programme.assets i no_asset) asset ∙ py.1) in
    let mpus : (get_or programme.assets x.asset no_asset).mpus ≡ x.in_asset.mpus = ap (λ (a : Asset). a.mpus) px.1 in
    let mpus' : (get_or programme.assets x.asset no_asset).mpus ≡ y.in_asset.mpus = mpus ∙ ap (λ (a : Asset). a.mpus) in_asset in
    let mpu : x.mpu ≡ y.mpu =
    right.one_number x.asset x.mpu y.mpu px.0 (omega (arith, px.2, ap (λ (l : List Mpu). length l) mpus)) (omega (arith, py.2, ap (λ (l : List Mpu). length l) mpus'))
    (ap (λ (l : List Mpu). (get_or l x.mpu no_mpu).number) mpus ∙ (ap (λ (v : Mpu). v.number) px.3 ∙ (one_number ∙ (sym (ap (λ (v : Mpu). v.number) py.3) ∙ sym (ap (λ (l : List Mpu). (get_or l y.mpu no_mpu).number) mpus'))))) in
    sym (mpu-place programme m lm) ∙ (ap₂ (λ a b. place_of_mpu (all_mpus programme) (a, b)) asset mpu ∙ mpu-place programme j lj)

side-by-side : (programme : Programme) (u w v : ℕ) → u < w → w < v → v < length (all_units programme) → mpu_of (cast_of programme) u ≡ mpu_of (cast_of programme) v → mpu_of (cast_of programme) w ≡ mpu_of (cast_of programme) u
side-by-side programme u w v a b l e =
    let lu : u < length (all_units programme) = omega (arith, a, b, l) in
    let lw : w < length (all_units programme) = omega (arith, b, l) in
    omega (arith, e, mpu-of programme u lu, mpu-of programme w lw, mpu-of programme v l, climbs programme u w (omega arith) lw, climbs programme w v (omega arith) l)

tick-long : (o : Option ℕ) → tick_of (long_tick o) ≡ o
tick-long None = refl
tick-long (Some t) = refl

pub cast-right : CastIsRight
unfolding contents_of mpu_as_sent cast_of
cast-right programme files messages names_in right spelled none =
    let few = few-packets programme none in
    record {
      packet = λ n l. packets-right programme files messages right n l;
      unit = λ u l. unit-right programme files messages right few u (omega (arith, l, length-units programme));
      copy = λ c l. copy-right programme files messages names_in right spelled (short-tables programme none) few c l;
      parameters = parameters-right programme files messages names_in right spelled;
      mpus_differ = λ m j lm lj ids numbers. mpus-differ programme right m j (omega (arith, lm, length-mpus programme)) (omega (arith, lj, length-mpus programme)) ids numbers;
      side_by_side = λ u w v a b l e. side-by-side programme u w v a b (omega (arith, l, length-units programme)) e;
      mpu_last = λ m l. ap (λ (x : SentMpu). x.last.0) (mpu-sent programme m (omega (arith, l, length-mpus programme)));
      named_from = λ m l. ap (λ (x : SentMpu). tick_of x.named_from) (mpu-sent programme m (omega (arith, l, length-mpus programme))) ∙ (tick-long (named_from_of m (copies_as_sent programme)) ∙ ap (named_from_of m) (copies-are programme));
    }
  where
    copies-are : (p : Programme) → copies_as_sent p ≡ (cast_of p).copies
    copies-are p = refl
