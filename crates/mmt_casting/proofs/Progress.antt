-- How far a walk over the units of a programme has come.
use Rattle.std.proofs.Common.{◌≡◌, ℕ, ◌+◌, ◌<◌, ◌≤◌, ◌^◌, Bool, true, nat_le, nat_lt, cond, List, [], ◌∷◌, ◌++◌, map, length, get_or, arith, refl, ap, ap₂, sym, ◌∙◌, ⊎_elim, append_assoc, None}
use Rattle.std.proofs.lemmas.Bool.{and_from, cases_eq, cases_lt, eq-eqb, le-leb, lt-ltb, ne_eqb}
use Rattle.std.proofs.lemmas.List.{append-nil, length-drop, map-append}
use Rattle.std.proofs.lemmas.List.Concat.{flat_map-append}
use Rattle.mmt_cast.proofs.Covering.{covers_unit}
use Rattle.mmt_cast.proofs.Found.{numbers-fit}
use Rattle.mmt_cast.proofs.FromRight.{cast-right}
use Rattle.mmt_cast.proofs.Listing.{same-map_numbers}
use Rattle.mmt_cast.proofs.Numbering.{before, count-append, flat, numbered-append, numbered-packets, piece}
use Rattle.mmt_cast.proofs.Refusals.{few-packets}
use Rattle.mmt_cast.proofs.Running.{count-other_more, count-own_more, span_by, unit-span-is}
use Rattle.mmt_cast.specs.Casting.{Span, cast_of, count_of_id, due_of_placed, numbered_after, planned, time_of_unit, unit_as_sent}
use Rattle.mmt_cast.specs.Placing.{PlacedUnit, all_units, map_from}
use Rattle.mmt_cast.specs.Refusing.{refusal}
use Rattle.mmt_cast.specs.Right.{no_placed_unit, unit_at}
use Rattle.mmt_cast.specs.Sending.{Sending, id_of, packet_count, packets_of, sending_of_signal, sendings}
use Rattle.mmt_casting.proofs.Adding.{by-places, numbers-add}
use Rattle.mmt_casting.proofs.Grouped.{alone-is, asset-is, count-some, several-is}
use Rattle.mmt_casting.proofs.Sendings.{end-spot, sendings-end, sendings-step, sendings_of_signals}
use Rattle.mmt_casting.proofs.Spots.{unit-of}
use Rattle.mmt_casting.proofs.UnitTimes.{made}
use Rattle.mmt_casting.specs.Numbered.{numbered_packet, numbered_packets}
use Rattle.mmt_casting.specs.Places.{IsGroup, IsSpot, asset_at, sending_at, sendings_from}
use Rattle.mmt_casting.specs.Spans.{next_number, run_by, signalling, unit_by, units_by}
use Rattle.mmt_casting.specs.declared.groups.Group.{Group}
use Rattle.mmt_casting.specs.declared.places.Spot.{Spot}
use Rattle.mmt_casting.specs.declared.units.Run.{Run}
use Rattle.mmt_model.specs.Carrying.{numbers}
use Rattle.mmt_model.specs.Right.{IsRight}
use Rattle.mmt_model.specs.declared.casts.Sent.{Sent}
use Rattle.mmt_model.specs.declared.casts.SentUnit.{SentUnit}
use Rattle.mmt_model.specs.declared.programmes.Asset.{Asset}
use Rattle.mmt_model.specs.declared.programmes.Programme.{Programme}
use Rattle.mmt_model.specs.declared.programmes.Signal.{Signal}
use Rattle.mmt_model.specs.declared.programmes.Signal.TheVariants as signals

-- the units before one, as they are sent
abbrev pub units_before : Programme → ℕ → List SentUnit
units_before programme u = map (λ k. unit_as_sent programme k (unit_at programme k)) (numbers 0 u)

-- all before a spot is sent, N packets of its asset among it
pub record IsSent (programme : Programme) (s : Spot) (number : ℕ) (packets : List Sent) (units : List SentUnit) : Type 0 where
  pub done : List Sending
  pub is : sendings programme ≡ done ++ sendings_from programme s.unit_place
  pub packets_are : packets ≡ numbered_after [] (flat programme done)
  pub units_are : units ≡ units_before programme s.unit_place
  pub own : s.asset < length programme.assets → count_of_id (asset_at programme s.asset).packet_id (flat programme done) ≡ number
  pub later : (j : ℕ) → s.asset < j → j < length programme.assets → count_of_id (asset_at programme j).packet_id (flat programme done) ≡ 0

-- ---- the start

none-of : (programme : Programme) (x : Sending) (i : ℕ) → (id_of x ≡ i → ⊥) → count_of_id i (packets_of programme x) ≡ 0
unfolding count_of_id
none-of programme x i ne =
    omega (arith, count-other_more programme [] x i ne, ap (count_of_id i) (append-nil (packets_of programme x)), ap (λ (l : List Sent). count_of_id i l) (sym (append-nil (packets_of programme x))))

no-media : (programme : Programme) (i n : ℕ) (xs : List Signal) → 1 ≤ i → count_of_id i (flat programme (map_from (sending_of_signal programme) n xs)) ≡ 0
unfolding map_from sending_of_signal id_of count_of_id
no-media programme i n [] some = refl
no-media programme i n (signals.Parameters at ∷ xs) some =
    let x : Sending = Sending.Parameters n at.0 in
    omega (arith, count-append i (packets_of programme x) (flat programme (map_from (sending_of_signal programme) (n + 1) xs)), none-of programme x i (λ e. omega arith), no-media programme i (n + 1) xs some)
no-media programme i n (signals.Table at names ∷ xs) some =
    let x : Sending = sending_of_signal programme n (signals.Table at names) in
    omega (arith, count-append i (packets_of programme x) (flat programme (map_from (sending_of_signal programme) (n + 1) xs)), none-of programme x i (λ e. omega arith), no-media programme i (n + 1) xs some)

pub sent-first : (programme : Programme) → IsRight programme → (s : Spot) (packets : List Sent) (units : List SentUnit) → s.unit_place ≡ 0 → packets ≡ signalling programme → units ≡ [] → IsSent programme s 0 packets units
unfolding sendings sendings_from signalling numbers
sent-first programme right s packets units z ep eu =
    record {
      done = sendings_of_signals programme;
      is = ap (λ u. sendings_of_signals programme ++ sendings_from programme u) (sym z);
      packets_are = ep;
      units_are = eu ∙ ap (units_before programme) (sym z);
      own = λ l. no-media programme (asset_at programme s.asset).packet_id 0 programme.signals ((cast-right programme right).ids s.asset l);
      later = λ j b l. no-media programme (asset_at programme j).packet_id 0 programme.signals ((cast-right programme right).ids j l);
    }

-- ---- the next group

id-is : (programme : Programme) (s : Spot) (g : Group) → IsSpot programme s → s.asset < length programme.assets → IsGroup programme s g → id_of (sending_at programme s.unit_place) ≡ (asset_at programme s.asset).packet_id
unfolding id_of
id-is programme s g is l group =
    let a : (unit_at programme s.unit_place).in_mpu.in_asset.packet_id ≡ (asset_at programme s.asset).packet_id = ap (λ (x : Asset). x.packet_id) (asset-is programme s is l) in
    ⊎_elim
    (λ (m : 1 < g.size). ap id_of (several-is programme s g group m) ∙ a)
    (λ (ge : g.size ≤ 1). ap id_of (alone-is programme s g group ge) ∙ a)
    (cases_lt 1 g.size)

covers : (programme : Programme) (s : Spot) (g : Group) (k : ℕ) → IsGroup programme s g → s.unit_place ≤ k → k < s.unit_place + g.size → covers_unit k (sending_at programme s.unit_place) ≡ true
covers programme s g k group low high =
    ⊎_elim
    (λ (m : 1 < g.size). ap (covers_unit k) (several-is programme s g group m) ∙ and_from (nat_le s.unit_place k) (nat_lt k (s.unit_place + g.size)) (le-leb s.unit_place k low) (lt-ltb k (s.unit_place + g.size) high))
    (λ (ge : g.size ≤ 1). ap (covers_unit k) (alone-is programme s g group ge) ∙ eq-eqb s.unit_place k (omega arith))
    (cases_lt 1 g.size)

-- the sending that comes next
head-is : (programme : Programme) (s : Spot) (g : Group) (number : ℕ) (packets : List Sent) (units : List SentUnit) → IsSpot programme s → s.asset < length programme.assets → IsGroup programme s g → (sent : IsSent programme s number packets units)
    → sendings programme ≡ sent.done ++ sending_at programme s.unit_place ∷ sendings_from programme (s.unit_place + g.size)
head-is programme s g number packets units is l group sent =
    sent.is
    ∙ ap (λ r. sent.done ++ r)
    (sendings-step programme s.unit_place (unit-of programme s no_placed_unit.value is l).of
    ∙ ap (λ n. sending_at programme s.unit_place ∷ sendings_from programme (s.unit_place + n)) (sym group.size))

before-is : (programme : Programme) (s : Spot) (g : Group) (number : ℕ) (packets : List Sent) (units : List SentUnit) → IsSpot programme s → s.asset < length programme.assets → IsGroup programme s g → (sent : IsSent programme s number packets units)
    → before programme sent.done (sending_at programme s.unit_place) ≡ number
before-is programme s g number packets units is l group sent = ap (λ i. count_of_id i (flat programme sent.done)) (id-is programme s g is l group) ∙ sent.own l

-- its numbers fit
pub number-fits : (programme : Programme) (s : Spot) (g : Group) (number : ℕ) (packets : List Sent) (units : List SentUnit) → refusal programme ≡ None → IsSpot programme s → s.asset < length programme.assets → IsGroup programme s g
    → IsSent programme s number packets units → number + packet_count programme (sending_at programme s.unit_place) < 2 ^ 32
number-fits programme s g number packets units none is l group sent =
    omega (
      arith,
      few-packets programme none,
      numbers-fit programme sent.done (sendings_from programme (s.unit_place + g.size)) (sending_at programme s.unit_place) (head-is programme s g number packets units is l group sent),
      before-is programme s g number packets units is l group sent,
    )

-- its packets and its units
flat-more : (programme : Programme) (a : List Sending) (x : Sending) → flat programme (a ++ x ∷ []) ≡ flat programme a ++ packets_of programme x
flat-more programme a x = flat_map-append (packets_of programme) a (x ∷ []) ∙ ap (λ l. flat programme a ++ l) (append-nil (packets_of programme x))

pub packets-more : (programme : Programme) (done : List Sending) (x : Sending) (number : ℕ) → before programme done x ≡ number
    → numbered_after [] (flat programme done) ++ numbered_packets programme x number ≡ numbered_after [] (flat programme (done ++ x ∷ []))
unfolding numbered_packet
packets-more programme done x number e =
    ap (λ c. numbered_after [] (flat programme done) ++ piece programme x c) (sym e)
    ∙ sym (ap (numbered_after []) (flat-more programme done x)
    ∙ (numbered-append [] (flat programme done) (packets_of programme x)
    ∙ ap (λ l. numbered_after [] (flat programme done) ++ l) (numbered-packets programme x (flat programme done))))

unit-sent-is : (programme : Programme) (k number : ℕ) (done rest : List Sending) (x : Sending) (y : PlacedUnit) → sendings programme ≡ done ++ x ∷ rest → covers_unit k x ≡ true → 1 ≤ packet_count programme x → before programme done x ≡ number
    → unit_as_sent programme k y ≡ unit_by y (run_by programme x number)
unfolding unit_as_sent
unit-sent-is programme k number done rest x y e c some b =
    ap (λ (z : Span). made y.in_mpu.asset y.in_mpu.mpu y.unit y.value.key (time_of_unit y) (due_of_placed y) (record { first = z.first; last = z.last; first_number = z.first_number; count = z.count }))
    (unit-span-is programme k done rest x e c some ∙ ap (λ n. span_by programme x n (packet_count programme x)) b)

units-more : (programme : Programme) (u size number : ℕ) (x : Sending) → ((k : ℕ) → u ≤ k → k < u + size → unit_as_sent programme k (unit_at programme k) ≡ unit_by (unit_at programme k) (run_by programme x number))
    → units_before programme (u + size) ≡ units_before programme u ++ units_by programme (run_by programme x number) u size
units-more programme u size number x h =
    let f : ℕ → SentUnit = λ k. unit_as_sent programme k (unit_at programme k) in
    let z : 0 + u ≡ u = omega arith in
    ap (map f) (numbers-add 0 u size)
    ∙ (map-append f (numbers 0 u) (numbers (0 + u) size)
    ∙ ap (λ l. units_before programme u ++ l) (ap (λ i. map f (numbers i size)) z ∙ same-map_numbers f (λ k. unit_by (unit_at programme k) (run_by programme x number)) u size h))

pub sent-next : (programme : Programme) → IsRight programme → (s next : Spot) (g : Group) (number : ℕ) (run : Run) (packets packets' : List Sent) (units units' : List SentUnit) → IsSpot programme s → s.asset < length programme.assets → IsGroup programme s g
    → IsSent programme s number packets units
    → packets' ≡ packets ++ numbered_packets programme (sending_at programme s.unit_place) number
    → run ≡ run_by programme (sending_at programme s.unit_place) number
    → units' ≡ units ++ units_by programme run s.unit_place g.size
    → next.unit_place ≡ s.unit_place + g.size → s.asset ≤ next.asset → next.asset ≤ s.asset + 1
    → IsSent programme next (next_number s.asset next.asset (number + run.count)) packets' units'
sent-next programme right s next g number run packets packets' units units' is l group sent ep er eu place low high =
    let x : Sending = sending_at programme s.unit_place in
    let rest : List Sending = sendings_from programme (s.unit_place + g.size) in
    let split = head-is programme s g number packets units is l group sent in
    let b = before-is programme s g number packets units is l group sent in
    let some = count-some programme right s g is l group in
    let id = id-is programme s g is l group in
    let others : (j : ℕ) → s.asset < j → j < length programme.assets → count_of_id (asset_at programme j).packet_id (flat programme (sent.done ++ x ∷ [])) ≡ 0 =
    λ j lt lj. count-other_more programme sent.done x (asset_at programme j).packet_id (λ e. absurd (omega (arith, lt, (cast-right programme right).one_id s.asset j l lj (sym id ∙ e)))) ∙ sent.later j lt lj in
    record {
      done = sent.done ++ x ∷ [];
      is = split ∙ (sym (append_assoc sent.done (x ∷ []) rest) ∙ ap (λ u. (sent.done ++ x ∷ []) ++ sendings_from programme u) (sym place));
      packets_are = ep ∙ (ap (λ ps. ps ++ numbered_packets programme x number) sent.packets_are ∙ packets-more programme sent.done x number b);
      units_are = eu
          ∙ (ap₂ (λ us r. us ++ units_by programme r s.unit_place g.size) sent.units_are er
          ∙ (sym (units-more programme s.unit_place g.size number x (λ k lo hi. unit-sent-is programme k number sent.done rest x (unit_at programme k) split (covers programme s g k group lo hi) some b))
          ∙ ap (units_before programme) (sym place)));
      own = λ ln. ⊎_elim
          (λ (same : next.asset ≡ s.asset).
          ap (λ i. count_of_id i (flat programme (sent.done ++ x ∷ []))) (ap (λ a. (asset_at programme a).packet_id) same ∙ sym id)
          ∙ (count-own_more programme sent.done x
          ∙ (ap₂ (λ m n. m + n) b (sym (ap (λ (r : Run). r.count) er))
          ∙ ap (λ (t : Bool). cond t (number + run.count) 0) (sym (eq-eqb next.asset s.asset same)))))
          (λ (ne : next.asset ≡ s.asset → ⊥).
          others next.asset (below s.asset next.asset low ne) ln ∙ ap (λ (t : Bool). cond t (number + run.count) 0) (sym (ne_eqb next.asset s.asset ne)))
          (cases_eq next.asset s.asset);
      later = λ j lt lj. others j (omega arith) lj;
    }
  where
    below : (a b : ℕ) → a ≤ b → (b ≡ a → ⊥) → a < b
    below a b le ne = ⊎_elim (λ (lt : a < b). lt) (λ (ge : b ≤ a). absurd (ne (omega arith))) (cases_lt a b)

-- ---- the end

pub sent-packets : (programme : Programme) (s : Spot) (number : ℕ) (packets : List Sent) (units : List SentUnit) → IsSpot programme s → length programme.assets ≤ s.asset → IsSent programme s number packets units → packets ≡ planned programme
unfolding planned
sent-packets programme s number packets units is ge sent =
    sent.packets_are ∙ ap (λ l. numbered_after [] (flat programme l)) (sym (sent.is ∙ (ap (λ l. sent.done ++ l) (sendings-end programme s is ge) ∙ append-nil sent.done)))

pub sent-units : (programme : Programme) (s : Spot) (number : ℕ) (packets : List Sent) (units : List SentUnit) → IsSpot programme s → length programme.assets ≤ s.asset → s.unit_place ≤ length (all_units programme)
    → IsSent programme s number packets units → units ≡ (cast_of programme).units
unfolding cast_of unit_at
sent-units programme s number packets units is ge within sent =
    let n : ℕ = length (all_units programme) in
    let e : s.unit_place ≡ n = omega (arith, within, ap length (end-spot programme s is ge), length-drop s.unit_place (all_units programme)) in
    sent.units_are
    ∙ (ap (units_before programme) e
    ∙ sym (by-places (unit_as_sent programme) (all_units programme) 0 no_placed_unit
    ∙ same-map_numbers (λ i. unit_as_sent programme (0 + i) (get_or (all_units programme) i no_placed_unit)) (λ i. unit_as_sent programme i (get_or (all_units programme) i no_placed_unit)) 0 n
    (λ k lo hi. (let z : 0 + k ≡ k = omega arith in ap (λ i. unit_as_sent programme i (get_or (all_units programme) k no_placed_unit)) z))))
