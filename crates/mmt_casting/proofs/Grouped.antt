-- The packets of a group.
use Rattle.std.proofs.Common.{◌≡◌, ℕ, ◌+◌, ◌-◌, ◌*◌, ◌<◌, ◌≤◌, ◌^◌, Bool, ◌==◌, cond, List, [], ◌∷◌, ◌++◌, map, length, arith, refl, ap, ap₂, sym, ◌∙◌, subst, ⊎_elim, mul-le-mul}
use Rattle.std.proofs.lemmas.Bool.{cases_lt, le-ltb, lt-ltb}
use Rattle.mmt_base.specs.declared.ticks.LongTick.{LongTick}
use Rattle.mmt_cast.proofs.FromRight.{right-unit}
use Rattle.mmt_cast.specs.Casting.{with_number}
use Rattle.mmt_cast.specs.Placing.{PlacedUnit}
use Rattle.mmt_cast.specs.Right.{no_placed_unit, unit_at}
use Rattle.mmt_cast.specs.Sending.{Sending, carried, id_of, packet_count, packet_of, payload_length, rap_of, tick_of_packet}
use Rattle.mmt_casting.proofs.Adding.{one-number}
use Rattle.mmt_casting.proofs.Putting.{alone-is-sent}
use Rattle.mmt_casting.proofs.Spots.{unit-of}
use Rattle.mmt_casting.specs.Alone.{alone_packets}
use Rattle.mmt_casting.specs.Numbered.{numbered_packet, numbered_packets}
use Rattle.mmt_casting.specs.Places.{IsGroup, IsSpot, asset_at, sending_at}
use Rattle.mmt_casting.specs.Spans.{run_by}
use Rattle.mmt_casting.specs.declared.alone.Place.{Place}
use Rattle.mmt_casting.specs.declared.groups.Group.{Group}
use Rattle.mmt_casting.specs.declared.places.Spot.{Spot}
use Rattle.mmt_casting.specs.declared.units.Run.{Run}
use Rattle.mmt_frag.specs.Cuts.{parts}
use Rattle.mmt_frag.proofs.PartsJoined.{parts-some}
use Rattle.mmt_model.specs.Carrying.{numbers}
use Rattle.mmt_model.specs.Right.{IsRight}
use Rattle.mmt_model.specs.declared.casts.Sent.{Sent}
use Rattle.mmt_model.specs.declared.casts.Carries.TheVariants as carries
use Rattle.mmt_model.specs.declared.programmes.Asset.{Asset}
use Rattle.mmt_model.specs.declared.programmes.Programme.{Programme}
use Rattle.mmt_model.specs.declared.programmes.Unit.{Unit as PlannedUnit}

-- a packet of several units, and packets, by their parts
abbrev pub made_packet : LongTick → ℕ → ℕ → Bool → ℕ → ℕ → ℕ → Sent
made_packet at id number rap length first count = record { at = at; packet_id = id; number = number; rap = rap; length = length; carries = carries.Group first count }

abbrev pub made_run : ℕ → ℕ → ℕ → ℕ → Run
made_run first last number count = record { first = record { 0 = first }; last = record { 0 = last }; first_number = number; count = count }

-- the sending of a group, of several units or of one
pub several-is : (programme : Programme) (s : Spot) (g : Group) → IsGroup programme s g → 1 < g.size → sending_at programme s.unit_place ≡ Sending.Group s.unit_place g.size (unit_at programme s.unit_place) g.bytes
several-is programme s g is l =
    let x : PlacedUnit = unit_at programme s.unit_place in
    is.sending ∙ ap (λ b. cond b (Sending.Group s.unit_place g.size x g.bytes) (Sending.Alone s.unit_place x)) (lt-ltb 1 g.size l)

pub alone-is : (programme : Programme) (s : Spot) (g : Group) → IsGroup programme s g → g.size ≤ 1 → sending_at programme s.unit_place ≡ Sending.Alone s.unit_place (unit_at programme s.unit_place)
alone-is programme s g is l =
    let x : PlacedUnit = unit_at programme s.unit_place in
    is.sending ∙ ap (λ b. cond b (Sending.Group s.unit_place g.size x g.bytes) (Sending.Alone s.unit_place x)) (le-ltb 1 g.size l)

-- the asset of a unit, and its place in its MPU
pub asset-is : (programme : Programme) (s : Spot) → IsSpot programme s → s.asset < length programme.assets → (unit_at programme s.unit_place).in_mpu.in_asset ≡ asset_at programme s.asset
asset-is programme s is l = ap (λ (x : PlacedUnit). x.in_mpu.in_asset) (unit-of programme s no_placed_unit.value is l).is

pub unit-is : (programme : Programme) (s : Spot) → IsSpot programme s → s.asset < length programme.assets → (unit_at programme s.unit_place).unit ≡ s.unit
unit-is programme s is l = ap (λ (x : PlacedUnit). x.unit) (unit-of programme s no_placed_unit.value is l).is

-- the packet of several units
pub group-sent : (programme : Programme) (s : Spot) (g : Group) (number : ℕ) (at : LongTick) (id : ℕ) → IsSpot programme s → s.asset < length programme.assets → IsGroup programme s g → 1 < g.size
    → at ≡ (unit_at programme s.unit_place).value.at → id ≡ (asset_at programme s.asset).packet_id
    → made_packet at id number (s.unit == 0) (8 + g.bytes) s.unit_place g.size ≡ numbered_packet programme (sending_at programme s.unit_place) number 0
unfolding numbered_packet with_number packet_of tick_of_packet id_of rap_of payload_length carried
group-sent programme s g number at id is l group several ea ei =
    let x : PlacedUnit = unit_at programme s.unit_place in
    let z : number ≡ number + 0 = omega arith in
    ap₂ (λ a i. made_packet a i number (s.unit == 0) (8 + g.bytes) s.unit_place g.size) ea (ei ∙ sym (ap (λ (y : Asset). y.packet_id) (asset-is programme s is l)))
    ∙ (ap₂ (λ n u. made_packet x.value.at x.in_mpu.in_asset.packet_id n (u == 0) (8 + g.bytes) s.unit_place g.size) z (sym (unit-is programme s is l))
    ∙ sym (ap (λ y. numbered_packet programme y number 0) (several-is programme s g group several)))

-- the packets of several units are that one
pub group-all : (programme : Programme) (s : Spot) (g : Group) (number : ℕ) (p : Sent) (start items : List Sent) → IsGroup programme s g → 1 < g.size → p ≡ numbered_packet programme (sending_at programme s.unit_place) number 0
    → items ≡ start ++ p ∷ [] → items ≡ start ++ numbered_packets programme (sending_at programme s.unit_place) number
unfolding packet_count
group-all programme s g number p start items group several ep e =
    let y : Sending = sending_at programme s.unit_place in
    let c : packet_count programme y ≡ 1 = ap (packet_count programme) (several-is programme s g group several) in
    e ∙ ap (λ l. start ++ l) (ap (λ q. q ∷ []) ep ∙ sym (ap (λ n. map (numbered_packet programme y number) (numbers 0 n)) c ∙ ap (map (numbered_packet programme y number)) (one-number 0)))

-- the packets of one unit
pub alone-all : (programme : Programme) (s : Spot) (g : Group) (place : Place) (asset : Asset) (unit : PlannedUnit) (start items : List Sent) → IsSpot programme s → s.asset < length programme.assets → IsGroup programme s g → g.size ≤ 1
    → asset ≡ asset_at programme s.asset → unit ≡ (unit_at programme s.unit_place).value → place.u ≡ s.unit_place → place.unit ≡ s.unit
    → items ≡ start ++ alone_packets programme asset unit place → items ≡ start ++ numbered_packets programme (sending_at programme s.unit_place) place.number
alone-all programme s g place asset unit start items is l group one ea eu ep ec e =
    let x : PlacedUnit = unit_at programme s.unit_place in
    e ∙ ap (λ ps. start ++ ps)
    (ap₂ (λ a u. alone_packets programme a u place) (ea ∙ sym (asset-is programme s is l)) eu
    ∙ (alone-is-sent programme x place (unit-is programme s is l ∙ sym ec)
    ∙ ap (λ y. numbered_packets programme y place.number) (ap (λ v. Sending.Alone v x) ep ∙ sym (alone-is programme s g group one))))

-- ---- which packets they are

abbrev HaveTicks : Programme → PlacedUnit → Sending → ℕ → Type 0
HaveTicks programme x y k = (tick_of_packet programme y 0 ≡ x.value.at.0) × (tick_of_packet programme y (k - 1) ≡ x.value.at.0 + (k - 1) * programme.spacing)

ticks-several : (programme : Programme) (x : PlacedUnit) (f c bytes k : ℕ) → k ≡ packet_count programme (Sending.Group f c x bytes) → HaveTicks programme x (Sending.Group f c x bytes) k
unfolding packet_count tick_of_packet
ticks-several programme x f c bytes k e =
    let z : 0 ≡ k - 1 = omega arith in
    (refl, omega (arith, ap (λ n. n * programme.spacing) z))

ticks-alone : (programme : Programme) (x : PlacedUnit) (u k : ℕ) → HaveTicks programme x (Sending.Alone u x) k
unfolding tick_of_packet
ticks-alone programme x u k = (omega arith, refl)

pub ticks-are : (programme : Programme) (s : Spot) (g : Group) (k : ℕ) → IsGroup programme s g → k ≡ packet_count programme (sending_at programme s.unit_place) → HaveTicks programme (unit_at programme s.unit_place) (sending_at programme s.unit_place) k
ticks-are programme s g k group e =
    let x : PlacedUnit = unit_at programme s.unit_place in
    ⊎_elim
    (λ (l : 1 < g.size). (let i = several-is programme s g group l in
    subst (λ y. HaveTicks programme x y k) (sym i) (ticks-several programme x s.unit_place g.size g.bytes k (e ∙ ap (packet_count programme) i))))
    (λ (ge : g.size ≤ 1). subst (λ y. HaveTicks programme x y k) (sym (alone-is programme s g group ge)) (ticks-alone programme x s.unit_place k))
    (cases_lt 1 g.size)

pub count-some : (programme : Programme) → IsRight programme → (s : Spot) (g : Group) → IsSpot programme s → s.asset < length programme.assets → IsGroup programme s g → 1 ≤ packet_count programme (sending_at programme s.unit_place)
unfolding packet_count
count-some programme right s g is l group =
    let x : PlacedUnit = unit_at programme s.unit_place in
    let some = (right-unit programme right s.unit_place (unit-of programme s no_placed_unit.value is l).of).1.some in
    ⊎_elim
    (λ (m : 1 < g.size). omega (arith, ap (packet_count programme) (several-is programme s g group m)))
    (λ (ge : g.size ≤ 1). omega (arith, ap (packet_count programme) (alone-is programme s g group ge), parts-some x.value.length programme.limit (omega (arith, right.limit_low)) some))
    (cases_lt 1 g.size)

pub run-is : (programme : Programme) (s : Spot) (g : Group) (number k : ℕ) (first last : LongTick) → IsGroup programme s g → k ≡ packet_count programme (sending_at programme s.unit_place)
    → first ≡ (unit_at programme s.unit_place).value.at → last.0 ≡ first.0 + (k - 1) * programme.spacing → made_run first.0 last.0 number k ≡ run_by programme (sending_at programme s.unit_place) number
run-is programme s g number k first last group ek ef el =
    let y : Sending = sending_at programme s.unit_place in
    let t = ticks-are programme s g k group ek in
    let at : first.0 ≡ (unit_at programme s.unit_place).value.at.0 = ap (λ (z : LongTick). z.0) ef in
    let a : first.0 ≡ tick_of_packet programme y 0 = at ∙ sym t.0 in
    let b : last.0 ≡ tick_of_packet programme y (k - 1) = el ∙ (ap (λ f. f + (k - 1) * programme.spacing) at ∙ sym t.1) in
    ap₂ (λ f m. made_run f m number k) a b ∙ ap (λ n. made_run (tick_of_packet programme y 0) (tick_of_packet programme y (n - 1)) number n) ek

pub product-fits : (k spacing : ℕ) → k ≤ 16777216 → spacing ≤ 65535 → k * spacing ≤ 16777216 * 65535
product-fits k spacing a b = mul-le-mul a b

-- the first number and the count fit
pub alone-numbers : (programme : Programme) (s : Spot) (g : Group) (number n : ℕ) → IsGroup programme s g → g.size ≤ 1 → n ≡ (unit_at programme s.unit_place).value.length
    → number + packet_count programme (sending_at programme s.unit_place) < 2 ^ 32 → number + parts n programme.limit < 2 ^ 32
unfolding packet_count
alone-numbers programme s g number n group one en l =
    omega (arith, l, ap (packet_count programme) (alone-is programme s g group one), ap (λ m. parts m programme.limit) en)
