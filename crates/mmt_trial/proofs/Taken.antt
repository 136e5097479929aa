-- What makes a programme one that can be sent and received, and the numbers of a trial.
use Rattle.std.proofs.Common.{◌≡◌, ◌≢◌, inl, ℕ, ◌+◌, ◌-◌, ◌^◌, ◌<◌, ◌≤◌, Bool, true, false, not, ◌&&◌, ◌==◌, nat_le, nat_lt, List, [], ◌∷◌, ◌++◌, length, map, min, take, drop, get_or, Option, Some, None, refl, ap, ap₂, sym, ◌∙◌, subst, arith, ⊎_elim}
use Rattle.std.specs.List.{All, AllByRecursion}
use Rattle.std.proofs.lemmas.Bool.{leb-true, cases_lt, eq-eqb, ne_eqb}
use Rattle.std.proofs.lemmas.List.{length-drop, length-take}
use Rattle.std.proofs.lemmas.List.Elements.{All-from_get_or}
use Rattle.mmt_cast.proofs.FromRight.{right-programmes-fit}
use Rattle.mmt_cast.proofs.Readable.{readable as casts-readable}
use Rattle.mmt_cast.specs.Casting.{cast_of}
use Rattle.mmt_cast.specs.Placing.{PlacedUnit, all_units}
use Rattle.mmt_cast.specs.Refusing.{refusal}
use Rattle.mmt_cast.specs.Right.{no_placed_unit, unit_at, unit_bytes}
use Rattle.mmt_admit.specs.Faults.{IsReadable}
use Rattle.mmt_delivery.proofs.Carried.{get-map, get-range, length-range}
use Rattle.mmt_delivery.proofs.Faultless.{faultless}
use Rattle.mmt_headline.specs.Programmes.{HoldUnits, IsSendable, Receives}
use Rattle.mmt_model.specs.Admission.{Fault, fault, fault_of_params, or_else, unless}
use Rattle.mmt_model.specs.Carrying.{numbers}
use Rattle.mmt_model.specs.Right.{IsRight}
use Rattle.mmt_model.specs.Survival.{AreOf}
use Rattle.mmt_model.specs.declared.casts.Cast.{Cast}
use Rattle.mmt_model.specs.declared.casts.Sent.{Sent}
use Rattle.mmt_model.specs.declared.programmes.Params.{Params}
use Rattle.mmt_model.specs.declared.programmes.Programme.{Programme}
use Rattle.mmt_send.specs.Files.{IsUnitShort}
use Rattle.mmt_send.specs.Held.{AreWhole}
use Rattle.mmt_sent.specs.Stream.{packet_sent, stream, stream_of}
use Rattle.mmt_tlv.specs.Framing.{Packet, spelling}
use Rattle.mmt_trial.specs.Given.{AreGiven}
use Rattle.mmt_trial.specs.Trials.{receiver_of}

-- ---- the buffer size

none-first : (a b : Option Fault) → or_else a b ≡ None → a ≡ None
none-first None b e = refl
none-first (Some f) b e = absurd cc

none-later : (a b : Option Fault) → or_else a b ≡ None → b ≡ None
none-later None b e = e
none-later (Some f) b e = absurd cc

none-unless : (t : Bool) (rule number found allowed : ℕ) → unless t rule number found allowed ≡ None → t ≡ true
none-unless true rule number found allowed e = refl
none-unless false rule number found allowed e = absurd cc

bound-low : (p : Params) → fault_of_params p ≡ None → p.bound ≤ 1073741824
unfolding fault_of_params
bound-low p e1 =
    let e2 = none-later (unless (nat_le 1 p.delay) 1 0 p.delay 1) _ e1 in
    let e3 = none-later (unless (nat_lt p.delay p.window) 1 1 p.window (p.delay + 1)) _ e2 in
    let e4 = none-later (unless (nat_le p.window 16777216) 1 2 p.window 16777216) _ e3 in
    let e5 = none-later (unless (nat_le 1 p.bound) 1 3 p.bound 1) _ e4 in
    leb-true p.bound 1073741824 (none-unless (nat_le p.bound 1073741824) 1 4 p.bound 1073741824 e5)

params-of : (programme : Programme) → (cast_of programme).params ≡ programme.params
unfolding cast_of
params-of programme = refl

pub bound-fits : (programme : Programme) (cast : Cast) → cast ≡ cast_of programme → fault cast ≡ None → programme.params.bound ≤ 2 ^ 30
bound-fits programme cast is none =
    let low : cast.params.bound ≤ 1073741824 = bound-low cast.params (faultless cast none).params in
    let same : cast.params.bound ≡ programme.params.bound = ap (λ (c : Cast). c.params.bound) is ∙ ap (λ (p : Params). p.bound) (params-of programme) in
    omega (arith, low, same)

-- ---- how many packets there are

pub packets-few : (programme : Programme) (cast : Cast) → IsRight programme → refusal programme ≡ None → cast ≡ cast_of programme → length cast.packets ≤ 16777216
packets-few programme cast right none is =
    let r : IsReadable cast = subst IsReadable (sym is) (casts-readable programme (right-programmes-fit.right programme right) (right-programmes-fit.ticks programme right) none) in
    r.packets.few

-- ---- the files

unit-held : (bytes : List ℕ) (from size : ℕ) → 1 ≤ size → size ≤ length (take size (drop from bytes)) → from + size ≤ length bytes
unit-held bytes from size some le = omega (arith, length-take size (drop from bytes), length-drop from bytes)

-- files of which no unit is short hold the units
pub hold : (programme : Programme) (files : ℕ → List ℕ) → IsRight programme → AreWhole programme files → HoldUnits files programme
unfolding unit_at unit_bytes
hold programme files right whole =
    All-from_get_or (λ (x : PlacedUnit). x.value.from + x.value.length ≤ length (files x.in_mpu.in_asset.file)) (all_units programme) no_placed_unit
    (λ u l.
    let x : PlacedUnit = unit_at programme u in
    unit-held (files x.in_mpu.in_asset.file) x.value.from x.value.length ((right-programmes-fit.right programme right).some u l)
    (⊎_elim (λ (short : length (unit_bytes files x) < x.value.length). absurd (whole u x.value.length (length (unit_bytes files x)) (record { known = l; len = refl; got = refl; short = short })))
    (λ (le : x.value.length ≤ length (unit_bytes files x)). le)
    (cases_lt (length (unit_bytes files x)) x.value.length)))

pub sendable : (programme : Programme) (files : ℕ → List ℕ) (cast : Cast) → IsRight programme → refusal programme ≡ None → cast ≡ cast_of programme → fault cast ≡ None → AreWhole programme files → IsSendable programme (cast_of programme) files
sendable programme files cast right none is admitted whole =
    record { right = right; none = none; of = inl refl; admitted = subst (λ (c : Cast). fault c ≡ None) is admitted; held = hold programme files right whole }

-- ---- the receiver

pub receives : (programme : Programme) → IsRight programme → Receives (receiver_of programme) programme
receives programme right = record { flow = rw (ne_eqb programme.flow.port 123 right.flow.no_ntp, eq-eqb programme.flow.address programme.flow.address refl, eq-eqb programme.flow.port programme.flow.port refl) refl; bound = omega arith; assumed = refl; base = refl }

-- ---- the pieces

sent-at : (programme : Programme) (files : ℕ → List ℕ) (n : ℕ) → n < length (cast_of programme).packets → get_or (map spelling (stream programme (cast_of programme) files)) n [] ≡ spelling (packet_sent programme (cast_of programme) files n)
unfolding stream stream_of
sent-at programme files n l =
    get-map spelling (map (packet_sent programme (cast_of programme) files) (numbers 0 (length (cast_of programme).packets))) n (packet_sent programme (cast_of programme) files n) []
    (omega (arith, l, length-range (packet_sent programme (cast_of programme) files) (length (cast_of programme).packets)))
    ∙ ap spelling (get-range (packet_sent programme (cast_of programme) files) (length (cast_of programme).packets) n (packet_sent programme (cast_of programme) files n) l)

-- the pieces of the whole stream at the places of a delivery are the packets of the delivery
pub given : (programme : Programme) (files : ℕ → List ℕ) (list : List ℕ) → AreOf (cast_of programme).packets list → AreGiven (map spelling (stream programme (cast_of programme) files)) list (stream_of programme (cast_of programme) files list)
unfolding stream_of
given programme files [] of = refl
given programme files (n ∷ list) of = ap₂ (λ x xs. x ∷ xs) (sent-at programme files n of.0) (given programme files list of.1)
