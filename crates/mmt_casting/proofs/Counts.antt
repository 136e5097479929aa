-- How many packets groups and messages have.
use Rattle.std.proofs.Common.{◌≡◌, ℕ, ◌+◌, ◌/◌, ◌<◌, ◌≤◌, Bool, true, false, nat_le, cond, List, length, get_or, drop, arith, refl, ap, sym, ◌∙◌, Option, Some, None, option_map, is_some, true≢false}
use Rattle.std.proofs.Math.Nat.{mul-le-mul_left}
use Rattle.std.proofs.lemmas.Bool.{le-ltb, leb-true, lt-ltb}
use Rattle.mmt_cast.proofs.FromRight.{right-unit}
use Rattle.mmt_cast.specs.Placing.{PlacedUnit, all_mpus}
use Rattle.mmt_cast.specs.Refusing.{Refusal, first_of, refusal, refusal_of_mpus, refusal_of_signal, refusal_of_signals}
use Rattle.mmt_cast.specs.Right.{unit_at}
use Rattle.mmt_cast.specs.Sending.{Sending, packet_count, sending_of_signal}
use Rattle.mmt_cast.specs.Tables.{table_length, table_message_length}
use Rattle.mmt_casting.proofs.Long.{signals-next}
use Rattle.mmt_casting.proofs.Spots.{unit-of}
use Rattle.mmt_casting.specs.Ends.{end_of}
use Rattle.mmt_casting.specs.Places.{IsGroup, IsSpot, placed_at, sending_at}
use Rattle.mmt_casting.specs.declared.ends.CastEnd.{CastEnd}
use Rattle.mmt_casting.specs.declared.groups.Group.{Group}
use Rattle.mmt_casting.specs.declared.places.Spot.{Spot}
use Rattle.mmt_base.specs.declared.ticks.LongTick.{LongTick}
use Rattle.mmt_frag.specs.Cuts.{parts}
use Rattle.mmt_model.specs.Right.{IsRight}
use Rattle.mmt_model.specs.declared.programmes.Programme.{Programme}
use Rattle.mmt_model.specs.declared.programmes.Signal.{Signal}
use Rattle.mmt_model.specs.declared.programmes.Unit.{Unit as PlannedUnit}
use Rattle.mmt_model.specs.declared.programmes.Signal.TheVariants as signals

pub parts-few : (n limit : ℕ) → 1 ≤ limit → parts n limit ≤ n
parts-few n limit some = omega (arith, mul-le-mul_left (n / limit) some)

pub unit-read : (programme : Programme) (s : Spot) (d : PlannedUnit) (units : List PlannedUnit) → IsSpot programme s → s.asset < length programme.assets → units ≡ (placed_at programme s).value.units
    → get_or units s.unit d ≡ (unit_at programme s.unit_place).value
unit-read programme s d units is l e = ap (λ xs. get_or xs s.unit d) e ∙ sym (ap (λ (x : PlacedUnit). x.value) (unit-of programme s d is l).is)

pub count-group : (programme : Programme) (s : Spot) (g : Group) → IsGroup programme s g → 1 < g.size → 1 ≡ packet_count programme (sending_at programme s.unit_place)
unfolding packet_count
count-group programme s g is l =
    let x : PlacedUnit = unit_at programme s.unit_place in
    sym (ap (packet_count programme) (is.sending ∙ ap (λ b. cond b (Sending.Group s.unit_place g.size x g.bytes) (Sending.Alone s.unit_place x)) (lt-ltb 1 g.size l)))

pub count-alone : (programme : Programme) (s : Spot) (g : Group) (k n : ℕ) → IsGroup programme s g → g.size ≤ 1 → k ≡ parts n programme.limit → n ≡ (unit_at programme s.unit_place).value.length → k ≡ packet_count programme (sending_at programme s.unit_place)
unfolding packet_count
count-alone programme s g k n is l e en =
    let x : PlacedUnit = unit_at programme s.unit_place in
    e ∙ (ap (λ m. parts m programme.limit) en ∙ sym (ap (packet_count programme) (is.sending ∙ ap (λ b. cond b (Sending.Group s.unit_place g.size x g.bytes) (Sending.Alone s.unit_place x)) (le-ltb 1 g.size l))))

pub alone-few : (programme : Programme) → IsRight programme → (s : Spot) (k n : ℕ) → IsSpot programme s → s.asset < length programme.assets → k ≡ parts n programme.limit → n ≡ (unit_at programme s.unit_place).value.length → k ≤ 16777216
alone-few programme right s k n is l e en =
    omega (arith, e, en, parts-few n programme.limit (omega (arith, right.limit_low)), (right-unit programme right s.unit_place (unit-of programme s (unit_at programme s.unit_place).value is l).of).1.length)

-- ---- messages

pub count-parameters : (programme : Programme) (s : ℕ) (x : Signal) (at : LongTick) → x ≡ signals.Parameters at → 1 ≡ packet_count programme (sending_of_signal programme s x)
unfolding packet_count sending_of_signal
count-parameters programme s x at e = sym (ap (λ y. packet_count programme (sending_of_signal programme s y)) e)

pub count-table : (programme : Programme) (s k n : ℕ) (x : Signal) (at : LongTick) (names listed : List (ℕ × ℕ)) → x ≡ signals.Table at names → listed ≡ names → n ≡ table_message_length programme listed → k ≡ parts n programme.limit
    → k ≡ packet_count programme (sending_of_signal programme s x)
unfolding packet_count sending_of_signal
count-table programme s k n x at names listed e same en ek =
    ek ∙ (ap (λ m. parts m programme.limit) (en ∙ ap (table_message_length programme) same) ∙ sym (ap (λ y. packet_count programme (sending_of_signal programme s y)) e))

pub table-short : (programme : Programme) (s n : ℕ) (x : Signal) (at : LongTick) (names listed : List (ℕ × ℕ)) → x ≡ signals.Table at names → listed ≡ names → n ≡ table_message_length programme listed → refusal_of_signal programme s x ≡ None → n ≤ 65547
unfolding refusal_of_signal table_message_length
table-short programme s n x at names listed e same en none = go (nat_le (table_length programme names) 65535) refl (sym (ap (refusal_of_signal programme s) e) ∙ none)
  where
    go : (t : Bool) → nat_le (table_length programme names) 65535 ≡ t → cond t None (Some (Refusal.TableLong s)) ≡ None → n ≤ 65547
    go true t none = omega (arith, leb-true (table_length programme names) 65535 t, en, ap (table_length programme) same)
    go false t none = absurd cc

-- the first of two refusals, and the later one
pub first-none : (a b : Option Refusal) → first_of a b ≡ None → a ≡ None
first-none None b e = refl
first-none (Some r) b e = absurd cc

pub later-none : (a b : Option Refusal) → first_of a b ≡ None → b ≡ None
later-none None b e = e
later-none (Some r) b e = absurd cc

pub signal-here : (programme : Programme) (s : ℕ) (xs : List Signal) (x : Signal) → s < length xs → x ≡ get_or xs s x → refusal_of_signals programme s (drop s xs) ≡ None → refusal_of_signal programme s x ≡ None
signal-here programme s xs x l is none = first-none (refusal_of_signal programme s x) (refusal_of_signals programme (s + 1) (drop (s + 1) xs)) (sym (signals-next programme s xs x l is) ∙ none)

pub signals-later : (programme : Programme) (s : ℕ) (xs : List Signal) (x : Signal) → s < length xs → x ≡ get_or xs s x → refusal_of_signals programme s (drop s xs) ≡ None → refusal_of_signals programme (s + 1) (drop (s + 1) xs) ≡ None
signals-later programme s xs x l is none = later-none (refusal_of_signal programme s x) (refusal_of_signals programme (s + 1) (drop (s + 1) xs)) (sym (signals-next programme s xs x l is) ∙ none)

-- ---- the first refusal

pub no-end : (r : Option Refusal) (o : Option CastEnd) → o ≡ option_map end_of r → is_some o ≡ false → r ≡ None
no-end None o e none = refl
no-end (Some r) o e none = absurd (true≢false (sym (ap is_some e) ∙ none))

pub times-none : (programme : Programme) → refusal programme ≡ None → refusal_of_mpus (all_mpus programme) ≡ None
unfolding refusal
times-none programme e = first-none _ _ e

pub tables-none : (programme : Programme) → refusal programme ≡ None → refusal_of_signals programme 0 programme.signals ≡ None
unfolding refusal
tables-none programme e = first-none _ _ (later-none _ _ e)
