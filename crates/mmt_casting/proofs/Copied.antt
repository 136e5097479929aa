-- The table copies, message by message.
use Rattle.std.proofs.Common.{◌≡◌, ℕ, ◌+◌, ◌-◌, ◌*◌, ◌<◌, ◌≤◌, List, [], ◌∷◌, ◌++◌, map, length, get_or, take, arith, refl, ap, ap₂, sym, ◌∙◌}
use Rattle.std.proofs.lemmas.Bool.{eq-eqb}
use Rattle.std.proofs.lemmas.List.{take_all}
use Rattle.mmt_base.specs.declared.ticks.LongTick.{LongTick}
use Rattle.mmt_cast.proofs.Running.{span_by, table-span-is}
use Rattle.mmt_cast.specs.Casting.{Span, copies_as_sent, copy_as_sent, place_of_mpu}
use Rattle.mmt_cast.specs.Placing.{all_mpus, flat_map_from}
use Rattle.mmt_cast.specs.Sending.{Sending, packet_count, sending_of_signal, tick_of_packet}
use Rattle.mmt_cast.specs.Tables.{table_message_length}
use Rattle.mmt_casting.proofs.Announced.{before-message, flat-from-more, message-split, messages_before, number_before, rest_after}
use Rattle.mmt_casting.specs.Spans.{copies_by, run_by}
use Rattle.mmt_casting.specs.declared.units.Run.{Run}
use Rattle.mmt_frag.proofs.PartsJoined.{parts-some}
use Rattle.mmt_model.specs.Right.{IsRight}
use Rattle.mmt_model.specs.declared.casts.TableCopy.{TableCopy}
use Rattle.mmt_model.specs.declared.programmes.Programme.{Programme}
use Rattle.mmt_model.specs.declared.programmes.Signal.{Signal}
use Rattle.mmt_model.specs.declared.programmes.Signal.TheVariants as signals

-- a copy by its parts
abbrev pub made_copy : ℕ → List ℕ → ℕ → ℕ → ℕ → ℕ → TableCopy
made_copy s places first last number count = record { signal = s; names = places; first = record { 0 = first }; last = record { 0 = last }; first_number = number; count = count }

pub copy-none : (programme : Programme) (s : ℕ) (run : Run) (x : Signal) (at : LongTick) → x ≡ signals.Parameters at → [] ≡ copies_by programme s run x
unfolding copies_by
copy-none programme s run x at e = sym (ap (copies_by programme s run) e)

pub copy-made : (programme : Programme) (s number k last : ℕ) (places : List ℕ) (x : Signal) (at : LongTick) (names listed : List (ℕ × ℕ)) → x ≡ signals.Table at names → listed ≡ names → places ≡ map (place_of_mpu (all_mpus programme)) listed
    → k ≡ packet_count programme (sending_of_signal programme s x) → last ≡ at.0 + (k - 1) * programme.spacing
    → made_copy s places at.0 last number k ∷ [] ≡ copies_by programme s (run_by programme (sending_of_signal programme s x) number) x
unfolding copies_by sending_of_signal tick_of_packet
copy-made programme s number k last places x at names listed ex same ep ek el =
    let y : Sending = Sending.Table s at.0 (table_message_length programme names) in
    let n : ℕ = packet_count programme y in
    let first : at.0 ≡ at.0 + 0 * programme.spacing = omega arith in
    let c : k ≡ n = ek ∙ ap (λ z. packet_count programme (sending_of_signal programme s z)) ex in
    ap₂ (λ ps l. made_copy s ps at.0 l number k ∷ []) (ep ∙ ap (map (place_of_mpu (all_mpus programme))) same) (el ∙ ap (λ m. at.0 + (m - 1) * programme.spacing) c)
    ∙ (ap₂ (λ f m. made_copy s (map (place_of_mpu (all_mpus programme)) names) f (at.0 + (n - 1) * programme.spacing) number m ∷ []) first c
    ∙ sym (ap (λ z. copies_by programme s (run_by programme (sending_of_signal programme s z) number) z) ex))

pub table-some : (programme : Programme) → IsRight programme → (s : ℕ) (x : Signal) (at : LongTick) (names : List (ℕ × ℕ)) → x ≡ signals.Table at names → 1 ≤ packet_count programme (sending_of_signal programme s x)
unfolding packet_count sending_of_signal table_message_length
table-some programme right s x at names e =
    omega (arith, ap (λ z. packet_count programme (sending_of_signal programme s z)) e, parts-some (table_message_length programme names) programme.limit (omega (arith, right.limit_low)) (omega arith))

-- ---- the copy of a message by the definition

copy-as : (programme : Programme) → IsRight programme → (s : ℕ) (x d : Signal) → s < length programme.signals → x ≡ get_or programme.signals s d → copy_as_sent programme s x ≡ copies_by programme s (run_by programme (sending_of_signal programme s x) (number_before programme s)) x
unfolding copy_as_sent copies_by sending_of_signal
copy-as programme right s (signals.Parameters at) d l is = refl
copy-as programme right s (signals.Table at names) d l is =
    let y : Sending = Sending.Table s at.0 (table_message_length programme names) in
    let split = message-split programme s d l ∙ ap (λ z. messages_before programme s ++ sending_of_signal programme s z ∷ rest_after programme s) (sym is) in
    let e = table-span-is programme s (messages_before programme s) (rest_after programme s) y split (eq-eqb s s refl) (table-some programme right s (signals.Table at names) at names refl) in
    let b = before-message programme s (signals.Table at names) in
    ap (λ (z : Span). record { signal = s; names = map (place_of_mpu (all_mpus programme)) names; first = z.first; last = z.last; first_number = z.first_number; count = z.count } ∷ []) (e ∙ ap (λ n. span_by programme y n (packet_count programme y)) b)

pub copies-more : (programme : Programme) → IsRight programme → (s number : ℕ) (x d : Signal) (copies copies' more : List TableCopy) → s < length programme.signals → x ≡ get_or programme.signals s d → number ≡ number_before programme s
    → copies ≡ flat_map_from (copy_as_sent programme) 0 (take s programme.signals) → copies' ≡ copies ++ more → more ≡ copies_by programme s (run_by programme (sending_of_signal programme s x) number) x
    → copies' ≡ flat_map_from (copy_as_sent programme) 0 (take (s + 1) programme.signals)
copies-more programme right s number x d copies copies' more l is en ec e em =
    e
    ∙ (ap₂ (λ cs ds. cs ++ ds) ec (em ∙ (ap (λ n. copies_by programme s (run_by programme (sending_of_signal programme s x) n) x) en ∙ (sym (copy-as programme right s x d l is) ∙ ap (copy_as_sent programme s) is)))
    ∙ sym (flat-from-more (copy_as_sent programme) programme.signals s d l))

pub copies-none : (programme : Programme) → [] ≡ flat_map_from (copy_as_sent programme) 0 (take 0 programme.signals)
unfolding flat_map_from
copies-none programme = refl

pub copies-done : (programme : Programme) (s : ℕ) (copies : List TableCopy) → length programme.signals ≤ s → copies ≡ flat_map_from (copy_as_sent programme) 0 (take s programme.signals) → copies ≡ copies_as_sent programme
unfolding copies_as_sent
copies-done programme s copies ge e = e ∙ ap (flat_map_from (copy_as_sent programme) 0) (take_all s programme.signals ge)
