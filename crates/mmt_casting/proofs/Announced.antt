-- How far a walk over the signalling messages of a programme has come.
use Rattle.std.proofs.Common.{◌≡◌, ℕ, ◌+◌, ◌<◌, ◌≤◌, ◌^◌, suc, zero, List, [], ◌∷◌, ◌++◌, map, length, get_or, take, drop, arith, refl, ap, ap₂, sym, ◌∙◌, append_assoc, None}
use Rattle.std.proofs.lemmas.List.{append-nil, length-take, take_all, take_more}
use Rattle.mmt_base.specs.declared.ticks.LongTick.{LongTick}
use Rattle.mmt_cast.proofs.Found.{numbers-fit}
use Rattle.mmt_cast.proofs.Numbering.{before, flat}
use Rattle.mmt_cast.proofs.Refusals.{few-packets}
use Rattle.mmt_cast.proofs.Running.{count-own_more}
use Rattle.mmt_cast.specs.Casting.{count_of_id, numbered_after}
use Rattle.mmt_cast.specs.Placing.{flat_map_from, map_from}
use Rattle.mmt_cast.specs.Refusing.{refusal}
use Rattle.mmt_cast.specs.Sending.{Sending, id_of, packet_count, sending_of_signal, sendings}
use Rattle.mmt_cast.specs.Tables.{table_message_length}
use Rattle.mmt_casting.proofs.Adding.{one-number}
use Rattle.mmt_casting.proofs.Progress.{packets-more}
use Rattle.mmt_casting.specs.Numbered.{numbered_packet, numbered_packets}
use Rattle.mmt_casting.specs.Places.{sendings_from}
use Rattle.mmt_casting.specs.Spans.{signalling}
use Rattle.mmt_model.specs.declared.casts.Sent.{Sent}
use Rattle.mmt_model.specs.declared.programmes.Programme.{Programme}
use Rattle.mmt_model.specs.declared.programmes.Signal.{Signal}
use Rattle.mmt_model.specs.declared.programmes.Signal.TheVariants as signals

-- ---- lists with places

pub from-append : {X Y : Type 0} (f : ℕ → X → Y) (n : ℕ) (xs ys : List X) → map_from f n (xs ++ ys) ≡ map_from f n xs ++ map_from f (n + length xs) ys
unfolding map_from
from-append f n [] ys = let z : n ≡ n + 0 = omega arith in ap (λ m. map_from f m ys) z
from-append f n (x ∷ xs) ys = let s : n + 1 + length xs ≡ n + suc (length xs) = omega arith in ap (λ l. f n x ∷ l) (from-append f (n + 1) xs ys ∙ ap (λ m. map_from f (n + 1) xs ++ map_from f m ys) s)

pub flat-from-append : {X Y : Type 0} (f : ℕ → X → List Y) (n : ℕ) (xs ys : List X) → flat_map_from f n (xs ++ ys) ≡ flat_map_from f n xs ++ flat_map_from f (n + length xs) ys
unfolding flat_map_from
flat-from-append f n [] ys = let z : n ≡ n + 0 = omega arith in ap (λ m. flat_map_from f m ys) z
flat-from-append f n (x ∷ xs) ys =
    let s : n + 1 + length xs ≡ n + suc (length xs) = omega arith in
    ap (λ l. f n x ++ l) (flat-from-append f (n + 1) xs ys ∙ ap (λ m. flat_map_from f (n + 1) xs ++ flat_map_from f m ys) s) ∙ sym (append_assoc (f n x) (flat_map_from f (n + 1) xs) (flat_map_from f (n + suc (length xs)) ys))

pub from-more : {X Y : Type 0} (f : ℕ → X → Y) (xs : List X) (i : ℕ) (d : X) → i < length xs → map_from f 0 (take (i + 1) xs) ≡ map_from f 0 (take i xs) ++ f i (get_or xs i d) ∷ []
unfolding map_from
from-more f xs i d l =
    let e : 0 + length (take i xs) ≡ i = omega (arith, length-take i xs) in
    ap (map_from f 0) (take_more xs i d l) ∙ (from-append f 0 (take i xs) (get_or xs i d ∷ []) ∙ ap (λ m. map_from f 0 (take i xs) ++ f m (get_or xs i d) ∷ []) e)

pub flat-from-more : {X Y : Type 0} (f : ℕ → X → List Y) (xs : List X) (i : ℕ) (d : X) → i < length xs → flat_map_from f 0 (take (i + 1) xs) ≡ flat_map_from f 0 (take i xs) ++ f i (get_or xs i d)
unfolding flat_map_from
flat-from-more f xs i d l =
    let e : 0 + length (take i xs) ≡ i = omega (arith, length-take i xs) in
    ap (flat_map_from f 0) (take_more xs i d l)
    ∙ (flat-from-append f 0 (take i xs) (get_or xs i d ∷ []) ∙ ap (λ m. flat_map_from f 0 (take i xs) ++ (f m (get_or xs i d) ++ [])) e ∙ ap (λ r. flat_map_from f 0 (take i xs) ++ r) (append-nil (f i (get_or xs i d))))

from-split : {X Y : Type 0} (f : ℕ → X → Y) (n i : ℕ) (xs : List X) (d : X) → i < length xs → map_from f n xs ≡ map_from f n (take i xs) ++ f (n + i) (get_or xs i d) ∷ map_from f (n + i + 1) (drop (suc i) xs)
unfolding map_from
from-split f n i [] d l = absurd (omega arith)
from-split f n zero (x ∷ xs) d l = let z : n ≡ n + 0 = omega arith in ap (λ m. f m x ∷ map_from f (m + 1) xs) z
from-split f n (suc i) (x ∷ xs) d l =
    let s : n + 1 + i ≡ n + suc i = omega arith in
    ap (λ r. f n x ∷ r) (from-split f (n + 1) i xs d (omega arith) ∙ ap (λ m. map_from f (n + 1) (take i xs) ++ f m (get_or xs i d) ∷ map_from f (m + 1) (drop (suc i) xs)) s)

-- ---- messages

-- the sendings of the messages before one
abbrev pub messages_before : Programme → ℕ → List Sending
messages_before programme s = map_from (sending_of_signal programme) 0 (take s programme.signals)

-- those after it, and of the units
abbrev pub rest_after : Programme → ℕ → List Sending
rest_after programme s = map_from (sending_of_signal programme) (0 + s + 1) (drop (suc s) programme.signals) ++ sendings_from programme 0

pub message-split : (programme : Programme) (s : ℕ) (d : Signal) → s < length programme.signals → sendings programme ≡ messages_before programme s ++ sending_of_signal programme s (get_or programme.signals s d) ∷ rest_after programme s
unfolding sendings sendings_from
message-split programme s d l =
    let z : 0 + s ≡ s = omega arith in
    ap (λ r. r ++ sendings_from programme 0) (from-split (sending_of_signal programme) 0 s programme.signals d l)
    ∙ (append_assoc (messages_before programme s) _ (sendings_from programme 0)
    ∙ ap (λ m. messages_before programme s ++ sending_of_signal programme m (get_or programme.signals s d) ∷ rest_after programme s) z)

id-zero : (programme : Programme) (s : ℕ) (x : Signal) → id_of (sending_of_signal programme s x) ≡ 0
unfolding id_of sending_of_signal
id-zero programme s (signals.Parameters at) = refl
id-zero programme s (signals.Table at names) = refl

-- how many packets of packet id 0 stand before a message
abbrev pub number_before : Programme → ℕ → ℕ
number_before programme s = count_of_id 0 (flat programme (messages_before programme s))

pub before-message : (programme : Programme) (s : ℕ) (x : Signal) → before programme (messages_before programme s) (sending_of_signal programme s x) ≡ number_before programme s
before-message programme s x = ap (λ i. count_of_id i (flat programme (messages_before programme s))) (id-zero programme s x)

pub message-numbers : (programme : Programme) (s : ℕ) (x d : Signal) → refusal programme ≡ None → s < length programme.signals → x ≡ get_or programme.signals s d
    → number_before programme s + packet_count programme (sending_of_signal programme s x) < 2 ^ 32
message-numbers programme s x d none l is =
    let y : Signal = get_or programme.signals s d in
    omega (
      arith,
      few-packets programme none,
      numbers-fit programme (messages_before programme s) (rest_after programme s) (sending_of_signal programme s y) (message-split programme s d l),
      before-message programme s y,
      ap (λ z. packet_count programme (sending_of_signal programme s z)) is,
    )

pub number-more : (programme : Programme) (s : ℕ) (x d : Signal) → s < length programme.signals → x ≡ get_or programme.signals s d → number_before programme (s + 1) ≡ number_before programme s + packet_count programme (sending_of_signal programme s x)
number-more programme s x d l is =
    let y : Signal = get_or programme.signals s d in
    let z : Sending = sending_of_signal programme s y in
    ap (λ l. count_of_id 0 (flat programme l)) (from-more (sending_of_signal programme) programme.signals s d l)
    ∙ (ap (λ i. count_of_id i (flat programme (messages_before programme s ++ z ∷ []))) (sym (id-zero programme s y))
    ∙ (count-own_more programme (messages_before programme s) z
    ∙ ap₂ (λ m w. m + packet_count programme (sending_of_signal programme s w)) (before-message programme s y) (sym is)))

-- the packets of the messages before one
abbrev pub packets_before : Programme → ℕ → List Sent
packets_before programme s = numbered_after [] (flat programme (messages_before programme s))

pub packets-next : (programme : Programme) (s number : ℕ) (x d : Signal) (packets packets' : List Sent) → s < length programme.signals → x ≡ get_or programme.signals s d → number ≡ number_before programme s → packets ≡ packets_before programme s
    → packets' ≡ packets ++ numbered_packets programme (sending_of_signal programme s x) number → packets' ≡ packets_before programme (s + 1)
packets-next programme s number x d packets packets' l is en ep e =
    let y : Signal = get_or programme.signals s d in
    let z : Sending = sending_of_signal programme s y in
    e
    ∙ (ap₂ (λ ps w. ps ++ numbered_packets programme (sending_of_signal programme s w) number) ep is
    ∙ (packets-more programme (messages_before programme s) z number (before-message programme s y ∙ sym en)
    ∙ ap (λ l. numbered_after [] (flat programme l)) (sym (from-more (sending_of_signal programme) programme.signals s d l))))

pub packets-first : (programme : Programme) → packets_before programme 0 ≡ []
unfolding map_from numbered_after
packets-first programme = refl

pub number-first : (programme : Programme) → number_before programme 0 ≡ 0
unfolding map_from count_of_id
number-first programme = refl

pub packets-done : (programme : Programme) (s : ℕ) (packets : List Sent) → length programme.signals ≤ s → packets ≡ packets_before programme s → packets ≡ signalling programme
unfolding signalling
packets-done programme s packets ge e = e ∙ ap (λ xs. numbered_after [] (flat programme (map_from (sending_of_signal programme) 0 xs))) (take_all s programme.signals ge)

-- ---- the packets of a message

pub parameters-all : (programme : Programme) (s number : ℕ) (p : Sent) (start items : List Sent) (x : Signal) (at : LongTick) → x ≡ signals.Parameters at → p ≡ numbered_packet programme (Sending.Parameters s at.0) number 0
    → items ≡ start ++ p ∷ [] → items ≡ start ++ numbered_packets programme (sending_of_signal programme s x) number
unfolding packet_count sending_of_signal
parameters-all programme s number p start items x at ex ep e =
    e
    ∙ ap (λ l. start ++ l)
    (ap (λ q. q ∷ []) ep
    ∙ (sym (ap (map (numbered_packet programme (Sending.Parameters s at.0) number)) (one-number 0))
    ∙ sym (ap (λ y. numbered_packets programme (sending_of_signal programme s y) number) ex)))

pub table-all : (programme : Programme) (s number n : ℕ) (start items : List Sent) (x : Signal) (at : LongTick) (names listed : List (ℕ × ℕ)) → x ≡ signals.Table at names → listed ≡ names → n ≡ table_message_length programme listed
    → items ≡ start ++ numbered_packets programme (Sending.Table s at.0 n) number → items ≡ start ++ numbered_packets programme (sending_of_signal programme s x) number
unfolding sending_of_signal
table-all programme s number n start items x at names listed ex same en e =
    e
    ∙ ap (λ l. start ++ l)
    (ap (λ m. numbered_packets programme (Sending.Table s at.0 m) number) (en ∙ ap (table_message_length programme) same)
    ∙ sym (ap (λ y. numbered_packets programme (sending_of_signal programme s y) number) ex))
