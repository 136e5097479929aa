-- What is sent of the made programme: its messages, and each of its units by itself.
use Rattle.std.proofs.Common.{◌≡◌, ℕ, ◌+◌, ◌-◌, ◌*◌, ◌==◌, ◌&&◌, zero, suc, Bool, false, cond, List, [], ◌∷◌, ◌++◌, map, arith, refl, ap, ap₂, sym, ◌∙◌, subst}
use Rattle.std.specs.List.{flat_map, prefix_len}
use Rattle.std.proofs.lemmas.Bool.{and_left, and_right, ne_eqb}
use Rattle.std.proofs.lemmas.List.{append-nil}
use Rattle.std.proofs.lemmas.List.Concat.{flat_map-append}
use Rattle.mmt_cast.proofs.Grouping.{group-some, group-within}
use Rattle.mmt_cast.proofs.Numbering.{flat}
use Rattle.mmt_cast.specs.Placing.{PlacedUnit, all_units, map_from}
use Rattle.mmt_cast.specs.Sending.{Sending, group_size, is_short, may_join, packets_of, sending_of_signal, sending_of_units, sendings, sendings_of_units}
use Rattle.mmt_cast.specs.Tables.{table_message_length}
use Rattle.mmt_casting.proofs.Announced.{from-append}
use Rattle.mmt_delivery.proofs.Carried.{length-range}
use Rattle.mmt_made.proofs.MadeLists.{audio_unit, item_sent, units-are, video_unit}
use Rattle.mmt_made.specs.Generator.{all_signals, block, made_programme, names_at}
use Rattle.mmt_model.specs.Carrying.{numbers}
use Rattle.mmt_model.specs.declared.casts.Sent.{Sent}
use Rattle.mmt_model.specs.declared.programmes.Programme.{Programme}

-- ---- units that are not gathered

-- no unit may join the payload that the one before it begins
abbrev Follows : Programme → PlacedUnit → List PlacedUnit → Type 0
Follows programme x [] = Unit {0}
Follows programme x (y ∷ ys) = (may_join programme x y ≡ false) × Follows programme y ys

alone-size : (programme : Programme) (x : PlacedUnit) (ys : List PlacedUnit) → Follows programme x ys → group_size programme x ys ≡ 1
alone-size programme x ys f = omega (arith, group-some programme x ys, group-within programme x ys, first ys f)
  where
    first : (ys : List PlacedUnit) → Follows programme x ys → prefix_len (may_join programme x) ys ≡ 0
    first [] f = refl
    first (y ∷ ys) f = ap (λ (t : Bool). cond t (1 + prefix_len (may_join programme x) ys) 0) f.0

sending-alone : (u : ℕ) (x : PlacedUnit) (ys : List PlacedUnit) → sending_of_units u 1 x ys ≡ Sending.Alone u x
unfolding sending_of_units
sending-alone u x ys = refl

alone-from : (programme : Programme) (u : ℕ) (x : PlacedUnit) (ys : List PlacedUnit) → Follows programme x ys → sendings_of_units programme 0 u (x ∷ ys) ≡ map_from Sending.Alone u (x ∷ ys)
unfolding sendings_of_units map_from
alone-from programme u x [] f = ap (λ xs. xs) (ap (λ (n : ℕ). sending_of_units u n x [] ∷ []) (alone-size programme x [] f) ∙ ap (λ s. s ∷ []) (sending-alone u x []))
alone-from programme u x (y ∷ ys) f =
    ap (λ (n : ℕ). sending_of_units u n x (y ∷ ys) ∷ sendings_of_units programme (n - 1) (u + 1) (y ∷ ys)) (alone-size programme x (y ∷ ys) f)
    ∙ ap₂ (λ s ss. s ∷ ss) (sending-alone u x (y ∷ ys)) (alone-from programme (u + 1) y ys f.1)

follows-run : (programme : Programme) (f : ℕ → PlacedUnit) (rest : List PlacedUnit) (n j : ℕ) → ((k : ℕ) → may_join programme (f k) (f (k + 1)) ≡ false) → Follows programme (f (j + n)) rest
    → Follows programme (f j) (map f (numbers (j + 1) n) ++ rest)
unfolding numbers
follows-run programme f rest zero j apart last = let z : j + 0 ≡ j = omega arith in subst (λ i. Follows programme (f i) rest) z last
follows-run programme f rest (suc n) j apart last = (apart j, follows-run programme f rest n (j + 1) apart (let s : j + suc n ≡ j + 1 + n = omega arith in subst (λ i. Follows programme (f i) rest) s last))

peel : (f : ℕ → PlacedUnit) (n : ℕ) → map f (numbers 0 (suc n)) ≡ f 0 ∷ map f (numbers 1 n)
unfolding numbers
peel f n = refl

video-long : (k : ℕ) → is_short made_programme (video_unit k) ≡ false
unfolding is_short made_programme
video-long k = refl

item-long : is_short made_programme item_sent ≡ false
unfolding is_short made_programme
item-long = refl

video-apart : (k : ℕ) → may_join made_programme (video_unit k) (video_unit (k + 1)) ≡ false
unfolding may_join
video-apart k =
    let x : PlacedUnit = video_unit k in
    let y : PlacedUnit = video_unit (k + 1) in
    and_right (y.mpu_place == x.mpu_place) ((y.value.at.0 == x.value.at.0) && is_short made_programme y) (and_right (y.value.at.0 == x.value.at.0) (is_short made_programme y) (video-long (k + 1)))

audio-apart : (k : ℕ) → may_join made_programme (audio_unit k) (audio_unit (k + 1)) ≡ false
unfolding may_join
audio-apart k =
    let x : PlacedUnit = audio_unit k in
    let y : PlacedUnit = audio_unit (k + 1) in
    and_right (y.mpu_place == x.mpu_place) ((y.value.at.0 == x.value.at.0) && is_short made_programme y) (and_left (y.value.at.0 == x.value.at.0) (is_short made_programme y) (ne_eqb y.value.at.0 x.value.at.0 (λ e. omega (arith, e))))

audio-after : may_join made_programme (video_unit 3599) (audio_unit 0) ≡ false
unfolding may_join
audio-after = refl

item-after : may_join made_programme (audio_unit 959) item_sent ≡ false
unfolding may_join
item-after = refl

-- ---- the sendings

abbrev pub video_sending : ℕ → Sending
video_sending k = Sending.Alone (0 + k) (video_unit k)

abbrev pub audio_sending : ℕ → Sending
audio_sending k = Sending.Alone (3600 + k) (audio_unit k)

-- the number of a block's table
abbrev pub table_sending : ℕ → Sending
table_sending b = Sending.Table (2 * b + 1) (65536000 + 32768 * b) (table_message_length made_programme (names_at b))

abbrev pub block_sendings : ℕ → List Sending
block_sendings b = Sending.Parameters (2 * b) (65536000 + 32768 * b) ∷ table_sending b ∷ []

alone-map : (f : ℕ → PlacedUnit) (d n j : ℕ) → map_from Sending.Alone (d + j) (map f (numbers j n)) ≡ map (λ k. Sending.Alone (d + k) (f k)) (numbers j n)
unfolding map_from numbers
alone-map f d zero j = refl
alone-map f d (suc n) j =
    let s : d + j + 1 ≡ d + (j + 1) = omega arith in
    ap (λ xs. Sending.Alone (d + j) (f j) ∷ xs) (ap (λ i. map_from Sending.Alone i (map f (numbers (j + 1) n))) s ∙ alone-map f d n (j + 1))

alone-last : (u : ℕ) (x : PlacedUnit) → map_from Sending.Alone u (x ∷ []) ≡ Sending.Alone u x ∷ []
unfolding map_from
alone-last u x = refl

messages-from : (n j : ℕ) → map_from (sending_of_signal made_programme) (2 * j) (flat_map block (numbers j n)) ≡ flat_map block_sendings (numbers j n)
unfolding map_from numbers sending_of_signal
messages-from zero j = refl
messages-from (suc n) j =
    let s : 2 * j + 1 + 1 ≡ 2 * (j + 1) = omega arith in
    ap (λ xs. Sending.Parameters (2 * j) (65536000 + 32768 * j) ∷ table_sending j ∷ xs) (ap (λ i. map_from (sending_of_signal made_programme) i (flat_map block (numbers (j + 1) n))) s ∙ messages-from n (j + 1))

signals-are : made_programme.signals ≡ all_signals
unfolding made_programme
signals-are = refl

messages-are : map_from (sending_of_signal made_programme) 0 made_programme.signals ≡ flat_map block_sendings (numbers 0 120)
messages-are = ap (map_from (sending_of_signal made_programme) 0) signals-are ∙ messages-from 120 0

units-alone : sendings_of_units made_programme 0 0 (all_units made_programme) ≡ map video_sending (numbers 0 3600) ++ (map audio_sending (numbers 0 960) ++ Sending.Alone 4560 item_sent ∷ [])
units-alone =
    let audios : List PlacedUnit = map audio_unit (numbers 0 960) ++ item_sent ∷ [] in
    let first : map video_unit (numbers 0 3600) ≡ video_unit 0 ∷ map video_unit (numbers 1 3599) = peel video_unit 3599 in
    let second : map audio_unit (numbers 0 960) ≡ audio_unit 0 ∷ map audio_unit (numbers 1 959) = peel audio_unit 959 in
    let last : Follows made_programme (audio_unit 959) (item_sent ∷ []) = (item-after, tt) in
    let later : Follows made_programme (video_unit 3599) audios =
    subst (λ us. Follows made_programme (video_unit 3599) (us ++ item_sent ∷ [])) (sym second) (audio-after, follows-run made_programme audio_unit (item_sent ∷ []) 959 0 audio-apart last) in
    let all : Follows made_programme (video_unit 0) (map video_unit (numbers 1 3599) ++ audios) = follows-run made_programme video_unit audios 3599 0 video-apart later in
    ap (sendings_of_units made_programme 0 0) (units-are ∙ ap (λ us. us ++ audios) first)
    ∙ (alone-from made_programme 0 (video_unit 0) (map video_unit (numbers 1 3599) ++ audios) all
    ∙ (ap (λ us. map_from Sending.Alone 0 (us ++ audios)) (sym first)
    ∙ (from-append Sending.Alone 0 (map video_unit (numbers 0 3600)) audios
    ∙ ap₂ (λ xs ys. xs ++ ys) (alone-map video_unit 0 3600 0)
    (ap (λ n. map_from Sending.Alone n audios) (omega (arith, length-range video_unit 3600))
    ∙ (from-append Sending.Alone 3600 (map audio_unit (numbers 0 960)) (item_sent ∷ [])
    ∙ ap₂ (λ xs ys. xs ++ ys) (alone-map audio_unit 3600 960 0) (ap (λ n. map_from Sending.Alone n (item_sent ∷ [])) (omega (arith, length-range audio_unit 960)) ∙ alone-last 4560 item_sent))))))

-- a buffer message and a table for each block, and then each unit by itself
pub sendings-are : sendings made_programme ≡ flat_map block_sendings (numbers 0 120) ++ (map video_sending (numbers 0 3600) ++ (map audio_sending (numbers 0 960) ++ Sending.Alone 4560 item_sent ∷ []))
unfolding sendings
sendings-are = ap₂ (λ xs ys. xs ++ ys) messages-are units-alone

-- ---- the packets of each, in the order of the plan

abbrev pub block_packets : ℕ → List Sent
block_packets b = flat made_programme (block_sendings b)

abbrev pub video_packets : ℕ → List Sent
video_packets k = packets_of made_programme (video_sending k)

abbrev pub audio_packets : ℕ → List Sent
audio_packets k = packets_of made_programme (audio_sending k)

abbrev pub item_packets : List Sent
item_packets = packets_of made_programme (Sending.Alone 4560 item_sent)

flat-map : (g : ℕ → Sending) (ks : List ℕ) → flat made_programme (map g ks) ≡ flat_map (λ k. packets_of made_programme (g k)) ks
flat-map g [] = refl
flat-map g (k ∷ ks) = ap (λ ps. packets_of made_programme (g k) ++ ps) (flat-map g ks)

flat-flat : (g : ℕ → List Sending) (ks : List ℕ) → flat made_programme (flat_map g ks) ≡ flat_map (λ k. flat made_programme (g k)) ks
flat-flat g [] = refl
flat-flat g (k ∷ ks) = flat_map-append (packets_of made_programme) (g k) (flat_map g ks) ∙ ap (λ ps. flat made_programme (g k) ++ ps) (flat-flat g ks)

pub packets-are : flat made_programme (sendings made_programme) ≡ flat_map block_packets (numbers 0 120) ++ (flat_map video_packets (numbers 0 3600) ++ (flat_map audio_packets (numbers 0 960) ++ item_packets))
packets-are =
    let ss : List Sending = flat_map block_sendings (numbers 0 120) in
    let vs : List Sending = map video_sending (numbers 0 3600) in
    let as' : List Sending = map audio_sending (numbers 0 960) in
    let is : List Sending = Sending.Alone 4560 item_sent ∷ [] in
    let f : Sending → List Sent = packets_of made_programme in
    ap (flat made_programme) sendings-are
    ∙ (flat_map-append f ss (vs ++ (as' ++ is))
    ∙ ap₂ (λ xs ys. xs ++ ys) (flat-flat block_sendings (numbers 0 120))
    (flat_map-append f vs (as' ++ is)
    ∙ ap₂ (λ xs ys. xs ++ ys) (flat-map video_sending (numbers 0 3600))
    (flat_map-append f as' is ∙ ap₂ (λ xs ys. xs ++ ys) (flat-map audio_sending (numbers 0 960)) (append-nil item_packets))))
