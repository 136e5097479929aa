-- The packets of the made programme: when they are sent, how many bytes a window holds, and which comes first.
use Rattle.std.proofs.Common.{◌≡◌, ℕ, ◌+◌, ◌*◌, ◌/◌, ◌<◌, ◌≤◌, ◌==◌, ◌&&◌, ◌||◌, nat_lt, zero, suc, Bool, true, false, ◌⊎◌, inl, inr, cond, List, [], ◌∷◌, ◌++◌, map, length, None, arith, refl, ap, sym, ◌∙◌, ⊎_elim, subst, true≢false}
use Rattle.std.specs.Int.{div_ceil}
use Rattle.std.specs.List.{AllByRecursion, flat_map}
use Rattle.std.proofs.lemmas.Bool.{and_from, eq-eqb, lt-ltb, ltb-false}
use Rattle.std.proofs.lemmas.List.{length-append, length-map}
use Rattle.mmt_frag.proofs.PartsJoined.{length-numbers}
use Rattle.std.proofs.lemmas.List.Sums.{sum_by-append, sum_by-cons}
use Rattle.mmt_cast.proofs.Listing.{IsIn, each-append, each-in, each-map_numbers, each-weaker, in-sort}
use Rattle.mmt_cast.proofs.Numbering.{flat, from-earlier}
use Rattle.mmt_cast.proofs.Ordering.{InOrder, from-sort, sent-order}
use Rattle.mmt_cast.specs.Casting.{cast_of, count_of_id, is_sent_before, numbered_after, planned, with_number}
use Rattle.mmt_cast.specs.Sending.{Sending, carried, header_length, id_of, packet_count, packet_of, packets_of, payload_length, sendings, tick_of_packet}
use Rattle.mmt_cast.specs.Tables.{table_message_length}
use Rattle.mmt_frag.specs.Cuts.{part_length, parts}
use Rattle.mmt_made.proofs.Lists.{each-flat}
use Rattle.mmt_made.proofs.MadeSendings.{audio_packets, block_packets, item_packets, packets-are, table_sending, video_packets}
use Rattle.mmt_made.proofs.PlanOrder.{Pairs, Rising, each-both, in-order, none-yet, numbered-each, one-own, pairs-append, pairs-weaker}
use Rattle.mmt_made.proofs.RightMade.{names-are, names_if}
use Rattle.mmt_made.proofs.TableSizes.{table-small}
use Rattle.mmt_made.proofs.WindowLoad.{AreRuns, AreSentIn, load-append, load-numbered, load-sort, load-total, spaced-runs, total}
use Rattle.mmt_made.specs.Generator.{is_last, made_programme, names_at}
use Rattle.mmt_model.specs.Admission.{fault_of_start, first_parameters, has_parameters, unless}
use Rattle.mmt_model.specs.Carrying.{numbers}
use Rattle.mmt_model.specs.Handing.{precedes}
use Rattle.mmt_model.specs.Sorted.{sort_by}
use Rattle.mmt_model.specs.Survival.{load}
use Rattle.mmt_model.specs.declared.casts.Sent.{Sent}

-- ---- runs that follow one another

-- of two packets the first is not sent later
abbrev Early : Sent → Sent → Type 0
Early p q = p.at.0 ≤ q.at.0

-- runs end before later ones begin
abbrev AreApart : (ℕ → ℕ) → ℕ → Type 0
AreApart low reach = (i k : ℕ) → i < k → low i + reach ≤ low k

rise-runs : (run : ℕ → List Sent) (low : ℕ → ℕ) (reach bytes : ℕ) → AreRuns run low reach bytes → AreApart low reach → ((k : ℕ) → Pairs Early (run k)) → (n j : ℕ) → Pairs Early (flat_map run (numbers j n))
unfolding numbers
rise-runs run low reach bytes runs apart own zero j = tt
rise-runs run low reach bytes runs apart own (suc n) j =
    let later : AllByRecursion (λ (q : Sent). low j + reach ≤ q.at.0) (flat_map run (numbers (j + 1) n)) =
    each-flat (λ (q : Sent). low j + reach ≤ q.at.0) run (j + 1) n
    (λ k lo hi. each-weaker (λ (q : Sent). (low k ≤ q.at.0) × (q.at.0 ≤ low k + reach)) (λ (q : Sent). low j + reach ≤ q.at.0) (run k) (λ q h. omega (arith, h.0, apart j k (omega (arith, lo)))) (runs.sent k)) in
    pairs-append Early (run j) (flat_map run (numbers (j + 1) n)) (own j) (rise-runs run low reach bytes runs apart own n (j + 1))
    (λ p q i k. omega (arith, (each-in (λ (p : Sent). (low j ≤ p.at.0) × (p.at.0 ≤ low j + reach)) p (run j) (runs.sent j) i).1, each-in (λ (q : Sent). low j + reach ≤ q.at.0) q (flat_map run (numbers (j + 1) n)) later k))

-- ---- the runs of the made programme

abbrev pub block_low : ℕ → ℕ
block_low b = 65536000 + 32768 * b

abbrev pub video_low : ℕ → ℕ
video_low k = 65536000 + k * 16384 / 15

abbrev pub audio_low : ℕ → ℕ
audio_low k = 65536000 + k * 61440 / 15

-- the bytes of a block's table as a message
abbrev pub table_bytes : ℕ → ℕ
table_bytes b = table_message_length made_programme (names_at b)

pub names-four : (b : ℕ) → length (names_at b) ≤ 4
names-four b = omega (arith, ap length (names-are b), go (is_last b))
  where
    go : (last : Bool) → length (names_if last b) ≤ 4
    go true = omega arith
    go false = omega arith

pub table-short : (b : ℕ) → table_bytes b ≤ 1876
unfolding table_message_length
table-short b = omega (arith, table-small (names_at b) (names-four b))

-- a table goes in two packets at most
pub table-parts : (b : ℕ) → parts (table_bytes b) 1400 ≤ 2
table-parts b = go (table_bytes b) (table-short b)
  where
    go : (n : ℕ) → n ≤ 1876 → div_ceil n 1400 ≤ 2
    go n l = omega (arith, l)

table-in : (s at bytes n j : ℕ) → j + n ≤ 2 → AreSentIn at (at + 100) (map (packet_of made_programme (Sending.Table s at bytes)) (numbers j n))
unfolding packet_of tick_of_packet made_programme
table-in s at bytes n j l =
    each-map_numbers (λ (p : Sent). (at ≤ p.at.0) × (p.at.0 ≤ at + 100)) (packet_of made_programme (Sending.Table s at bytes)) j n (λ k lo hi. (omega arith, omega (arith, lo, hi, l)))

table-total : (s at bytes n : ℕ) → n ≤ 2 → bytes ≤ 1876 → total (map (packet_of made_programme (Sending.Table s at bytes)) (numbers 0 n)) ≤ 1880
unfolding packet_of payload_length part_length made_programme numbers
table-total s at bytes zero l few = omega arith
table-total s at bytes (suc zero) l few = omega (arith, few)
table-total s at bytes (suc (suc zero)) l few = omega (arith, few)
table-total s at bytes (suc (suc (suc n))) l few = absurd (omega arith)

table-rises : (s at bytes n j : ℕ) → Pairs Early (map (packet_of made_programme (Sending.Table s at bytes)) (numbers j n))
unfolding packet_of tick_of_packet made_programme numbers
table-rises s at bytes zero j = tt
table-rises s at bytes (suc n) j =
    let p : Sent = packet_of made_programme (Sending.Table s at bytes) j in
    (each-map_numbers (Early p) (packet_of made_programme (Sending.Table s at bytes)) (j + 1) n (λ k lo hi. omega (arith, lo)), table-rises s at bytes n (j + 1))

-- the buffer message of a block
abbrev parameters_packet : ℕ → Sent
parameters_packet b = packet_of made_programme (Sending.Parameters (2 * b) (65536000 + 32768 * b)) 0

abbrev table_packets : ℕ → List Sent
table_packets b = map (packet_of made_programme (table_sending b)) (numbers 0 (parts (table_bytes b) 1400))

block-is : (b : ℕ) → block_packets b ≡ parameters_packet b ∷ (table_packets b ++ [])
unfolding packets_of packet_count made_programme numbers
block-is b = refl

pub block-length : (b : ℕ) → length (block_packets b) ≤ 3
block-length b =
    omega (
      arith,
      ap length (block-is b),
      length-append (table_packets b) [],
      length-map (numbers 0 (parts (table_bytes b) 1400)) (packet_of made_programme (table_sending b)),
      length-numbers 0 (parts (table_bytes b) 1400),
      table-parts b,
    )

parameters-at : (b : ℕ) → (parameters_packet b).at.0 ≡ block_low b
unfolding packet_of tick_of_packet
parameters-at b = refl

parameters-length : (b : ℕ) → (parameters_packet b).length ≡ 19
unfolding packet_of payload_length
parameters-length b = refl

block-sent : (b : ℕ) → AreSentIn (block_low b) (block_low b + 100) (parameters_packet b ∷ (table_packets b ++ []))
block-sent b = (
  (omega (arith, parameters-at b), omega (arith, parameters-at b)),
  each-append (λ (p : Sent). (block_low b ≤ p.at.0) × (p.at.0 ≤ block_low b + 100)) (table_packets b) [] (table-in (2 * b + 1) (block_low b) (table_bytes b) (parts (table_bytes b) 1400) 0 (omega (arith, table-parts b))) tt,
)

block-small : (b : ℕ) → total (parameters_packet b ∷ (table_packets b ++ [])) ≤ 1899
block-small b =
    omega (
      arith,
      sum_by-cons (λ (p : Sent). p.length) (parameters_packet b) (table_packets b ++ []),
      sum_by-append (λ (p : Sent). p.length) (table_packets b) [],
      parameters-length b,
      table-total (2 * b + 1) (block_low b) (table_bytes b) (parts (table_bytes b) 1400) (table-parts b) (table-short b),
    )

block-runs : AreRuns block_packets block_low 100 1899
block-runs =
    record { sent = λ b. subst (AreSentIn (block_low b) (block_low b + 100)) (sym (block-is b)) (block-sent b); small = λ b. subst (λ ps. total ps ≤ 1899) (sym (block-is b)) (block-small b) }

video-runs : AreRuns video_packets video_low 200 3066
unfolding packets_of packet_of packet_count tick_of_packet payload_length header_length part_length numbers made_programme
video-runs = record { sent = λ k. ((omega arith, omega arith), ((omega arith, omega arith), ((omega arith, omega arith), tt))); small = λ k. omega arith }

audio-runs : AreRuns audio_packets audio_low 0 322
unfolding packets_of packet_of packet_count tick_of_packet payload_length header_length part_length numbers made_programme
audio-runs = record { sent = λ k. ((omega arith, omega arith), tt); small = λ k. omega arith }

item-sent : AreSentIn 69468160 69468460 item_packets
unfolding packets_of packet_of packet_count tick_of_packet numbers made_programme
item-sent = ((omega arith, omega arith), ((omega arith, omega arith), ((omega arith, omega arith), ((omega arith, omega arith), tt))))

item-total : total item_packets ≤ 5048
unfolding packets_of packet_of packet_count payload_length header_length part_length numbers made_programme
item-total = omega arith

-- ---- rule 6

-- the window that ends with any tick holds at most the bound
pub load-fits : (c : ℕ) → load (cast_of made_programme).packets 131072 c ≤ 400000
unfolding cast_of planned
load-fits c =
    let all = flat made_programme (sendings made_programme) in
    let blocks : List Sent = flat_map block_packets (numbers 0 120) in
    let videos : List Sent = flat_map video_packets (numbers 0 3600) in
    let audios : List Sent = flat_map audio_packets (numbers 0 960) in
    omega (
      arith,
      load-sort 131072 c (numbered_after [] all),
      load-numbered 131072 c [] all,
      ap (λ ps. load ps 131072 c) packets-are,
      load-append 131072 c blocks (videos ++ (audios ++ item_packets)),
      load-append 131072 c videos (audios ++ item_packets),
      load-append 131072 c audios item_packets,
      spaced-runs block_packets block_low 100 1899 131072 c 5 block-runs (λ i k a b d e. omega (arith, a, b, d, e)) 0 120,
      spaced-runs video_packets video_low 200 3066 131072 c 121 video-runs (λ i k a b d e. omega (arith, a, b, d, e)) 0 3600,
      spaced-runs audio_packets audio_low 0 322 131072 c 33 audio-runs (λ i k a b d e. omega (arith, a, b, d, e)) 0 960,
      load-total 131072 c item_packets,
      item-total,
    )

-- ---- packet ids, and the order of the plan

parameters-id : (b : ℕ) → (parameters_packet b).packet_id ≡ 0
unfolding id_of packet_of
parameters-id b = refl

table-id : (b k : ℕ) → (packet_of made_programme (table_sending b) k).packet_id ≡ 0
unfolding id_of packet_of
table-id b k = refl

block-id : (b : ℕ) → AllByRecursion (λ (p : Sent). p.packet_id ≡ 0) (parameters_packet b ∷ (table_packets b ++ []))
block-id b = (
  parameters-id b,
  each-append (λ (p : Sent). p.packet_id ≡ 0) (table_packets b) [] (each-map_numbers (λ (p : Sent). p.packet_id ≡ 0) (packet_of made_programme (table_sending b)) 0 (parts (table_bytes b) 1400) (λ k lo hi. table-id b k)) tt,
)

block-ids : (b : ℕ) → AllByRecursion (λ (p : Sent). p.packet_id ≡ 0) (block_packets b)
block-ids b = subst (AllByRecursion (λ (p : Sent). p.packet_id ≡ 0)) (sym (block-is b)) (block-id b)

video-ids : (k : ℕ) → AllByRecursion (λ (p : Sent). p.packet_id ≡ 256) (video_packets k)
unfolding id_of packets_of packet_of packet_count numbers made_programme
video-ids k = (refl, (refl, (refl, tt)))

audio-ids : (k : ℕ) → AllByRecursion (λ (p : Sent). p.packet_id ≡ 272) (audio_packets k)
unfolding id_of packets_of packet_of packet_count numbers made_programme
audio-ids k = (refl, tt)

item-ids : AllByRecursion (λ (p : Sent). p.packet_id ≡ 288) item_packets
unfolding id_of packets_of packet_of packet_count numbers made_programme
item-ids = (refl, (refl, (refl, (refl, tt))))

block-rise : (b : ℕ) → Pairs Early (parameters_packet b ∷ (table_packets b ++ []))
block-rise b = (
  each-weaker (λ (p : Sent). (block_low b ≤ p.at.0) × (p.at.0 ≤ block_low b + 100)) (Early (parameters_packet b)) (table_packets b ++ []) (λ p h. omega (arith, h.0, parameters-at b)) (block-sent b).1,
  pairs-append Early (table_packets b) [] (table-rises (2 * b + 1) (block_low b) (table_bytes b) (parts (table_bytes b) 1400) 0) tt (λ p q i j. absurd j),
)

block-rises : (b : ℕ) → Pairs Early (block_packets b)
block-rises b = subst (Pairs Early) (sym (block-is b)) (block-rise b)

video-rises : (k : ℕ) → Pairs Early (video_packets k)
unfolding packets_of packet_of packet_count tick_of_packet numbers made_programme
video-rises k = ((omega arith, (omega arith, tt)), ((omega arith, tt), (tt, tt)))

audio-rises : (k : ℕ) → Pairs Early (audio_packets k)
unfolding packets_of packet_of packet_count tick_of_packet numbers made_programme
audio-rises k = (tt, tt)

item-rises : Pairs Early item_packets
unfolding packets_of packet_of packet_count tick_of_packet numbers made_programme
item-rises = ((omega arith, (omega arith, (omega arith, tt))), ((omega arith, (omega arith, tt)), ((omega arith, tt), (tt, tt))))

-- packets of one packet id, and of greater ones after them
join : (i : ℕ) (xs ys : List Sent) → Pairs Early xs → Pairs Rising ys → AllByRecursion (λ (p : Sent). p.packet_id ≡ i) xs → AllByRecursion (λ (p : Sent). i < p.packet_id) ys → Pairs Rising (xs ++ ys)
join i xs ys a b own other =
    pairs-append Rising xs ys (pairs-weaker Early Rising xs (λ p q h same. h) a) b
    (λ p q k l same. absurd (omega (arith, same, each-in (λ (p : Sent). p.packet_id ≡ i) p xs own k, each-in (λ (p : Sent). i < p.packet_id) q ys other l)))

pub plan-rises : Pairs Rising (flat made_programme (sendings made_programme))
plan-rises =
    let blocks : List Sent = flat_map block_packets (numbers 0 120) in
    let videos : List Sent = flat_map video_packets (numbers 0 3600) in
    let audios : List Sent = flat_map audio_packets (numbers 0 960) in
    let b : AllByRecursion (λ (p : Sent). p.packet_id ≡ 0) blocks = each-flat (λ (p : Sent). p.packet_id ≡ 0) block_packets 0 120 (λ k lo hi. block-ids k) in
    let v : AllByRecursion (λ (p : Sent). p.packet_id ≡ 256) videos = each-flat (λ (p : Sent). p.packet_id ≡ 256) video_packets 0 3600 (λ k lo hi. video-ids k) in
    let a : AllByRecursion (λ (p : Sent). p.packet_id ≡ 272) audios = each-flat (λ (p : Sent). p.packet_id ≡ 272) audio_packets 0 960 (λ k lo hi. audio-ids k) in
    let past_audio = each-weaker (λ (p : Sent). p.packet_id ≡ 288) (λ (p : Sent). 272 < p.packet_id) item_packets (λ p e. omega (arith, e)) item-ids in
    let past_video = each-append (λ (p : Sent). 256 < p.packet_id) audios item_packets (each-weaker (λ (p : Sent). p.packet_id ≡ 272) (λ (p : Sent). 256 < p.packet_id) audios (λ p e. omega (arith, e)) a)
    (each-weaker (λ (p : Sent). p.packet_id ≡ 288) (λ (p : Sent). 256 < p.packet_id) item_packets (λ p e. omega (arith, e)) item-ids) in
    let past_block = each-append (λ (p : Sent). 0 < p.packet_id) videos (audios ++ item_packets) (each-weaker (λ (p : Sent). p.packet_id ≡ 256) (λ (p : Sent). 0 < p.packet_id) videos (λ p e. omega (arith, e)) v)
    (each-weaker (λ (p : Sent). 256 < p.packet_id) (λ (p : Sent). 0 < p.packet_id) (audios ++ item_packets) (λ p e. omega (arith, e)) past_video) in
    subst (Pairs Rising) (sym packets-are)
    (join 0 blocks (videos ++ (audios ++ item_packets)) (rise-runs block_packets block_low 100 1899 block-runs (λ i k l. omega (arith, l)) block-rises 120 0)
    (join 256 videos (audios ++ item_packets) (rise-runs video_packets video_low 200 3066 video-runs (λ i k l. omega (arith, l)) video-rises 3600 0)
    (join 272 audios item_packets (rise-runs audio_packets audio_low 0 322 audio-runs (λ i k l. omega (arith, l)) audio-rises 960 0) (pairs-weaker Early Rising item_packets (λ p q h same. h) item-rises) a past_audio) v past_video) b past_block)

-- ---- all packets are sent within 68 seconds

abbrev pub IsNearStart : Sent → Type 0
IsNearStart p = (65536000 ≤ p.at.0) × (p.at.0 ≤ 70000000)

near-runs : (run : ℕ → List Sent) (low : ℕ → ℕ) (reach bytes n : ℕ) → AreRuns run low reach bytes → ((k : ℕ) → k < n → (65536000 ≤ low k) × (low k + reach ≤ 70000000)) → AllByRecursion IsNearStart (flat_map run (numbers 0 n))
near-runs run low reach bytes n runs h =
    each-flat IsNearStart run 0 n
    (λ k lo hi. (let l = h k (omega (arith, hi)) in each-weaker (λ (q : Sent). (low k ≤ q.at.0) × (q.at.0 ≤ low k + reach)) IsNearStart (run k) (λ q e. (omega (arith, e.0, l.0), omega (arith, e.1, l.1))) (runs.sent k)))

pub plan-near : AllByRecursion IsNearStart (flat made_programme (sendings made_programme))
plan-near =
    subst (AllByRecursion IsNearStart) (sym packets-are)
    (each-append IsNearStart (flat_map block_packets (numbers 0 120)) (flat_map video_packets (numbers 0 3600) ++ (flat_map audio_packets (numbers 0 960) ++ item_packets))
    (near-runs block_packets block_low 100 1899 120 block-runs (λ k l. (omega arith, omega (arith, l))))
    (each-append IsNearStart (flat_map video_packets (numbers 0 3600)) (flat_map audio_packets (numbers 0 960) ++ item_packets)
    (near-runs video_packets video_low 200 3066 3600 video-runs (λ k l. (omega arith, omega (arith, l))))
    (each-append IsNearStart (flat_map audio_packets (numbers 0 960)) item_packets
    (near-runs audio_packets audio_low 0 322 960 audio-runs (λ k l. (omega arith, omega (arith, l))))
    (each-weaker (λ (p : Sent). (69468160 ≤ p.at.0) × (p.at.0 ≤ 69468460)) IsNearStart item_packets (λ p h. (omega (arith, h.0), omega (arith, h.1))) item-sent))))

-- ---- rule 9

first-before : (p q : Sent) → p.at.0 ≤ q.at.0 → p.packet_id ≡ 0 → (q.packet_id ≡ 0 → p.number < q.number) → is_sent_before p q ≡ true
unfolding is_sent_before precedes
first-before p q at id number = go (nat_lt p.at.0 q.at.0) (nat_lt p.packet_id q.packet_id) refl refl
  where
    go : (a b : Bool) → nat_lt p.at.0 q.at.0 ≡ a → nat_lt p.packet_id q.packet_id ≡ b
        → (a || ((p.at.0 == q.at.0) && (b || ((p.packet_id == q.packet_id) && (nat_lt p.number q.number || ((p.number == q.number) && false)))))) ≡ true
    go true b ea eb = refl
    go false true ea eb = rw (eq-eqb p.at.0 q.at.0 (omega (arith, at, ltb-false p.at.0 q.at.0 ea))) refl
    go false false ea eb =
        let none : q.packet_id ≡ 0 = omega (arith, id, ltb-false p.packet_id q.packet_id eb) in
        rw (eq-eqb p.at.0 q.at.0 (omega (arith, at, ltb-false p.at.0 q.at.0 ea)), eq-eqb p.packet_id q.packet_id (omega (arith, id, none)), lt-ltb p.number q.number (number none)) refl

start-ok : (ps : List Sent) → 0 < length ps → first_parameters ps ≡ 0 → fault_of_start ps ≡ None
unfolding fault_of_start
start-ok ps some first =
    go (nat_lt 0 (length ps) && (first_parameters ps == 0)) (and_from (nat_lt 0 (length ps)) (first_parameters ps == 0) (lt-ltb 0 (length ps) some) (eq-eqb (first_parameters ps) 0 first))
  where
    go : (t : Bool) → t ≡ true → unless t 9 0 (first_parameters ps) 0 ≡ None
    go true e = refl
    go false e = absurd (true≢false (sym e))

first-here : (q : Sent) (ps : List Sent) → has_parameters q.carries ≡ true → first_parameters (q ∷ ps) ≡ 0
unfolding first_parameters
first-here q ps has = ap (λ (t : Bool). cond t 0 (suc (first_parameters ps))) has

first-of : (ps : List Sent) (p : Sent) → InOrder is_sent_before ps → IsIn p ps → has_parameters p.carries ≡ true → ((q : Sent) → IsIn q ps → (p ≡ q) ⊎ (is_sent_before p q ≡ true)) → fault_of_start ps ≡ None
first-of [] p o i has first = absurd i
first-of (q ∷ ps) p o (inl e) has first = start-ok (q ∷ ps) (omega arith) (first-here q ps (ap (λ (z : Sent). has_parameters z.carries) e ∙ has))
first-of (q ∷ ps) p o (inr i) has first =
    ⊎_elim
    (λ (e : p ≡ q). start-ok (q ∷ ps) (omega arith) (first-here q ps (ap (λ (z : Sent). has_parameters z.carries) (sym e) ∙ has)))
    (λ (b : is_sent_before p q ≡ true). absurd (sent-order.one_way p q b (each-in (λ z. is_sent_before q z ≡ true) p ps o.0 i)))
    (first q (inl refl))

-- the plan begins with the first block's buffer message
record IsBegun (ps : List Sent) (p : Sent) : Type 0 where
  rest : List Sent
  is : ps ≡ p ∷ rest

peel-flat : (run : ℕ → List Sent) (n : ℕ) → flat_map run (numbers 0 (suc n)) ≡ run 0 ++ flat_map run (numbers 1 n)
unfolding numbers
peel-flat run n = refl

begun-front : (xs ys : List Sent) (p : Sent) → IsBegun xs p → IsBegun (xs ++ ys) p
begun-front xs ys p b = record { rest = b.rest ++ ys; is = ap (λ l. l ++ ys) b.is }

plan-begins : IsBegun (flat made_programme (sendings made_programme)) (parameters_packet 0)
plan-begins =
    let first : IsBegun (block_packets 0) (parameters_packet 0) = record { rest = table_packets 0 ++ []; is = block-is 0 } in
    let blocks : IsBegun (flat_map block_packets (numbers 0 120)) (parameters_packet 0) =
    subst (λ ps. IsBegun ps (parameters_packet 0)) (sym (peel-flat block_packets 119)) (begun-front (block_packets 0) (flat_map block_packets (numbers 1 119)) (parameters_packet 0) first) in
    subst (λ ps. IsBegun ps (parameters_packet 0)) (sym packets-are)
    (begun-front (flat_map block_packets (numbers 0 120)) (flat_map video_packets (numbers 0 3600) ++ (flat_map audio_packets (numbers 0 960) ++ item_packets)) (parameters_packet 0) blocks)

first-sorted : (x : Sent) (xs : List Sent) → AllByRecursion IsNearStart (x ∷ xs) → x.at.0 ≡ 65536000 → x.packet_id ≡ 0 → has_parameters x.carries ≡ true → InOrder is_sent_before (sort_by is_sent_before (numbered_after [] (x ∷ xs)))
    → fault_of_start (sort_by is_sent_before (numbered_after [] (x ∷ xs))) ≡ None
unfolding numbered_after with_number
first-sorted x xs near at id has order =
    let p : Sent = with_number x (count_of_id x.packet_id []) in
    let rest : List Sent = numbered_after ([] ++ x ∷ []) xs in
    let none : count_of_id x.packet_id [] ≡ 0 = none-yet x.packet_id in
    let later : AllByRecursion (λ q. is_sent_before p q ≡ true) rest =
    each-weaker (λ q. IsNearStart q × (count_of_id q.packet_id (x ∷ []) ≤ q.number)) (λ q. is_sent_before p q ≡ true) rest
    (λ q h. first-before p q (omega (arith, at, h.0.0)) id (λ same. omega (arith, none, h.1, one-own q.packet_id x (id ∙ sym same))))
    (each-both IsNearStart (λ q. count_of_id q.packet_id (x ∷ []) ≤ q.number) rest (numbered-each IsNearStart (λ q n h. h) (x ∷ []) xs near.1) (from-earlier (x ∷ []) xs)) in
    first-of (sort_by is_sent_before (p ∷ rest)) p order (in-sort is_sent_before p (p ∷ rest) (inl refl)) has
    (λ q i. ⊎_elim (λ (e : p ≡ q). inl e) (λ (j : IsIn q rest). inr (each-in (λ q. is_sent_before p q ≡ true) q rest later j)) (from-sort is_sent_before q (p ∷ rest) i))

parameters-has : (b : ℕ) → has_parameters (parameters_packet b).carries ≡ true
unfolding packet_of carried
parameters-has b = refl

begun-sorted : (xs : List Sent) (p : Sent) → IsBegun xs p → AllByRecursion IsNearStart xs → p.at.0 ≡ 65536000 → p.packet_id ≡ 0 → has_parameters p.carries ≡ true → InOrder is_sent_before (sort_by is_sent_before (numbered_after [] xs))
    → fault_of_start (sort_by is_sent_before (numbered_after [] xs)) ≡ None
begun-sorted xs p begun near at id has order =
    subst (λ l. fault_of_start (sort_by is_sent_before (numbered_after [] l)) ≡ None) (sym begun.is)
    (first-sorted p begun.rest (subst (AllByRecursion IsNearStart) begun.is near) at id has (subst (λ l. InOrder is_sent_before (sort_by is_sent_before (numbered_after [] l))) begun.is order))

-- packet 0 carries a buffer message
pub start-passes : fault_of_start (cast_of made_programme).packets ≡ None
unfolding cast_of planned
start-passes = begun-sorted (flat made_programme (sendings made_programme)) (parameters_packet 0) plan-begins plan-near (parameters-at 0) (parameters-id 0) (parameters-has 0) (in-order made_programme)
