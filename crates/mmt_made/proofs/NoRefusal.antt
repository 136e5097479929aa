-- The plan of the made programme is not refused.
use Rattle.std.proofs.Common.{◌≡◌, ℕ, ◌+◌, ◌*◌, ◌≤◌, zero, suc, Bool, cond, List, [], ◌∷◌, ◌++◌, map, length, Option, Some, None, arith, refl, ap, ap₂, sym, ◌∙◌, subst}
use Rattle.std.specs.List.{AllByRecursion, flat_map}
use Rattle.std.proofs.lemmas.Bool.{le-leb}
use Rattle.std.proofs.lemmas.List.{length-append}
use Rattle.std.proofs.Math.Nat.{suc-mul}
use Rattle.mmt_cast.proofs.Numbering.{flat, length-numbered}
use Rattle.mmt_cast.specs.Casting.{planned}
use Rattle.mmt_cast.specs.Placing.{PlacedMpu, all_mpus}
use Rattle.mmt_cast.specs.Refusing.{Refusal, first_of, of_au, out_of_range, refusal, refusal_of_mpu, refusal_of_mpus, refusal_of_packets, refusal_of_signal, refusal_of_signals}
use Rattle.mmt_cast.specs.Sending.{packet_count, packets_of, sendings}
use Rattle.mmt_cast.specs.Tables.{table_length}
use Rattle.mmt_made.proofs.Lists.{each-flat}
use Rattle.mmt_made.proofs.MadeLists.{item_there, mpu_in}
use Rattle.mmt_made.proofs.MadePackets.{block-length, names-four}
use Rattle.mmt_made.proofs.MadeSendings.{audio_packets, block_packets, item_packets, packets-are, video_packets}
use Rattle.mmt_made.proofs.MadeTimes.{AuTimesFit, au_time, audio-fits, begin_of, each-mpu, mpu-times, video-fits}
use Rattle.mmt_made.proofs.TableSizes.{table-small}
use Rattle.mmt_made.specs.Generator.{all_signals, audio, audio_track, block, made_programme, names_at, video, video_track}
use Rattle.mmt_made.specs.declared.tracks.Track.{Track}
use Rattle.mmt_model.specs.Carrying.{numbers}
use Rattle.mmt_model.specs.declared.casts.Sent.{Sent}
use Rattle.mmt_model.specs.declared.programmes.Asset.{Asset}
use Rattle.mmt_model.specs.declared.programmes.Programme.{Programme}
use Rattle.mmt_model.specs.declared.programmes.Signal.{Signal}
use Rattle.mmt_model.specs.declared.programmes.Signal.TheVariants as signals
use Rattle.mmt_times.specs.Times.{unit_times}

-- ---- times

none-out : (f : ℕ → ℕ) (ks : List ℕ) (n : ℕ) → out_of_range n (map (λ k. Some (f k)) ks) ≡ None
unfolding out_of_range
none-out f [] n = refl
none-out f (k ∷ ks) n = none-out f ks (n + 1)

track-timed : (a : ℕ) (asset : Asset) (t : Track) (b : ℕ) → AuTimesFit t asset.timescale (begin_of b) t.per_mpu → refusal_of_mpu (mpu_in a asset t b) ≡ None
unfolding refusal_of_mpu
track-timed a asset t b fits =
    ap (λ (ts : List (Option ℕ)). of_au (mpu_in a asset t b) (out_of_range 0 ts)) (mpu-times a asset t b fits)
    ∙ ap (of_au (mpu_in a asset t b)) (none-out (au_time t asset.timescale (begin_of b)) (numbers 0 t.per_mpu) 0)

item-timed : refusal_of_mpu item_there ≡ None
unfolding refusal_of_mpu out_of_range unit_times
item-timed = refl

mpus-timed : (ms : List PlacedMpu) → AllByRecursion (λ m. refusal_of_mpu m ≡ None) ms → refusal_of_mpus ms ≡ None
unfolding refusal_of_mpus
mpus-timed [] h = refl
mpus-timed (m ∷ ms) h = ap₂ first_of h.0 (mpus-timed ms h.1)

-- ---- tables

abbrev IsShort : Signal → Type 0
IsShort (signals.Parameters at) = Unit {0}
IsShort (signals.Table at names) = table_length made_programme names ≤ 65535

signals-short : (xs : List Signal) (s : ℕ) → AllByRecursion IsShort xs → refusal_of_signals made_programme s xs ≡ None
unfolding refusal_of_signals refusal_of_signal
signals-short [] s h = refl
signals-short (signals.Parameters at ∷ xs) s h = signals-short xs (s + 1) h.1
signals-short (signals.Table at names ∷ xs) s h =
    ap₂ first_of (ap (λ (t : Bool). cond t None (Some (Refusal.TableLong s))) (le-leb (table_length made_programme names) 65535 h.0)) (signals-short xs (s + 1) h.1)

signals-are : made_programme.signals ≡ all_signals
unfolding made_programme
signals-are = refl

-- ---- packets

flat-few : (run : ℕ → List Sent) (most n j : ℕ) → ((k : ℕ) → length (run k) ≤ most) → length (flat_map run (numbers j n)) ≤ n * most
unfolding numbers
flat-few run most zero j h = omega arith
flat-few run most (suc n) j h = omega (arith, length-append (run j) (flat_map run (numbers (j + 1) n)), h j, flat-few run most n (j + 1) h, suc-mul n most)

video-length : (k : ℕ) → length (video_packets k) ≤ 3
unfolding packets_of packet_count numbers made_programme
video-length k = omega arith

audio-length : (k : ℕ) → length (audio_packets k) ≤ 1
unfolding packets_of packet_count numbers made_programme
audio-length k = omega arith

item-length : length item_packets ≤ 4
unfolding packets_of packet_count numbers made_programme
item-length = omega arith

few-packets : length (planned made_programme) ≤ 16777216
unfolding planned
few-packets =
    let blocks : List Sent = flat_map block_packets (numbers 0 120) in
    let videos : List Sent = flat_map video_packets (numbers 0 3600) in
    let audios : List Sent = flat_map audio_packets (numbers 0 960) in
    omega (
      arith,
      length-numbered [] (flat made_programme (sendings made_programme)),
      ap length packets-are,
      length-append blocks (videos ++ (audios ++ item_packets)),
      length-append videos (audios ++ item_packets),
      length-append audios item_packets,
      flat-few block_packets 3 120 0 block-length,
      flat-few video_packets 3 3600 0 video-length,
      flat-few audio_packets 1 960 0 audio-length,
      item-length,
    )

-- no time is out of range, no table too long, and there are few packets
pub not-refused : refusal made_programme ≡ None
unfolding refusal refusal_of_packets
not-refused =
    ap₂ first_of
    (mpus-timed (all_mpus made_programme) (each-mpu (λ m. refusal_of_mpu m ≡ None) (λ b l. track-timed 0 video video_track b (video-fits b l)) (λ b l. track-timed 1 audio audio_track b (audio-fits b l)) item-timed))
    (ap₂ first_of
    (ap (refusal_of_signals made_programme 0) signals-are
    ∙ signals-short all_signals 0 (each-flat IsShort block 0 120 (λ b lo hi. (tt, (omega (arith, table-small (names_at b) (names-four b)), tt)))))
    (ap (λ (t : Bool). cond t None (Some (Refusal.CastLong (length (planned made_programme))))) (le-leb (length (planned made_programme)) 16777216 few-packets)))

-- so it is of a programme that is the made one
pub is-not-refused : (programme : Programme) → programme ≡ made_programme → refusal programme ≡ None
is-not-refused programme is = subst (λ (p : Programme). refusal p ≡ None) (sym is) not-refused
