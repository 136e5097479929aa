-- The notes of a near delivery are those of `late`, `repeat` and `ctx-none` alone.
use Rattle.std.proofs.Common.{◌≡◌, ℕ, Bool, true, false, ◌||◌, ◌==◌, ◌%◌, cond, max, List, [], ◌∷◌, ◌++◌, get_or, refl, sym, ap, subst, ◌∙◌}
use Rattle.std.proofs.lemmas.Grind.{flat_map-append}
use Rattle.mmt_model.specs.Admission.{has_parameters}
use Rattle.mmt_model.specs.Delivery.{NearAfter, NearDelivery, from_first, from_heard, newest_first, onto}
use Rattle.mmt_model.specs.Survival.{AreOf, no_packet, sent_at}
use Rattle.mmt_model.specs.declared.casts.Sent.{Sent}
use Rattle.mmt_model.specs.declared.casts.Cast.{Cast}
use Rattle.mmt_model.specs.declared.programmes.Programme.{Programme}
use Rattle.mmt_output.specs.Notes.{note_text}
use Rattle.mmt_recv.specs.Noting.{PlacedNote, lines_of, noted, notes_of_packet}
use Rattle.mmt_sent.specs.Packets.{tlv_at}
use Rattle.mmt_headline.proofs.Turned.{turned-map, turned-twice}
use Rattle.mmt_tlv.specs.Framing.{Packet as Tlv}
use Rattle.mmt_tune.specs.Tuning.{Placed, packets_of as tlv_of}
use Rattle.mmt_tune.specs.declared.config.Config.{Config}
use Rattle.mmt_headline.specs.Programmes.{IsSendable, Receives}
use Rattle.mmt_headline.specs.Notes.{AreQuiet, NotesAreQuiet, StreamsAreQuiet}
use Rattle.mmt_sent.specs.Stream.{addressing_of, contents_sent, packet_sent, stream_of}
use Rattle.mmt_model.specs.Received.{tuned_places, tunes_at}
use Rattle.mmt_headline.proofs.Notes.{IsNext, is-next}
use Rattle.mmt_headline.proofs.Peaks.{turned-one}

-- ---- a prefix of a near delivery is near

first-more : (test : ℕ → Bool) (xs ys : List ℕ) → (zs : List ℕ) × (from_first test (xs ++ ys) ≡ from_first test xs ++ zs)
unfolding from_first
first-more test [] ys = (from_first test ys, refl)
first-more test (x ∷ xs) ys = go (test x) (first-more test xs ys)
  where
    go : (b : Bool) → (zs : List ℕ) × (from_first test (xs ++ ys) ≡ from_first test xs ++ zs) → (zs : List ℕ) × (cond b (x ∷ xs ++ ys) (from_first test (xs ++ ys)) ≡ cond b (x ∷ xs) (from_first test xs) ++ zs)
    go true later = (ys, refl)
    go false later = later

heard-more : (full_every : ℕ) (xs ys : List ℕ) → (zs : List ℕ) × (from_heard full_every (xs ++ ys) ≡ from_heard full_every xs ++ zs)
unfolding from_heard
heard-more full_every [] ys = (from_heard full_every ys, refl)
heard-more full_every (x ∷ xs) ys = go ((full_every == 0) || (x % full_every == 0)) (heard-more full_every xs ys)
  where
    go : (b : Bool) → (zs : List ℕ) × (from_heard full_every (xs ++ ys) ≡ from_heard full_every xs ++ zs) → (zs : List ℕ) × (cond b (x ∷ xs ++ ys) (from_heard full_every (xs ++ ys)) ≡ cond b (x ∷ xs) (from_heard full_every xs) ++ zs)
    go true later = (ys, refl)
    go false later = later

tuned-more : (programme : Programme) (cast : Cast) (xs ys : List ℕ) → (zs : List ℕ) × (tuned_places cast programme.full_every (xs ++ ys) ≡ tuned_places cast programme.full_every xs ++ zs)
unfolding tuned_places tunes_at
tuned-more programme cast xs ys =
    let test : ℕ → Bool = λ n. has_parameters (get_or cast.packets n no_packet).carries in
    let heard = heard-more programme.full_every xs ys in
    let first = first-more test (from_heard programme.full_every xs) heard.0 in
    (first.0, ap (from_first test) heard.1 ∙ first.1)

near-after : (packets : List Sent) (l : ℕ) (ds zs : List ℕ) → NearAfter packets l (ds ++ zs) → NearAfter packets l ds
near-after packets l [] zs near = tt
near-after packets l (d ∷ ds) zs near = (near.0, near.1, near-after packets (max l (sent_at packets d)) ds zs near.2)

near-start : (packets : List Sent) (ds zs : List ℕ) → NearDelivery packets (ds ++ zs) → NearDelivery packets ds
near-start packets [] zs near = tt
near-start packets (d ∷ ds) zs near = near-after packets (sent_at packets d) ds zs near

near-older : (programme : Programme) (cast : Cast) (xs ys : List ℕ) → NearDelivery cast.packets (tuned_places cast programme.full_every (xs ++ ys)) → NearDelivery cast.packets (tuned_places cast programme.full_every xs)
near-older programme cast xs ys near =
    let more = tuned-more programme cast xs ys in
    near-start cast.packets (tuned_places cast programme.full_every xs) more.0 (subst (NearDelivery cast.packets) more.1 near)

of-start : (packets : List Sent) (ds zs : List ℕ) → AreOf packets (ds ++ zs) → AreOf packets ds
of-start packets [] zs of = tt
of-start packets (d ∷ ds) zs of = (of.0, of-start packets ds zs of.1)

-- ---- all notes

both-quiet : (ns ms : List PlacedNote) → AreQuiet ns → AreQuiet ms → AreQuiet (ns ++ ms)
both-quiet [] ms p q = q
both-quiet (n ∷ ns) ms p q = (p.0, both-quiet ns ms p.1 q)

-- notes as lines
abbrev Quiet : Config → List Placed → Type 0
Quiet config ps = (ns : List PlacedNote) × AreQuiet ns × (noted config ps ≡ lines_of ns)

one-more : (config : Config) (p : Placed) (older : List Placed) → Quiet config older → AreQuiet (notes_of_packet config older p) → Quiet config (p ∷ older)
unfolding noted
one-more config p older q more = (
  q.0 ++ notes_of_packet config older p,
  both-quiet q.0 (notes_of_packet config older p) q.1 more,
  ap (λ (xs : List ℕ). xs ++ lines_of (notes_of_packet config older p)) q.2 ∙ sym (flat_map-append (λ (n : PlacedNote). note_text n.place n.note) q.0 (notes_of_packet config older p)),
)

none-yet : (config : Config) → Quiet config []
unfolding noted
none-yet config = ([], tt, refl)

nothing-sent : (programme : Programme) (cast : Cast) (files : ℕ → List ℕ) → newest_first (stream_of programme cast files (newest_first [])) ≡ []
unfolding stream_of packet_sent newest_first onto
nothing-sent programme cast files = refl

history-quiet : NotesAreQuiet → (config : Config) (programme : Programme) (cast : Cast) (files : ℕ → List ℕ) (hist : List ℕ) (ps : List Placed) → IsSendable programme cast files → Receives config programme
    → AreOf cast.packets (newest_first hist) → NearDelivery cast.packets (tuned_places cast programme.full_every (newest_first hist))
    → tlv_of ps ≡ newest_first (stream_of programme cast files (newest_first hist)) → Quiet config ps
unfolding stream_of packet_sent
history-quiet law config programme cast files [] [] ok r of near same = none-yet config
history-quiet law config programme cast files [] (p ∷ older) ok r of near same = absurd (let e : tlv_of (p ∷ older) ≡ [] = same ∙ nothing-sent programme cast files in cc)
history-quiet law config programme cast files (n ∷ hist) ps ok r of near same =
    let tlv : ℕ → Tlv = tlv_at (addressing_of programme) cast (contents_sent programme files) in
    let ds : List ℕ = newest_first hist in
    let split : newest_first (n ∷ hist) ≡ ds ++ n ∷ [] = turned-one n hist in
    let of' : AreOf cast.packets (ds ++ n ∷ []) = subst (AreOf cast.packets) split of in
    let near' : NearDelivery cast.packets (tuned_places cast programme.full_every (ds ++ n ∷ [])) = subst (λ (xs : List ℕ). NearDelivery cast.packets (tuned_places cast programme.full_every xs)) split near in
    by-first ps (same ∙ ap (λ (xs : List ℕ). newest_first (stream_of programme cast files xs)) split) of' near'
    (λ older same'. history-quiet law config programme cast files hist older ok r (of-start cast.packets ds (n ∷ []) of') (near-older programme cast ds (n ∷ []) near') same')
  where
    by-first : (ps : List Placed) → tlv_of ps ≡ newest_first (stream_of programme cast files (newest_first hist ++ n ∷ [])) → AreOf cast.packets (newest_first hist ++ n ∷ []) → NearDelivery cast.packets (tuned_places cast programme.full_every (newest_first hist ++ n ∷ []))
        → ((older : List Placed) → tlv_of older ≡ newest_first (stream_of programme cast files (newest_first hist)) → Quiet config older) → Quiet config ps
    by-first [] same of near later = none-yet config
    by-first (p ∷ older) same of near later =
        let next : IsNext programme cast files (newest_first hist) n older p = is-next programme cast files (newest_first hist) n older p same in
        one-more config p older (later older (next.rest ∙ turned-map (tlv_at (addressing_of programme) cast (contents_sent programme files)) (newest_first hist))) (law config programme cast files (newest_first hist) n older p ok r of near same)

pub streams-quiet : NotesAreQuiet → StreamsAreQuiet
streams-quiet law config programme cast files delivery ps ok r of near same =
    let twice : delivery ≡ newest_first (newest_first delivery) = sym (turned-twice delivery) in
    history-quiet law config programme cast files (newest_first delivery) ps ok r (subst (AreOf cast.packets) twice of) (subst (λ (xs : List ℕ). NearDelivery cast.packets (tuned_places cast programme.full_every xs)) twice near)
    (same ∙ ap (λ (xs : List ℕ). newest_first (stream_of programme cast files xs)) twice)
