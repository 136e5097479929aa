-- Of a near delivery a receiver keeps at most the programme's bound at once, and no packet is without room.
use Rattle.mmt_headline.proofs.Sound.{casts-carry}
use Rattle.std.proofs.Common.{◌≡◌, ◌⊎◌, inl, inr, ℕ, ◌+◌, ◌≤◌, Bool, true, false, cond, List, [], ◌∷◌, ◌++◌, map, Option, Some, None, arith, append_assoc, count_by, refl, sym, ap, subst, ◌∙◌}
use Rattle.std.proofs.lemmas.List.{append-nil}
use Rattle.std.proofs.lemmas.List.Sums.{sum_by-cons}
use Rattle.mmt_base.specs.Ticks.{low}
use Rattle.mmt_delivery.specs.Laws.{IsReceiver, OutcomesAre, PeakFits}
use Rattle.mmt_model.proofs.Newest.{newest_more}
use Rattle.mmt_model.proofs.Sessions.{same_kept}
use Rattle.mmt_model.specs.Admission.{fault}
use Rattle.mmt_model.specs.Carrying.{Contents, IsCastOf, packets_of}
use Rattle.mmt_model.specs.Entries.{Entry}
use Rattle.mmt_model.specs.Counts.{counted}
use Rattle.mmt_model.specs.Delivery.{NearDelivery, newest_first, start_of}
use Rattle.mmt_model.specs.Keeping.{Outcome, clock, is_full, kept, outcome, peak, still_kept}
use Rattle.mmt_model.specs.Packets.{Heard}
use Rattle.mmt_model.specs.Sessions.{outcome_at, outcomes, start_of as start_of_session}
use Rattle.mmt_model.specs.Survival.{AreOf, SentPackets, heard_of}
use Rattle.mmt_model.specs.declared.casts.Cast.{Cast}
use Rattle.mmt_model.specs.declared.programmes.Params.{Params}
use Rattle.mmt_model.specs.declared.programmes.Programme.{Programme}
use Rattle.mmt_naming.specs.Findings.{names_in}
use Rattle.mmt_tune.specs.Tuning.{Placed, rules_by}
use Rattle.mmt_tune.specs.declared.config.Config.{Config}
use Rattle.mmt_recv.specs.Receiving.{session_of, values_of, values_or}
use Rattle.mmt_headline.proofs.Turned.{turned-twice}
use Rattle.mmt_headline.specs.Programmes.{IsSendable, Receives}
use Rattle.mmt_headline.specs.Peaks.{HasRoom, KeepsTo, ReceiversHaveRoom}
use Rattle.mmt_sent.specs.Stream.{contents_sent}
use Rattle.mmt_model.specs.Received.{tuned_places}
use Rattle.mmt_headline.proofs.Keeping.{keeps-to, start-turned, tuned-of}
use Rattle.mmt_headline.proofs.Received.{is-receiver, params-of}

-- ---- no packet is without room

-- what becomes of a packet, where the clock began at a tick
abbrev pub became : Params → List Heard → Heard → ℕ → Outcome
became k older h start = outcome k (clock start (h ∷ older)) (still_kept k (clock start (h ∷ older)) (kept k start older)) h

pub outcome-is : (k : Params) (h : Heard) (older : List Heard) → outcome_at k h older ≡ became k older h (start_of_session (h ∷ older))
outcome-is k h older = ap (λ (ps : List Heard). outcome k (clock (start_of_session (h ∷ older)) (h ∷ older)) (still_kept k (clock (start_of_session (h ∷ older)) (h ∷ older)) ps) h) (sym (same_kept k h older))

not-full : (a b : Bool) (o : Outcome) → o ≡ cond a (cond b Outcome.Repeat Outcome.Stored) Outcome.Late → is_full o ≡ false
not-full true true o e = ap is_full e
not-full true false o e = ap is_full e
not-full false b o e = ap is_full e

unfoldable pub one-if : Bool → ℕ
one-if b = cond b 1 0

counts-on : {X : Type 0} (test : X → Bool) (x : X) (xs : List X) → test x ≡ false → count_by test xs ≡ 0 → count_by test (x ∷ xs) ≡ 0
unfolding one-if
counts-on {X} test x xs fails later =
    let here : one-if (test x) ≡ 0 = ap one-if fails in
    let sum : count_by test (x ∷ xs) ≡ one-if (test x) + count_by test xs = sum_by-cons (λ (y : X). one-if (test y)) x xs in
    omega (arith, sum, here, later)

pub turned-one : (n : ℕ) (older : List ℕ) → newest_first (n ∷ older) ≡ newest_first older ++ n ∷ []
turned-one n older = ap newest_first (sym (newest_more (newest_first older) n ∙ ap (λ (ns : List ℕ). n ∷ ns) (turned-twice older))) ∙ turned-twice (newest_first older ++ n ∷ [])

none-full : (theorem : OutcomesAre) (names : List ℕ → List Entry) (cast : Cast) (contents : Contents) (k : Params) → fault cast ≡ None → IsCastOf cast contents names → IsReceiver cast.params k
    → (hist after : List ℕ) → AreOf cast.packets (newest_first hist ++ after) → NearDelivery cast.packets (newest_first hist ++ after)
    → count_by is_full (outcomes k (map (heard_of (packets_of cast contents)) hist)) ≡ 0
none-full theorem names cast contents k ok right receiver [] after of near = refl
none-full theorem names cast contents k ok right receiver (n ∷ older) after of near =
    let packets : SentPackets = packets_of cast contents in
    let ds : List ℕ = newest_first older in
    let split : newest_first (n ∷ older) ≡ ds ++ n ∷ [] = turned-one n older in
    let of' : AreOf cast.packets ((ds ++ n ∷ []) ++ after) = subst (λ (xs : List ℕ). AreOf cast.packets (xs ++ after)) split of in
    let near' : NearDelivery cast.packets ((ds ++ n ∷ []) ++ after) = subst (λ (xs : List ℕ). NearDelivery cast.packets (xs ++ after)) split near in
    let rest : (ds ++ n ∷ []) ++ after ≡ ds ++ n ∷ after = append_assoc ds (n ∷ []) after in
    let later = none-full theorem names cast contents k ok right receiver older (n ∷ after) (subst (AreOf cast.packets) rest of') (subst (NearDelivery cast.packets) rest near') in
    let law = theorem names cast contents k ok right receiver ds n after of' near' in
    let twice : newest_first ds ≡ older = turned-twice older in
    let h : Heard = heard_of packets n in
    let earlier : List Heard = map (heard_of packets) older in
    let start : start_of_session (h ∷ earlier) ≡ low (start_of cast.packets (ds ++ n ∷ [])) =
    ap (λ (ns : List ℕ). start_of_session (map (heard_of packets) ns)) (sym (newest_more ds n ∙ ap (λ (ns : List ℕ). n ∷ ns) twice)) ∙ start-turned packets (ds ++ n ∷ []) in
    let is : outcome_at k h earlier ≡ became k (map (heard_of packets) (newest_first ds)) h (low (start_of cast.packets (ds ++ n ∷ []))) =
    outcome-is k h earlier ∙ ap (became k earlier h) start ∙ ap (λ (ns : List ℕ). became k (map (heard_of packets) ns) h (low (start_of cast.packets (ds ++ n ∷ [])))) (sym twice) in
    let room : is_full (outcome_at k h earlier) ≡ false = not-full _ _ (outcome_at k h earlier) (is ∙ law) in
    counts-on is_full (outcome_at k h earlier) (outcomes k earlier) room later

-- ---- a receiver has room

some-peak : (k : Params) (hs : List Heard) (start : ℕ) → hs ≡ [] → peak k start hs ≡ 0
unfolding peak
some-peak k hs start e = ap (peak k start) e

has-room-by : (config : Config) (programme : Programme) (cast : Cast) (files : ℕ → List ℕ) (delivery : List ℕ) (ps : List Placed) → PeakFits → OutcomesAre → IsSendable programme cast files → Receives config programme
    → AreOf cast.packets delivery → NearDelivery cast.packets (tuned_places cast programme.full_every delivery)
    → KeepsTo config programme cast files delivery ps → (session_of config ps ≡ []) ⊎ (values_of config ps ≡ Some programme.params) → HasRoom config programme ps
has-room-by config programme cast files delivery ps peaks theorem ok r of near keeps (inl none) =
    let rules : Params = rules_by config (values_or (values_of config ps)) in
    let zero_peak = some-peak rules (session_of config ps) (start_of_session (session_of config ps)) none in
    record {
      peak = omega (arith, zero_peak);
      full = ap (λ (hs : List Heard). counted (count_by is_full (outcomes rules hs))) none;
    }
has-room-by config programme cast files delivery ps peaks theorem ok r of near keeps (inr some) =
    let contents : Contents = contents_sent programme files in
    let packets : SentPackets = packets_of cast contents in
    let names = names_in config.timescale in
    let places : List ℕ = tuned_places cast programme.full_every delivery in
    let k : Params = rules_by config programme.params in
    let right : IsCastOf cast contents names = casts-carry config.timescale programme cast files ok in
    let receiver : IsReceiver cast.params k = is-receiver config programme cast ok.of r.bound in
    let of_places : AreOf cast.packets places = tuned-of programme cast delivery of in
    let law : peak k (low (start_of cast.packets places)) (map (heard_of packets) (newest_first places)) ≤ cast.params.bound = peaks names cast contents k ok.admitted right receiver places of_places near in
    let is : peak (rules_by config (values_or (values_of config ps))) (start_of_session (session_of config ps)) (session_of config ps) ≡ peak k (low (start_of cast.packets places)) (map (heard_of packets) (newest_first places)) =
    ap (λ (o : Option Params). peak (rules_by config (values_or o)) (start_of_session (session_of config ps)) (session_of config ps)) some
    ∙ ap (λ (t : ℕ). peak k t (session_of config ps)) keeps.start ∙ ap (peak k (low (start_of cast.packets places))) keeps.packets in
    let bound : cast.params.bound ≡ programme.params.bound = ap (λ (p : Params). p.bound) (params-of programme cast ok.of) in
    let twice : newest_first (newest_first places) ++ [] ≡ places = append-nil (newest_first (newest_first places)) ∙ turned-twice places in
    let none : count_by is_full (outcomes k (map (heard_of packets) (newest_first places))) ≡ 0 =
    none-full theorem names cast contents k ok.admitted right receiver (newest_first places) [] (subst (AreOf cast.packets) (sym twice) of_places) (subst (NearDelivery cast.packets) (sym twice) near) in
    record {
      peak = omega (arith, law, is, bound);
      full = ap (λ (o : Option Params). counted (count_by is_full (outcomes (rules_by config (values_or o)) (session_of config ps)))) some
          ∙ ap (λ (hs : List Heard). counted (count_by is_full (outcomes k hs))) keeps.packets ∙ ap counted none;
    }

pub have-room : PeakFits → OutcomesAre → ReceiversHaveRoom
have-room peaks theorem config programme cast files delivery ps ok r of near same =
    let keeps : KeepsTo config programme cast files delivery ps = keeps-to config programme cast files delivery ps ok r of same in
    has-room-by config programme cast files delivery ps peaks theorem ok r of near keeps keeps.values
