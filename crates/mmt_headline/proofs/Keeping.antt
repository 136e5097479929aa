-- What a receiver keeps to of a delivery.
use Rattle.mmt_headline.proofs.Sound.{sound}
use Rattle.std.proofs.Common.{◌≡◌, ◌⊎◌, inl, inr, ℕ, ◌<◌, Bool, true, false, cond, List, [], ◌∷◌, map, length, get_or, Some, refl, sym, ap, ◌∙◌}
use Rattle.std.specs.List.{AllByRecursion}
use Rattle.mmt_base.specs.Ticks.{low}
use Rattle.mmt_delivery.specs.Laws.{start_heard}
use Rattle.mmt_model.specs.Admission.{has_parameters}
use Rattle.mmt_model.specs.Carrying.{packets_of}
use Rattle.mmt_model.specs.Delivery.{from_first, from_heard, newest_first, onto, start_of}
use Rattle.mmt_model.specs.Packets.{Heard}
use Rattle.mmt_model.specs.Sessions.{start_of as start_of_session}
use Rattle.mmt_model.specs.Survival.{AreOf, SentPackets, heard_of, no_packet, sent_at}
use Rattle.mmt_model.specs.declared.casts.Cast.{Cast}
use Rattle.mmt_model.specs.declared.casts.Sent.{Sent}
use Rattle.mmt_model.specs.declared.programmes.Programme.{Programme}
use Rattle.mmt_tune.specs.Tuning.{Placed, history, tuned}
use Rattle.mmt_tune.specs.declared.config.Config.{Config}
use Rattle.mmt_recv.specs.Receiving.{session_of, values_of}
use Rattle.mmt_headline.specs.Tuning.{SessionIs, session, tunes_by, values_first}
use Rattle.mmt_headline.proofs.Joining.{session-of}
use Rattle.mmt_headline.proofs.Sessions.{sessions-alike, starts-alike}
use Rattle.mmt_headline.specs.Heard.{DeliveryIs}
use Rattle.mmt_headline.proofs.Delivered.{deliveries-heard}
use Rattle.mmt_headline.proofs.Turned.{turned-map}
use Rattle.mmt_headline.specs.Peaks.{ReceiversKeepTo}
use Rattle.mmt_sent.specs.Stream.{addressing_of, contents_sent, packet_sent, stream_of}
use Rattle.mmt_model.specs.Received.{tuned_places, tunes_at}
use Rattle.mmt_headline.proofs.Received.{Tunes, all-tune, each-from-heard, first-alike, first_values, params-first, places-alike}
use Rattle.mmt_headline.proofs.Sent.{casts-sent}

-- ---- lists

first-map : {X Y : Type 0} (test : Y → Bool) (f : X → Y) (xs : List X) → from_first test (map f xs) ≡ map f (from_first (λ x. test (f x)) xs)
unfolding from_first
first-map test f [] = refl
first-map {X} {Y} test f (x ∷ xs) = go (test (f x)) (first-map test f xs)
  where
    go : (b : Bool) → from_first test (map f xs) ≡ map f (from_first (λ y. test (f y)) xs) → cond b (f x ∷ map f xs) (from_first test (map f xs)) ≡ map f (cond b (x ∷ xs) (from_first (λ y. test (f y)) xs))
    go true later = refl
    go false later = later

each-from-first : (P : ℕ → Type 0) (test : ℕ → Bool) (ds : List ℕ) → AllByRecursion P ds → AllByRecursion P (from_first test ds)
unfolding from_first
each-from-first P test [] h = tt
each-from-first P test (d ∷ ds) h = go (test d) (each-from-first P test ds h.1)
  where
    go : (b : Bool) → AllByRecursion P (from_first test ds) → AllByRecursion P (cond b (d ∷ ds) (from_first test ds))
    go true later = h
    go false later = later

pub each-of : (packets : List Sent) (ds : List ℕ) → AreOf packets ds → AllByRecursion (λ n. n < length packets) ds
each-of packets [] of = tt
each-of packets (d ∷ ds) of = (of.0, each-of packets ds of.1)

pub of-each : (packets : List Sent) (ds : List ℕ) → AllByRecursion (λ n. n < length packets) ds → AreOf packets ds
of-each packets [] h = tt
of-each packets (d ∷ ds) h = (h.0, of-each packets ds h.1)

pub tuned-of : (programme : Programme) (cast : Cast) (delivery : List ℕ) → AreOf cast.packets delivery → AreOf cast.packets (tuned_places cast programme.full_every delivery)
unfolding tuned_places tunes_at
tuned-of programme cast delivery of =
    let packets : List Sent = cast.packets in
    of-each packets (from_first (λ n. has_parameters (get_or packets n no_packet).carries) (from_heard programme.full_every delivery))
    (each-from-first (λ n. n < length packets) (λ n. has_parameters (get_or packets n no_packet).carries) (from_heard programme.full_every delivery)
    (each-from-heard (λ n. n < length packets) programme.full_every delivery (each-of packets delivery of)))

-- ---- where the clock begins

first-tick : (packets : SentPackets) (ds : List ℕ) → start_heard (map (heard_of packets) ds) ≡ low (start_of packets.sent ds)
unfolding start_heard start_of heard_of sent_at low
first-tick packets [] = refl
first-tick packets (d ∷ ds) = refl

pub start-turned : (packets : SentPackets) (ds : List ℕ) → start_of_session (map (heard_of packets) (newest_first ds)) ≡ low (start_of packets.sent ds)
start-turned packets ds = ap start_of_session (turned-map (heard_of packets) ds) ∙ starts-alike (map (heard_of packets) ds) ∙ first-tick packets ds

-- ---- which values it has

none-kept : newest_first {X = Heard} [] ≡ []
unfolding newest_first onto
none-kept = refl

by-first : (config : Config) (programme : Programme) (ps : List Placed) (first : List Heard) → session_of config ps ≡ newest_first first → values_of config ps ≡ first_values config.bound first
    → (first ≡ []) ⊎ (first_values config.bound first ≡ Some programme.params) → (session_of config ps ≡ []) ⊎ (values_of config ps ≡ Some programme.params)
by-first config programme ps first kept values (inl e) = inl (kept ∙ ap newest_first e ∙ none-kept)
by-first config programme ps first kept values (inr e) = inr (values ∙ e)

-- ---- what it keeps to

pub keeps-to : ReceiversKeepTo
unfolding stream_of packet_sent
keeps-to config programme cast files delivery ps ok r of same =
    let packets : SentPackets = packets_of cast (contents_sent programme files) in
    let heard : DeliveryIs (addressing_of programme) cast (contents_sent programme files) config.flow delivery ps = deliveries-heard (addressing_of programme) cast (contents_sent programme files) config.flow delivery ps (sound programme cast files ok).can.address r.flow (casts-sent programme cast files ok) of same in
    let first : List Heard = from_first (tunes_by config.bound) (map (heard_of packets) (from_heard programme.full_every delivery)) in
    let is : session config heard.packets ≡ first = session-of config heard.packets (map (heard_of packets) (from_heard programme.full_every delivery)) r.assumed heard.places in
    let alike : SessionIs config heard.packets = sessions-alike config heard.packets in
    let places : first ≡ map (heard_of packets) (tuned_places cast programme.full_every delivery) =
    first-map (tunes_by config.bound) (heard_of packets) (from_heard programme.full_every delivery) ∙ ap (map (heard_of packets)) (places-alike programme cast files config.bound ok r.bound delivery of) in
    let kept : session_of config ps ≡ newest_first first = ap (history config) heard.stream ∙ alike.history ∙ ap newest_first is in
    let all : session_of config ps ≡ map (heard_of packets) (newest_first (tuned_places cast programme.full_every delivery)) =
    kept ∙ ap newest_first places ∙ sym (turned-map (heard_of packets) (tuned_places cast programme.full_every delivery)) in
    let values : values_of config ps ≡ first_values config.bound first = ap (tuned config) heard.stream ∙ alike.values ∙ ap (values_first config) is ∙ first-alike config first r.assumed in
    record {
      packets = all;
      values = by-first config programme ps first kept values (params-first programme cast files config.bound (from_heard programme.full_every delivery) (each-from-heard (Tunes programme cast files config.bound) programme.full_every delivery (all-tune programme cast files config.bound ok r.bound delivery of)));
      start = ap start_of_session all ∙ start-turned packets (tuned_places cast programme.full_every delivery);
    }
