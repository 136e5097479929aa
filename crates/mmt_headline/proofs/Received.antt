-- Of a near delivery a receiver of the programme hands out exactly the expected units.
use Rattle.mmt_headline.proofs.Sound.{casts-carry, sound}
use Rattle.std.proofs.Common.{◌≡◌, ◌⊎◌, inl, inr, ℕ, ◌%◌, ◌≤◌, Bool, true, false, ◌||◌, ◌==◌, cond, List, [], ◌∷◌, map, get_or, Option, Some, None, refl, sym, ap, subst, ◌∙◌}
use Rattle.std.specs.Prelude.{is_some}
use Rattle.std.specs.List.{AllByRecursion}
use Rattle.mmt_delivery.specs.Laws.{Delivers, IsReceiver, out_end, start_heard}
use Rattle.mmt_model.specs.Admission.{has_parameters}
use Rattle.mmt_model.specs.Carrying.{Contents, IsCastOf, broadcast_of, packets_of}
use Rattle.mmt_model.specs.Delivery.{NearDelivery, from_first, from_heard, newest_first, onto, tuned as tuned_by}
use Rattle.mmt_model.specs.Expected.{expected}
use Rattle.mmt_model.specs.Handing.{Reading}
use Rattle.mmt_model.specs.Packets.{Heard}
use Rattle.mmt_model.specs.Survival.{AreOf, heard_of, no_packet}
use Rattle.mmt_model.specs.declared.casts.Cast.{Cast}
use Rattle.mmt_model.specs.declared.programmes.Params.{Params}
use Rattle.mmt_model.specs.declared.programmes.Programme.{Programme}
use Rattle.mmt_naming.specs.Findings.{names_in}
use Rattle.mmt_tune.specs.Tuning.{rules_by, tuned}
use Rattle.mmt_tune.specs.declared.config.Config.{Config}
use Rattle.mmt_recv.specs.Receiving.{values_of, values_or}
use Rattle.mmt_recv.specs.Session.{reading_of as reading_by}
use Rattle.mmt_headline.specs.Tuning.{SessionIs, session, tunes_by, values_first, values_with}
use Rattle.mmt_headline.proofs.Joining.{none-out, none-units, reads-alike, session-of, units-alike}
use Rattle.mmt_headline.proofs.Sessions.{sessions-alike}
use Rattle.mmt_headline.specs.Heard.{DeliveryIs}
use Rattle.mmt_headline.proofs.Delivered.{deliveries-heard}
use Rattle.mmt_pace.proofs.Alike.{params-alike}
use Rattle.mmt_pace.specs.Recast.{IsItsCast}
use Rattle.mmt_sent.specs.Stream.{addressing_of, contents_sent, packet_sent, stream_of}
use Rattle.mmt_model.specs.Received.{expected_in, tuned_places, tunes_at}
use Rattle.mmt_headline.specs.Programmes.{IsSendable, ProgrammesAreReceived}
use Rattle.mmt_headline.proofs.Sent.{casts-sent}
use Rattle.mmt_headline.proofs.CastTuning.{casts-tune}

-- ---- which places tune

same-first : {X : Type 0} (p q : X → Bool) (xs : List X) → AllByRecursion (λ x. p x ≡ q x) xs → from_first p xs ≡ from_first q xs
unfolding from_first
same-first p q [] h = refl
same-first p q (x ∷ xs) h = rw (h.0, same-first p q xs h.1) refl

pub each-from-heard : (P : ℕ → Type 0) (full_every : ℕ) (ds : List ℕ) → AllByRecursion P ds → AllByRecursion P (from_heard full_every ds)
unfolding from_heard
each-from-heard P full_every [] h = tt
each-from-heard P full_every (d ∷ ds) h = go ((full_every == 0) || (d % full_every == 0)) (each-from-heard P full_every ds h.1)
  where
    go : (b : Bool) → AllByRecursion P (from_heard full_every ds) → AllByRecursion P (cond b (d ∷ ds) (from_heard full_every ds))
    go true later = h
    go false later = later

-- what each place of a delivery has
abbrev pub Tunes : Programme → Cast → (ℕ → List ℕ) → ℕ → ℕ → Type 0
Tunes programme cast files bound n =
    values_with None bound (heard_of (packets_of cast (contents_sent programme files)) n) ≡ cond (has_parameters (get_or cast.packets n no_packet).carries) (Some programme.params) None

pub all-tune : (programme : Programme) (cast : Cast) (files : ℕ → List ℕ) (bound : ℕ) → IsSendable programme cast files → programme.params.bound ≤ bound → (ds : List ℕ) → AreOf cast.packets ds → AllByRecursion (Tunes programme cast files bound) ds
all-tune programme cast files bound ok le [] of = tt
all-tune programme cast files bound ok le (d ∷ ds) of = (casts-tune programme cast files bound ok le d of.0, all-tune programme cast files bound ok le ds of.1)

some-is : (b : Bool) (values : Params) → is_some (cond b (Some values) None) ≡ b
some-is true values = refl
some-is false values = refl

tests-alike : (programme : Programme) (cast : Cast) (files : ℕ → List ℕ) (bound : ℕ) (ds : List ℕ) → AllByRecursion (Tunes programme cast files bound) ds
    → AllByRecursion (λ n. tunes_by bound (heard_of (packets_of cast (contents_sent programme files)) n) ≡ has_parameters (get_or cast.packets n no_packet).carries) ds
tests-alike programme cast files bound [] h = tt
tests-alike programme cast files bound (d ∷ ds) h = (ap is_some h.0 ∙ some-is (has_parameters (get_or cast.packets d no_packet).carries) programme.params, tests-alike programme cast files bound ds h.1)

pub places-alike : (programme : Programme) (cast : Cast) (files : ℕ → List ℕ) (bound : ℕ) → IsSendable programme cast files → programme.params.bound ≤ bound → (delivery : List ℕ) → AreOf cast.packets delivery
    → tuned_by programme.full_every (λ n. tunes_by bound (heard_of (packets_of cast (contents_sent programme files)) n)) delivery ≡ tuned_places cast programme.full_every delivery
unfolding tuned_places tunes_at
places-alike programme cast files bound ok le delivery of =
    same-first (λ n. tunes_by bound (heard_of (packets_of cast (contents_sent programme files)) n)) (λ n. has_parameters (get_or cast.packets n no_packet).carries) (from_heard programme.full_every delivery)
    (tests-alike programme cast files bound (from_heard programme.full_every delivery) (each-from-heard (Tunes programme cast files bound) programme.full_every delivery (all-tune programme cast files bound ok le delivery of)))

-- ---- the values of a session

-- those with which the first packet tunes
abbrev pub first_values : ℕ → List Heard → Option Params
first_values bound [] = None
first_values bound (h ∷ hs) = values_with None bound h

pub params-first : (programme : Programme) (cast : Cast) (files : ℕ → List ℕ) (bound : ℕ) (ns : List ℕ) → AllByRecursion (Tunes programme cast files bound) ns
    → (let hs = from_first (tunes_by bound) (map (heard_of (packets_of cast (contents_sent programme files))) ns) in (hs ≡ []) ⊎ (first_values bound hs ≡ Some programme.params))
unfolding from_first
params-first programme cast files bound [] t = inl refl
params-first programme cast files bound (n ∷ ns) t = go (values_with None bound (heard_of (packets_of cast (contents_sent programme files)) n)) refl (has_parameters (get_or cast.packets n no_packet).carries) refl (params-first programme cast files bound ns t.1)
  where
    go : (o : Option Params) → values_with None bound (heard_of (packets_of cast (contents_sent programme files)) n) ≡ o → (b : Bool) → has_parameters (get_or cast.packets n no_packet).carries ≡ b
        → (let hs = from_first (tunes_by bound) (map (heard_of (packets_of cast (contents_sent programme files))) ns) in (hs ≡ []) ⊎ (first_values bound hs ≡ Some programme.params))
        → (let hs = cond (is_some o) (heard_of (packets_of cast (contents_sent programme files)) n ∷ map (heard_of (packets_of cast (contents_sent programme files))) ns) (from_first (tunes_by bound) (map (heard_of (packets_of cast (contents_sent programme files))) ns)) in
        (hs ≡ []) ⊎ (first_values bound hs ≡ Some programme.params))
    go None e b is later = later
    go (Some values) e true is later = inr (t.0 ∙ ap (λ (b : Bool). cond b (Some programme.params) None) is)
    go (Some values) e false is later =
        let none : Some values ≡ None = sym e ∙ (t.0 ∙ ap (λ (b : Bool). cond b (Some programme.params) None) is) in
        absurd cc

pub first-alike : (config : Config) (hs : List Heard) → config.assumed ≡ None → values_first config hs ≡ first_values config.bound hs
first-alike config [] none = refl
first-alike config (h ∷ hs) none = ap (λ (assumed : Option (ℕ × ℕ)). values_with assumed config.bound h) none

-- of an empty session nothing is handed out, by whatever rules
pub empty-out : (g : Reading) (r k : Params) → g.units [] ≡ [] → out_end g r [] ≡ out_end g k []
unfolding out_end newest_first onto start_heard
empty-out g r k none = sym (none-out g r 0 none) ∙ none-out g k 0 none

same-out : (config : Config) (values : Params) (o : Option Params) (hs : List Heard) → (hs ≡ []) ⊎ (o ≡ Some values) → out_end (reading_by config) (rules_by config (values_or o)) hs ≡ out_end (reading_by config) (rules_by config values) hs
same-out config values o hs (inl e) =
    ap (out_end (reading_by config) (rules_by config (values_or o))) e ∙ empty-out (reading_by config) (rules_by config (values_or o)) (rules_by config values) none-units ∙ sym (ap (out_end (reading_by config) (rules_by config values)) e)
same-out config values o hs (inr e) = ap (λ (x : Option Params). out_end (reading_by config) (rules_by config (values_or x)) hs) e

-- ---- by the theorem

pub params-of : (programme : Programme) (cast : Cast) → IsItsCast programme cast → cast.params ≡ programme.params
params-of programme cast its = params-alike programme cast its

pub is-receiver : (config : Config) (programme : Programme) (cast : Cast) → IsItsCast programme cast → programme.params.bound ≤ config.bound → IsReceiver cast.params (rules_by config programme.params)
is-receiver config programme cast its le = subst (λ (p : Params). IsReceiver p (rules_by config programme.params)) (sym (params-of programme cast its)) (record { window = refl; delay = refl; bound = le })

pub programmes-received : Delivers → ProgrammesAreReceived
unfolding stream_of packet_sent expected_in
programmes-received theorem config programme cast files delivery ps ok r of near same =
    let contents : Contents = contents_sent programme files in
    let k : Params = rules_by config programme.params in
    let names = names_in config.timescale in
    let heard : DeliveryIs (addressing_of programme) cast contents config.flow delivery ps = deliveries-heard (addressing_of programme) cast contents config.flow delivery ps (sound programme cast files ok).can.address r.flow (casts-sent programme cast files ok) of same in
    let hs : List Heard = from_first (tunes_by config.bound) (map (heard_of (packets_of cast contents)) (from_heard programme.full_every delivery)) in
    let is : session config heard.packets ≡ hs = session-of config heard.packets (map (heard_of (packets_of cast contents)) (from_heard programme.full_every delivery)) r.assumed heard.places in
    let alike : SessionIs config heard.packets = sessions-alike config heard.packets in
    let values : values_of config ps ≡ first_values config.bound hs = ap (tuned config) heard.stream ∙ alike.values ∙ ap (values_first config) is ∙ first-alike config hs r.assumed in
    let first = params-first programme cast files config.bound (from_heard programme.full_every delivery) (each-from-heard (Tunes programme cast files config.bound) programme.full_every delivery (all-tune programme cast files config.bound ok r.bound delivery of)) in
    let places = places-alike programme cast files config.bound ok r.bound delivery of in
    let right : IsCastOf cast contents names = casts-carry config.timescale programme cast files ok in
    units-alike config ps heard.packets heard.stream
    ∙ ap (out_end (reading_by config) (rules_by config (values_or (values_of config ps)))) is
    ∙ ap (λ (o : Option Params). out_end (reading_by config) (rules_by config (values_or o)) hs) values
    ∙ same-out config programme.params (first_values config.bound hs) hs first
    ∙ ap (λ (g : Reading). out_end g k hs) (reads-alike config cast contents r.base)
    ∙ theorem names cast contents k ok.admitted right (is-receiver config programme cast ok.of r.bound) programme.full_every (tunes_by config.bound) delivery of (subst (NearDelivery cast.packets) (sym places) near)
    ∙ ap (λ (ns : List ℕ). expected (broadcast_of cast contents) cast.params.delay (newest_first ns)) places
