-- What a receiver hands out of a stream, by the definitions of the delivery theorem.
use Rattle.std.specs.Prelude.{◌≡◌, ℕ, List, map, None}
use Rattle.mmt_model.specs.Admission.{fault}
use Rattle.mmt_model.specs.Carrying.{Contents, IsCastOf, broadcast_of, packets_of}
use Rattle.mmt_model.specs.Delivery.{NearDelivery, from_heard, newest_first, tuned}
use Rattle.mmt_model.specs.Expected.{expected}
use Rattle.mmt_model.specs.Survival.{AreOf, heard_of}
use Rattle.mmt_model.specs.declared.casts.Cast.{Cast}
use Rattle.mmt_delivery.specs.Laws.{IsReceiver, out_end, reading_of}
use Rattle.mmt_naming.specs.Findings.{names_in}
use Rattle.mmt_tune.specs.Tuning.{HeardAt, Placed, heard_of as heard_in, rules_by}
use Rattle.mmt_tune.specs.declared.config.Config.{Config}
use Rattle.mmt_recv.specs.Receiving.{all_units, values_of, values_or}
use Rattle.mmt_recv.specs.Session.{reading_of as reading_by}
use Rattle.mmt_headline.specs.Tuning.{all_heard, session, tunes_by}

-- all that is handed out of a stream is what the theorem's definition gives for its session, where these are its heard packets in the order of the stream
abbrev pub UnitsAlike : Type 0
UnitsAlike = (config : Config) (ps : List Placed) (hs : List HeardAt) → heard_in config.flow ps ≡ newest_first hs
    → all_units config ps ≡ out_end (reading_by config) (rules_by config (values_or (values_of config ps))) (session config hs)

-- with sample base 1 a receiver reads as the theorem says
abbrev pub ReadsAlike : Type 0
ReadsAlike = (config : Config) (cast : Cast) (contents : Contents) → config.sample_base ≡ 1 → reading_by config ≡ reading_of (names_in config.timescale) (broadcast_of cast contents)

-- these packets are heard of a stream, in its order, and are those of a delivery of the cast from the first that is heard
pub record HearsDelivery (config : Config) (cast : Cast) (contents : Contents) (full_every : ℕ) (delivery : List ℕ) (ps : List Placed) (hs : List HeardAt) : Type 0 where
  pub stream : heard_in config.flow ps ≡ newest_first hs
  pub places : all_heard hs ≡ map (heard_of (packets_of cast contents)) (from_heard full_every delivery)

-- a near delivery of an admitted cast, heard by a receiver of sample base 1 without assumed values: all that it hands out are the expected units, each once, in their order
abbrev pub DeliveriesAreReceived : Type 0
DeliveriesAreReceived =
    (config : Config) (cast : Cast) (contents : Contents) (full_every : ℕ) (delivery : List ℕ) (ps : List Placed) (hs : List HeardAt)
    → config.sample_base ≡ 1 → config.assumed ≡ None → fault cast ≡ None → IsCastOf cast contents (names_in config.timescale)
    → IsReceiver cast.params (rules_by config (values_or (values_of config ps))) → AreOf cast.packets delivery
    → HearsDelivery config cast contents full_every delivery ps hs
    → NearDelivery cast.packets (tuned full_every (λ n. tunes_by config.bound (heard_of (packets_of cast contents) n)) delivery)
    → all_units config ps ≡ expected (broadcast_of cast contents) cast.params.delay (newest_first (tuned full_every (λ n. tunes_by config.bound (heard_of (packets_of cast contents) n)) delivery))
