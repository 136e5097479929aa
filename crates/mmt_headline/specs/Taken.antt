-- What `take` puts out of a delivery of a cast of a programme.
use Rattle.std.specs.Prelude.{◌≡◌, ℕ, List, ◌++◌}
use Rattle.mmt_io.specs.History.{Event}
use Rattle.mmt_model.specs.Delivery.{newest_first}
use Rattle.mmt_model.specs.Handing.{Presentation}
use Rattle.mmt_model.specs.Received.{IsNear, expected_in}
use Rattle.mmt_model.specs.Survival.{AreOf}
use Rattle.mmt_model.specs.declared.casts.Cast.{Cast}
use Rattle.mmt_model.specs.declared.programmes.Programme.{Programme}
use Rattle.mmt_output.specs.Records.{records}
use Rattle.mmt_recv.specs.Noting.{noted}
use Rattle.mmt_recv.specs.Receiving.{summary_of}
use Rattle.mmt_sent.specs.Stream.{contents_sent, stream_of}
use Rattle.mmt_io.specs.Output.{IsPrefixOf, Output, output_of}
use Rattle.mmt_stream.specs.Streaming.{Streams}
use Rattle.mmt_stream.specs.declared.end.StreamEnd.{StreamEnd}
use Rattle.mmt_take.specs.Taking.{line_of, placed, taking}
use Rattle.mmt_tlv.specs.Framing.{joined}
use Rattle.mmt_tune.specs.Tuning.{Placed}
use Rattle.mmt_tune.specs.declared.config.Config.{Config}
use Rattle.mmt_headline.specs.Programmes.{IsSendable, Receives}
use Rattle.mmt_stream.specs.declared.end.StreamEnd.TheVariants as end

-- the expected units of a delivery of a cast of a programme
abbrev pub expected_of : Programme → Cast → (ℕ → List ℕ) → List ℕ → List Presentation
expected_of programme cast files delivery = expected_in cast (contents_sent programme files) programme.full_every delivery

-- the packets of a delivery with their places in the stream, the newest first
unfoldable pub placed_of : Programme → Cast → (ℕ → List ℕ) → List ℕ → List Placed
placed_of programme cast files delivery = placed (newest_first (stream_of programme cast files delivery))

-- all that `take` puts out of a delivery: the records of the expected units, the notes of the packets, and the last line
abbrev pub all_taken : Config → Programme → Cast → (ℕ → List ℕ) → List ℕ → Output
all_taken config programme cast files delivery =
    record {
      written = records (expected_of programme cast files delivery);
      noted = noted config (placed_of programme cast files delivery) ++ line_of (summary_of config (placed_of programme cast files delivery));
    }

-- a run of `take` over the bytes of a near delivery that is done put out exactly that
abbrev pub TakesDelivery : Type 0
TakesDelivery =
    (config : Config) (programme : Programme) (cast : Cast) (files : ℕ → List ℕ) (delivery : List ℕ) (limit : ℕ) (old new : List Event) (unread : List ℕ) → IsSendable programme cast files → Receives config programme
    → AreOf cast.packets delivery → IsNear cast programme.full_every delivery
    → (s : Streams (taking config) limit end.Done old new (joined (stream_of programme cast files delivery)) unread)
    → output_of s.events ≡ all_taken config programme cast files delivery

-- a run that ends in any way put out a prefix of that
abbrev pub TakesAStart : Type 0
TakesAStart =
    (config : Config) (programme : Programme) (cast : Cast) (files : ℕ → List ℕ) (delivery : List ℕ) (limit : ℕ) (outcome : StreamEnd) (old new : List Event) (unread : List ℕ) → IsSendable programme cast files → Receives config programme
    → AreOf cast.packets delivery → IsNear cast programme.full_every delivery
    → (s : Streams (taking config) limit outcome old new (joined (stream_of programme cast files delivery)) unread)
    → IsPrefixOf (output_of s.events) (all_taken config programme cast files delivery)
