-- What `take` says of a stream: the records of the media units that a receiver hands out, what it notes, and its last line.
use Rattle.std.specs.Prelude.{ℕ, List, [], ◌∷◌, ◌++◌, length, codes, decimal}
use Rattle.std.specs.List.{sum_by}
use Rattle.mmt_model.specs.Delivery.{newest_first}
use Rattle.mmt_tlv.specs.Framing.{Packet, spelling}
use Rattle.mmt_io.specs.Output.{Output, followed, only_written, only_noted}
use Rattle.mmt_stream.specs.Consuming.{Meaning}
use Rattle.mmt_output.specs.Records.{records}
use Rattle.mmt_tune.specs.declared.config.Config.{Config}
use Rattle.mmt_tune.specs.Tuning.{Placed}
use Rattle.mmt_recv.specs.declared.summary.Summary.{Summary}
use Rattle.mmt_recv.specs.Receiving.{received, session_of, values_of, units_left, summary_of}

-- how many bytes the packets have together (ARIB STD-B32 Part 3, the TLV packet)
abbrev pub bytes_of : List Packet → ℕ
bytes_of packets = sum_by (λ p. length (spelling p)) packets

-- the packets of a stream, the newest first, each with the count of bytes before it (this project's rule)
unfoldable pub placed : List Packet → List Placed
placed [] = []
placed (packet ∷ older) = record { place = bytes_of older; packet = packet } ∷ placed older

-- the records of the units that are handed out where the stream ends (this project's rule)
abbrev pub last_records : Config → List Placed → List ℕ
last_records config ps = records (units_left config (session_of config ps) (values_of config ps))

-- the last line: how many units were handed out, how many bytes they have, and the most payload bytes that were kept at once (this project's rule)
abbrev pub line_of : Summary → List ℕ
line_of s = codes "units " ++ decimal s.units ++ codes " bytes " ++ decimal s.bytes ++ codes " peak " ++ decimal s.peak ++ codes "\n"

-- what goes out at the end of the stream: the last records, and the last line as a note (this project's rule)
abbrev pub at_last : Config → List Placed → Output
at_last config ps = followed (only_written (last_records config ps)) (only_noted (line_of (summary_of config ps)))

-- what was received while the stream goes on, and what goes out at its end after it (this project's rule)
abbrev pub taking : Config → Meaning
taking config = record {
  so_far = λ packets. received config (placed (newest_first packets));
  at_end = λ packets. followed (received config (placed (newest_first packets))) (at_last config (placed (newest_first packets)));
}
