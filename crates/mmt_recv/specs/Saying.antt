-- What the messages of a signalling payload say to a receiver, by its part.
use Rattle.std.specs.Prelude.{ℕ, List}
use Rattle.std.specs.List.{flat_map}
use Rattle.mmt_model.specs.declared.keys.Part.{Part}
use Rattle.mmt_model.specs.declared.keys.Part.TheVariants as parts
use Rattle.mmt_model.specs.declared.programmes.Params.{Params}
use Rattle.mmt_model.specs.Packets.{Heard}
use Rattle.mmt_sig.specs.Payload.{Payload as Signals}
use Rattle.mmt_pool.specs.declared.types.Span.{Span}
use Rattle.mmt_runs.specs.Messages.{messages_with}
use Rattle.mmt_naming.specs.Findings.{Finding, findings_from, findings_of_joined}

-- the message in parts that the packet of a span is a part of among the kept ones, where all its parts are there (ISO/IEC 23008-1, the signalling payload)
abbrev pub findings_with : ℕ → Params → List Heard → Span → List Finding
findings_with timescale tuned kept span = flat_map (findings_of_joined timescale tuned) (messages_with kept span.packet_id span.number)

-- whole messages, or the one in parts that the packet is a part of among the kept ones (ISO/IEC 23008-1, the signalling payload)
abbrev pub findings_of_part : ℕ → Params → List Heard → ℕ → ℕ → List (List ℕ) → Part → List Finding
findings_of_part timescale tuned kept packet_id number messages parts.Whole = findings_from timescale tuned 0 messages
findings_of_part timescale tuned kept packet_id number messages parts.First = flat_map (findings_of_joined timescale tuned) (messages_with kept packet_id number)
findings_of_part timescale tuned kept packet_id number messages parts.Middle = flat_map (findings_of_joined timescale tuned) (messages_with kept packet_id number)
findings_of_part timescale tuned kept packet_id number messages parts.Last = flat_map (findings_of_joined timescale tuned) (messages_with kept packet_id number)

-- what a payload's messages say
abbrev pub findings_of_signals : ℕ → Params → List Heard → ℕ → ℕ → Signals → List Finding
findings_of_signals timescale tuned kept packet_id number v = findings_of_part timescale tuned kept packet_id number v.messages v.head.part
