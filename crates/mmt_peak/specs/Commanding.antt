-- What the command `peak` has made of the packets of a stream, of which the newest is the first.
use Rattle.std.specs.Prelude.{◌≡◌, ℕ, List, Option, count_by}
use Rattle.mmt_model.specs.declared.programmes.FlowChoice.{FlowChoice}
use Rattle.mmt_tlv.specs.Framing.{Packet}
use Rattle.mmt_ip.specs.declared.packet.Ip6Header.{Ip6Header}
use Rattle.mmt_hear.specs.Views.{HasHeard}
use Rattle.mmt_model.specs.Counts.{counted}
use Rattle.mmt_peak.specs.Peaking.{Numbers, heard_packets, heard_as, is_refusal}
use Rattle.mmt_peak.specs.Buffers.{BufferState, HasTaken}

-- the command: the flow that it hears, its headers, its buffer and its count of refused packets
pub record PeakState : Type 0 where
  pub flow : FlowChoice
  pub table : List (Option Ip6Header)
  pub buffer : BufferState
  pub refused : ℕ

-- it was given these packets
pub record HasSeen (packets : List Packet) (c : PeakState) : Type 0 where
  pub heard : HasHeard packets c.table
  pub taken : HasTaken (heard_packets c.flow packets) c.buffer
  pub refused : c.refused ≡ counted (count_by is_refusal (heard_as c.flow packets))

-- the numbers of its line
abbrev pub numbers_in : PeakState → Numbers
numbers_in c = record { heard = c.buffer.heard; stored = c.buffer.tally.stored; late = c.buffer.tally.late; repeats = c.buffer.tally.repeats; full = c.buffer.tally.full; refused = c.refused }
