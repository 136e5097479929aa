-- The stream that is sent of a programme: the TLV packets of a cast of it, with the bytes of its files and of its messages.
use Rattle.std.specs.Prelude.{ℕ, List, map, length}
use Rattle.mmt_cast.specs.Right.{contents_of}
use Rattle.mmt_model.specs.Carrying.{Contents, numbers}
use Rattle.mmt_model.specs.declared.casts.Cast.{Cast}
use Rattle.mmt_model.specs.declared.programmes.Programme.{Programme}
use Rattle.mmt_sent.specs.Messages.{message_bytes}
use Rattle.mmt_sent.specs.Packets.{Addressing, tlv_at}
use Rattle.mmt_tlv.specs.Framing.{Packet as Tlv}

-- how a programme's packets are addressed: from its source to its flow; traffic class and flow label are 0, and the hop limit is 64 (RFC 8200; this project's rule for what is sent)
abbrev pub addressing_of : Programme → Addressing
addressing_of programme =
    record {
      header = record {
        traffic_class = 0;
        flow_label = 0;
        hop_limit = 64;
        source = programme.source.address;
        destination = programme.flow.address;
        source_port = programme.source.port;
        destination_port = programme.flow.port;
      };
      context = programme.context;
      full_every = programme.full_every;
    }

-- what the cast of a programme carries: the bytes of its files, by their places, and of its messages
abbrev pub contents_sent : Programme → (ℕ → List ℕ) → Contents
contents_sent programme files = contents_of programme files (message_bytes programme)

-- the TLV packet at a place of a cast of a programme, which says at which ticks its packets are sent
unfoldable pub packet_sent : Programme → Cast → (ℕ → List ℕ) → ℕ → Tlv
packet_sent programme cast files n = tlv_at (addressing_of programme) cast (contents_sent programme files) n

-- the TLV packets of a delivery of a cast of a programme, in the order of the stream
unfoldable pub stream_of : Programme → Cast → (ℕ → List ℕ) → List ℕ → List Tlv
stream_of programme cast files delivery = map (packet_sent programme cast files) delivery

-- the stream of a programme over a cast: the packets of the cast in their order
unfoldable pub stream : Programme → Cast → (ℕ → List ℕ) → List Tlv
stream programme cast files = stream_of programme cast files (numbers 0 (length cast.packets))
