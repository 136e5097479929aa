-- The packets of a sending, numbered from a number on.
use Rattle.std.specs.Prelude.{ℕ, ◌+◌, List, map}
use Rattle.mmt_cast.specs.Casting.{with_number}
use Rattle.mmt_cast.specs.Sending.{Sending, packet_count, packet_of, sending_of_signal}
use Rattle.mmt_casting.specs.Places.{sending_at}
use Rattle.mmt_casting.specs.declared.messages.Message.{Message}
use Rattle.mmt_model.specs.declared.programmes.Signal.{Signal}
use Rattle.mmt_model.specs.Carrying.{numbers}
use Rattle.mmt_model.specs.declared.casts.Sent.{Sent}
use Rattle.mmt_model.specs.declared.programmes.Programme.{Programme}

-- packet number k of a sending whose first packet has this number
unfoldable pub numbered_packet : Programme → Sending → ℕ → ℕ → Sent
numbered_packet programme x number k = with_number (packet_of programme x k) (number + k)

-- all of them
abbrev pub numbered_packets : Programme → Sending → ℕ → List Sent
numbered_packets programme x number = map (numbered_packet programme x number) (numbers 0 (packet_count programme x))

-- a table that is sent
abbrev pub table_of : Message → Sending
table_of message = Sending.Table message.signal message.at message.bytes

-- those of a signalling message, and those of the sending that a unit begins
abbrev pub packets_of_signal : Programme → ℕ → Signal → ℕ → List Sent
packets_of_signal programme s signal number = numbered_packets programme (sending_of_signal programme s signal) number

abbrev pub packets_of_unit : Programme → ℕ → ℕ → List Sent
packets_of_unit programme u number = numbered_packets programme (sending_at programme u) number
