use Rattle.std.proofs.Common.{◌≡◌, ◌<◌, ◌^◌, take}
use Rattle.mmt_command.specs.Flows.{hex_text}
use Rattle.mmt_command.proofs.flows.address_of.Given as goal

abbrev pub invariant-loop-byte : goal.invariant-loop-byte
invariant-loop-byte l = record { below : l.address < 16 ^ l.byte-index; read : take l.byte-index l.text ≡ hex_text l.byte-index l.address }
