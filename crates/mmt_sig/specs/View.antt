-- What contracts see of a payload and of the iterator over its messages.
use Rattle.std.specs.Prelude.{ℕ, not, List}
use Rattle.mmt_sig.specs.declared.payload.SigPayload.{SigPayload}
use Rattle.mmt_sig.specs.declared.messages.Messages.{Messages}
use Rattle.mmt_sig.specs.Payload.{Payload}
use Rattle.mmt_sig.specs.Left.{left}

-- a payload without where it lies in memory
abbrev pub view : SigPayload → Payload
view p = record { head = p.head; messages = left (not p.head.aggregated) p.head.long 2 p.body.now }

-- the messages that an iterator has yet to give
abbrev pub messages_left : Messages → List (List ℕ)
messages_left s = left s.lone s.long s.at s.rest.now
