use Rattle.std.proofs.Common.{arith}
use Rattle.mmt_fields.proofs.Codec.{is_found, is_only}
use Rattle.mmt_sig.specs.MessageView.{view_message}
use Rattle.mmt_sig.proofs.MessageLaw.{message_format}
use Rattle.mmt_sig.proofs.reading_messages.read_message.Goals as goal

pub returns-clause-found : goal.returns-clause-found
returns-clause-found c = is_found message_format view_message c.args.bytes.now c.message_from.result (λ i. omega (arith, c.type_inv.bytes i)) c.message_from.ensures.gives

pub returns-clause-only : goal.returns-clause-only
returns-clause-only c = is_only message_format view_message c.args.bytes.now c.message_from.result c.message_from.ensures.gives
