-- The delivery theorem, of programmes with their messages.
use Rattle.std.proofs.Common.{◌≡◌, Option, Some, None, refl}
use Rattle.mmt_cast.specs.Casting.{cast_of}
use Rattle.mmt_cast.specs.Headline.{ProgrammesAreDelivered}
use Rattle.mmt_messages.specs.Headline.{SentIsReceived}
use Rattle.mmt_messages.specs.Sent.{MessagesAreRight}
use Rattle.mmt_sent.specs.Messages.{message_bytes}
use Rattle.mmt_model.specs.Admission.{Fault, fault, fault_of_params, or_else}
use Rattle.mmt_model.specs.declared.casts.Cast.{Cast}
use Rattle.mmt_model.specs.declared.programmes.Programme.{Programme}
use Rattle.mmt_naming.specs.Findings.{names_in}

first-none : (a b : Option Fault) → or_else a b ≡ None → a ≡ None
first-none None b e = refl
first-none (Some r) b e = absurd cc

pub cast-values : (cast : Cast) → fault cast ≡ None → fault_of_params cast.params ≡ None
unfolding fault
cast-values cast e = first-none _ _ e

pub values : (programme : Programme) → fault (cast_of programme) ≡ None → fault_of_params programme.params ≡ None
unfolding cast_of
values programme e = cast-values (cast_of programme) e

pub received : ProgrammesAreDelivered → MessagesAreRight → SentIsReceived
received delivered messages programme files timescale k right fits none ok receiver =
    delivered programme files (message_bytes programme) (names_in timescale) k right (messages programme timescale right fits none (values programme ok)) none ok receiver
