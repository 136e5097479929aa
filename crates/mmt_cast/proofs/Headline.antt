-- The delivery theorem, of programmes.
use Rattle.mmt_cast.proofs.Theorem.{cast-right}
use Rattle.mmt_cast.specs.Casting.{cast_of}
use Rattle.mmt_cast.specs.Headline.{ProgrammesAreDelivered}
use Rattle.mmt_cast.specs.Right.{contents_of}
use Rattle.mmt_delivery.specs.Laws.{Delivers}

pub delivered : Delivers → ProgrammesAreDelivered
unfolding cast_of
delivered theorem programme files messages names_in k right spelled none ok receiver full_every tunes delivery of near =
    theorem names_in (cast_of programme) (contents_of programme files messages) k ok (cast-right programme files messages names_in right spelled none) receiver full_every tunes delivery of near
