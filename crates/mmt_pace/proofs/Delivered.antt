-- The delivery theorem of programmes whose packets are sent at other ticks.
use Rattle.std.proofs.Common.{◌≡◌, inl, inr, ℕ, ◌<◌, List, length, None, sym, subst}
use Rattle.mmt_cast.proofs.Theorem.{cast-right}
use Rattle.mmt_cast.specs.Casting.{cast_of}
use Rattle.mmt_cast.specs.Refusing.{refusal}
use Rattle.mmt_cast.specs.Right.{IsMessage, IsRight, contents_of, signal_at}
use Rattle.mmt_delivery.specs.Laws.{Delivers}
use Rattle.mmt_model.specs.Carrying.{IsCastOf}
use Rattle.mmt_model.specs.Entries.{Entry}
use Rattle.mmt_model.specs.declared.casts.Cast.{Cast}
use Rattle.mmt_model.specs.declared.programmes.Programme.{Programme}
use Rattle.mmt_pace.proofs.Again.{recasts-are-right}
use Rattle.mmt_pace.proofs.Told.{casts-are-told}
use Rattle.mmt_pace.specs.Laws.{RecastProgrammesAreDelivered, RecastProgrammesAreRight}
use Rattle.mmt_pace.specs.Recast.{IsItsCast, recast}

pub recast-right : RecastProgrammesAreRight
recast-right ticks programme files messages names_in right spelled none =
    recasts-are-right ticks (cast_of programme) (contents_of programme files messages) names_in (casts-are-told programme) (cast-right programme files messages names_in right spelled none)

pub recast-delivered : Delivers → RecastProgrammesAreDelivered
unfolding recast cast_of
recast-delivered theorem ticks programme files messages names_in k right spelled none ok receiver full_every tunes delivery of near =
    theorem names_in (recast ticks (cast_of programme)) (contents_of programme files messages) k ok (recast-right ticks programme files messages names_in right spelled none) receiver full_every tunes delivery of near

-- each cast of a right programme goes with what it is to carry
pub its-right : (programme : Programme) (cast : Cast) (files messages : ℕ → List ℕ) (names_in : List ℕ → List Entry) → IsItsCast programme cast → IsRight programme
    → ((s : ℕ) → s < length programme.signals → IsMessage programme names_in (signal_at programme s) (messages s)) → refusal programme ≡ None → IsCastOf cast (contents_of programme files messages) names_in
its-right programme cast files messages names_in (inl e) right spelled none =
    subst (λ (c : Cast). IsCastOf c (contents_of programme files messages) names_in) (sym e) (cast-right programme files messages names_in right spelled none)
its-right programme cast files messages names_in (inr (ticks, e)) right spelled none =
    subst (λ (c : Cast). IsCastOf c (contents_of programme files messages) names_in) (sym e) (recast-right ticks programme files messages names_in right spelled none)
