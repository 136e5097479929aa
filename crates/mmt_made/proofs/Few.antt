-- How many packets a cast has.
use Rattle.std.proofs.Common.{◌≡◌, ◌≤◌, None, length, sym, subst}
use Rattle.mmt_admit.specs.Faults.{IsReadable}
use Rattle.mmt_cast.proofs.FromRight.{right-programmes-fit}
use Rattle.mmt_cast.proofs.Readable.{readable as casts-readable}
use Rattle.mmt_cast.specs.Casting.{cast_of}
use Rattle.mmt_cast.specs.Refusing.{refusal}
use Rattle.mmt_model.specs.Right.{IsRight}
use Rattle.mmt_model.specs.declared.casts.Cast.{Cast}
use Rattle.mmt_model.specs.declared.programmes.Programme.{Programme}

pub packets-few : (programme : Programme) (cast : Cast) → IsRight programme → refusal programme ≡ None → cast ≡ cast_of programme → length cast.packets ≤ 16777216
packets-few programme cast right none is =
    let r : IsReadable cast = subst IsReadable (sym is) (casts-readable programme (right-programmes-fit.right programme right) (right-programmes-fit.ticks programme right) none) in
    r.packets.few
