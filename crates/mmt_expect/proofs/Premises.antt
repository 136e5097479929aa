-- What a right programme and its cast have.
use Rattle.std.proofs.Common.{◌≡◌, None, sym, subst}
use Rattle.mmt_admit.specs.Faults.{IsReadable}
use Rattle.mmt_cast.proofs.FromRight.{right-programmes-fit}
use Rattle.mmt_cast.proofs.Readable.{readable as casts-readable}
use Rattle.mmt_cast.specs.Casting.{cast_of}
use Rattle.mmt_cast.specs.Refusing.{refusal}
use Rattle.mmt_model.specs.Right.{IsRight}
use Rattle.mmt_model.specs.declared.casts.Cast.{Cast}
use Rattle.mmt_model.specs.declared.programmes.Programme.{Programme}

pub readable : (p : Programme) (cast : Cast) → IsRight p → refusal p ≡ None → cast ≡ cast_of p → IsReadable cast
readable p cast right none is = subst IsReadable (sym is) (casts-readable p (right-programmes-fit.right p right) (right-programmes-fit.ticks p right) none)
