use Rattle.std.proofs.Common.{◌≡◌, ◌∙◌, List, arith, ap, sym}
use Rattle.mmt_model.specs.Carrying.{copy_place}
use Rattle.mmt_model.specs.declared.casts.TableCopy.{TableCopy}
use Rattle.mmt_pace.proofs.Lesser.{copy-limit-none, copy-limit-some}
use Rattle.mmt_pace.proofs.limits.copy_limit.Goals as goal

pub returns-in-Some : goal.returns-in-Some
returns-in-Some c =
    let place : c.place_of_copy-place.result ≡ copy_place c.args.cast.now.copies c.args.signal = c.place_of_copy-place.ensures ∙ ap (λ (cs : List TableCopy). copy_place cs c.args.signal) c.as_slice.ensures in
    copy-limit-some c.args.cast.now c.args.at.0 c.args.signal c.place_of_copy-place.result c.in-Some.limit c.args.limits.now _ c.requires.limits place (omega (arith, place, c.requires.known)) (sym c.in-Some.is)

pub returns-in-None : goal.returns-in-None
returns-in-None c =
    let place : c.place_of_copy-place.result ≡ copy_place c.args.cast.now.copies c.args.signal = c.place_of_copy-place.ensures ∙ ap (λ (cs : List TableCopy). copy_place cs c.args.signal) c.as_slice.ensures in
    copy-limit-none c.args.cast.now c.args.at.0 c.args.signal c.place_of_copy-place.result c.window_limit.result c.args.limits.now _ c.requires.limits place (omega (arith, place, c.requires.known)) (sym c.in-None.is) c.window_limit.ensures
