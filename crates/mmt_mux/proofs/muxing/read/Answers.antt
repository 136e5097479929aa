use Rattle.std.proofs.Common.{◌≡◌, ◌∙◌, ap, sym, subst, Err, Ok}
use Rattle.std.proofs.lemmas.Result.{err_from_is_err_and}
use Rattle.mmt_mux.proofs.Castable.{cast_not_cast, files_not_cast, plan_not_cast}
use Rattle.mmt_mux.proofs.Checks.{fault_here}
use Rattle.mmt_plan.specs.Plan.{IsOutcome, plan}
use Rattle.mmt_mux.proofs.muxing.read.Goals as goal

pub returns-in_err-programme-clause-refused : goal.returns-in_err-programme-clause-refused
returns-in_err-programme-clause-refused g c = λ told.
    let p = err_from_is_err_and c.from_residual.result c.from_residual.ensures.1 in
    let file = g.H.Shelf.file c.args.shelf.now in
    let read = c.in_err-programme.ensures.plan in
    rw p.1 (rw p.2 (plan_not_cast file c.args.name.now c.in_err-programme.field-0.0 (subst (λ seen. IsOutcome (plan seen) (Err c.in_err-programme.field-0.0)) (read.told told) read.answer)))

pub returns-in_err-cast-clause-refused : goal.returns-in_err-cast-clause-refused
returns-in_err-cast-clause-refused g c = λ told.
    let p = err_from_is_err_and c.from_residual-in_err-cast.result c.from_residual-in_err-cast.ensures.1 in
    let file = g.H.Shelf.file c.args.shelf.now in
    let read = c.in_ok-programme.ensures.plan in
    let is : plan (file c.args.name.now) ≡ Ok c.in_ok-programme.programme = ap plan (sym (read.told told)) ∙ read.answer in
    rw p.1 (rw p.2 (cast_not_cast file c.args.name.now c.in_ok-programme.programme c.in_err-cast.field-0.0 is c.in_err-cast.ensures.refused))

pub returns-in_err-check_files-clause-refused : goal.returns-in_err-check_files-clause-refused
returns-in_err-check_files-clause-refused g c = λ told.
    let p = err_from_is_err_and c.from_residual-in_err-check_files.result c.from_residual-in_err-check_files.ensures.1 in
    let file = g.H.Shelf.file c.args.shelf.now in
    let read = c.in_ok-programme.ensures.plan in
    let is : plan (file c.args.name.now) ≡ Ok c.in_ok-programme.programme = ap plan (sym (read.told told)) ∙ read.answer in
    let same = c.in_ok-programme.ensures.shelf.files told in
    let tells = c.in_ok-programme.ensures.shelf.tells in
    rw p.1 (rw p.2 (files_not_cast file c.args.name.now c.in_ok-programme.programme c.in_err-check_files.field-0.0 is c.in_ok-cast.ensures.none (fault_here file (g.H.Shelf.file c.read_plan.new.shelf) c.in_ok-programme.programme same c.in_err-check_files.field-0.0 (c.in_err-check_files.ensures.files (tells ∙ told)))))
