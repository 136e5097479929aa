use Rattle.std.proofs.Common.{sym, ◌∙◌, ap, [], ◌∷◌, subst, None}
use Rattle.std.proofs.lemmas.Bool.{ne_eqb}
use Rattle.mmt_model.specs.Packets.{Payload}
use Rattle.mmt_model.specs.Units.{media_link}
use Rattle.mmt_mpu.specs.Head.{view_unit}
use Rattle.mmt_runs.specs.Lone.{Lone}
use Rattle.mmt_runs.specs.Reading.{data_unit_of}
use Rattle.mmt_runs.proofs.Linking.{refused_link, lone_link, other_link, other_run, middle_run, last_run, not_whole, not_first, and_second, and_first, flag_from, flag_not, flag_yes}
use Rattle.mmt_runs.proofs.UnitSizes.{short_link}
use Rattle.mmt_runs.proofs.links.part_link.Goals as goal

pub returns-in-Err-clause-link : goal.returns-in-Err-clause-link
returns-in-Err-clause-link c = sym (refused_link _ _ _ _ c.in-Err.ensures.exact)

pub returns-in-None-clause-link : goal.returns-in-None-clause-link
returns-in-None-clause-link c = sym (other_link _ _ _ _ c.in-Ok.ensures.exact (subst (λ us. Lone us None) c.units.ensures c.in-None.ensures))

pub returns-then-head-timed-clause-link : goal.returns-then-head-timed-clause-link
returns-then-head-timed-clause-link c =
    let l = lone_link c.args.timed c.args.mpu _ _ _ c.in-Ok.ensures.exact (sym c.units.ensures ∙ c.in-Some.ensures) in
    let t = rw c.head-head.ensures at c.if-head-timed.true in
    sym (l ∙ other_run _ _ _ _ _ _ (and_first _ _ (flag_not _ _ t)))

pub returns-then-head-mpu-clause-link : goal.returns-then-head-mpu-clause-link
returns-then-head-mpu-clause-link c =
    let l = lone_link c.args.timed c.args.mpu _ _ _ c.in-Ok.ensures.exact (sym c.units.ensures ∙ c.in-Some.ensures) in
    sym (l ∙ other_run _ _ _ _ _ _ (and_second _ _ (ne_eqb _ _ (λ e. c.if-head-mpu.true (ap (λ h. h.mpu) c.head-head.ensures ∙ sym e)))))

pub returns-in-Whole-clause-link : goal.returns-in-Whole-clause-link
returns-in-Whole-clause-link c =
    let l = lone_link c.args.timed c.args.mpu _ _ _ c.in-Ok.ensures.exact (sym c.units.ensures ∙ c.in-Some.ensures) in
    sym (l ∙ (ap (λ p. media_link c.args.timed c.args.mpu (Payload.Media p c.in-Ok.payload.head.timed c.in-Ok.payload.head.mpu (data_unit_of (view_unit c.in-Some.unit) ∷ []))) (sym (ap (λ h. h.part) c.head-head.ensures) ∙ c.in-Whole.is) ∙ not_whole _ _ _ _ _))

pub returns-in-First-clause-link : goal.returns-in-First-clause-link
returns-in-First-clause-link c =
    let l = lone_link c.args.timed c.args.mpu _ _ _ c.in-Ok.ensures.exact (sym c.units.ensures ∙ c.in-Some.ensures) in
    sym (l ∙ (ap (λ p. media_link c.args.timed c.args.mpu (Payload.Media p c.in-Ok.payload.head.timed c.in-Ok.payload.head.mpu (data_unit_of (view_unit c.in-Some.unit) ∷ []))) (sym (ap (λ h. h.part) c.head-head.ensures) ∙ c.in-First.is) ∙ not_first _ _ _ _ _))

pub returns-in-Middle-clause-link : goal.returns-in-Middle-clause-link
returns-in-Middle-clause-link c =
    let l = lone_link c.args.timed c.args.mpu _ _ _ c.in-Ok.ensures.exact (sym c.units.ensures ∙ c.in-Some.ensures) in
    sym (l ∙ (ap (λ p. media_link c.args.timed c.args.mpu (Payload.Media p c.in-Ok.payload.head.timed c.in-Ok.payload.head.mpu (data_unit_of (view_unit c.in-Some.unit) ∷ []))) (sym (ap (λ h. h.part) c.head-head.ensures) ∙ c.in-Middle.is) ∙ middle_run _ _ _ _ _ (flag_from _ _ _ _ (flag_yes _ _ (rw c.head-head.ensures at c.if-head-timed.false)) (sym (ap (λ h. h.mpu) c.head-head.ensures) ∙ c.if-head-mpu.false))))

pub returns-in-Last-clause-link : goal.returns-in-Last-clause-link
returns-in-Last-clause-link c =
    let l = lone_link c.args.timed c.args.mpu _ _ _ c.in-Ok.ensures.exact (sym c.units.ensures ∙ c.in-Some.ensures) in
    sym (l ∙ (ap (λ p. media_link c.args.timed c.args.mpu (Payload.Media p c.in-Ok.payload.head.timed c.in-Ok.payload.head.mpu (data_unit_of (view_unit c.in-Some.unit) ∷ []))) (sym (ap (λ h. h.part) c.head-head.ensures) ∙ c.in-Last.is) ∙ last_run _ _ _ _ _ (flag_from _ _ _ _ (flag_yes _ _ (rw c.head-head.ensures at c.if-head-timed.false)) (sym (ap (λ h. h.mpu) c.head-head.ensures) ∙ c.if-head-mpu.false))))

pub returns-in-Middle-clause-short : goal.returns-in-Middle-clause-short
returns-in-Middle-clause-short c = short_link c.args.timed c.args.mpu c.args.bytes.now _ (returns-in-Middle-clause-link c) c.requires

pub returns-in-Last-clause-short : goal.returns-in-Last-clause-short
returns-in-Last-clause-short c = short_link c.args.timed c.args.mpu c.args.bytes.now _ (returns-in-Last-clause-link c) c.requires
