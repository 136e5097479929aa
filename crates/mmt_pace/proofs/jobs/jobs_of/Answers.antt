use Rattle.std.proofs.Common.{◌-◌, ◌<◌, ◌^◌, ◌∙◌, ℕ, All, false, List, length, get_or, arith, ap, subst, sym}
use Rattle.std.specs.List.{AllByRecursion}
use Rattle.std.proofs.lemmas.List.{get_or_default}
use Rattle.mmt_cast.proofs.Listing.{each-at}
use Rattle.mmt_model.specs.Carrying.{least_with}
use Rattle.mmt_model.specs.declared.casts.Carries.TheVariants as carries
use Rattle.mmt_model.specs.declared.casts.Sent.{Sent}
use Rattle.mmt_pace.proofs.Deadlined.{all-made, none-made, one-made}
use Rattle.mmt_pace.specs.Asked.{IsCarriedBy}
use Rattle.mmt_pace.proofs.jobs.jobs_of.Goals as goal

-- what a read outside a list would give
abbrev nothing-there : Sent
nothing-there = record { at = record { 0 = 0 }; packet_id = 0; number = 0; rap = false; length = 0; carries = carries.Whole 0 }

pub own_limit-requires-clause-carried : goal.own_limit-requires-clause-carried
own_limit-requires-clause-carried c =
    each-at (λ (p : Sent). IsCarriedBy c.args.cast.now p.carries) c.as_slice-packets.result.now (length c.as_slice-packets.result.now - 1 - c.loop-i.i) nothing-there (subst (AllByRecursion (λ (p : Sent). IsCarriedBy c.args.cast.now p.carries)) (sym c.as_slice-packets.ensures) c.requires.carried) (omega arith)

pub own_limit-requires-clause-at : goal.own_limit-requires-clause-at
own_limit-requires-clause-at c =
    subst (λ (ps : List Sent). All (λ (p : Sent). p.at.0 < 2 ^ 60) ps) (sym c.as_slice-packets.ensures) c.requires.readable.packets.ticks (length c.as_slice-packets.result.now - 1 - c.loop-i.i) nothing-there (omega arith)

pub loop-i-init : goal.loop-i-init
loop-i-init c =
    none-made c.args.cast.now c.args.cast.now.packets (length c.as_slice-packets.result.now) c.in_ok-jobs.jobs.items _ c.in_ok-least.least.items (ap (λ (ps : List Sent). length ps) c.as_slice-packets.ensures) c.in_ok-jobs.ensures c.in_ok-least.ensures

pub loop-i-preserved : goal.loop-i-preserved
loop-i-preserved c =
    let slice : List Sent = c.as_slice-packets.result.now in
    let k : ℕ = length slice - 1 - c.loop-i.i in
    let p : Sent = get_or slice k nothing-there in
    one-made c.args.cast.now c.args.cast.now.packets (length slice) c.loop-i.i p c.loop-i.jobs.items c.loop-i.least.items c.own_limit.result c.lesser-deadline.result c.index.result.now
    (ap (λ (ps : List Sent). length ps) c.as_slice-packets.ensures) c.loop-i-test.true (omega arith)
    (get_or_default slice k nothing-there p (omega arith) ∙ ap (λ (ps : List Sent). get_or ps k p) c.as_slice-packets.ensures)
    c.own_limit.ensures (c.lesser-deadline.ensures ∙ ap (least_with c.own_limit.result) c.index.ensures) c.loop-i.invariant

pub returns : goal.returns
returns c = c.from_vec.ensures ∙ all-made c.args.cast.now (length c.as_slice-packets.result.now) c.loop-i.i c.loop-i.jobs.items c.loop-i.least.items c.loop-i-test.false c.loop-i.invariant
