use Rattle.std.proofs.Common.{List, map, length, refl, le_refl, arith, sym, subst, ap, ◌∙◌}
use Rattle.std.specs.Prelude.{IsTrue}
use Rattle.mmt_io.proofs.Sends.{sends_nothing, sends_both}
use Rattle.mmt_model.specs.Handing.{Presentation, due_units}
use Rattle.mmt_model.specs.Units.{units_of}
use Rattle.mmt_runs.specs.Lending.{the_presentation}
use Rattle.mmt_runs.specs.Reading.{heard}
use Rattle.mmt_runs.proofs.Rest.{rest_none}
use Rattle.mmt_output.proofs.Amounts.{hands_none, hands_more, hands_start}
use Rattle.mmt_output.proofs.NextDue.{due_next, bytes_lent}
use Rattle.mmt_output.proofs.handing.hand_out.Goals as goal

pub units-init : goal.units-init
units-init g c =
    let due : List Presentation = due_units c.args.names.now.sample_base c.args.names.now.entries (units_of (map heard c.args.pool.now.kept)) c.args.from.0 c.args.to.0 in
    record {
      sends = sends_nothing _ _ _ _ _;
      hands = rw (rest_none due) (hands_none _ _ due c.nothing-handed.result c.nothing-handed.ensures);
    }

pub units-preserved : goal.units-preserved
units-preserved g c =
    let i = c.units.invariant in
    let e = c.in-Ok.ensures in
    let n = due_next c.args.runs.now c.args.pool.now.kept c.args.names.now c.units.after c.as_ref.result c.args.from.0 c.args.to.0 c.in-Some.unit c.order-order.result c.requires c.as_ref.ensures.value c.in-Some.ensures c.order-order.ensures in
    let h = i.hands in
    record {
      sends = sends_both i.sends e.sends;
      hands = hands_more _ _ _ _ _ _ (the_presentation c.in-Some.unit) c.units.handed c.and_one-handed.result c.length-length.result (rw n at h) (λ told. e.put (subst IsTrue (sym i.sends.telling) told))
          (bytes_lent c.in-Some.unit c.length-length.result c.length-length.ensures) c.and_one-handed.ensures;
    }

pub units-smaller : goal.units-smaller
units-smaller g c =
    let n = due_next c.args.runs.now c.args.pool.now.kept c.args.names.now c.units.after c.as_ref.result c.args.from.0 c.args.to.0 c.in-Some.unit c.order-order.result c.requires c.as_ref.ensures.value c.in-Some.ensures c.order-order.ensures in
    omega (arith, ap length n)

pub returns-in-Err-clause-put : goal.returns-in-Err-clause-put
returns-in-Err-clause-put g c = λ told.
    let i = c.units.invariant in
    let n = due_next c.args.runs.now c.args.pool.now.kept c.args.names.now c.units.after c.as_ref.result c.args.from.0 c.args.to.0 c.in-Some.unit c.order-order.result c.requires c.as_ref.ensures.value c.in-Some.ensures c.order-order.ensures in
    let h = i.hands in
    hands_start _ _ _ _ _ _ (the_presentation c.in-Some.unit) c.units.handed (rw n at h) told (c.in-Err.ensures.put (subst IsTrue (sym i.sends.telling) told))
