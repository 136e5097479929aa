use Rattle.std.proofs.Common.{rules, arith, sym, subst, ◌≡◌, ◌∙◌}
use Rattle.std.specs.Prelude.{IsTrue}
use Rattle.mmt_io.proofs.Sends.{sends_both}
use Rattle.mmt_runs.specs.Lending.{the_presentation}
use Rattle.mmt_output.specs.Records.{header_of}
use Rattle.mmt_output.proofs.Putting.{puts_written, start_written}
use Rattle.mmt_output.proofs.Recording.{header_same, begun, begun_start, begun_more, begun_part}
use Rattle.mmt_output.proofs.writing.write_unit.Goals as goal

pub returns-in-Err-clause-put : goal.returns-in-Err-clause-put
returns-in-Err-clause-put g c = λ told.
    let is : c.header-front.result ≡ header_of (the_presentation c.args.unit) =
    c.header-front.ensures ∙ header_same c.args.unit c.order-order.result c.priority.result c.dependency.result c.length.result c.order-order.ensures c.priority.ensures c.dependency.ensures c.length.ensures in
    begun_start _ _ c.args.unit c.header-front.result is (start_written _ _ _ (c.in-Err.ensures.bytes told))

pub parts-init : goal.parts-init
parts-init g c =
    let is : c.header-front.result ≡ header_of (the_presentation c.args.unit) =
    c.header-front.ensures ∙ header_same c.args.unit c.order-order.result c.priority.result c.dependency.result c.length.result c.order-order.ensures c.priority.ensures c.dependency.ensures c.length.ensures in
    record {
      sends = search rules;
      begun = λ told. begun _ _ c.args.unit c.header-front.result is (puts_written _ _ _ (c.in-Ok.ensures.bytes told));
    }

pub parts-preserved : goal.parts-preserved
parts-preserved g c =
    let i = c.parts.invariant in
    let e = c.in-Ok-write_part.ensures in
    record {
      sends = sends_both i.sends e.sends;
      begun = λ told.
          let b = i.begun told in
          let n = c.in-Some.ensures in
          begun_more _ _ _ _ _ _ (rw n at b) (e.put (subst IsTrue (sym i.sends.telling) told));
    }

pub returns-in-Err-write_part-clause-put : goal.returns-in-Err-write_part-clause-put
returns-in-Err-write_part-clause-put g c = λ told.
    let i = c.parts.invariant in
    let b = i.begun told in
    let n = c.in-Some.ensures in
    begun_part _ _ _ _ _ _ (rw n at b) (c.in-Err-write_part.ensures.put (subst IsTrue (sym i.sends.telling) told))
