use Rattle.std.proofs.Common.{◌≡◌, ◌+◌, ◌<◌, ◌^◌, length, option_map}
use Rattle.std.specs.List.{AllByRecursion}
use Rattle.mmt_model.specs.Handing.{named_units}
use Rattle.mmt_mpu.specs.View.{units_left, view}
use Rattle.mmt_runs.specs.Lending.{the_presentation}
use Rattle.mmt_runs.specs.Order.{order_now}
use Rattle.mmt_runs.specs.Offers.{whole_of}
use Rattle.mmt_runs.specs.Choosing.{is_sought}
use Rattle.mmt_runs.specs.Choosing.{best as best_of}
use Rattle.mmt_runs.proofs.finding.best_whole.Given as goal

abbrev pub invariant-loop-unit : goal.invariant-loop-unit
invariant-loop-unit l =
    let p = is_sought (order_now l.range.after) l.range.from.0 l.range.to.0 in
    let named = named_units l.range.names.now.sample_base l.range.names.now.entries in
    record {
      count : l.place + length (units_left l.unit-iterator) ≡ l.count;
      short : AllByRecursion (λ u. length u.bytes < 2 ^ 31) (units_left l.unit-iterator);
      found : best_of p (option_map the_presentation l.best) (named (whole_of l.span.packet_id l.span.number l.head.mpu l.place (units_left l.unit-iterator)))
          ≡ best_of p (option_map the_presentation l.fn.best) (named (whole_of l.span.packet_id l.span.number (view l.payload).head.mpu 0 (view l.payload).units));
    }
