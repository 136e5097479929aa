use Rattle.std.proofs.Common.{◌≡◌, length, arith, ap, sym, ◌∙◌, true, false}
use Rattle.std.specs.List.{filter}
use Rattle.mmt_expect.proofs.Expected.{count-is, count-next, none-counted}
use Rattle.mmt_expect.proofs.Premises.{readable}
use Rattle.mmt_expect.proofs.Walking.{soon-from}
use Rattle.mmt_expect.specs.Found.{is_found}
use Rattle.mmt_model.specs.Expected.{places}
use Rattle.mmt_expect.proofs.counting.expected_units.Goals as goal
use Rattle.mmt_expect.proofs.counting.expected_units.Goals.{then-is_expected, else-is_expected}

pub loop-unit-init : goal.loop-unit-init
loop-unit-init c = record { count = none-counted (is_found c.args.cast.now c.in_ok-found.found); few = omega arith }

pub loop-unit-preserved : goal.loop-unit-preserved
loop-unit-preserved c =
    elim c.if-is_expected.branch [
      | then-is_expected w ↦ record {
        count = w.count-is ∙ count-next (is_found c.args.cast.now c.in_ok-found.found) c.loop-unit.unit true c.loop-unit.count c.loop-unit.invariant.count (sym w.if-is_expected.true ∙ c.is_expected.ensures);
        few = omega arith;
      }
      | else-is_expected w ↦ record {
        count = w.count-is ∙ count-next (is_found c.args.cast.now c.in_ok-found.found) c.loop-unit.unit false c.loop-unit.count c.loop-unit.invariant.count (sym w.if-is_expected.false ∙ c.is_expected.ensures);
        few = omega arith;
      }
    ]

pub returns : goal.returns
returns c = λ contents names_in right.
    let fits = readable c.args.programme.now c.args.cast.now c.requires.right c.requires.none c.requires.cast in
    let all : c.loop-unit.unit ≡ length c.args.cast.now.units = omega arith in
    c.loop-unit.invariant.count
    ∙ (ap (λ n. length (filter (is_found c.args.cast.now c.in_ok-found.found) (places n))) all
    ∙ count-is c.args.programme.now c.args.cast.now c.args.list.now c.in_ok-found.found contents names_in c.requires.cast c.requires.admitted right
    (soon-from c.args.cast.now.packets fits.packets.ticks) c.requires.of (λ u l. (fits.units u l).2) c.in_ok-found.ensures)
