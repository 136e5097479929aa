use Rattle.std.proofs.Common.{arith}
use Rattle.mmt_command.proofs.FlowTexts.{read_more, still_below, fits_address, not_digits, hex_none}
use Rattle.mmt_command.proofs.flows.address_of.Goals as goal

pub loop-byte-init : goal.loop-byte-init
loop-byte-init c = record { below = omega arith; read = hex_none 0 }

pub overflow_mul-address : goal.overflow_mul-address
overflow_mul-address c = let b = fits_address c.loop-byte.address 0 c.loop-byte.byte-index c.loop-byte.invariant.below (omega arith) (omega arith) in omega arith

pub overflow_add-address : goal.overflow_add-address
overflow_add-address c = let b = fits_address c.loop-byte.address c.in-Some.digit c.loop-byte.byte-index c.loop-byte.invariant.below c.in-Some.ensures.some.0 (omega arith) in omega arith

pub returns-in-None-clause-none : goal.returns-in-None-clause-none
returns-in-None-clause-none c = λ a is. not_digits c.args.text.now c.loop-byte.byte-index a (omega arith) c.in-None.ensures.none is

pub loop-byte-preserved : goal.loop-byte-preserved
loop-byte-preserved c = record {
  below = still_below c.loop-byte.address c.in-Some.digit c.loop-byte.byte-index c.loop-byte.invariant.below c.in-Some.ensures.some.0;
  read = read_more c.args.text.now c.loop-byte.byte-index c.loop-byte.address c.in-Some.digit c.loop-byte-test.true c.in-Some.ensures.some.0 c.loop-byte.invariant.read c.in-Some.ensures.some.1;
}
