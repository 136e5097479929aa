use Rattle.std.proofs.Common.{◌≡◌, ◌+◌, ◌*◌, ◌<◌, ◌≤◌, ◌%◌, ◌^◌, ◌∷◌, [], length, map, sym, ◌∙◌, ap, arith}
use Rattle.mmt_model.specs.Units.{next_number}
use Rattle.mmt_pool.specs.Holding.{held}
use Rattle.mmt_runs.specs.Reading.{heard}
use Rattle.mmt_runs.specs.Messages.{messages_with, message_of, short_bytes}
use Rattle.mmt_runs.specs.MessageParts.{all_parts}
use Rattle.mmt_runs.proofs.Whole.{no_message, no_rest_message, rest_message, message_fits, left_at_first, short_messages}
use Rattle.mmt_runs.proofs.messages.whole_message_of.Goals as goal

pub returns-then-not-may_be_whole-clause-short : goal.returns-then-not-may_be_whole-clause-short
returns-then-not-may_be_whole-clause-short c =
    λ h i n. short_messages (map heard c.args.pool.now.kept) h c.args.span.packet_id c.args.span.number i n ∙ ap short_bytes (c.may_be_whole.ensures c.if-not-may_be_whole.true)

none_is : (c : goal.In-None) → messages_with (map heard c.args.pool.now.kept) c.args.span.packet_id c.args.span.number ≡ []
none_is c =
    let b : held c.args.pool.now.kept < 2 ^ 32 = omega (arith, c.held-most.ensures.sum) in
    no_message c.args.pool.now.kept c.args.span.packet_id c.args.span.number (omega arith) b c.held-most.ensures.in_order c.held-most.ensures.keepable (rw c.held-most.ensures.sum at (sym c.in-None.ensures))

pub returns-in-None-clause-message : goal.returns-in-None-clause-message
returns-in-None-clause-message c = none_is c

pub returns-in-None-clause-short : goal.returns-in-None-clause-short
returns-in-None-clause-short c = λ h i n. short_messages (map heard c.args.pool.now.kept) h c.args.span.packet_id c.args.span.number i n ∙ ap short_bytes (none_is c)

fits : (c : goal.In-Some-rest_of) → 2 + length c.in-Some.found.1.now + (2 * c.in-Some-rest_of.count + c.in-Some-rest_of.length) ≤ held c.args.pool.now.kept
unfolding next_number
fits c =
    let b : held c.args.pool.now.kept < 2 ^ 32 = omega (arith, c.held-most.ensures.sum) in
    message_fits c.args.pool.now.kept c.args.span.packet_id c.args.span.number c.in-Some.found.0 c.in-Some.found.1.now c.in-Some-rest_of.count c.in-Some-rest_of.length (omega arith) b (rw c.held-most.ensures.sum at (sym c.in-Some.ensures)) (rw c.held-most.ensures.sum at c.in-Some-rest_of.ensures)

pub overflow_add-result : goal.overflow_add-result
overflow_add-result c = omega (arith, fits c, c.held-most.ensures.sum)

pub overflow_cast-result : goal.overflow_cast-result
overflow_cast-result c = omega (arith, fits c, c.held-most.ensures.sum)

pub overflow_add-result-in-Some-rest_of : goal.overflow_add-result-in-Some-rest_of
overflow_add-result-in-Some-rest_of c = omega (arith, fits c, c.held-most.ensures.sum)

no_rest_is : (c : goal.In-None-rest_of) → messages_with (map heard c.args.pool.now.kept) c.args.span.packet_id c.args.span.number ≡ []
unfolding next_number
no_rest_is c =
    let b : held c.args.pool.now.kept < 2 ^ 32 = omega (arith, c.held-most.ensures.sum) in
    no_rest_message c.args.pool.now.kept c.args.span.packet_id c.args.span.number c.in-Some.found.0 c.in-Some.found.1.now (omega arith) b c.held-most.ensures.in_order c.held-most.ensures.keepable (rw c.held-most.ensures.sum at (sym c.in-Some.ensures)) (rw c.held-most.ensures.sum at c.in-None-rest_of.ensures)

pub returns-in-None-rest_of-clause-message : goal.returns-in-None-rest_of-clause-message
returns-in-None-rest_of-clause-message c = no_rest_is c

pub returns-in-None-rest_of-clause-short : goal.returns-in-None-rest_of-clause-short
returns-in-None-rest_of-clause-short c = λ h i n. short_messages (map heard c.args.pool.now.kept) h c.args.span.packet_id c.args.span.number i n ∙ ap short_bytes (no_rest_is c)

rest_is : (c : goal.In-Some-rest_of) → messages_with (map heard c.args.pool.now.kept) c.args.span.packet_id c.args.span.number
    ≡ message_of (record { number = c.in-Some.found.0; left = all_parts (map heard c.args.pool.now.kept) c.args.span.packet_id (c.in-Some-rest_of.count + 1) c.in-Some.found.1.now ((c.in-Some.found.0 + 1) % 2 ^ 32) }) ∷ []
unfolding next_number
rest_is c =
    let b : held c.args.pool.now.kept < 2 ^ 32 = omega (arith, c.held-most.ensures.sum) in
    rw (left_at_first (map heard c.args.pool.now.kept) c.args.span.packet_id c.in-Some-rest_of.count ((c.in-Some.found.0 + 1) % 2 ^ 32) c.in-Some.found.1.now)
    (rest_message c.args.pool.now.kept c.args.span.packet_id c.args.span.number c.in-Some.found.0 c.in-Some.found.1.now c.in-Some-rest_of.count c.in-Some-rest_of.length (omega arith) b c.held-most.ensures.in_order c.held-most.ensures.keepable (rw c.held-most.ensures.sum at (sym c.in-Some.ensures)) (rw c.held-most.ensures.sum at c.in-Some-rest_of.ensures))

pub returns-in-Some-rest_of-clause-message : goal.returns-in-Some-rest_of-clause-message
returns-in-Some-rest_of-clause-message c = rest_is c

pub returns-in-Some-rest_of-clause-short : goal.returns-in-Some-rest_of-clause-short
returns-in-Some-rest_of-clause-short c = λ h i n. short_messages (map heard c.args.pool.now.kept) h c.args.span.packet_id c.args.span.number i n ∙ ap short_bytes (rest_is c)
