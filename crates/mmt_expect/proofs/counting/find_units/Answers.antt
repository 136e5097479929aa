use Rattle.std.proofs.Common.{◌<◌, ◌^◌, ℕ, List, length, get_or, arith, ap, sym, subst}
use Rattle.std.specs.List.{All}
use Rattle.mmt_expect.proofs.Expected.{signal-known}
use Rattle.mmt_expect.proofs.Premises.{readable}
use Rattle.mmt_expect.proofs.Starting.{of-tuned-list}
use Rattle.mmt_model.specs.Carrying.{no_table_copy, table_copy}
use Rattle.mmt_model.specs.Survival.{AreOf}
use Rattle.mmt_model.specs.declared.casts.Sent.{Sent}
use Rattle.mmt_model.specs.declared.casts.TableCopy.{TableCopy}
use Rattle.mmt_expect.proofs.counting.find_units.Goals as goal

pub reaches-requires-clause-of : goal.reaches-requires-clause-of
reaches-requires-clause-of c =
    subst (λ (ps : List Sent). AreOf ps c.tuned-from.result.now) (sym c.as_slice-packets.ensures)
    (subst (AreOf c.args.cast.now.packets) (sym c.tuned-from.ensures) (of-tuned-list c.args.cast.now c.args.programme.now.full_every c.args.list.now c.requires.of))

pub reaches-requires-clause-ticks : goal.reaches-requires-clause-ticks
reaches-requires-clause-ticks c =
    subst (λ (ps : List Sent). All (λ (p : Sent). p.at.0 < 2 ^ 60) ps) (sym c.as_slice-packets.ensures)
    (readable c.args.programme.now c.args.cast.now c.requires.right c.requires.none c.requires.cast).packets.ticks

pub named-requires-clause-known : goal.named-requires-clause-known
unfolding table_copy
named-requires-clause-known c = λ n l.
    let copies = c.as_slice-2.ensures in
    let fits = (readable c.args.programme.now c.args.cast.now c.requires.right c.requires.none c.requires.cast).copies n (omega (arith, l, ap (λ (cs : List TableCopy). length cs) copies)) in
    subst (λ (cs : List TableCopy). All (λ (m : ℕ). m < c.len-3.result) (get_or cs n no_table_copy).names) (sym copies)
    (subst (λ k. All (λ (m : ℕ). m < k) (get_or c.args.cast.now.copies n no_table_copy).names) (sym c.len-3.ensures) fits.2)

pub named-requires-clause-signals : goal.named-requires-clause-signals
named-requires-clause-signals c = λ n l.
    let copies = c.as_slice-2.ensures in
    let known = signal-known c.args.programme.now c.args.cast.now c.requires.cast n (omega (arith, l, ap (λ (cs : List TableCopy). length cs) copies)) in
    omega (arith, known, ap (λ (cs : List TableCopy). (get_or cs n no_table_copy).signal) copies, ap (λ (xs : List ℕ). length xs) c.as_slice-3.ensures.value, c.in_ok-latest.ensures.signals.long, c.len-2.ensures)
