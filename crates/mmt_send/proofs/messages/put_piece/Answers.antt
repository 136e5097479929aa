use Rattle.std.proofs.Common.{◌≤◌, List, ℕ, length, arith, ap}
use Rattle.mmt_send.proofs.Lone.{added-long}
use Rattle.mmt_send.proofs.Pieces.{part-short, piece-long}
use Rattle.mmt_send.proofs.messages.put_piece.Goals as goal

pub returns-clause-long : goal.returns-clause-long
returns-clause-long c =
    let short : length c.part-bytes.result.now ≤ 60000 = omega (arith, ap (λ (xs : List ℕ). length xs) c.part-bytes.ensures, part-short c.args.job.now.programme.now.limit c.args.piece.now.number c.as_slice.result.now, c.requires.job.right.limit) in
    added-long c.write_sig.new.out.items c.args.out.now.items _ 60002 60022 c.in_ok-write_sig.ensures.ok (omega (arith, piece-long c.args.piece.now.part c.args.piece.now.left c.part-bytes.result.now, short)) (omega arith)
