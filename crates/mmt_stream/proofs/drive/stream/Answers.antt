use Rattle.mmt_stream.proofs.Exact.{does}
use Rattle.mmt_stream.proofs.Turns.{turn_new, nothing_yet}
use Rattle.mmt_stream.proofs.drive.stream.Goals as goal

pub returns-in-Err-clause-does : goal.returns-in-Err-clause-does
returns-in-Err-clause-does g c = λ told. does _ _ _ _ _ _ _ _ _ _ _ (nothing_yet _ _ _ _ (g.met.C.Consumer.grows c.args.consumer)) (λ e. absurd cc) (λ e. absurd cc)

pub returns-in-Err-vec-clause-does : goal.returns-in-Err-vec-clause-does
returns-in-Err-vec-clause-does g c = λ told. does _ _ _ _ _ _ _ _ _ _ _ (nothing_yet _ _ _ _ (g.met.C.Consumer.grows c.args.consumer)) (λ e. absurd cc) (λ e. absurd cc)

pub returns-clause-does : goal.returns-clause-does
returns-clause-does g c = λ told.
    does _ _ _ _ _ _ _ _ _ _ _
    (c.read_through.ensures.streams told (turn_new _ _ _ _ _ _ c.args.consumer _ (g.met.C.Consumer.grows c.args.consumer) c.in-Ok.ensures c.requires.new.0 c.requires.new.1))
    c.read_through.ensures.read_fault c.read_through.ensures.write_fault
