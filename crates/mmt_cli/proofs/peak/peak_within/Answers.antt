use Rattle.std.proofs.Common.{refl, subst}
use Rattle.mmt_model.specs.Delivery.{newest_first, onto}
use Rattle.mmt_stream.specs.Streaming.{Does}
use Rattle.mmt_stream.specs.declared.end.StreamEnd.TheVariants as end
use Rattle.mmt_peak.specs.Peaking.{peaking}
use Rattle.mmt_peak.specs.PeakingGrows.{peaking_grows}
use Rattle.mmt_cli.specs.Moments.{Moment, moment}
use Rattle.mmt_cli.proofs.Quiet.{not_begun}
use Rattle.mmt_cli.proofs.Peaked.{peak_peaks}
use Rattle.mmt_cli.proofs.peak.peak_within.Goals as goal

pub stream-requires-clause-new : goal.stream-requires-clause-new
unfolding newest_first onto
stream-requires-clause-new g c = (c.in-Ok.ensures.seen, refl)

pub returns-in-Ok-clause-peaks : goal.returns-in-Ok-clause-peaks
returns-in-Ok-clause-peaks g c = λ told.
    let old : Moment = moment (g.P.Port.history c.args.port.now) (g.P.Port.left c.args.port.now) (g.P.Port.read_faults c.args.port.now) (g.P.Port.write_faults c.args.port.now) in
    let new : Moment = moment (g.P.Port.history c.stream.new.port) (g.P.Port.left c.stream.new.port) (g.P.Port.read_faults c.stream.new.port) (g.P.Port.write_faults c.stream.new.port) in
    peak_peaks c.args.flow c.args.params c.args.limit c.stream.result c.from.result old new c.from.ensures
    (subst (λ r. Does (peaking c.args.flow r) c.args.limit c.stream.result old.history new.history old.left new.left old.reads new.reads old.writes new.writes) c.in-Ok.ensures.params
    (subst (λ f. Does (peaking f c.in-Ok.command.buffer.params) c.args.limit c.stream.result old.history new.history old.left new.left old.reads new.reads old.writes new.writes) c.in-Ok.ensures.flow
    (c.stream.ensures.does told)))

pub returns-in-Err-clause-peaks : goal.returns-in-Err-clause-peaks
returns-in-Err-clause-peaks g c = λ told.
    let old : Moment = moment (g.P.Port.history c.args.port.now) (g.P.Port.left c.args.port.now) (g.P.Port.read_faults c.args.port.now) (g.P.Port.write_faults c.args.port.now) in
    peak_peaks c.args.flow c.args.params c.args.limit end.OutOfMemory _ old old refl
    (not_begun (peaking c.args.flow c.args.params) c.args.limit old.history old.left old.reads old.writes (peaking_grows c.args.flow c.args.params))
