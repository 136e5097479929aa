-- What `peak` does.
use Rattle.std.proofs.Common.{◌≡◌, ℕ, List, [], ◌++◌, refl, ap, sym, subst, ◌∙◌}
use Rattle.std.proofs.lemmas.List.{append_cancel_left}
use Rattle.mmt_io.specs.History.{Event, bytes_written}
use Rattle.mmt_model.specs.declared.programmes.FlowChoice.{FlowChoice}
use Rattle.mmt_model.specs.declared.programmes.Params.{Params}
use Rattle.mmt_stream.specs.Streaming.{Does, Ends}
use Rattle.mmt_stream.specs.declared.end.StreamEnd.{StreamEnd}
use Rattle.mmt_stream.specs.declared.end.StreamEnd.TheVariants as end
use Rattle.mmt_peak.specs.Peaking.{peaking}
use Rattle.mmt_cli.proofs.Quiet.{no_front, notes_nothing}
use Rattle.mmt_cli.specs.Moments.{Moment}
use Rattle.mmt_cli.specs.Peaks.{IsCutShort, Peaks}
use Rattle.mmt_cli.specs.Statuses.{status_of}
use Rattle.mmt_cli.specs.declared.status.Status.{Status}

-- a run that is cut short has written nothing
cut_short : (flow : FlowChoice) (params : Params) (limit : ℕ) (outcome : StreamEnd) (events : List Event) (unread : List ℕ) → Ends (peaking flow params) limit outcome events unread → IsCutShort outcome → bytes_written events ≡ []
cut_short flow params limit end.Done events unread e is = absurd is
cut_short flow params limit end.WriteFault events unread e is = absurd is
cut_short flow params limit (end.Broken kind place) events unread e is = absurd is
cut_short flow params limit end.ReadFault events unread (packets, tail, shown, front, within) is = ap (λ o. o.written) shown.output
cut_short flow params limit end.TooLong events unread (packets, tail, seen, byte, read, full, framed, front, output, out) is = ap (λ o. o.written) output
cut_short flow params limit end.OutOfMemory events unread ((packets, tail, framed, begun), over, within) is = no_front (bytes_written events) _ begun.written refl

pub peak_peaks : (flow : FlowChoice) (params : Params) (limit : ℕ) (outcome : StreamEnd) (status : Status) (old new : Moment) → status ≡ status_of outcome
    → Does (peaking flow params) limit outcome old.history new.history old.left new.left old.reads new.reads old.writes new.writes → Peaks flow params limit status old new
peak_peaks flow params limit outcome status old new told does = record {
  end = outcome;
  told = told;
  does = does;
  quiet = notes_nothing (peaking flow params) (λ p. refl) (λ p. refl) limit outcome old.history new.history old.left new.left old.reads new.reads old.writes new.writes does;
  unwritten = λ short events is.
      let s = does.streams in
      subst (λ e. bytes_written e ≡ []) (append_cancel_left old.history s.events events (sym s.passed.history ∙ is)) (cut_short flow params limit outcome s.events new.left s.ends short);
}
