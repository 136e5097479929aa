-- What `take` gives back of a near delivery.
use Rattle.std.proofs.Common.{◌≡◌, ℕ, List, ◌++◌, refl, ap}
use Rattle.mmt_model.specs.Delivery.{newest_first}
use Rattle.mmt_model.specs.Handing.{Presentation}
use Rattle.mmt_model.specs.declared.casts.Cast.{Cast}
use Rattle.mmt_model.specs.declared.programmes.Programme.{Programme}
use Rattle.mmt_output.specs.Records.{amount_of}
use Rattle.mmt_recv.specs.Receiving.{all_units, summary_of}
use Rattle.mmt_sent.specs.Stream.{stream_of}
use Rattle.mmt_io.specs.Output.{Output, output_of}
use Rattle.mmt_stream.specs.Streaming.{Streams}
use Rattle.mmt_stream.specs.declared.end.StreamEnd.{StreamEnd}
use Rattle.mmt_stream.specs.declared.end.StreamEnd.TheVariants as end
use Rattle.mmt_take.specs.Taking.{line_of, taking}
use Rattle.mmt_tlv.specs.Framing.{joined}
use Rattle.mmt_tune.specs.declared.config.Config.{Config}
use Rattle.mmt_headline.proofs.Framed.{streams-framed}
use Rattle.mmt_headline.proofs.Taken.{placed-packets, units-are}
use Rattle.mmt_headline.specs.GivesBack.{NotesQuietly, Reaches, TakeGivesBack}
use Rattle.mmt_headline.specs.Notes.{StreamsAreQuiet}
use Rattle.mmt_headline.specs.Peaks.{HasRoom, ReceiversHaveRoom}
use Rattle.mmt_headline.specs.Programmes.{ProgrammesAreReceived}
use Rattle.mmt_headline.specs.Taken.{TakesAStart, TakesDelivery, all_taken, expected_of, placed_of}

quietly : (config : Config) (programme : Programme) (cast : Cast) (files : ℕ → List ℕ) (delivery : List ℕ) → ProgrammesAreReceived → ReceiversHaveRoom → StreamsAreQuiet → Reaches config programme cast files delivery
    → NotesQuietly config programme cast files delivery (all_taken config programme cast files delivery).noted
unfolding placed_of
quietly config programme cast files delivery theorem room silence reached =
    let same = placed-packets (newest_first (stream_of programme cast files delivery)) in
    let units : all_units config (placed_of programme cast files delivery) ≡ expected_of programme cast files delivery = units-are config programme cast files delivery theorem reached.sendable reached.receives reached.of reached.near in
    let has : HasRoom config programme (placed_of programme cast files delivery) = room config programme cast files delivery (placed_of programme cast files delivery) reached.sendable reached.receives reached.of reached.near same in
    let silent = silence config programme cast files delivery (placed_of programme cast files delivery) reached.sendable reached.receives reached.of reached.near same in
    record {
      notes = silent.0;
      last = summary_of config (placed_of programme cast files delivery);
      lines = ap (λ (xs : List ℕ). xs ++ line_of (summary_of config (placed_of programme cast files delivery))) silent.2;
      quiet = silent.1;
      counted = refl;
      units = ap (λ (us : List Presentation). (amount_of us).units) units;
      bytes = ap (λ (us : List Presentation). (amount_of us).bytes) units;
      peak = has.peak;
      full = has.full;
    }

pub gives-back : TakesDelivery → TakesAStart → ProgrammesAreReceived → ReceiversHaveRoom → StreamsAreQuiet → TakeGivesBack
gives-back takes start theorem room silence config programme cast files delivery reached limit outcome old new unread reads reads' writes writes' does =
    let s : Streams (taking config) limit outcome old new (joined (stream_of programme cast files delivery)) unread = does.streams in
    let begun = start config programme cast files delivery limit outcome old new unread reached.sendable reached.receives reached.of reached.near s in (
      s.events,
      s.passed.history,
      record {
        notes = (all_taken config programme cast files delivery).noted;
        quiet = quietly config programme cast files delivery theorem room silence reached;
        written = λ e. ap (λ (o : Output). o.written) (taken s e);
        noted = λ e. ap (λ (o : Output). o.noted) (taken s e);
        writing = begun.written;
        noting = begun.noted;
      },
      λ short no_read no_write. does.complete (stream_of programme cast files delivery) (streams-framed programme cast files delivery reached.sendable reached.of) short no_read no_write,
    )
  where
    at : (o : StreamEnd) (s : Streams (taking config) limit o old new (joined (stream_of programme cast files delivery)) unread) → o ≡ end.Done → output_of s.events ≡ all_taken config programme cast files delivery
    at end.Done s e = takes config programme cast files delivery limit old new unread reached.sendable reached.receives reached.of reached.near s
    at end.ReadFault s e = absurd cc
    at end.WriteFault s e = absurd cc
    at (end.Broken kind place) s e = absurd cc
    at end.OutOfMemory s e = absurd cc
    at end.TooLong s e = absurd cc

    taken : (s : Streams (taking config) limit outcome old new (joined (stream_of programme cast files delivery)) unread) → outcome ≡ end.Done → output_of s.events ≡ all_taken config programme cast files delivery
    taken s e = at outcome s e
