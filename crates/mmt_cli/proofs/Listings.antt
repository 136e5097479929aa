-- What `list` does.
use Rattle.std.proofs.Common.{◌≡◌, ℕ, refl}
use Rattle.mmt_stream.specs.Streaming.{Does}
use Rattle.mmt_stream.specs.declared.end.StreamEnd.{StreamEnd}
use Rattle.mmt_cli.proofs.Quiet.{notes_nothing}
use Rattle.mmt_cli.specs.Listing.{listing, Lists}
use Rattle.mmt_cli.specs.Moments.{Moment}
use Rattle.mmt_cli.specs.Statuses.{status_of}
use Rattle.mmt_cli.specs.declared.status.Status.{Status}

pub list_lists : (limit : ℕ) (outcome : StreamEnd) (status : Status) (old new : Moment) → status ≡ status_of outcome
    → Does listing limit outcome old.history new.history old.left new.left old.reads new.reads old.writes new.writes → Lists limit status old new
list_lists limit outcome status old new told does =
    record {
      end = outcome;
      told = told;
      does = does;
      quiet = notes_nothing listing (λ p. refl) (λ p. refl) limit outcome old.history new.history old.left new.left old.reads new.reads old.writes new.writes does;
    }
