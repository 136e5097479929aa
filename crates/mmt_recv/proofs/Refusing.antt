-- What was written where a call that notes was refused.
use Rattle.std.proofs.Common.{◌≡◌, ℕ, List, [], ◌∷◌, ◌++◌, refl, ap, sym, ◌∙◌, append-nil}
use Rattle.mmt_io.specs.History.{Event, bytes_written}
use Rattle.mmt_io.specs.Output.{Puts, PutsPrefix, only_noted, only_written}
use Rattle.mmt_io.proofs.Passing.{bytes_written-append}
use Rattle.mmt_recv.specs.Written.{HasWritten}

-- a prefix of no bytes
no_bytes : (part rest : List ℕ) → [] ≡ part ++ rest → part ≡ []
no_bytes [] rest is = refl
no_bytes (x ∷ xs) rest is = absurd cc

-- where a prefix of a note went out, nothing was written
pub wrote_nothing : (old new : List Event) (noted : List ℕ) → PutsPrefix old new (only_noted noted) → HasWritten old new []
wrote_nothing old new noted p =
    let (rest, is) = p.start.written in
    ap bytes_written p.history ∙ (bytes_written-append old p.events ∙ ap (λ (xs : List ℕ). bytes_written old ++ xs) (no_bytes (bytes_written p.events) rest is))

-- where all bytes went out, and then a prefix of a note
pub wrote_all : (old mid new : List Event) (bytes all noted : List ℕ) → bytes ≡ all → Puts old mid (only_written bytes) → PutsPrefix mid new (only_noted noted) → HasWritten old new all
wrote_all old mid new bytes all noted same p q =
    wrote_nothing mid new noted q ∙ (append-nil (bytes_written mid)
    ∙ (ap bytes_written p.history ∙ (bytes_written-append old p.events ∙ ap (λ (xs : List ℕ). bytes_written old ++ xs) (ap (λ o. o.written) p.output ∙ same))))
