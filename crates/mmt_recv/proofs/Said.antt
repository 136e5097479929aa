-- What the messages of a payload say, case by case.
use Rattle.std.proofs.Common.{◌≡◌, ℕ, ◌<◌, List, [], ◌∷◌, length, ap, sym, ◌∙◌, arith}
use Rattle.std.specs.Prelude.{nat_le, false}
use Rattle.std.proofs.lemmas.Bool.{false_from_ne_true, leb-true}
use Rattle.mmt_io.specs.History.{Event}
use Rattle.mmt_model.specs.declared.programmes.Params.{Params}
use Rattle.mmt_model.specs.Entries.{Entry}
use Rattle.mmt_model.specs.Units.{Message}
use Rattle.mmt_times.specs.Known.{Known}
use Rattle.mmt_output.specs.declared.notes.Note.TheVariants as notes
use Rattle.mmt_io.specs.Output.{only_noted, Puts}
use Rattle.mmt_output.proofs.Putting.{puts_nothing}
use Rattle.mmt_naming.specs.Findings.{Finding, Remark, findings_of_joined}
use Rattle.mmt_naming.specs.Lines.{learned_by, lines_of}
use Rattle.mmt_naming.proofs.One.{learned_none, lines_none}

-- nothing is said
pub learned_silent : (now : ℕ) (known : Known) (fs : List Finding) → [] ≡ fs → known ≡ learned_by now known fs
learned_silent now known fs none = learned_none now known ∙ ap (λ x. learned_by now known x) none

pub noted_silent : (place now : ℕ) (live : List Entry) (fs : List Finding) (history : List Event) → [] ≡ fs → Puts history history (only_noted (lines_of place now live fs))
noted_silent place now live fs history none = rw (sym none) (rw (sym (lines_none place now live)) (puts_nothing history))

-- a message that is too long
pub too_long : (timescale : ℕ) (tuned : Params) (m : Message) (size : ℕ) → size ≡ length m.bytes → 131072 < size → Remark (notes.MessageLong 0 size) ∷ [] ≡ findings_of_joined timescale tuned m
too_long timescale tuned m size is long =
    let no' : nat_le (length m.bytes) 131072 ≡ false = false_from_ne_true (nat_le (length m.bytes) 131072) (λ e. omega (arith, leb-true (length m.bytes) 131072 e, is, long)) in
    rw no' (ap (λ n. Remark (notes.MessageLong 0 n) ∷ []) is)
