-- What a call teaches and notes, where its findings are known, and where those of a loop come to their end.
use Rattle.std.proofs.Common.{◌≡◌, ℕ, List, [], ◌∷◌, ◌++◌, sym, subst, ap, ◌∙◌}
use Rattle.std.specs.Prelude.{Result, OnOk}
use Rattle.mmt_io.specs.History.{Event}
use Rattle.mmt_times.specs.Known.{Known}
use Rattle.mmt_output.specs.Notes.{note_text}
use Rattle.mmt_output.specs.declared.notes.Note.{Note}
use Rattle.mmt_io.specs.Output.{only_noted, Puts, PutsPrefix, Put}
use Rattle.mmt_output.proofs.Putting.{puts_nothing}
use Rattle.mmt_naming.specs.Begun.{Begun}
use Rattle.mmt_naming.specs.Findings.{Finding, Remark}
use Rattle.mmt_naming.specs.Lines.{learned_by, lines_of}
use Rattle.mmt_naming.proofs.Begun.{begun_end}
use Rattle.mmt_naming.proofs.Taking.{learned_more, lines_more, lines_part}
use Rattle.mmt_naming.proofs.One.{learned_none, lines_remark, lines_none}

-- ---- no finding

pub nothing_learned : (now : ℕ) (known : Known) (fs : List Finding) → fs ≡ [] → known ≡ learned_by now known fs
nothing_learned now known fs none = rw none (learned_none now known)

pub nothing_put : (place now : ℕ) (known : Known) (fs : List Finding) (history : List Event) → fs ≡ [] → Puts history history (only_noted (lines_of place now known.entries fs))
nothing_put place now known fs history none =
    rw none (let P : List ℕ → Type 0 = λ x. Puts history history (only_noted x) in subst P (lines_none place now known.entries) (puts_nothing history))

-- ---- one note

pub remark_learned : (now : ℕ) (known : Known) (fs : List Finding) (note : Note) → fs ≡ Remark note ∷ [] → known ≡ learned_by now known fs
remark_learned now known fs note one = rw one (learned_none now known)

pub remark_put : {T E : Type 0} (place now : ℕ) (known : Known) (fs : List Finding) (note : Note) (old new : List Event) (result : Result T E) → fs ≡ Remark note ∷ [] → Put old new (only_noted (note_text place note)) result
    → Put old new (only_noted (lines_of place now known.entries fs)) result
remark_put place now known fs note old new result one p =
    let P : List ℕ → Type 0 = λ x. Put old new (only_noted x) result in
    subst P (lines_remark place now known.entries note ∙ ap (lines_of place now known.entries) (sym one)) p

-- ---- the same findings

pub same_learned : {T E : Type 0} (now : ℕ) (old new : Known) (fs gs : List Finding) (result : Result T E) → fs ≡ gs → OnOk result (new ≡ learned_by now old fs) → OnOk result (new ≡ learned_by now old gs)
same_learned now old new fs gs result same p =
    let P : List Finding → Type 0 = λ x. OnOk result (new ≡ learned_by now old x) in
    subst P same p

pub same_put : {T E : Type 0} (place now : ℕ) (known : Known) (fs gs : List Finding) (old new : List Event) (result : Result T E) → fs ≡ gs → Put old new (only_noted (lines_of place now known.entries fs)) result
    → Put old new (only_noted (lines_of place now known.entries gs)) result
same_put place now known fs gs old new result same p =
    let P : List Finding → Type 0 = λ x. Put old new (only_noted (lines_of place now known.entries x)) result in
    subst P same p

-- ---- a loop over findings

pub learned_step : (now : ℕ) (start before after : Known) (all whole fs left : List Finding) → whole ≡ fs ++ left → learned_by now before whole ≡ learned_by now start all → after ≡ learned_by now before fs → learned_by now after left ≡ learned_by now start all
learned_step now start before after all whole fs left split same is =
    learned_more now start before after all fs left (let P : List Finding → Type 0 = λ x. learned_by now before x ≡ learned_by now start all in subst P split same) is

pub lines_step : (place now : ℕ) (old mid new : List Event) (lines : List ℕ) (before after : Known) (whole fs left : List Finding) → whole ≡ fs ++ left → Begun old mid lines (lines_of place now before.entries whole) → after ≡ learned_by now before fs
    → Puts mid new (only_noted (lines_of place now before.entries fs)) → Begun old new lines (lines_of place now after.entries left)
lines_step place now old mid new lines before after whole fs left split b is p =
    let P : List Finding → Type 0 = λ x. Begun old mid lines (lines_of place now before.entries x) in
    lines_more place now old mid new lines before after fs left (subst P split b) is p

pub lines_stop : (place now : ℕ) (old mid new : List Event) (lines : List ℕ) (before : Known) (whole fs left : List Finding) → whole ≡ fs ++ left → Begun old mid lines (lines_of place now before.entries whole)
    → PutsPrefix mid new (only_noted (lines_of place now before.entries fs)) → PutsPrefix old new (only_noted lines)
lines_stop place now old mid new lines before whole fs left split b p =
    let P : List Finding → Type 0 = λ x. Begun old mid lines (lines_of place now before.entries x) in
    lines_part place now old mid new lines before fs left (subst P split b) p

pub learned_end : (now : ℕ) (start known : Known) (all left : List Finding) → left ≡ [] → learned_by now known left ≡ learned_by now start all → known ≡ learned_by now start all
learned_end now start known all left none same =
    let P : List Finding → Type 0 = λ x. learned_by now known x ≡ learned_by now start all in
    learned_none now known ∙ subst P none same

pub lines_end : (place now : ℕ) (old new : List Event) (lines : List ℕ) (known : Known) (left : List Finding) → left ≡ [] → Begun old new lines (lines_of place now known.entries left) → Puts old new (only_noted lines)
lines_end place now old new lines known left none b =
    let P : List ℕ → Type 0 = λ x. Begun old new lines x in
    begun_end old new lines (subst P (ap (lines_of place now known.entries) none ∙ sym (lines_none place now known.entries)) b)
