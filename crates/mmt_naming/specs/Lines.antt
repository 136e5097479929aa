-- What findings leave: the names after them, and the lines that they note.
use Rattle.std.specs.Prelude.{◌≡◌, ℕ, List, Result, OnOk}
use Rattle.std.specs.List.{flat_map}
use Rattle.mmt_model.specs.Entries.{Entry, learn}
use Rattle.mmt_times.specs.Known.{Known}
use Rattle.mmt_output.specs.Notes.{note_text}
use Rattle.mmt_naming.specs.declared.by.By.{By}
use Rattle.mmt_naming.specs.Findings.{Finding, names_among, notes_of}

-- the live entries after those that findings name were learned at a clock (this project's rule)
abbrev pub learned_by : ℕ → Known → List Finding → Known
learned_by now known fs = record { entries = learn now known.entries (names_among fs); sample_base = known.sample_base }

-- the lines of what is noted of findings, at a place of the stream (this project's rule)
abbrev pub lines_of : ℕ → ℕ → List Entry → List Finding → List ℕ
lines_of place now live fs = flat_map (note_text place) (notes_of now live fs)

-- the lines that the findings of a packet note, by what its messages are read by
abbrev pub lines_by : By → Known → List Finding → List ℕ
lines_by by known fs = lines_of by.place by.clock.0 known.entries fs

-- the names after a call that ended well are those that these findings add to
abbrev pub Learns : {T E : Type 0} → By → List Finding → Known → Known → Result T E → Type 0
Learns by fs old new result = OnOk result (new ≡ learned_by by.clock.0 old fs)
