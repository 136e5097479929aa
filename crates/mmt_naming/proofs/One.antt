-- What one finding teaches and notes.
use Rattle.std.proofs.Common.{◌≡◌, ◌≢◌, ℕ, List, [], ◌∷◌, refl, ap, ap₂, sym, ◌∙◌}
use Rattle.std.specs.Prelude.{Result, Ok, Err, OnOk}
use Rattle.std.specs.List.{flat_map}
use Rattle.std.proofs.lemmas.List.{append-nil}
use Rattle.mmt_model.specs.Entries.{Entry, learn, learn_one}
use Rattle.mmt_times.specs.declared.learned.Learned.{Learned}
use Rattle.mmt_times.specs.declared.learned.Learned.TheVariants as learned
use Rattle.mmt_times.specs.Known.{Known}
use Rattle.mmt_times.specs.Learning.{Verdict, verdict}
use Rattle.mmt_times.specs.LearnedView.{ChangesNothing}
use Rattle.mmt_output.specs.Notes.{note_text}
use Rattle.mmt_output.specs.declared.notes.Note.{Note}
use Rattle.mmt_naming.specs.Findings.{Remark, Naming, notes_of, notes_of_name}
use Rattle.mmt_naming.specs.Lines.{learned_by, lines_of}

-- a result that is there
pub on_ok : {T E A : Type 0} (r : Result T E) → A → OnOk r A
on_ok (Ok x) a = a
on_ok (Err e) a = tt

-- every answer but New leaves the entries as they were
pub unchanged : (l : Learned) (old new : Known) → l ≢ learned.New → ChangesNothing l old new → new ≡ old
unchanged learned.New old new not_new same = absurd (not_new refl)
unchanged learned.Known old new not_new same = same
unchanged (learned.Differs kept) old new not_new same = same
unchanged learned.Past old new not_new same = same
unchanged learned.EntriesFull old new not_new same = same

-- an entry that is learned
pub learned_one : (now message : ℕ) (e : Entry) (old new : Known) → new.entries ≡ learn_one now old.entries e → new.sample_base ≡ old.sample_base → new ≡ learned_by now old (Naming message e ∷ [])
unfolding learn
learned_one now message e old new entries base = ap₂ (λ (es : List Entry) (b : ℕ). record { entries = es; sample_base = b }) entries base

-- a note teaches nothing
pub learned_none : (now : ℕ) (known : Known) → known ≡ learned_by now known []
unfolding learn
learned_none now known = refl

-- what is noted of an entry, by what becomes of it
pub lines_one : (place now message : ℕ) (live : List Entry) (e : Entry) (v : Verdict) → v ≡ verdict now live e → flat_map (note_text place) (notes_of_name message e v) ≡ lines_of place now live (Naming message e ∷ [])
unfolding notes_of
lines_one place now message live e v is = ap (λ x. flat_map (note_text place) (notes_of_name message e x)) is ∙ ap (flat_map (note_text place)) (sym (append-nil (notes_of_name message e (verdict now live e))))

-- a note is noted
pub lines_remark : (place now : ℕ) (live : List Entry) (note : Note) → note_text place note ≡ lines_of place now live (Remark note ∷ [])
unfolding notes_of
lines_remark place now live note = sym (append-nil (note_text place note))

-- and nothing is noted of nothing
pub lines_none : (place now : ℕ) (live : List Entry) → [] ≡ lines_of place now live []
unfolding notes_of
lines_none place now live = refl
