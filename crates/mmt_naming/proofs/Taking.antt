-- Findings that are taken one after another: what they note and what they teach.
use Rattle.std.proofs.Common.{◌≡◌, ℕ, List, [], ◌∷◌, ◌++◌, refl, ap, sym, subst, ◌∙◌, append_assoc}
use Rattle.std.specs.List.{flat_map}
use Rattle.std.proofs.lemmas.Grind.{flat_map-append}
use Rattle.mmt_io.specs.History.{Event}
use Rattle.mmt_model.specs.Entries.{Entry, learn, learn_one}
use Rattle.mmt_times.specs.Known.{Known}
use Rattle.mmt_times.specs.Learning.{verdict}
use Rattle.mmt_output.specs.Notes.{note_text}
use Rattle.mmt_io.specs.Output.{only_noted, Puts, PutsPrefix}
use Rattle.mmt_naming.specs.Findings.{Finding, Remark, Naming, name_in, names_among, notes_of, notes_of_name}
use Rattle.mmt_naming.specs.Lines.{learned_by, lines_of}
use Rattle.mmt_naming.specs.Begun.{Begun}
use Rattle.mmt_naming.proofs.Begun.{begun_more, begun_part}

-- some entries, and then others
pub learn_both : (now : ℕ) (live xs ys : List Entry) → learn now live (xs ++ ys) ≡ learn now (learn now live xs) ys
unfolding learn
learn_both now live [] ys = refl
learn_both now live (x ∷ xs) ys = learn_both now (learn_one now live x) xs ys

-- the names of some findings and then of others
pub names_both : (fs gs : List Finding) → names_among (fs ++ gs) ≡ names_among fs ++ names_among gs
names_both fs gs = flat_map-append name_in fs gs

-- what is noted of some findings, and then of others from the entries that the first give
pub notes_both : (now : ℕ) (live : List Entry) (fs gs : List Finding) → notes_of now live (fs ++ gs) ≡ notes_of now live fs ++ notes_of now (learn now live (names_among fs)) gs
unfolding notes_of learn
notes_both now live [] gs = refl
notes_both now live (Remark note ∷ fs) gs = ap (λ ns. note ∷ ns) (notes_both now live fs gs)
notes_both now live (Naming message e ∷ fs) gs =
    ap (λ ns. notes_of_name message e (verdict now live e) ++ ns) (notes_both now (learn_one now live e) fs gs)
    ∙ sym (append_assoc (notes_of_name message e (verdict now live e)) (notes_of now (learn_one now live e) fs) (notes_of now (learn now (learn_one now live e) (names_among fs)) gs))

-- the lines of some findings, and then of others
pub lines_both : (place now : ℕ) (known : Known) (fs gs : List Finding) → lines_of place now known.entries (fs ++ gs) ≡ lines_of place now known.entries fs ++ lines_of place now (learned_by now known fs).entries gs
lines_both place now known fs gs =
    ap (flat_map (note_text place)) (notes_both now known.entries fs gs) ∙ flat_map-append (note_text place) (notes_of now known.entries fs) (notes_of now (learn now known.entries (names_among fs)) gs)

-- the entries after some findings, and then after others
pub learned_both : (now : ℕ) (known : Known) (fs gs : List Finding) → learned_by now known (fs ++ gs) ≡ learned_by now (learned_by now known fs) gs
learned_both now known fs gs =
    let of : List Entry → Known = λ es. record { entries = es; sample_base = known.sample_base } in
    ap (λ es. of (learn now known.entries es)) (names_both fs gs) ∙ ap of (learn_both now known.entries (names_among fs) (names_among gs))

-- ---- the first of the findings that are left were taken

-- what is left teaches the same from the entries that the first give
pub learned_more : (now : ℕ) (start before after : Known) (all fs left : List Finding) → learned_by now before (fs ++ left) ≡ learned_by now start all → after ≡ learned_by now before fs → learned_by now after left ≡ learned_by now start all
learned_more now start before after all fs left same is = ap (λ k. learned_by now k left) is ∙ (sym (learned_both now before fs left) ∙ same)

-- their lines were noted
pub lines_more : (place now : ℕ) (old mid new : List Event) (whole : List ℕ) (before after : Known) (fs left : List Finding) → Begun old mid whole (lines_of place now before.entries (fs ++ left)) → after ≡ learned_by now before fs → Puts mid new (only_noted (lines_of place now before.entries fs))
    → Begun old new whole (lines_of place now after.entries left)
lines_more place now old mid new whole before after fs left b is p =
    let P : Known → Type 0 = λ k. Begun old new whole (lines_of place now k.entries left) in
    subst P (sym is) (begun_more old mid new whole (lines_of place now before.entries fs) (lines_of place now (learned_by now before fs).entries left) (subst (λ x. Begun old mid whole x) (lines_both place now before fs left) b) p)

-- a prefix of their lines was noted
pub lines_part : (place now : ℕ) (old mid new : List Event) (whole : List ℕ) (before : Known) (fs left : List Finding) → Begun old mid whole (lines_of place now before.entries (fs ++ left)) → PutsPrefix mid new (only_noted (lines_of place now before.entries fs))
    → PutsPrefix old new (only_noted whole)
lines_part place now old mid new whole before fs left b p =
    begun_part old mid new whole (lines_of place now before.entries fs) (lines_of place now (learned_by now before fs).entries left) (subst (λ x. Begun old mid whole x) (lines_both place now before fs left) b) p
