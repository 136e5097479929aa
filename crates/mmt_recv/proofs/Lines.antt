-- Lines of notes one after another.
use Rattle.std.proofs.Common.{◌≡◌, ℕ, ◌+◌, List, [], ◌∷◌, ◌++◌, refl, ap, subst, ◌∙◌}
use Rattle.std.proofs.lemmas.List.{map-append}
use Rattle.std.proofs.lemmas.Grind.{flat_map-append}
use Rattle.std.specs.Prelude.{Result}
use Rattle.mmt_io.specs.History.{Event}
use Rattle.mmt_io.specs.Output.{only_noted, Put}
use Rattle.mmt_sig.specs.MessageReading.{message_of}
use Rattle.mmt_output.specs.declared.notes.Note.{Note}
use Rattle.mmt_output.specs.Notes.{note_text}
use Rattle.mmt_recv.specs.Noting.{PlacedNote, at_place, lines_of, untuned_message, untuned_messages}

pub lines_both : (place : ℕ) (a b : List Note) → lines_of (at_place place (a ++ b)) ≡ lines_of (at_place place a) ++ lines_of (at_place place b)
lines_both place a b =
    ap lines_of (map-append (λ (n : Note). record { place = place; note = n }) a b)
    ∙ flat_map-append (λ (n : PlacedNote). note_text n.place n.note) (at_place place a) (at_place place b)

-- a message more before tuning
pub untuned_more : (place bound number : ℕ) (m : List ℕ) (ms : List (List ℕ))
    → lines_of (at_place place (untuned_messages bound number (m ∷ ms)))
    ≡ lines_of (at_place place (untuned_message bound number (message_of m))) ++ lines_of (at_place place (untuned_messages bound (number + 1) ms))
unfolding untuned_messages
untuned_more place bound number m ms = lines_both place (untuned_message bound number (message_of m)) (untuned_messages bound (number + 1) ms)

pub untuned_none : (place bound number : ℕ) → lines_of (at_place place (untuned_messages bound number [])) ≡ []
unfolding untuned_messages
untuned_none place bound number = refl

-- the same lines in other words
pub put_same : {T E : Type 0} (old new : List Event) (lines others : List ℕ) (result : Result T E) → lines ≡ others → Put old new (only_noted lines) result → Put old new (only_noted others) result
put_same old new lines others result same put = subst (λ x. Put old new (only_noted x) result) same put
