-- What a gateway puts out grows with the packets.
use Rattle.std.proofs.Common.{◌≡◌, ℕ, ◌+◌, List, [], ◌∷◌, ◌++◌, length, Option, Some, None, Result, refl, ap, ap₂, sym, ◌∙◌, append_assoc, add_assoc, zero-add}
use Rattle.std.proofs.Math.Nat.{add-zero}
use Rattle.std.specs.List.{cons_option}
use Rattle.std.proofs.lemmas.List.{append-nil, length-append}
use Rattle.mmt_model.specs.Delivery.{onto, newest_first}
use Rattle.mmt_tlv.specs.Framing.{Packet, spelling, joined}
use Rattle.mmt_io.specs.Output.{Output, followed}
use Rattle.mmt_stream.specs.Consuming.{Grows}
use Rattle.mmt_stream.proofs.Outputs.{start_of_both}
use Rattle.mmt_gate.specs.Image.{given, image_after, image}
use Rattle.mmt_gate.specs.Expanding.{expanded}
use Rattle.mmt_gate.specs.Flows.{Options}
use Rattle.mmt_gate.specs.Shrinking.{squeezed}
use Rattle.mmt_gateway.specs.Noting.{expand_note, squeeze_note}
use Rattle.mmt_gateway.specs.Passing.{note_of, notes_after, passed, passed_one, passing, expanding, squeezing}

cons_behind : {X : Type 0} (x : Option X) (xs ys : List X) → cons_option x (xs ++ ys) ≡ cons_option x xs ++ ys
cons_behind None xs ys = refl
cons_behind (Some x) xs ys = refl

joined_both : (packets others : List Packet) → joined (packets ++ others) ≡ joined packets ++ joined others
joined_both [] others = refl
joined_both (p ∷ packets) others = ap (λ (x : List ℕ). spelling p ++ x) (joined_both packets others) ∙ sym (append_assoc (spelling p) (joined packets) (joined others))

module _ {E : Type 0} (becomes : List Packet → Packet → Result Packet E) (note : ℕ → E → List ℕ) where
  image_both : (earlier packets others : List Packet)
      → image_after becomes earlier (packets ++ others) ≡ image_after becomes earlier packets ++ image_after becomes (onto packets earlier) others
  unfolding image_after onto
  image_both earlier [] others = refl
  image_both earlier (p ∷ packets) others =
      ap (λ (x : List Packet). cons_option (given (becomes earlier p)) x) (image_both (p ∷ earlier) packets others)
      ∙ cons_behind (given (becomes earlier p)) (image_after becomes (p ∷ earlier) packets) (image_after becomes (onto packets (p ∷ earlier)) others)

  notes_both : (place : ℕ) (earlier packets others : List Packet)
      → notes_after becomes note place earlier (packets ++ others)
      ≡ notes_after becomes note place earlier packets ++ notes_after becomes note (place + length (joined packets)) (onto packets earlier) others
  unfolding notes_after onto
  notes_both place earlier [] others = ap (λ (n : ℕ). notes_after becomes note n earlier others) (sym (add-zero place))
  notes_both place earlier (p ∷ packets) others =
      ap (λ (x : List ℕ). note_of note place (becomes earlier p) ++ x) (notes_both (place + length (spelling p)) (p ∷ earlier) packets others
      ∙ ap (λ (n : ℕ). notes_after becomes note (place + length (spelling p)) (p ∷ earlier) packets ++ notes_after becomes note n (onto packets (p ∷ earlier)) others)
      (add_assoc place (length (spelling p)) (length (joined packets)) ∙ ap (λ (n : ℕ). place + n) (sym (length-append (spelling p) (joined packets)))))
      ∙ sym (append_assoc (note_of note place (becomes earlier p)) (notes_after becomes note (place + length (spelling p)) (p ∷ earlier) packets) _)

  -- what later packets add
  abbrev later : List Packet → List Packet → Output
  later packets others = record {
    written = joined (image_after becomes (newest_first packets) others);
    noted = notes_after becomes note (length (joined packets)) (newest_first packets) others;
  }

  written_both : (packets others : List Packet) → joined (image becomes (packets ++ others)) ≡ joined (image becomes packets) ++ joined (image_after becomes (newest_first packets) others)
  unfolding newest_first
  written_both packets others = ap joined (image_both [] packets others) ∙ joined_both (image becomes packets) (image_after becomes (onto packets []) others)

  noted_both : (packets others : List Packet)
      → notes_after becomes note 0 [] (packets ++ others) ≡ notes_after becomes note 0 [] packets ++ notes_after becomes note (length (joined packets)) (newest_first packets) others
  unfolding newest_first
  noted_both packets others =
      notes_both 0 [] packets others ∙ ap (λ (n : ℕ). notes_after becomes note 0 [] packets ++ notes_after becomes note n (onto packets []) others) (zero-add (length (joined packets)))

  -- what goes out of more packets
  passed_both : (packets others : List Packet) → passed becomes note (packets ++ others) ≡ followed (passed becomes note packets) (later packets others)
  passed_both packets others =
      ap₂ (λ (w n : List ℕ). output w n) (written_both packets others) (noted_both packets others)
    where
      output : List ℕ → List ℕ → Output
      output w n = record { written = w; noted = n }

  later_one : (packets : List Packet) (packet : Packet) → later packets (packet ∷ []) ≡ passed_one becomes note (length (joined packets)) (newest_first packets) packet
  unfolding image_after notes_after
  later_one packets packet =
      ap (λ (n : List ℕ). output n) (append-nil (note_of note (length (joined packets)) (becomes (newest_first packets) packet)))
    where
      output : List ℕ → Output
      output n = record { written = joined (cons_option (given (becomes (newest_first packets) packet)) []); noted = n }

  -- one packet more
  pub passed_next : (packets : List Packet) (packet : Packet) (place : ℕ) → place ≡ length (joined packets)
      → passed becomes note (packets ++ packet ∷ []) ≡ followed (passed becomes note packets) (passed_one becomes note place (newest_first packets) packet)
  passed_next packets packet place at =
      passed_both packets (packet ∷ [])
      ∙ ap (λ (o : Output). followed (passed becomes note packets) o) (later_one packets packet ∙ ap (λ (n : ℕ). passed_one becomes note n (newest_first packets) packet) (sym at))

  pub passing_grows : Grows (passing becomes note)
  unfolding image_after notes_after
  passing_grows = record {
    none = refl;
    more = λ packets others. start_of_both (passed becomes note packets) (later packets others) _ (sym (passed_both packets others));
    end = λ packets. record { written = ([], sym (append-nil _)); noted = ([], sym (append-nil _)) };
  }

pub expanding_grows : Grows expanding
expanding_grows = passing_grows expanded expand_note

pub squeezing_grows : (options : Options) → Grows (squeezing options)
squeezing_grows options = passing_grows (squeezed options) squeeze_note
