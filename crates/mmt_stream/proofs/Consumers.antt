-- What a consumer's calls do, for consumers that gather lines.
use Rattle.std.proofs.Common.{◌≡◌, ◌⊎◌, inl, inr, ℕ, List, [], ◌∷◌, ◌++◌, ap, sym, subst, ◌∙◌}
use Rattle.std.proofs.lemmas.List.{append-nil}
use Rattle.mmt_io.specs.History.{Event}
use Rattle.mmt_io.specs.History.Event.{Out}
use Rattle.mmt_io.specs.Output.{Output, nothing, followed, output_of, IsPrefixOf}
use Rattle.mmt_stream.specs.Consuming.{Emits, EmitsStart}
use Rattle.mmt_stream.proofs.Outputs.{followed_assoc, followed-nothing, start_trans, start_of_both}

-- bytes to be written, and none to be noted
abbrev pub text : List ℕ → Output
text bytes = record { written = bytes; noted = [] }

-- more is gathered, and nothing goes out
pub gathers : (history : List Event) (gathered gathered' whole whole' more : Output) → gathered' ≡ followed gathered more → whole' ≡ followed whole more → Emits history history gathered gathered' whole whole'
gathers history gathered gathered' whole whole' more grown longer = record {
  events = [];
  history = sym (append-nil history);
  outputs = tt;
  output = λ done is.
      ap (λ o. followed o gathered') (followed-nothing done)
      ∙ (ap (λ o. followed done o) grown ∙ (sym (followed_assoc done gathered more) ∙ (ap (λ o. followed o more) is ∙ sym longer)));
}

-- nothing goes out, and the run ends
pub stops : (history : List Event) (gathered whole whole' : Output) → IsPrefixOf whole whole' → EmitsStart history history gathered whole whole'
stops history gathered whole whole' grows = record {
  events = [];
  history = sym (append-nil history);
  outputs = tt;
  output = λ done is. subst (λ o. IsPrefixOf o whole') (sym (followed-nothing done)) (start_trans done whole whole' (start_of_both done gathered whole is) grows);
}

-- nothing was gathered
pub rests : (history : List Event) (gathered whole : Output) → gathered ≡ nothing → Emits history history gathered nothing whole whole
rests history gathered whole none = record {
  events = [];
  history = sym (append-nil history);
  outputs = tt;
  output = λ done is. ap (λ o. followed o nothing) (followed-nothing done) ∙ (ap (λ o. followed done o) (sym none) ∙ is);
}

text_out : (bytes : List ℕ) → output_of (Out bytes ∷ []) ≡ text bytes
text_out bytes = ap text (append-nil bytes)

-- what was gathered goes out by one write
pub puts_out : (old new : List Event) (bytes : List ℕ) (whole : Output) → new ≡ old ++ Out bytes ∷ [] → Emits old new (text bytes) nothing whole whole
puts_out old new bytes whole grown = record {
  events = Out bytes ∷ [];
  history = grown;
  outputs = tt;
  output = λ done is. followed-nothing (followed done (output_of (Out bytes ∷ []))) ∙ (ap (λ o. followed done o) (text_out bytes) ∙ is);
}

part_of : (done whole : Output) (bytes part rest : List ℕ) → bytes ≡ part ++ rest → followed done (text bytes) ≡ whole → IsPrefixOf (followed done (output_of (Out part ∷ []))) whole
part_of done whole bytes part rest split is =
    let all : followed (followed done (text part)) (text rest) ≡ whole =
    followed_assoc done (text part) (text rest) ∙ (ap (λ b. followed done (text b)) (sym split) ∙ is) in
    start_of_both _ (text rest) whole (ap (λ o. followed (followed done o) (text rest)) (text_out part) ∙ all)

-- a write failed after a part
pub puts_out_part : (old new : List Event) (bytes : List ℕ) (whole whole' : Output) → IsPrefixOf whole whole'
    → (new ≡ old) ⊎ ((part : List ℕ) × (rest : List ℕ) × (bytes ≡ part ++ rest) × (new ≡ old ++ Out part ∷ [])) → EmitsStart old new (text bytes) whole whole'
puts_out_part old new bytes whole whole' grows (inl same) =
    let P : List Event → Type 0 = λ h. EmitsStart old h (text bytes) whole whole' in
    subst P (sym same) (stops old (text bytes) whole whole' grows)
puts_out_part old new bytes whole whole' grows (inr (part, rest, split, grown)) = record {
  events = Out part ∷ [];
  history = grown;
  outputs = tt;
  output = λ done is. start_trans (followed done (output_of (Out part ∷ []))) whole whole' (part_of done whole bytes part rest split is) grows;
}
