-- What a consumer does that gathers nothing and writes one text at the end of the stream.
use Rattle.std.proofs.Common.{◌≡◌, ◌⊎◌, inl, inr, ℕ, List, [], ◌∷◌, ◌++◌, ap, sym, subst, ◌∙◌, refl}
use Rattle.std.proofs.lemmas.List.{append-nil}
use Rattle.mmt_io.specs.History.{Event}
use Rattle.mmt_io.specs.History.Event.{Out}
use Rattle.mmt_stream.specs.Output.{Output, nothing, followed, output_of, IsStartOf}
use Rattle.mmt_stream.specs.Consuming.{Emits, EmitsStart}
use Rattle.mmt_stream.proofs.Outputs.{followed-nothing}

text : List ℕ → Output
text bytes = record { written = bytes; noted = [] }

-- nothing went out before
none_before : (done : Output) → followed done nothing ≡ nothing → done ≡ nothing
none_before done is = sym (followed-nothing done) ∙ is

-- nothing goes out
pub stays : (history : List Event) → Emits history history nothing nothing nothing nothing
stays history = record {
  events = [];
  history = sym (append-nil history);
  outputs = tt;
  output = λ done is. ap (λ o. followed o nothing) (followed-nothing done) ∙ is;
}

-- nothing goes out, and the run ends
pub stops : (history : List Event) (line : List ℕ) → EmitsStart history history nothing nothing (record { written = line; noted = [] })
stops history line = record {
  events = [];
  history = sym (append-nil history);
  outputs = tt;
  output = λ done is. subst (λ o. IsStartOf o (record { written = line; noted = [] })) (sym (followed-nothing done ∙ none_before done is)) (record { written = (line, refl); noted = ([], refl) });
}

-- the text goes out by one write
pub ends : (old new : List Event) (line : List ℕ) → new ≡ old ++ Out line ∷ [] → Emits old new nothing nothing nothing (record { written = line; noted = [] })
ends old new line grown = record {
  events = Out line ∷ [];
  history = grown;
  outputs = tt;
  output = λ done is.
      followed-nothing (followed done (output_of (Out line ∷ [])))
      ∙ (ap (λ o. followed o (output_of (Out line ∷ []))) (none_before done is) ∙ ap (λ (bytes : List ℕ). record { written = bytes; noted = [] }) (append-nil line));
}

-- the write failed, after a part of the text
pub fails : (old new : List Event) (line : List ℕ) → (new ≡ old) ⊎ ((part : List ℕ) × (rest : List ℕ) × (line ≡ part ++ rest) × (new ≡ old ++ Out part ∷ []))
    → EmitsStart old new nothing nothing (record { written = line; noted = [] })
fails old new line (inl same) =
    let P : List Event → Type 0 = λ h. EmitsStart old h nothing nothing (record { written = line; noted = [] }) in
    subst P (sym same) (stops old line)
fails old new line (inr (part, rest, split, grown)) = record {
  events = Out part ∷ [];
  history = grown;
  outputs = tt;
  output = λ done is.
      let out : followed done (output_of (Out part ∷ [])) ≡ record { written = part; noted = [] } =
      ap (λ o. followed o (output_of (Out part ∷ []))) (none_before done is) ∙ ap (λ (bytes : List ℕ). record { written = bytes; noted = [] }) (append-nil part) in
      subst (λ o. IsStartOf o (record { written = line; noted = [] })) (sym out) (record { written = (rest, split); noted = ([], refl) });
}
