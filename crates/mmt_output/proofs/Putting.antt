-- What calls put out that come one after the other.
use Rattle.std.proofs.Common.{◌≡◌, ◌⊎◌, inl, inr, ℕ, List, [], ◌∷◌, ◌++◌, refl, ap, ap₂, sym, subst, ◌∙◌, append_assoc}
use Rattle.std.specs.Prelude.{Result, Ok, Err}
use Rattle.std.proofs.lemmas.List.{append-nil}
use Rattle.mmt_io.specs.History.{Event}
use Rattle.mmt_io.specs.History.Event.{In, Out, Note}
use Rattle.mmt_io.specs.Port.{Sends}
use Rattle.mmt_io.specs.Output.{Output, nothing, followed, output_of, IsPrefix, IsPrefixOf, NoRead, only_written, only_noted, Puts, PutsPrefix, Put}
use Rattle.mmt_stream.specs.Consuming.{Emits, EmitsStart}
use Rattle.mmt_stream.proofs.Outputs.{followed-nothing, output_of-append, start_trans, start_of_both}

no_read-append : (xs ys : List Event) → NoRead xs → NoRead ys → NoRead (xs ++ ys)
no_read-append [] ys left right = right
no_read-append (In bytes ∷ xs) ys left right = absurd left
no_read-append (Out bytes ∷ xs) ys left right = no_read-append xs ys left right
no_read-append (Note bytes ∷ xs) ys left right = no_read-append xs ys left right

prefix_behind : (a b c : List ℕ) → IsPrefix b c → IsPrefix (a ++ b) (a ++ c)
prefix_behind a b c (rest, is) = (rest, ap (λ x. a ++ x) is ∙ sym (append_assoc a b rest))

-- a prefix after an output is a prefix of both
start_behind : (a b c : Output) → IsPrefixOf b c → IsPrefixOf (followed a b) (followed a c)
start_behind a b c s = record { written = prefix_behind a.written b.written c.written s.written; noted = prefix_behind a.noted b.noted c.noted s.noted }

-- an output is a prefix of itself, and nothing is a prefix of each
pub start_itself : (a : Output) → IsPrefixOf a a
start_itself a = start_of_both a nothing a (followed-nothing a)

pub start_nothing : (a : Output) → IsPrefixOf nothing a
start_nothing a = record { written = (a.written, refl); noted = (a.noted, refl) }

-- nothing goes out
pub puts_nothing : (history : List Event) → Puts history history nothing
puts_nothing history = record { events = []; history = sym (append-nil history); outputs = tt; output = refl }

-- nothing of it goes out
pub puts_none_of : (history : List Event) (whole : Output) → PutsPrefix history history whole
puts_none_of history whole = record { events = []; history = sym (append-nil history); outputs = tt; start = start_nothing whole }

-- one output and then another
pub puts_both : (old mid new : List Event) (a b : Output) → Puts old mid a → Puts mid new b → Puts old new (followed a b)
puts_both old mid new a b p q = record {
  events = p.events ++ q.events;
  history = q.history ∙ (ap (λ x. x ++ q.events) p.history ∙ append_assoc old p.events q.events);
  outputs = no_read-append p.events q.events p.outputs q.outputs;
  output = output_of-append p.events q.events ∙ ap₂ (λ x y. followed x y) p.output q.output;
}

-- one output and then a prefix of another
pub puts_and_start : (old mid new : List Event) (a b : Output) → Puts old mid a → PutsPrefix mid new b → PutsPrefix old new (followed a b)
puts_and_start old mid new a b p q = record {
  events = p.events ++ q.events;
  history = q.history ∙ (ap (λ x. x ++ q.events) p.history ∙ append_assoc old p.events q.events);
  outputs = no_read-append p.events q.events p.outputs q.outputs;
  start = subst (λ o. IsPrefixOf o (followed a b)) (sym (output_of-append p.events q.events ∙ ap (λ x. followed x (output_of q.events)) p.output)) (start_behind a (output_of q.events) b q.start);
}

-- a prefix of a prefix of the whole
pub start_of : (old new : List Event) (a whole : Output) → IsPrefixOf a whole → PutsPrefix old new a → PutsPrefix old new whole
start_of old new a whole part p = record { events = p.events; history = p.history; outputs = p.outputs; start = start_trans (output_of p.events) a whole p.start part }

-- a prefix of the first part is a prefix of both
pub start_of_part : (old new : List Event) (a b : Output) → PutsPrefix old new a → PutsPrefix old new (followed a b)
start_of_part old new a b = start_of old new a (followed a b) (start_of_both a b (followed a b) refl)

-- all of it is a prefix of it
pub puts_start : (old new : List Event) (whole : Output) → Puts old new whole → PutsPrefix old new whole
puts_start old new whole p = record { events = p.events; history = p.history; outputs = p.outputs; start = subst (λ o. IsPrefixOf o whole) (sym p.output) (start_itself whole) }

-- one output and then a call
pub puts_then : {T E : Type 0} (old mid new : List Event) (a b : Output) (result : Result T E) → Puts old mid a → Put mid new b result → Put old new (followed a b) result
puts_then old mid new a b (Ok answer) p q = puts_both old mid new a b p q
puts_then old mid new a b (Err reason) p q = puts_and_start old mid new a b p q

-- one call of a port writes its bytes, or a prefix of them
pub puts_written : (old new : List Event) (bytes : List ℕ) → new ≡ old ++ Out bytes ∷ [] → Puts old new (only_written bytes)
puts_written old new bytes is = record { events = Out bytes ∷ []; history = is; outputs = tt; output = ap only_written (append-nil bytes) }

pub start_written : (old new : List Event) (bytes : List ℕ) → (new ≡ old) ⊎ ((part rest : List ℕ) × (bytes ≡ part ++ rest) × (new ≡ old ++ Out part ∷ [])) → PutsPrefix old new (only_written bytes)
start_written old new bytes (inl same) = record { events = []; history = same ∙ sym (append-nil old); outputs = tt; start = start_nothing (only_written bytes) }
start_written old new bytes (inr (part, rest, split, is)) = record {
  events = Out part ∷ [];
  history = is;
  outputs = tt;
  start = record { written = (rest, split ∙ ap (λ x. x ++ rest) (sym (append-nil part))); noted = ([], refl) };
}

pub put_written : {T E : Type 0} (old new : List Event) (bytes : List ℕ) (result : Result T E) → Sends Out old new result bytes → Put old new (only_written bytes) result
put_written old new bytes (Ok answer) sent = puts_written old new bytes sent
put_written old new bytes (Err reason) sent = start_written old new bytes sent

-- one call of a port notes its bytes, or a prefix of them
pub puts_noted : (old new : List Event) (bytes : List ℕ) → new ≡ old ++ Note bytes ∷ [] → Puts old new (only_noted bytes)
puts_noted old new bytes is = record { events = Note bytes ∷ []; history = is; outputs = tt; output = ap only_noted (append-nil bytes) }

pub start_noted : (old new : List Event) (bytes : List ℕ) → (new ≡ old) ⊎ ((part rest : List ℕ) × (bytes ≡ part ++ rest) × (new ≡ old ++ Note part ∷ [])) → PutsPrefix old new (only_noted bytes)
start_noted old new bytes (inl same) = record { events = []; history = same ∙ sym (append-nil old); outputs = tt; start = start_nothing (only_noted bytes) }
start_noted old new bytes (inr (part, rest, split, is)) = record {
  events = Note part ∷ [];
  history = is;
  outputs = tt;
  start = record { written = ([], refl); noted = (rest, split ∙ ap (λ x. x ++ rest) (sym (append-nil part))) };
}

pub put_noted : {T E : Type 0} (old new : List Event) (bytes : List ℕ) (result : Result T E) → Sends Note old new result bytes → Put old new (only_noted bytes) result
put_noted old new bytes (Ok answer) sent = puts_noted old new bytes sent
put_noted old new bytes (Err reason) sent = start_noted old new bytes sent

-- what is written in two calls
pub written_both : (a b : List ℕ) → followed (only_written a) (only_written b) ≡ only_written (a ++ b)
written_both a b = refl

-- what is noted in two calls
pub noted_both : (a b : List ℕ) → followed (only_noted a) (only_noted b) ≡ only_noted (a ++ b)
noted_both a b = refl

-- a consumer that gathers nothing puts out what more belongs to the packets
pub emits : (old new : List Event) (before out after : Output) → followed before out ≡ after → Puts old new out → Emits old new nothing nothing before after
emits old new before out after more p = record {
  events = p.events;
  history = p.history;
  outputs = p.outputs;
  output = λ done is.
      followed-nothing (followed done (output_of p.events))
      ∙ (ap₂ (λ x y. followed x y) (sym (followed-nothing done) ∙ is) p.output ∙ more);
}

pub emits_start : (old new : List Event) (before out after : Output) → followed before out ≡ after → PutsPrefix old new out → EmitsStart old new nothing before after
emits_start old new before out after more p = record {
  events = p.events;
  history = p.history;
  outputs = p.outputs;
  output = λ done is.
      let first : done ≡ before = sym (followed-nothing done) ∙ is in
      let P : Output → Type 0 = λ o. IsPrefixOf (followed o (output_of p.events)) after in
      let Q : Output → Type 0 = λ o. IsPrefixOf (followed before (output_of p.events)) o in
      subst P (sym first) (subst Q more (start_behind before (output_of p.events) out p.start));
}
