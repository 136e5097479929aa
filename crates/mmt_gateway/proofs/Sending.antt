-- What goes out of bytes to be written and bytes to be noted.
use Rattle.std.proofs.Common.{◌≡◌, ℕ, List, [], ◌∷◌, ◌++◌, ap, ap₂, sym, subst, ◌∙◌, append_assoc}
use Rattle.std.proofs.lemmas.List.{append-nil}
use Rattle.mmt_io.specs.History.{Event}
use Rattle.mmt_io.specs.History.Event.{In, Out, Note}
use Rattle.mmt_io.specs.Output.{Output, followed, output_of, IsPrefix, IsPrefixOf, NoRead, only_written, only_noted, Puts, PutsPrefix}
use Rattle.mmt_stream.specs.Consuming.{EmitsStart}
use Rattle.mmt_stream.proofs.Outputs.{output_of-append, start_trans, start_of_both}

no_read-append : (xs ys : List Event) → NoRead xs → NoRead ys → NoRead (xs ++ ys)
no_read-append [] ys left right = right
no_read-append (In bytes ∷ xs) ys left right = absurd left
no_read-append (Out bytes ∷ xs) ys left right = no_read-append xs ys left right
no_read-append (Note bytes ∷ xs) ys left right = no_read-append xs ys left right

after_both : (a b c : List ℕ) → IsPrefix b c → IsPrefix (a ++ b) (a ++ c)
after_both a b c (rest, is) = (rest, ap (λ x. a ++ x) is ∙ sym (append_assoc a b rest))

-- a prefix after an output is a prefix of both
start_after : (a b c : Output) → IsPrefixOf b c → IsPrefixOf (followed a b) (followed a c)
start_after a b c s = record { written = after_both a.written b.written c.written s.written; noted = after_both a.noted b.noted c.noted s.noted }

-- bytes to be written and bytes to be noted
abbrev both : List ℕ → List ℕ → Output
both written noted = record { written = written; noted = noted }

both_is : (written noted : List ℕ) → followed (only_written written) (only_noted noted) ≡ both written noted
both_is written noted = ap (λ w. both w noted) (append-nil written)

-- all of both goes out
pub puts_both : (old mid new : List Event) (written noted : List ℕ) → Puts old mid (only_written written) → Puts mid new (only_noted noted) → Puts old new (both written noted)
puts_both old mid new written noted p q = record {
  events = p.events ++ q.events;
  history = q.history ∙ (ap (λ x. x ++ q.events) p.history ∙ append_assoc old p.events q.events);
  outputs = no_read-append p.events q.events p.outputs q.outputs;
  output = output_of-append p.events q.events ∙ (ap₂ (λ x y. followed x y) p.output q.output ∙ both_is written noted);
}

-- all that is written goes out, and a prefix of the notes
pub puts_and_start : (old mid new : List Event) (written noted : List ℕ) → Puts old mid (only_written written) → PutsPrefix mid new (only_noted noted) → PutsPrefix old new (both written noted)
puts_and_start old mid new written noted p q = record {
  events = p.events ++ q.events;
  history = q.history ∙ (ap (λ x. x ++ q.events) p.history ∙ append_assoc old p.events q.events);
  outputs = no_read-append p.events q.events p.outputs q.outputs;
  start =
      let P : Output → Output → Type 0 = λ o w. IsPrefixOf o w in
      subst (λ o. P o (both written noted)) (sym (output_of-append p.events q.events ∙ ap (λ x. followed x (output_of q.events)) p.output))
      (subst (λ w. P (followed (only_written written) (output_of q.events)) w) (both_is written noted) (start_after (only_written written) (output_of q.events) (only_noted noted) q.start));
}

-- a prefix of what is written goes out, and no note
pub puts_start : (old new : List Event) (written noted : List ℕ) → PutsPrefix old new (only_written written) → PutsPrefix old new (both written noted)
puts_start old new written noted p = record {
  events = p.events;
  history = p.history;
  outputs = p.outputs;
  start = start_trans (output_of p.events) (only_written written) (both written noted) p.start (start_of_both (only_written written) (only_noted noted) (both written noted) (both_is written noted));
}

-- a prefix of what was gathered goes out
pub emits_part : (old new : List Event) (gathered whole : Output) → PutsPrefix old new gathered → EmitsStart old new gathered whole whole
emits_part old new gathered whole p = record {
  events = p.events;
  history = p.history;
  outputs = p.outputs;
  output = λ done is. subst (λ o. IsPrefixOf (followed done (output_of p.events)) o) is (start_after done (output_of p.events) gathered p.start);
}
