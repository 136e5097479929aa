-- What more events make of a history.
use Rattle.std.proofs.Common.{◌≡◌, ℕ, List, [], ◌∷◌, ◌++◌, refl, ap, sym, subst, ◌∙◌, append_assoc}
use Rattle.std.proofs.lemmas.List.{append-nil}
use Rattle.mmt_io.specs.History.{Event, bytes_read, AtEachRead}
use Rattle.mmt_io.specs.History.Event.{In, Out, Note}
use Rattle.mmt_io.proofs.Passing.{bytes_read-append, at_each_write, at_each_note, at_each_read}
use Rattle.mmt_tlv.specs.Framing.{Packet}
use Rattle.mmt_io.specs.Output.{NoRead}
use Rattle.mmt_stream.specs.Consuming.{Meaning}
use Rattle.mmt_stream.specs.Streaming.{HasEnded, EndsOnce, HasShown, Passed}

read_none : (more : List Event) → NoRead more → bytes_read more ≡ []
read_none [] outputs = refl
read_none (In bytes ∷ more) outputs = absurd outputs
read_none (Out bytes ∷ more) outputs = read_none more outputs
read_none (Note bytes ∷ more) outputs = read_none more outputs

pub read_same : (events more : List Event) → NoRead more → bytes_read (events ++ more) ≡ bytes_read events
read_same events more outputs = bytes_read-append events more ∙ (ap (λ x. bytes_read events ++ x) (read_none more outputs) ∙ append-nil (bytes_read events))

pub read_more : (events : List Event) (bytes : List ℕ) → bytes_read (events ++ In bytes ∷ []) ≡ bytes_read events ++ bytes
read_more events bytes = bytes_read-append events (In bytes ∷ []) ∙ ap (λ x. bytes_read events ++ x) (append-nil bytes)

at_each_more : (P : List Event → Type 0) (events more : List Event) → NoRead more → AtEachRead P events → AtEachRead P (events ++ more)
at_each_more P events [] outputs each = subst (λ e. AtEachRead P e) (sym (append-nil events)) each
at_each_more P events (In bytes ∷ more) outputs each = absurd outputs
at_each_more P events (Out bytes ∷ more) outputs each =
    subst (λ e. AtEachRead P e) (append_assoc events (Out bytes ∷ []) more) (at_each_more P (events ++ Out bytes ∷ []) more outputs (at_each_write P events bytes each))
at_each_more P events (Note bytes ∷ more) outputs each =
    subst (λ e. AtEachRead P e) (append_assoc events (Note bytes ∷ []) more) (at_each_more P (events ++ Note bytes ∷ []) more outputs (at_each_note P events bytes each))

no_more : {A : Type 0} (before after : List A) (y : A) → [] ≡ before ++ y ∷ after → ⊥
no_more [] after y e = cc
no_more (b ∷ before) after y e = cc

none_read : (more : List Event) → NoRead more → (before after : List Event) → more ≡ before ++ In [] ∷ after → ⊥
none_read [] outputs before after is = no_more before after (In []) is
none_read (In bytes ∷ more) outputs before after is = outputs
none_read (Out bytes ∷ more) outputs [] after is = cc
none_read (Out bytes ∷ more) outputs (b ∷ before) after is = let rest : more ≡ before ++ In [] ∷ after = cc in none_read more outputs before after rest
none_read (Note bytes ∷ more) outputs [] after is = cc
none_read (Note bytes ∷ more) outputs (b ∷ before) after is = let rest : more ≡ before ++ In [] ∷ after = cc in none_read more outputs before after rest

no_read-append : (xs ys : List Event) → NoRead xs → NoRead ys → NoRead (xs ++ ys)
no_read-append [] ys left right = right
no_read-append (In bytes ∷ xs) ys left right = absurd left
no_read-append (Out bytes ∷ xs) ys left right = no_read-append xs ys left right
no_read-append (Note bytes ∷ xs) ys left right = no_read-append xs ys left right

-- an answer that the input ended stands before what goes out after it
end_before : (events more before after : List Event) → NoRead more → events ++ more ≡ before ++ In [] ∷ after → (rest : List Event) × (events ≡ before ++ In [] ∷ rest) × (after ≡ rest ++ more)
end_before [] more before after outputs is = absurd (none_read more outputs before after is)
end_before (e ∷ events) more [] after outputs is =
    let head : e ≡ In [] = cc in
    let rest : after ≡ events ++ more = cc in
    (events, ap (λ x. x ∷ events) head, rest)
end_before (e ∷ events) more (b ∷ before) after outputs is =
    let head : e ≡ b = cc in
    let tail : events ++ more ≡ before ++ In [] ∷ after = cc in
    let s = end_before events more before after outputs tail in
    (s.0, ap (λ x. x ∷ events) head ∙ ap (λ x. b ∷ x) s.1, s.2)

pub ended_more : (events more : List Event) → HasEnded events → HasEnded (events ++ more)
ended_more events more (before, after, is) = (before, after ++ more, ap (λ x. x ++ more) is ∙ append_assoc before (In [] ∷ after) more)

pub going_more : (events more : List Event) → NoRead more → (HasEnded events → ⊥) → HasEnded (events ++ more) → ⊥
going_more events more outputs going (before, after, is) = let s = end_before events more before after outputs is in going (before, s.0, s.1)

once_more : (events more : List Event) → NoRead more → EndsOnce events → EndsOnce (events ++ more)
once_more events more outputs once before after is =
    let s = end_before events more before after outputs is in
    subst (λ e. NoRead e) (sym s.2) (no_read-append s.0 more (once before s.0 s.1) outputs)

pub once_going : (events : List Event) → (HasEnded events → ⊥) → EndsOnce events
once_going events going before after is = absurd (going (before, after, is))

later : (e : Event) (events : List Event) → (HasEnded (e ∷ events) → ⊥) → HasEnded events → ⊥
later e events going (before, after, is) = going (e ∷ before, after, ap (λ x. e ∷ x) is)

once_read : (events : List Event) (bytes : List ℕ) → (HasEnded events → ⊥) → EndsOnce (events ++ In bytes ∷ [])
once_read [] bytes going [] after is = let none : [] ≡ after = cc in subst (λ e. NoRead e) none tt
once_read [] bytes going (b ∷ before) after is = let none : [] ≡ before ++ In [] ∷ after = cc in absurd (no_more before after (In []) none)
once_read (e ∷ events) bytes going [] after is = let head : e ≡ In [] = cc in absurd (going ([], events, ap (λ x. x ∷ events) head))
once_read (e ∷ events) bytes going (b ∷ before) after is =
    let tail : events ++ In bytes ∷ [] ≡ before ++ In [] ∷ after = cc in
    once_read events bytes (later e events going) before after tail

-- a read that takes a byte answers no end
pub going_read : (events : List Event) (x : ℕ) (bytes : List ℕ) → (HasEnded events → ⊥) → HasEnded (events ++ In (x ∷ bytes) ∷ []) → ⊥
going_read [] x bytes going ([], after, is) = cc
going_read [] x bytes going (b ∷ before, after, is) = let none : [] ≡ before ++ In [] ∷ after = cc in no_more before after (In []) none
going_read (e ∷ events) x bytes going ([], after, is) = let head : e ≡ In [] = cc in going ([], events, ap (λ y. y ∷ events) head)
going_read (e ∷ events) x bytes going (b ∷ before, after, is) =
    let tail : events ++ In (x ∷ bytes) ∷ [] ≡ before ++ In [] ∷ after = cc in
    going_read events x bytes (later e events going) (before, after, tail)

history_more : (start now next events more : List Event) → now ≡ start ++ events → next ≡ now ++ more → next ≡ start ++ (events ++ more)
history_more start now next events more is grown = grown ∙ (ap (λ x. x ++ more) is ∙ append_assoc start events more)

taken_more : (left unread after : List ℕ) (events : List Event) (bytes : List ℕ) → left ≡ bytes_read events ++ unread → unread ≡ bytes ++ after → left ≡ bytes_read (events ++ In bytes ∷ []) ++ after
taken_more left unread after events bytes is more =
    is ∙ (ap (λ x. bytes_read events ++ x) more ∙ (sym (append_assoc (bytes_read events) bytes after) ∙ ap (λ x. x ++ after) (sym (read_more events bytes))))

-- something goes out
pub passed_more : (m : Meaning) (old now next : List Event) (left unread after : List ℕ) (events more : List Event) → Passed m old now left unread events
    → next ≡ now ++ more → NoRead more → after ≡ unread → Passed m old next left after (events ++ more)
passed_more m old now next left unread after events more p grown outputs kept = record {
  history = history_more old now next events more p.history grown;
  taken = rw (read_same events more outputs, kept) p.taken;
  prompt = at_each_more _ events more outputs p.prompt;
  once = once_more events more outputs p.once;
}

-- a piece comes
pub passed_read : (m : Meaning) (old now next : List Event) (left unread after : List ℕ) (events : List Event) (bytes : List ℕ) (packets : List Packet) (tail : List ℕ) → Passed m old now left unread events
    → HasShown m events packets tail → (HasEnded events → ⊥) → next ≡ now ++ In bytes ∷ [] → unread ≡ bytes ++ after → Passed m old next left after (events ++ In bytes ∷ [])
passed_read m old now next left unread after events bytes packets tail p shown going grown more = record {
  history = history_more old now next events (In bytes ∷ []) p.history grown;
  taken = taken_more left unread after events bytes p.taken more;
  prompt = at_each_read _ events bytes p.prompt (packets, tail, shown);
  once = once_read events bytes going;
}
