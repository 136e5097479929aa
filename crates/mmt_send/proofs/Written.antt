-- The bytes that the writes of packets write.
use Rattle.std.proofs.Common.{◌≡◌, ℕ, List, [], ◌∷◌, ◌++◌, refl, sym, ap, ◌∙◌, append_assoc}
use Rattle.std.proofs.lemmas.List.{append-nil}
use Rattle.std.proofs.lemmas.Grind.{flat_map-append}
use Rattle.mmt_io.specs.History.{Event, bytes_noted, bytes_read, bytes_written}
use Rattle.mmt_io.specs.History.Event.{In, Note, Out}
use Rattle.mmt_io.proofs.Passing.{bytes_noted-append, bytes_read-append, bytes_written-append}
use Rattle.mmt_tlv.specs.Framing.{Packet as Tlv, joined, spelling}
use Rattle.mmt_send.specs.Laws.{Adds, FrontsAreBytes, StreamsAreBytes}
use Rattle.mmt_send.specs.Writes.{IsFrontOf, pieces}

written : (ps : List Tlv) → bytes_written (pieces ps) ≡ joined ps
written [] = refl
written (p ∷ ps) = ap (λ (bytes : List ℕ). spelling p ++ bytes) (written ps)

noted : (ps : List Tlv) → bytes_noted (pieces ps) ≡ []
noted [] = refl
noted (p ∷ ps) = noted ps

read : (ps : List Tlv) → bytes_read (pieces ps) ≡ []
read [] = refl
read (p ∷ ps) = read ps

-- what N events add
adds : (old more : List Event) (bytes : List ℕ) → bytes_written more ≡ bytes → bytes_noted more ≡ [] → bytes_read more ≡ [] → Adds old (old ++ more) bytes
adds old more bytes w n r = record {
  written = bytes_written-append old more ∙ ap (λ (xs : List ℕ). bytes_written old ++ xs) w;
  noted = bytes_noted-append old more ∙ ap (λ (xs : List ℕ). bytes_noted old ++ xs) n ∙ append-nil (bytes_noted old);
  read = bytes_read-append old more ∙ ap (λ (xs : List ℕ). bytes_read old ++ xs) r ∙ append-nil (bytes_read old);
}

pub streams-are-bytes : StreamsAreBytes
streams-are-bytes old ps = adds old (pieces ps) (joined ps) (written ps) (noted ps) (read ps)

-- the front of the next packet
record Last (last : List Event) (left : List Tlv) : Type 0 where
  front : List ℕ
  rest : List ℕ
  all : joined left ≡ front ++ rest
  written : bytes_written last ≡ front
  noted : bytes_noted last ≡ []
  read : bytes_read last ≡ []

last-is : (last : List Event) (left : List Tlv) → IsFrontOf last left → Last last left
last-is [] left f = record { front = []; rest = joined left; all = refl; written = refl; noted = refl; read = refl }
last-is (Out bytes ∷ []) (p ∷ ps) f =
    record { front = bytes; rest = f.0 ++ joined ps; all = ap (λ (xs : List ℕ). xs ++ joined ps) f.1 ∙ append_assoc bytes f.0 (joined ps); written = append-nil bytes; noted = refl; read = refl }
last-is (Out bytes ∷ []) [] f = absurd f
last-is (Out bytes ∷ x ∷ xs) left f = absurd f
last-is (In bytes ∷ xs) left f = absurd f
last-is (Note bytes ∷ xs) left f = absurd f

pub fronts-are-bytes : FrontsAreBytes
fronts-are-bytes old new ps begun =
    let l : Last begun.last begun.left = last-is begun.last begun.left begun.front in
    let more : List Event = pieces begun.sent ++ begun.last in
    let w : bytes_written more ≡ joined begun.sent ++ l.front = bytes_written-append (pieces begun.sent) begun.last ∙ ap (λ (xs : List ℕ). xs ++ bytes_written begun.last) (written begun.sent) ∙ ap (λ (xs : List ℕ). joined begun.sent ++ xs) l.written in
    let n : bytes_noted more ≡ [] = bytes_noted-append (pieces begun.sent) begun.last ∙ ap (λ (xs : List ℕ). xs ++ bytes_noted begun.last) (noted begun.sent) ∙ l.noted in
    let r : bytes_read more ≡ [] = bytes_read-append (pieces begun.sent) begun.last ∙ ap (λ (xs : List ℕ). xs ++ bytes_read begun.last) (read begun.sent) ∙ l.read in
    let a : Adds old (old ++ more) (joined begun.sent ++ l.front) = adds old more (joined begun.sent ++ l.front) w n r in (
      joined begun.sent ++ l.front,
      l.rest,
      ap joined begun.all ∙ flat_map-append spelling begun.sent begun.left ∙ ap (λ (xs : List ℕ). joined begun.sent ++ xs) l.all ∙ sym (append_assoc (joined begun.sent) l.front l.rest),
      record { written = ap bytes_written begun.history ∙ a.written; noted = ap bytes_noted begun.history ∙ a.noted; read = ap bytes_read begun.history ∙ a.read },
    )
