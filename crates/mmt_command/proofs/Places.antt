-- The words by their places.
use Rattle.std.proofs.Common.{◌≡◌, ℕ, [], ◌+◌, ◌<◌, List, ◌∷◌, length, map, drop, get_or, ap, sym, ◌∙◌}
use Rattle.std.proofs.lemmas.List.{drop-map, drop_more}
use Rattle.std.specs.Prelude.{String, string_bytes}
use Rattle.std.specs.declared.alloc.Global.{Global}
use Rattle.mmt_command.specs.Words.{texts}

-- the texts from a place on are that of the word there and those after it
pub word_at : (words : List (String Global)) (at : ℕ) (w : String Global) → at < length words → w ≡ get_or words at w → drop at (texts words) ≡ string_bytes w ∷ drop (at + 1) (texts words)
word_at words at w lt is =
    drop-map string_bytes at words
    ∙ (ap (λ x. map string_bytes x) (drop_more words at w lt)
    ∙ (ap (λ x. string_bytes x ∷ map string_bytes (drop (at + 1) words)) (sym is) ∙ ap (λ x. string_bytes w ∷ x) (sym (drop-map string_bytes (at + 1) words))))

-- the word at a place of two equal lists
pub word_of : (k : ℕ) (xs ys : List (List ℕ)) → xs ≡ ys → get_or xs k [] ≡ get_or ys k []
word_of k xs ys e = ap (λ x. get_or x k []) e
