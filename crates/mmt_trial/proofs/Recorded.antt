-- A recording as the list of its pieces.
use Rattle.std.proofs.Common.{◌≡◌, ℕ, ◌+◌, ◌-◌, ◌<◌, ◌≤◌, List, [], ◌∷◌, ◌++◌, length, map, take, drop, get_or, refl, ap, ap₂, ◌∙◌, arith}
use Rattle.std.specs.List.{AllByRecursion}
use Rattle.std.proofs.lemmas.List.{drop-append-le, take-append-le, length-append, length-drop, map-append, take_all}
use Rattle.std.proofs.Math.Seq.{drop-append_seam}
use Rattle.mmt_cast.proofs.Listing.{each-append, each-at, each-weaker}
use Rattle.mmt_trial.specs.Pieces.{AreWithin, piece_in}
use Rattle.mmt_trial.specs.declared.recording.Span.{Span}

-- a piece within the bytes is the same where further bytes follow
piece-before : (bytes more : List ℕ) (span : Span) → span.from ≤ span.to → span.to ≤ length bytes → piece_in (bytes ++ more) span ≡ piece_in bytes span
piece-before bytes more span up within =
    ap (take (span.to - span.from)) (drop-append-le span.from bytes more (omega arith))
    ∙ take-append-le (span.to - span.from) (drop span.from bytes) more (omega (arith, length-drop span.from bytes))

-- so are all pieces
pub pieces-before : (bytes more : List ℕ) (spans : List Span) → AreWithin (length bytes) spans → map (piece_in (bytes ++ more)) spans ≡ map (piece_in bytes) spans
pieces-before bytes more [] w = refl
pieces-before bytes more (s ∷ spans) w = ap₂ (λ x xs. x ∷ xs) (piece-before bytes more s w.0.0 w.0.1) (pieces-before bytes more spans w.1)

-- the further bytes are a piece
piece-after : (bytes more : List ℕ) → piece_in (bytes ++ more) (record { from = length bytes; to = length (bytes ++ more) }) ≡ more
piece-after bytes more =
    ap (take (length (bytes ++ more) - length bytes)) (drop-append_seam bytes more)
    ∙ take_all (length (bytes ++ more) - length bytes) more (omega (arith, length-append bytes more))

-- one piece more
pub pieces-more : (bytes more all : List ℕ) (spans next : List Span) (from to : ℕ) → AreWithin (length bytes) spans → all ≡ bytes ++ more → from ≡ length bytes → to ≡ length all
    → next ≡ spans ++ record { from = from; to = to } ∷ [] → map (piece_in all) next ≡ map (piece_in bytes) spans ++ more ∷ []
pieces-more bytes more all spans next from to w is f t n =
    ap (map (piece_in all)) n
    ∙ (map-append (piece_in all) spans (record { from = from; to = to } ∷ [])
    ∙ ap₂ (λ xs x. xs ++ x ∷ []) (ap (λ (b : List ℕ). map (piece_in b) spans) is ∙ pieces-before bytes more spans w)
    (ap (λ (b : List ℕ). piece_in b (record { from = from; to = to })) is ∙ (ap₂ (λ a b. piece_in (bytes ++ more) (record { from = a; to = b })) f (t ∙ ap (λ (b : List ℕ). length b) is) ∙ piece-after bytes more)))

pub within-longer : (n m : ℕ) (spans : List Span) → n ≤ m → AreWithin n spans → AreWithin m spans
within-longer n m spans le w = each-weaker (λ (s : Span). (s.from ≤ s.to) × (s.to ≤ n)) (λ (s : Span). (s.from ≤ s.to) × (s.to ≤ m)) spans (λ s h. (h.0, omega (arith, h.1, le))) w

pub within-more : (n : ℕ) (spans : List Span) (from to : ℕ) → AreWithin n spans → n ≤ to → from ≤ to → AreWithin to (spans ++ record { from = from; to = to } ∷ [])
within-more n spans from to w le up =
    each-append (λ (s : Span). (s.from ≤ s.to) × (s.to ≤ to)) spans (record { from = from; to = to } ∷ []) (within-longer n to spans le w) ((up, omega arith), tt)

pub within-at : (total : ℕ) (spans : List Span) (place : ℕ) (d : Span) → AreWithin total spans → place < length spans → (let s = get_or spans place d in (s.from ≤ s.to) × (s.to ≤ total))
within-at total spans place d w l = each-at (λ (s : Span). (s.from ≤ s.to) × (s.to ≤ total)) spans place d w l
