-- Pairs each of which is above the one before it rise.
use Rattle.std.proofs.Common.{◌≡◌, ℕ, Bool, true, false, ◌&&◌, ◌||◌, ◌==◌, nat_lt, inl, inr, List, [], ◌∷◌, Some, None, refl, ◌∙◌, arith}
use Rattle.std.proofs.lemmas.Bool.{and_parts, eqb-true, ltb-true}
use Rattle.std.proofs.lemmas.List.Elements.{All-cons, All-nil, All-weaker}
use Rattle.std.specs.List.{All}
use Rattle.mmt_model.specs.Right.{AreRising, IsBefore}
use Rattle.mmt_plan.specs.Signals.{is_above, rises_after}

above : (p q : ℕ × ℕ) → is_above (Some p) q ≡ true → IsBefore p q
above p q h = go (nat_lt p.0 q.0) refl h
  where
    go : (t : Bool) → nat_lt p.0 q.0 ≡ t → (t || ((p.0 == q.0) && nat_lt p.1 q.1)) ≡ true → IsBefore p q
    go true e h = inl (ltb-true p.0 q.0 e)
    go false e h = let both = and_parts (p.0 == q.0) (nat_lt p.1 q.1) h in inr (eqb-true p.0 q.0 both.0, ltb-true p.1 q.1 both.1)

through : (p q r : ℕ × ℕ) → IsBefore p q → IsBefore q r → IsBefore p r
through p q r (inl a) (inl b) = inl (omega (arith, a, b))
through p q r (inl a) (inr b) = inl (omega (arith, a, b.0))
through p q r (inr a) (inl b) = inl (omega (arith, a.0, b))
through p q r (inr a) (inr b) = inr (a.0 ∙ b.0, omega (arith, a.1, b.1))

rises : (last : ℕ × ℕ) (ps : List (ℕ × ℕ)) → rises_after (Some last) ps ≡ true → All (IsBefore last) ps × AreRising ps
rises last [] e = (All-nil (IsBefore last), tt)
rises last (p ∷ ps) e =
    let both = and_parts (is_above (Some last) p) (rises_after (Some p) ps) e in
    let one : IsBefore last p = above last p both.0 in
    let later = rises p ps both.1 in
    (All-cons (IsBefore last) p ps one (All-weaker (IsBefore p) (IsBefore last) (λ q b. through last p q one b) ps later.0), later)

pub rising : (names : List (ℕ × ℕ)) → rises_after None names ≡ true → AreRising names
rising [] e = tt
rising (p ∷ ps) e = rises p ps e
