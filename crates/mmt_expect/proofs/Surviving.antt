-- What a reach says of a packet.
use Rattle.std.proofs.Common.{◌≡◌, ◌⊎◌, ℕ, ◌+◌, ◌^◌, ◌<◌, ◌≤◌, Bool, true, false, not, cond, ◌&&◌, ◌||◌, ◌==◌, nat_lt, nat_le, max, inl, inr, List, [], ◌∷◌, length, arith, refl, ap, ap₂, ◌∙◌, ⊎_elim}
use Rattle.std.proofs.lemmas.Bool.Decides.{nat_tests}
use Rattle.std.proofs.lemmas.Bool.{and_parts, cond_both, eqb-true}
use Rattle.mmt_expect.specs.Reaches.{never, reach}
use Rattle.mmt_model.specs.Survival.{AreOf, is_overtaken, latest, sent_at, survives}
use Rattle.mmt_model.specs.declared.casts.Sent.{Sent}

-- the timestamps of a cast are below 2^60
abbrev pub AreSoon : List Sent → Type 0
AreSoon packets = (n : ℕ) → n < length packets → sent_at packets n < 2 ^ 60

pub latest-soon : (packets : List Sent) (hist : List ℕ) → AreSoon packets → AreOf packets hist → latest packets 0 hist < 2 ^ 60
unfolding latest
latest-soon packets [] soon of = omega arith
latest-soon packets (n ∷ older) soon of = let a = latest-soon packets older soon of.1 in let b = soon n of.0 in omega (arith, a, b)

pub overtaken-is : (packets : List Sent) (delay : ℕ) (older : List ℕ) (n : ℕ) → is_overtaken packets delay older n ≡ nat_lt (sent_at packets n + delay) (latest packets 0 older)
unfolding is_overtaken latest
overtaken-is packets delay [] n = grind (arith, nat_tests)
overtaken-is packets delay (k ∷ older) n =
    ap (λ b. nat_lt (sent_at packets n + delay) (sent_at packets k) || b) (overtaken-is packets delay older n)
    ∙ or-max (sent_at packets n + delay) (latest packets 0 older) (sent_at packets k)
  where
    or-max : (x l s : ℕ) → (nat_lt x s || nat_lt x l) ≡ nat_lt x (max l s)
    or-max x l s = grind (arith, nat_tests)

-- a reach is a timestamp up to then, or there is none
pub reach-within : (packets : List Sent) (delay : ℕ) (hist : List ℕ) (n : ℕ) → (reach packets delay hist n ≡ never) ⊎ (reach packets delay hist n ≤ latest packets 0 hist)
unfolding reach latest
reach-within packets delay [] n = inl refl
reach-within packets delay (k ∷ older) n =
    cond_both ((k == n) && (nat_le (latest packets 0 older) (sent_at packets n + delay) && (reach packets delay older n == never)))
    (max (latest packets 0 older) (sent_at packets k)) (reach packets delay older n)
    (λ r. (r ≡ never) ⊎ (r ≤ max (latest packets 0 older) (sent_at packets k)))
    (λ t. inr (omega arith))
    (λ f. ⊎_elim (λ (e : reach packets delay older n ≡ never). inl e) (λ (w : reach packets delay older n ≤ latest packets 0 older). inr (omega (arith, w))) (reach-within packets delay older n))

-- one packet more: the reach stays, or there was none and it is the greatest timestamp now
pub reach-step : (packets : List Sent) (delay k : ℕ) (older : List ℕ) (n : ℕ)
    → (reach packets delay (k ∷ older) n ≡ reach packets delay older n) ⊎ ((reach packets delay older n ≡ never) × (reach packets delay (k ∷ older) n ≡ latest packets 0 (k ∷ older)))
unfolding reach
reach-step packets delay k older n = go ((k == n) && (nat_le (latest packets 0 older) (sent_at packets n + delay) && (reach packets delay older n == never))) refl
  where
    go : (b : Bool) → ((k == n) && (nat_le (latest packets 0 older) (sent_at packets n + delay) && (reach packets delay older n == never))) ≡ b
        → (cond b (latest packets 0 (k ∷ older)) (reach packets delay older n) ≡ reach packets delay older n) ⊎ ((reach packets delay older n ≡ never) × (cond b (latest packets 0 (k ∷ older)) (reach packets delay older n) ≡ latest packets 0 (k ∷ older)))
    go true e = inr (eqb-true (reach packets delay older n) never (and_parts (nat_le (latest packets 0 older) (sent_at packets n + delay)) (reach packets delay older n == never) (and_parts (k == n) (nat_le (latest packets 0 older) (sent_at packets n + delay) && (reach packets delay older n == never)) e).1).1, refl)
    go false e = inl refl

-- a packet survives where it has a reach
pub survives-is : (packets : List Sent) (delay : ℕ) (hist : List ℕ) (n : ℕ) → AreSoon packets → AreOf packets hist → survives packets delay hist n ≡ nat_lt (reach packets delay hist n) never
unfolding survives reach
survives-is packets delay [] n soon of = refl
survives-is packets delay (k ∷ older) n soon of =
    ap₂ (λ a b. ((k == n) && not a) || b) (overtaken-is packets delay older n) (survives-is packets delay older n soon of.1)
    ∙ go (k == n) (latest packets 0 older) (sent_at packets n + delay) (reach packets delay older n) (latest packets 0 (k ∷ older)) (latest-soon packets (k ∷ older) soon of)
    (⊎_elim (λ (e : reach packets delay older n ≡ never). inl e) (λ (w : reach packets delay older n ≤ latest packets 0 older). inr (let s = latest-soon packets older soon of.1 in omega (arith, w, s))) (reach-within packets delay older n))
  where
    go : (a : Bool) (l x r now : ℕ) → now < 2 ^ 60 → (r ≡ never) ⊎ (r < 2 ^ 60) → ((a && not (nat_lt x l)) || nat_lt r never) ≡ nat_lt (cond (a && (nat_le l x && (r == never))) now r) never
    go true l x r now small (inl none) = grind (arith, nat_tests)
    go true l x r now small (inr some) = grind (arith, nat_tests)
    go false l x r now small (inl none) = grind (arith, nat_tests)
    go false l x r now small (inr some) = grind (arith, nat_tests)
