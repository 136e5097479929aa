-- When a table copy counts for a due tick, by the reaches of its packets.
use Rattle.std.proofs.Common.{◌≡◌, ◌⊎◌, ℕ, ◌<◌, ◌≤◌, Bool, true, false, ◌&&◌, ◌||◌, nat_lt, max, inl, inr, List, [], ◌∷◌, arith, refl, ap, ap₂, sym, ◌∙◌, ⊎_elim}
use Rattle.std.specs.List.{list_all}
use Rattle.std.proofs.lemmas.Bool.Decides.{nat_tests}
use Rattle.std.proofs.lemmas.Bool.{ltb-true, lt-ltb, le-ltb, cases_lt}
use Rattle.mmt_delivery.proofs.Tests.{all-at, all-from, all-same}
use Rattle.mmt_expect.proofs.Surviving.{AreSoon, reach-step, reach-within, survives-is}
use Rattle.mmt_expect.specs.Reaches.{never, reach}
use Rattle.mmt_model.specs.Broadcast.{NamedCast}
use Rattle.mmt_model.specs.Expected.{is_complete, is_counted}
use Rattle.mmt_model.specs.Survival.{AreOf, latest, sent_at, survives}
use Rattle.mmt_model.specs.declared.casts.Sent.{Sent}

before-all : (packets : List Sent) (m due : ℕ) (older : List ℕ) → list_all (λ k. nat_lt (sent_at packets k) due) (m ∷ older) ≡ nat_lt (latest packets 0 (m ∷ older)) due
unfolding latest
before-all packets m due [] = one (sent_at packets m)
  where
    one : (s : ℕ) → (nat_lt s due && true) ≡ nat_lt (max 0 s) due
    one s = grind (arith, nat_tests)
before-all packets m due (k ∷ older) = ap (λ b. nat_lt (sent_at packets m) due && b) (before-all packets k due older) ∙ both (sent_at packets m) (latest packets 0 (k ∷ older))
  where
    both : (s l : ℕ) → (nat_lt s due && nat_lt l due) ≡ nat_lt (max l s) due
    both s l = grind (arith, nat_tests)

pub complete-is : (cast : NamedCast) (delay : ℕ) (hist ms : List ℕ) → AreSoon cast.packets.sent → AreOf cast.packets.sent hist → is_complete cast delay hist ms ≡ list_all (λ n. nat_lt (reach cast.packets.sent delay hist n) never) ms
unfolding is_complete
complete-is cast delay hist ms soon of = all-same (survives cast.packets.sent delay hist) (λ n. nat_lt (reach cast.packets.sent delay hist n) never) ms (λ n. survives-is cast.packets.sent delay hist n soon of)

-- before the due tick all that has a reach has one before it
early : (r l due : ℕ) → (r ≡ never) ⊎ (r ≤ l) → l < due → due ≤ never → nat_lt r never ≡ nat_lt r due
early r l due (inl none) less small = grind (arith, nat_tests)
early r l due (inr some) less small = grind (arith, nat_tests)

-- from it on nothing has one anew
over : (r r' l due : ℕ) → (r' ≡ r) ⊎ ((r ≡ never) × (r' ≡ l)) → due ≤ l → due ≤ never → nat_lt r' due ≡ nat_lt r due
over r r' l due (inl same) late small = ap (λ x. nat_lt x due) same
over r r' l due (inr new) late small = let a = new.0 in let b = new.1 in grind (arith, nat_tests)

-- a reach before a tick stays
stays : (r r' l due : ℕ) → (r' ≡ r) ⊎ ((r ≡ never) × (r' ≡ l)) → due ≤ never → nat_lt r due ≡ true → nat_lt r' never ≡ true
stays r r' l due (inl same) small t = let a = ltb-true r due t in lt-ltb r' never (omega (arith, a, same))
stays r r' l due (inr new) small t = let a = ltb-true r due t in absurd (omega (arith, a, new.0))

pub counted-is : (cast : NamedCast) (delay due m : ℕ) (hist ms : List ℕ) → AreSoon cast.packets.sent → AreOf cast.packets.sent hist → due ≤ never
    → is_counted cast delay hist (m ∷ ms) due ≡ list_all (λ n. nat_lt (reach cast.packets.sent delay hist n) due) (m ∷ ms)
unfolding is_counted reach
counted-is cast delay due m [] ms soon of small = ap (λ b. b && list_all (λ n. nat_lt never due) ms) (sym (le-ltb never due small))
counted-is cast delay due m (k ∷ older) ms soon of small =
    let ps : List Sent = cast.packets.sent in
    let now : ℕ = latest ps 0 (k ∷ older) in
    let r : ℕ → ℕ = reach ps delay older in
    let r' : ℕ → ℕ = reach ps delay (k ∷ older) in
    let all : List ℕ = m ∷ ms in
    ap₂ (λ a b. a || b)
    (ap₂ (λ a b. a && b) (complete-is cast delay (k ∷ older) all soon of) (before-all ps k due older))
    (counted-is cast delay due m older ms soon of.1 small)
    ∙ ⊎_elim
    (λ (less : now < due).
    let same : list_all (λ n. nat_lt (r' n) never) all ≡ list_all (λ n. nat_lt (r' n) due) all =
    all-same (λ n. nat_lt (r' n) never) (λ n. nat_lt (r' n) due) all (λ n. early (r' n) now due (reach-within ps delay (k ∷ older) n) less small) in
    let keep : list_all (λ n. nat_lt (r n) due) all ≡ true → list_all (λ n. nat_lt (r' n) never) all ≡ true =
    λ h. all-from (λ n. nat_lt (r' n) never) all (λ n i. stays (r n) (r' n) now due (reach-step ps delay k older n) small (all-at (λ n. nat_lt (r n) due) all n h i)) in
    ap (λ b. (list_all (λ n. nat_lt (r' n) never) all && b) || list_all (λ n. nat_lt (r n) due) all) (lt-ltb now due less)
    ∙ (kept (list_all (λ n. nat_lt (r' n) never) all) (list_all (λ n. nat_lt (r n) due) all) keep ∙ same))
    (λ (late : due ≤ now).
    ap (λ b. (list_all (λ n. nat_lt (r' n) never) all && b) || list_all (λ n. nat_lt (r n) due) all) (le-ltb now due late)
    ∙ (none (list_all (λ n. nat_lt (r' n) never) all) (list_all (λ n. nat_lt (r n) due) all)
    ∙ sym (all-same (λ n. nat_lt (r' n) due) (λ n. nat_lt (r n) due) all (λ n. over (r n) (r' n) now due (reach-step ps delay k older n) late small))))
    (before-or now due)
  where
    before-or : (a b : ℕ) → (a < b) ⊎ (b ≤ a)
    before-or a b = cases_lt a b

    kept : (a c : Bool) → (c ≡ true → a ≡ true) → ((a && true) || c) ≡ a
    kept true c h = refl
    kept false true h = absurd (cc (h refl))
    kept false false h = refl

    none : (a c : Bool) → ((a && false) || c) ≡ c
    none true c = refl
    none false c = refl
