-- What the walks over deliveries, packets and names keep.
use Rattle.std.proofs.Common.{◌≡◌, ℕ, ◌+◌, ◌^◌, ◌<◌, Bool, true, false, cond, ◌&&◌, ◌||◌, ◌==◌, nat_le, min, max, List, [], ◌∷◌, length, get_or, take, arith, refl, ap, ap₂, sym, ◌∙◌, subst, set, get_or-set_other, get_or-set_same, length-set, ⊎_elim}
use Rattle.std.specs.List.{All, list_any}
use Rattle.std.proofs.lemmas.List.{take_more}
use Rattle.std.proofs.lemmas.List.Elements.{recursion_from_All}
use Rattle.std.proofs.lemmas.Bool.{cases_eq, eq-eqb, ne_eqb}
use Rattle.mmt_cast.proofs.Listing.{each-at}
use Rattle.mmt_delivery.proofs.Tests.{any-append}
use Rattle.mmt_expect.proofs.Surviving.{AreSoon}
use Rattle.mmt_expect.specs.Named.{IsLowered}
use Rattle.mmt_expect.specs.Reaches.{AreReaches, never, reach}
use Rattle.mmt_model.proofs.Newest.{newest_more}
use Rattle.mmt_model.specs.Counts.{member}
use Rattle.mmt_model.specs.Delivery.{newest_first, onto}
use Rattle.mmt_model.specs.Survival.{latest, no_packet, sent_at}
use Rattle.mmt_model.specs.declared.casts.Sent.{Sent}

-- ---- deliveries

pub nothing-yet : newest_first {X = ℕ} [] ≡ []
unfolding newest_first onto
nothing-yet = refl

pub newest-next : (list : List ℕ) (i d : ℕ) → i < length list → newest_first (take (i + 1) list) ≡ get_or list i d ∷ newest_first (take i list)
newest-next list i d l = ap newest_first (take_more list i d l) ∙ newest_more (take i list) (get_or list i d)

pub latest-none : (packets : List Sent) → latest packets 0 (newest_first []) ≡ 0
unfolding latest
latest-none packets = ap (latest packets 0) nothing-yet

pub latest-next : (packets : List Sent) (list : List ℕ) (i d : ℕ) → i < length list → latest packets 0 (newest_first (take (i + 1) list)) ≡ max (latest packets 0 (newest_first (take i list))) (sent_at packets (get_or list i d))
unfolding latest
latest-next packets list i d l = ap (latest packets 0) (newest-next list i d l)

pub reaches-none : (packets : List Sent) (delay : ℕ) (reaches : List ℕ) → length reaches ≡ length packets → ((n : ℕ) → n < length packets → get_or reaches n 0 ≡ never) → AreReaches packets delay (newest_first []) reaches
unfolding reach
reaches-none packets delay reaches l h = record { many = l; each = λ n ln. h n ln ∙ sym (ap (λ hist. reach packets delay hist n) nothing-yet) }

pub reaches-next : (packets : List Sent) (delay : ℕ) (list : List ℕ) (i d : ℕ) (old new : List ℕ) (in_time : Bool) (greatest : ℕ) → i < length list → AreReaches packets delay (newest_first (take i list)) old
    → in_time ≡ nat_le (latest packets 0 (newest_first (take i list))) (sent_at packets (get_or list i d) + delay)
    → greatest ≡ latest packets 0 (newest_first (take (i + 1) list))
    → length new ≡ length old
    → ((n : ℕ) → n < length old → get_or new n 0 ≡ cond ((get_or list i d == n) && (in_time && (get_or old n 0 == never))) greatest (get_or old n 0))
    → AreReaches packets delay (newest_first (take (i + 1) list)) new
unfolding reach
reaches-next packets delay list i d old new in_time greatest l are time now long each =
    let p : ℕ = get_or list i d in
    let older : List ℕ = newest_first (take i list) in
    record {
      many = long ∙ are.many;
      each = λ n ln.
          (let old-is : get_or old n 0 ≡ reach packets delay older n = are.each n ln in
          let greatest-is : greatest ≡ latest packets 0 (p ∷ older) = now ∙ ap (latest packets 0) (newest-next list i d l) in
          each n (omega (arith, are.many, ln))
          ∙ (step p n in_time (nat_le (latest packets 0 older) (sent_at packets n + delay)) (get_or old n 0) (reach packets delay older n) greatest (latest packets 0 (p ∷ older)) old-is greatest-is
          (λ (same : p ≡ n). time ∙ ap (λ k. nat_le (latest packets 0 older) (sent_at packets k + delay)) same)
          ∙ sym (ap (λ hist. reach packets delay hist n) (newest-next list i d l))));
    }
  where
    step : (p n : ℕ) (a b : Bool) (x y g h : ℕ) → x ≡ y → g ≡ h → (p ≡ n → a ≡ b) → cond ((p == n) && (a && (x == never))) g x ≡ cond ((p == n) && (b && (y == never))) h y
    step p n a b x y g h e f same =
        ⊎_elim
        (λ (s : p ≡ n). ap (λ t. cond ((p == n) && (t && (x == never))) g x) (same s) ∙ ap₂ (λ u v. cond ((p == n) && (b && (u == never))) v u) e f)
        (λ (o : p ≡ n → ⊥).
        ap (λ t. cond (t && (a && (x == never))) g x) (ne_eqb p n o) ∙ (e ∙ sym (ap (λ t. cond (t && (b && (y == never))) h y) (ne_eqb p n o))))
        (cases_eq p n)

-- ---- ticks

pub soon-from : (packets : List Sent) → All (λ (p : Sent). p.at.0 < 2 ^ 60) packets → AreSoon packets
unfolding sent_at
soon-from packets all n l = each-at (λ (p : Sent). p.at.0 < 2 ^ 60) packets n no_packet (recursion_from_All (λ (p : Sent). p.at.0 < 2 ^ 60) packets all) l

-- ---- names

pub lowered-none : (xs : List ℕ) (g : ℕ) → IsLowered xs xs [] g
unfolding member
lowered-none xs g = record { long = refl; each = λ m l. refl }

member-next : (places : List ℕ) (i d m : ℕ) → i < length places → member m (take (i + 1) places) ≡ (member m (take i places) || ((get_or places i d == m) || false))
unfolding member
member-next places i d m l = ap (list_any (λ k. k == m)) (take_more places i d l) ∙ any-append (λ k. k == m) (take i places) (get_or places i d ∷ [])

pub lowered-next : (old xs places : List ℕ) (i g v d : ℕ) → i < length places → get_or places i d < length old → IsLowered old xs (take i places) g → v ≡ min (get_or xs (get_or places i d) 0) g
    → IsLowered old (set xs (get_or places i d) v) (take (i + 1) places) g
lowered-next old xs places i g v d li lp before is =
    let p : ℕ = get_or places i d in
    let lx : p < length xs = omega (arith, before.long, lp) in
    record {
      long = length-set xs p v ∙ before.long;
      each = λ m l.
          ⊎_elim
          (λ (s : p ≡ m).
          subst (λ k. get_or (set xs p v) k 0 ≡ cond (member k (take (i + 1) places)) (min (get_or old k 0) g) (get_or old k 0)) s
          (get_or-set_same xs p v 0 lx
          ∙ (is ∙ (ap (λ x. min x g) (before.each p lp)
          ∙ (twice (member p (take i places)) (get_or old p 0)
          ∙ sym (ap (λ b. cond b (min (get_or old p 0) g) (get_or old p 0)) (member-next places i d p li ∙ (ap (λ b. member p (take i places) || (b || false)) (eq-eqb p p refl) ∙ or-true (member p (take i places)))))))))
          )
          (λ (o : p ≡ m → ⊥).
          get_or-set_other xs p m v 0 (λ e. o (sym e))
          ∙ (before.each m l ∙ sym (ap (λ b. cond b (min (get_or old m 0) g) (get_or old m 0)) (member-next places i d m li ∙ (ap (λ b. member m (take i places) || (b || false)) (ne_eqb p m o) ∙ or-false (member m (take i places)))))))
          (cases_eq p m);
    }
  where
    twice : (b : Bool) (x : ℕ) → min (cond b (min x g) x) g ≡ min x g
    twice true x = omega arith
    twice false x = refl

    or-true : (b : Bool) → (b || (true || false)) ≡ true
    or-true true = refl
    or-true false = refl

    or-false : (b : Bool) → (b || (false || false)) ≡ b
    or-false true = refl
    or-false false = refl
