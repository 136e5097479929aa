-- Ticks in which no known time is due.
use Rattle.std.proofs.Common.{◌≡◌, ℕ, suc, ◌+◌, ◌^◌, ◌<◌, ◌≤◌, Bool, true, false, ◌&&◌, ◌||◌, nat_le, cond, List, [], ◌∷◌, ◌++◌, map, filter, take, get_or, length, refl, ap, sym, subst, ◌∙◌, arith}
use Rattle.std.specs.List.{list_any}
use Rattle.std.proofs.lemmas.Bool.Decides.{nat_tests}
use Rattle.std.proofs.lemmas.List.{map-append}
use Rattle.std.proofs.lemmas.List.Folds.{list_any-append}
use Rattle.std.proofs.Math.Seq.{take-suc}
use Rattle.mmt_base.specs.Ticks.{ahead_of, due_of, low, is_passed}
use Rattle.mmt_base.specs.declared.ticks.Ntp.{Ntp}
use Rattle.mmt_model.specs.Entries.{Entry, forget}
use Rattle.mmt_times.specs.Known.{has_due}
use Rattle.mmt_times.specs.TimesLeft.{view_time}
use Rattle.mmt_times.specs.Quiet.{is_soon, has_soon, IsQuiet, Within}

none-by : {A : Type 0} (p q : A → Bool) (xs : List A) → ((x : A) → p x ≡ false → q x ≡ false) → list_any p xs ≡ false → list_any q xs ≡ false
none-by p q [] f n = refl
none-by p q (x ∷ xs) f n = go (p x) refl (λ m. none-by p q xs f m) n
  where
    go : (b : Bool) → p x ≡ b → (list_any p xs ≡ false → list_any q xs ≡ false) → (b || list_any p xs) ≡ false → (q x || list_any q xs) ≡ false
    go true e ih n = absurd cc
    go false e ih n = rw (f x e) (ih n)

fewer-soon : (clock m n t : ℕ) → n ≤ m → is_soon clock m t ≡ false → is_soon clock n t ≡ false
fewer-soon clock m n t l h = grind (arith, nat_tests)

pub fewer-times : (clock m n : ℕ) (ts : List ℕ) → n ≤ m → list_any (is_soon clock m) ts ≡ false → list_any (is_soon clock n) ts ≡ false
fewer-times clock m n ts l h = none-by (is_soon clock m) (is_soon clock n) ts (λ t. fewer-soon clock m n t l) h

pub fewer-entries : (clock m n : ℕ) (es : List Entry) → n ≤ m → IsQuiet clock m es → IsQuiet clock n es
fewer-entries clock m n es l h = none-by (has_soon clock m) (has_soon clock n) es (λ e. fewer-times clock m n (e.time ∷ e.aus) l) h

none-soon : (clock t : ℕ) → is_soon clock 0 t ≡ false
none-soon clock t = grind (arith, nat_tests)

none-times : (clock : ℕ) (ts : List ℕ) → list_any (is_soon clock 0) ts ≡ false
none-times clock [] = refl
none-times clock (t ∷ ts) = rw (none-soon clock t) (none-times clock ts)

-- no tick at all
pub none-quiet : (clock : ℕ) (es : List Entry) → IsQuiet clock 0 es
none-quiet clock [] = refl
none-quiet clock (e ∷ es) = rw (none-times clock (e.time ∷ e.aus)) (none-quiet clock es)

none-filter : (p q : Entry → Bool) (es : List Entry) → list_any q es ≡ false → list_any q (filter p es) ≡ false
none-filter p q [] n = refl
none-filter p q (e ∷ es) n = go (q e) (p e) refl (none-filter p q es) n
  where
    go : (a b : Bool) → q e ≡ a → (list_any q es ≡ false → list_any q (filter p es) ≡ false) → (a || list_any q es) ≡ false → list_any q (cond b (e ∷ filter p es) (filter p es)) ≡ false
    go true b i f n = absurd cc
    go false true i f n = rw i (f n)
    go false false i f n = f n

pub quiet-forget : (clock ticks from to : ℕ) (es : List Entry) → IsQuiet clock ticks es → IsQuiet clock ticks (forget from to es)
unfolding forget
quiet-forget clock ticks from to es h = none-filter _ (has_soon clock ticks) es h

-- a tick that is not soon after the start is not passed within that time
not-passed : (start ticks from to d : ℕ) → start < 2 ^ 32 → from < 2 ^ 32 → to < 2 ^ 32 → d < 2 ^ 32 → Within start ticks from to → (nat_le 1 (ahead_of d start) && nat_le (ahead_of d start) ticks) ≡ false → is_passed d from to ≡ false
unfolding is_passed ahead_of
not-passed start ticks from to d a b c e w h =
    let f = w.from_first in
    let l = w.to_last in
    grind (arith, nat_tests)

low-below : (t : ℕ) → low t < 2 ^ 32
unfolding low
low-below t = omega arith

pub quiet-due : (start ticks from to : ℕ) (es : List Entry) → start < 2 ^ 32 → from < 2 ^ 32 → to < 2 ^ 32 → Within start ticks from to → IsQuiet start ticks es → list_any (has_due from to) es ≡ false
quiet-due start ticks from to es a b c w h =
    none-by (has_soon start ticks) (has_due from to) es
    (λ e. none-by (is_soon start ticks) (λ t. is_passed (low (due_of t)) from to) (e.time ∷ e.aus) (λ t. not-passed start ticks from to (low (due_of t)) a b c (low-below (due_of t)) w))
    h

-- one more time, or one more entry
pub more-times : (clock m n t : ℕ) (ts : List ℕ) → n ≤ m → is_soon clock n t ≡ false → list_any (is_soon clock m) ts ≡ false → list_any (is_soon clock n) (t ∷ ts) ≡ false
more-times clock m n t ts l h k = rw h (fewer-times clock m n ts l k)

pub more-entries : (clock m n : ℕ) (e : Entry) (es : List Entry) → n ≤ m → has_soon clock n e ≡ false → IsQuiet clock m es → IsQuiet clock n (e ∷ es)
more-entries clock m n e es l h k = rw h (fewer-entries clock m n es l k)

behind : (p : ℕ → Bool) (ts : List Ntp) (t : Ntp) → list_any p (map view_time ts) ≡ false → p t.0 ≡ false → list_any p (map view_time (ts ++ (t ∷ []))) ≡ false
behind p ts t h k = rw (map-append view_time ts (t ∷ []), list_any-append p (map view_time ts) (t.0 ∷ []), h, k) refl

-- one more time behind those that were looked at
pub times-on : (clock m n i : ℕ) (ts : List Ntp) (t : Ntp) → i < length ts → n ≤ m → is_soon clock n (get_or ts i t).0 ≡ false → list_any (is_soon clock m) (map view_time (take i ts)) ≡ false → list_any (is_soon clock n) (map view_time (take (i + 1) ts)) ≡ false
times-on clock m n i ts t l e h k =
    let after : i + 1 ≡ suc i = omega arith in
    subst (λ l. list_any (is_soon clock n) (map view_time l) ≡ false) (sym (ap (λ j. take j ts) after ∙ take-suc ts i t l))
    (behind (is_soon clock n) (take i ts) (get_or ts i t) (fewer-times clock m n (map view_time (take i ts)) e k) h)
