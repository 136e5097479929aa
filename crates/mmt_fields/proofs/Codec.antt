-- What is read is spelled so, and what is spelled so is read: shown for a format from the same two laws of each field.
use Rattle.std.proofs.Common.{◌≡◌, ℕ, ◌+◌, ◌<◌, Bool, true, false, List, ◌++◌, length, get_or, take, drop, Result, Ok, Err, refl, sym, ap, subst, ◌∙◌, arith, inl, inr}
use Rattle.std.specs.Prelude.{IfOk}
use Rattle.std.proofs.lemmas.Bool.{cases_lt}
use Rattle.std.proofs.lemmas.List.{drop_at, length-take, get_or-drop, get_or-take, get_or_past}
use Rattle.mmt_base.specs.declared.refused.Refused.{Refused}
use Rattle.mmt_fields.specs.Reading.{◌>>=◌, check, Gives}

-- each element of the list is a byte
abbrev pub IsBytes : List ℕ → Type 0
IsBytes bytes = (i : ℕ) → get_or bytes i 0 < 256

pub IsBytes-drop : (n : ℕ) (bytes : List ℕ) → IsBytes bytes → IsBytes (drop n bytes)
IsBytes-drop n bytes h i = rw get_or-drop (h (n + i))

pub IsBytes-take : (n : ℕ) (bytes : List ℕ) → IsBytes bytes → IsBytes (take n bytes)
IsBytes-take n bytes h i =
    elim (cases_lt i n) [
      | inl lt ↦ rw (get_or-take n bytes i 0 lt) (h i)
      | inr le ↦ rw (get_or_past (take n bytes) i 0 (omega (arith, length-take n bytes))) (omega arith)
    ]

pub IsBytes-rest : (front rest : List ℕ) → IsBytes (front ++ rest) → IsBytes rest
IsBytes-rest front rest h = subst IsBytes (drop_at front rest (length front) refl) (IsBytes-drop (length front) (front ++ rest) h)

-- the value of a step that did not fail
pub bind_ok : {E A B : Type 0} (r : Result A E) (f : A → Result B E) (y : B) → (r >>= f) ≡ Ok y → (x : A) × (r ≡ Ok x) × (f x ≡ Ok y)
bind_ok (Ok x) f y e = (x, refl, e)
bind_ok (Err d) f y e = absurd cc

abbrev done : {E A : Type 0} → A → Result A E
done x = Ok x

pub ok_is : {E A : Type 0} (x y : A) → done {E = E} x ≡ done y → x ≡ y
ok_is x y e = cc

-- The rest of a format that is read by k. The bytes spell what v has left, t v, and B is known of them. C is what was
-- read so far of v, and Fits what v keeps as a whole.
pub record Stage {V E : Type 0} (Fits : V → Type 0) (C : V → Type 0) (B : List ℕ → Type 0) (k : List ℕ → Result V E) (t : V → List ℕ) : Type 0 where
  pub takes : (bytes : List ℕ) (v : V) → IsBytes bytes → B bytes → k bytes ≡ Ok v → (bytes ≡ t v) × C v × Fits v
  pub again : (v : V) → C v → Fits v → k (t v) ≡ Ok v

-- A field at the front, whose values that fit F are spelled by s.
pub record Field {A E : Type 0} (r : List ℕ → Result (A × List ℕ) E) (s : A → List ℕ) (F : A → Type 0) : Type 0 where
  pub takes : (bytes : List ℕ) (x : A) (rest : List ℕ) → IsBytes bytes → r bytes ≡ Ok (x, rest) → (bytes ≡ s x ++ rest) × F x
  pub again : (x : A) (rest : List ℕ) → F x → r (s x ++ rest) ≡ Ok (x, rest)

-- a field, and what is left of the format after it
pub field : {V E A : Type 0} {Fits : V → Type 0} {C : V → Type 0} {B : List ℕ → Type 0} {r : List ℕ → Result (A × List ℕ) E} {s : A → List ℕ} {F : A → Type 0} {t : V → List ℕ} (k : A × List ℕ → Result V E) (π : V → A)
    → Field r s F
    → ((v : V) → C v → Fits v → F (π v))
    → ((x : A) → F x → Stage Fits (λ v. (π v ≡ x) × C v) (λ rest. B (s x ++ rest)) (λ rest. k (x, rest)) t)
    → Stage Fits C B (λ bytes. r bytes >>= k) (λ v. s (π v) ++ t v)
field {V} {E} {A} {Fits} {C} {B} {r} {s} {F} {t} k π here fits later = record {
  takes = λ bytes v are known e.
      let b = bind_ok (r bytes) k v e in
      let h = here.takes bytes b.0.0 b.0.1 are b.1 in
      let stage = later b.0.0 h.1 in
      let l = stage.takes b.0.1 v (IsBytes-rest (s b.0.0) b.0.1 (subst IsBytes h.0 are)) (subst B h.0 known) b.2 in
      (h.0 ∙ ap (λ (rest : List ℕ). s b.0.0 ++ rest) l.0 ∙ ap (λ (x : A). s x ++ t v) (sym l.1.0), l.1.1, l.2);
  again = λ v c f.
      rw (here.again (π v) (t v) (fits v c f)) (let stage = later (π v) (fits v c f) in stage.again v (refl, c) f);
}

-- a test of what was read so far
pub checked : {V W : Type 0} {Fits : V → Type 0} {C : V → Type 0} {B : List ℕ → Type 0} {t : V → List ℕ} (b : Bool) (at : ℕ) (why : W) (k : Unit {0} → List ℕ → Result V (Refused W))
    → ((v : V) → C v → Fits v → b ≡ true)
    → (b ≡ true → Stage Fits C B (k tt) t)
    → Stage Fits C B (λ bytes. check b at why >>= λ u. k u bytes) t
checked {V} {W} {Fits} {C} {B} {t} true at why k holds later = later refl
checked {V} {W} {Fits} {C} {B} {t} false at why k holds later = record {
  takes = λ bytes v are known e. absurd cc;
  again = λ v c f. absurd (cc (holds v c f));
}

-- a test of the bytes that are left
pub checked_rest : {V W : Type 0} {Fits : V → Type 0} {C : V → Type 0} {B : List ℕ → Type 0} {t : V → List ℕ} (b : List ℕ → Bool) (at : ℕ) (why : W) (k : Unit {0} → List ℕ → Result V (Refused W))
    → ((v : V) → C v → Fits v → b (t v) ≡ true)
    → Stage Fits C (λ rest. (b rest ≡ true) × B rest) (k tt) t
    → Stage Fits C B (λ bytes. check (b bytes) at why >>= λ u. k u bytes) t
checked_rest {V} {W} {Fits} {C} {B} {t} b at why k holds later = record {
  takes = λ bytes v are known e.
      let p = bind_ok (check (b bytes) at why) (λ u. k u bytes) v e in
      let is = check_true (b bytes) at why p.0 p.1 in
      later.takes bytes v are (is, known) p.2;
  again = λ v c f. rw (holds v c f) (later.again v c f);
}
  where
    check_true : {W : Type 0} (b : Bool) (at : ℕ) (why : W) (u : Unit {0}) → check b at why ≡ Ok u → b ≡ true
    check_true true at why u e = refl
    check_true false at why u e = absurd cc

-- the value is made of what was read and of what is left
pub made : {V E : Type 0} {Fits : V → Type 0} {C : V → Type 0} {B : List ℕ → Type 0} (t : V → List ℕ) (f : List ℕ → V)
    → ((rest : List ℕ) → IsBytes rest → B rest → (rest ≡ t (f rest)) × C (f rest) × Fits (f rest))
    → ((v : V) → C v → Fits v → f (t v) ≡ v)
    → Stage {E = E} Fits C B (λ rest. Ok (f rest)) t
made {V} {E} {Fits} {C} {B} t f there back = record {
  takes = λ bytes v are known e. subst (λ (v : V). (bytes ≡ t v) × C v × Fits v) (ok_is (f bytes) v e) (there bytes are known);
  again = λ v c f. ap Ok (back v c f);
}

-- ---- the two laws of a whole format, for the contract of its reader

-- nothing is known
abbrev pub Always : {A : Type 0} → A → Type 0
Always x = Unit {0}

-- a whole format: what k reads is spelled by t, and what t spells is read by k
abbrev pub Format : {V E : Type 0} (Fits : V → Type 0) (k : List ℕ → Result V E) (t : V → List ℕ) → Type 0
Format Fits k t = Stage Fits Always Always k t

-- the value that a reader found fits, and the bytes are its spelling
pub is_found : {X V E : Type 0} {Fits : V → Type 0} {k : List ℕ → Result V E} {t : V → List ℕ} → Format Fits k t → (view : X → V) (bytes : List ℕ) (r : Result X E) → IsBytes bytes → Gives view r (k bytes) → IfOk r (λ x. Fits (view x) × (bytes ≡ t (view x)))
is_found format view bytes (Ok x) are given = let f = format.takes bytes (view x) are tt given in (f.2, f.0)
is_found format view bytes (Err e) are given = tt

-- where the bytes are the spelling of a value that fits, the reader answered that value
pub is_only : {X V E : Type 0} {Fits : V → Type 0} {k : List ℕ → Result V E} {t : V → List ℕ} → Format Fits k t → (view : X → V) (bytes : List ℕ) (r : Result X E) → Gives view r (k bytes) → (v : V) → Fits v → bytes ≡ t v → Gives view r (Ok v)
is_only {X} {V} {E} {Fits} {k} {t} format view bytes r given v fits e = subst (λ (x : Result V E). Gives view r x) (ap k e ∙ format.again v tt fits) given

-- a format whose value is a value and the bytes after it is a field
pub field_of : {A E : Type 0} {F : A → Type 0} {r : List ℕ → Result (A × List ℕ) E} {t : A × List ℕ → List ℕ} (s : A → List ℕ) → Stage (λ p. F p.0) Always Always r t → ((v : A × List ℕ) → t v ≡ s v.0 ++ v.1) → Field r s F
field_of {A} {E} {F} {r} {t} s stage same = record {
  takes = λ bytes x rest are e. let f = stage.takes bytes (x, rest) are tt e in (f.0 ∙ same (x, rest), f.2);
  again = λ x rest fits. ap r (sym (same (x, rest))) ∙ stage.again (x, rest) tt fits;
}

-- the last field, which takes all that is left
pub last : {V E A : Type 0} {Fits : V → Type 0} {C : V → Type 0} {B : List ℕ → Type 0} {r : List ℕ → Result A E} {s : A → List ℕ} {F : A → Type 0} (f : A → V) (π : V → A)
    → Format F r s
    → ((v : V) → C v → Fits v → F (π v))
    → ((x : A) → F x → B (s x) → (π (f x) ≡ x) × C (f x) × Fits (f x))
    → ((v : V) → C v → Fits v → f (π v) ≡ v)
    → Stage Fits C B (λ bytes. r bytes >>= λ x. Ok (f x)) (λ v. s (π v))
last {V} {E} {A} {Fits} {C} {B} {r} {s} {F} f π here fits there back = record {
  takes = λ bytes v are known e.
      let b = bind_ok (r bytes) (λ x. Ok (f x)) v e in
      let h = here.takes bytes b.0 are tt b.1 in
      let m = there b.0 h.2 (subst B h.0 known) in
      subst (λ (v : V). (bytes ≡ s (π v)) × C v × Fits v) (ok_is (f b.0) v b.2) (h.0 ∙ ap s (sym m.0), m.1, m.2);
  again = λ v c w. rw (here.again (π v) tt (fits v c w)) (ap Ok (back v c w));
}

-- the same format, where its spelling is written otherwise
pub spelled : {V E : Type 0} {Fits : V → Type 0} {C : V → Type 0} {B : List ℕ → Type 0} {k : List ℕ → Result V E} {t : V → List ℕ} (other : V → List ℕ)
    → ((v : V) → C v → Fits v → t v ≡ other v)
    → Stage Fits C B k other
    → Stage Fits C B k t
spelled {V} {E} {Fits} {C} {B} {k} {t} other same stage = record {
  takes = λ bytes v are known e. let f = stage.takes bytes v are known e in (f.0 ∙ sym (same v f.1 f.2), f.1, f.2);
  again = λ v c f. ap k (same v c f) ∙ stage.again v c f;
}
