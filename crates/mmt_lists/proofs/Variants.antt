-- Formats whose layout depends on a number that was read, and refusals under another name.
use Rattle.std.proofs.Common.{◌≡◌, ℕ, Bool, true, false, List, ◌++◌, Result, Ok, Err, refl, sym, ap, subst, ◌∙◌}
use Rattle.std.specs.Prelude.{if◌then◌else◌, IfOk}
use Rattle.mmt_base.specs.declared.refused.Refused.{Refused}
use Rattle.mmt_fields.specs.Reading.{◌>>=◌, check, Gives}
use Rattle.mmt_fields.proofs.Codec.{IsBytes, bind_ok, ok_is, Stage, Field, Format, Always}

-- one of two layouts, by a test of what was read so far
pub chosen : {V E : Type 0} {Fits : V → Type 0} {C : V → Type 0} {B : List ℕ → Type 0} {t : V → List ℕ} {k m : List ℕ → Result V E} (b : Bool)
    → (b ≡ true → Stage Fits C B k t)
    → (b ≡ false → Stage Fits C B m t)
    → Stage Fits C B (λ bytes. if b then k bytes else m bytes) t
chosen true if_true if_false = if_true refl
chosen false if_true if_false = if_false refl

-- one variant of a value, all of whose rest is read as a format of its own
pub variant : {V E A : Type 0} {Fits : V → Type 0} {C : V → Type 0} {B : List ℕ → Type 0} {t : V → List ℕ} {r : List ℕ → Result A E} {s : A → List ℕ} {F : A → Type 0} (f : A → V)
    → Format F r s
    → ((v : V) → C v → Fits v → (x : A) × (f x ≡ v) × F x)
    → ((x : A) → F x → (s x ≡ t (f x)) × C (f x) × Fits (f x))
    → Stage Fits C B (λ bytes. r bytes >>= λ x. Ok (f x)) t
variant {V} {E} {A} {Fits} {C} {B} {t} {r} {s} {F} f here back there = record {
  takes = λ bytes v are known e.
      let b = bind_ok (r bytes) (λ x. Ok (f x)) v e in
      let h = here.takes bytes b.0 are tt b.1 in
      let m = there b.0 h.2 in
      subst (λ (v : V). (bytes ≡ t v) × C v × Fits v) (ok_is (f b.0) v b.2) (h.0 ∙ m.0, m.1, m.2);
  again = λ v c w.
      let x = back v c w in
      let same : t v ≡ s x.0 = ap t (sym x.1) ∙ sym (there x.0 x.2).0 in
      ap (λ (bytes : List ℕ). r bytes >>= λ x. Ok (f x)) same ∙ rw (here.again x.0 tt x.2) (ap Ok x.1);
}

-- a field read at a place that depends on the bytes that are left
pub placed_field : {A E : Type 0} {r : ℕ → List ℕ → Result (A × List ℕ) E} {s : A → List ℕ} {F : A → Type 0} (place : List ℕ → ℕ)
    → ((at : ℕ) → Field (r at) s F)
    → Field (λ bytes. r (place bytes) bytes) s F
placed_field {A} {E} {r} {s} {F} place fields = record {
  takes = λ bytes x rest are e. let f = fields (place bytes) in f.takes bytes x rest are e;
  again = λ x rest fits. let f = fields (place (s x ++ rest)) in f.again x rest fits;
}

check_holds : {W : Type 0} (b : Bool) (at : ℕ) (why : W) (u : Unit {0}) → check b at why ≡ Ok u → b ≡ true
check_holds true at why u e = refl
check_holds false at why u e = absurd cc

-- a test of the bytes that are left, at a place that depends on them
pub checked_left : {V W : Type 0} {Fits : V → Type 0} {C : V → Type 0} {B : List ℕ → Type 0} {t : V → List ℕ} (b : List ℕ → Bool) (at : List ℕ → ℕ) (why : W) (k : Unit {0} → List ℕ → Result V (Refused W))
    → ((v : V) → C v → Fits v → b (t v) ≡ true)
    → Stage Fits C (λ rest. (b rest ≡ true) × B rest) (k tt) t
    → Stage Fits C B (λ bytes. check (b bytes) (at bytes) why >>= λ u. k u bytes) t
checked_left {V} {W} {Fits} {C} {B} {t} b at why k holds later = record {
  takes = λ bytes v are known e.
      let p = bind_ok (check (b bytes) (at bytes) why) (λ u. k u bytes) v e in
      let is = check_holds (b bytes) (at bytes) why p.0 p.1 in
      later.takes bytes v are (is, known) p.2;
  again = λ v c f. rw (holds v c f) (later.again v c f);
}

-- a reading of bytes that stood in a field
pub inside : {V E A : Type 0} {Fits : V → Type 0} {C : V → Type 0} {B : List ℕ → Type 0} {t : V → List ℕ} (r : Result A E) (π : V → A) (k : A → List ℕ → Result V E)
    → ((v : V) → C v → Fits v → r ≡ Ok (π v))
    → ((x : A) → r ≡ Ok x → Stage Fits (λ v. (π v ≡ x) × C v) B (k x) t)
    → Stage Fits C B (λ bytes. r >>= λ x. k x bytes) t
inside {V} {E} {A} {Fits} {C} {B} {t} r π k reads later = record {
  takes = λ bytes v are known e.
      let b = bind_ok r (λ x. k x bytes) v e in
      let stage = later b.0 b.1 in
      let l = stage.takes bytes v are known b.2 in
      (l.0, l.1.1, l.2);
  again = λ v c f. rw (reads v c f) (let stage = later (π v) (reads v c f) in stage.again v (refl, c) f);
}

-- what is read where a fact is known of the bytes
pub is_found_if : {X V E : Type 0} {Fits : V → Type 0} {B : List ℕ → Type 0} {k : List ℕ → Result V E} {t : V → List ℕ} → Stage Fits Always B k t → (view : X → V) (bytes : List ℕ) (r : Result X E) → IsBytes bytes → B bytes → Gives view r (k bytes) → IfOk r (λ x. Fits (view x) × (bytes ≡ t (view x)))
is_found_if format view bytes (Ok x) are known given = let f = format.takes bytes (view x) are known given in (f.2, f.0)
is_found_if format view bytes (Err e) are known given = tt

pub is_only_if : {X V E : Type 0} {Fits : V → Type 0} {B : List ℕ → Type 0} {k : List ℕ → Result V E} {t : V → List ℕ} → Stage Fits Always B k t → (view : X → V) (bytes : List ℕ) (r : Result X E) → Gives view r (k bytes) → (v : V) → Fits v → bytes ≡ t v → Gives view r (Ok v)
is_only_if {X} {V} {E} {Fits} {B} {k} {t} format view bytes r given v fits e = subst (λ (x : Result V E). Gives view r x) (ap k e ∙ format.again v tt fits) given
