-- Items up to the end of the bytes, one after the other, as a loop and an iterator go.
use Rattle.std.proofs.Common.{◌≡◌, ℕ, ◌+◌, ◌-◌, ◌<◌, List, [], ◌∷◌, length, Some, None, Ok, Err, refl, ap, ◌∙◌, arith}
use Rattle.mmt_base.specs.declared.refused.Refused.{Refused}
use Rattle.mmt_fields.specs.Items.{Walk, all_items}
use Rattle.mmt_fields.proofs.Items.{Reader, Shortens, step, stopped, ended}

pub items_step : {A W : Type 0} (one : Reader A W) → Shortens one → (at : ℕ) (bytes : List ℕ) (x : A × List ℕ) → one at bytes ≡ Ok x
    → (all_items one at bytes).items ≡ x.0 ∷ (all_items one (at + (length bytes - length x.1)) x.1).items
items_step {A} {W} one short at bytes x e = ap (λ (w : Walk A W). w.items) (step one short at bytes x e)

pub stop_step : {A W : Type 0} (one : Reader A W) → Shortens one → (at : ℕ) (bytes : List ℕ) (x : A × List ℕ) → one at bytes ≡ Ok x
    → (all_items one at bytes).stop ≡ (all_items one (at + (length bytes - length x.1)) x.1).stop
stop_step {A} {W} one short at bytes x e = ap (λ (w : Walk A W). w.stop) (step one short at bytes x e)

pub count_step : {A W : Type 0} (one : Reader A W) → Shortens one → (at : ℕ) (bytes : List ℕ) (x : A × List ℕ) → one at bytes ≡ Ok x
    → length (all_items one at bytes).items ≡ length (all_items one (at + (length bytes - length x.1)) x.1).items + 1
count_step one short at bytes x e = ap length (items_step one short at bytes x e) ∙ omega arith

pub stop_err : {A W : Type 0} (one : Reader A W) (at : ℕ) (bytes : List ℕ) (d : Refused W) → 0 < length bytes → one at bytes ≡ Err d → (all_items one at bytes).stop ≡ Some d
stop_err {A} {W} one at bytes d some e = ap (λ (w : Walk A W). w.stop) (stopped one at bytes d some e)

pub stop_none : {A W : Type 0} (one : Reader A W) (at : ℕ) (bytes : List ℕ) → length bytes ≡ 0 → (all_items one at bytes).stop ≡ None
stop_none {A} {W} one at [] e = ap (λ (w : Walk A W). w.stop) (ended one at)
stop_none one at (b ∷ bytes) e = absurd (omega arith)

pub items_none : {A W : Type 0} (one : Reader A W) (at : ℕ) (bytes : List ℕ) → length bytes ≡ 0 → (all_items one at bytes).items ≡ []
items_none {A} {W} one at [] e = ap (λ (w : Walk A W). w.items) (ended one at)
items_none one at (b ∷ bytes) e = absurd (omega arith)

pub items_err : {A W : Type 0} (one : Reader A W) (at : ℕ) (bytes : List ℕ) (d : Refused W) → one at bytes ≡ Err d → (all_items one at bytes).items ≡ []
items_err {A} {W} one at [] d e = items_none one at [] refl
items_err {A} {W} one at (b ∷ bytes) d e = ap (λ (w : Walk A W). w.items) (stopped one at (b ∷ bytes) d (omega arith) e)
