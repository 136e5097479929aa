-- So many items, one after the other, as a loop and an iterator go.
use Rattle.std.proofs.Common.{◌≡◌, ℕ, zero, suc, ◌+◌, ◌-◌, ◌<◌, List, [], ◌∷◌, length, Some, None, Ok, Err, ap, ◌∙◌, arith}
use Rattle.mmt_base.specs.declared.refused.Refused.{Refused}
use Rattle.mmt_fields.proofs.Items.{Reader}
use Rattle.mmt_lists.specs.Counted.{Counted, then_more, counted}
use Rattle.mmt_lists.proofs.CountedItems.{counted_none, counted_step, counted_err}

pub counted_more : {A W : Type 0} (one : Reader A W) (n at : ℕ) (bytes : List ℕ) (x : A × List ℕ) → 0 < n → one at bytes ≡ Ok x
    → counted n one at bytes ≡ then_more bytes (Ok x) (λ y. counted (n - 1) one (at + (length bytes - length y.1)) y.1)
counted_more one zero at bytes x some e = absurd (omega arith)
counted_more {A} {W} one (suc n) at bytes x some e =
    let less : n ≡ suc n - 1 = omega arith in
    counted_step one n at bytes x e ∙ ap (λ (k : ℕ). then_more bytes (Ok x) (λ y. counted k one (at + (length bytes - length y.1)) y.1)) less

pub first_item : {A W : Type 0} (one : Reader A W) (n at : ℕ) (bytes : List ℕ) (x : A × List ℕ) → 0 < n → one at bytes ≡ Ok x
    → (counted n one at bytes).items ≡ x.0 ∷ (counted (n - 1) one (at + (length bytes - length x.1)) x.1).items
first_item {A} {W} one n at bytes x some e = ap (λ (w : Counted A W). w.items) (counted_more one n at bytes x some e)

pub no_item : {A W : Type 0} (one : Reader A W) (n at : ℕ) (bytes : List ℕ) (d : Refused W) → one at bytes ≡ Err d → (counted n one at bytes).items ≡ []
no_item {A} {W} one zero at bytes d e = ap (λ (w : Counted A W). w.items) (counted_none one at bytes)
no_item {A} {W} one (suc n) at bytes d e = ap (λ (w : Counted A W). w.items) (counted_err one n at bytes d e)

pub items_zero : {A W : Type 0} (one : Reader A W) (n at : ℕ) (bytes : List ℕ) → n ≡ 0 → (counted n one at bytes).items ≡ []
items_zero {A} {W} one zero at bytes e = ap (λ (w : Counted A W). w.items) (counted_none one at bytes)
items_zero {A} {W} one (suc n) at bytes e = absurd (omega arith)

pub stop_more : {A W : Type 0} (one : Reader A W) (n at : ℕ) (bytes : List ℕ) (x : A × List ℕ) → 0 < n → one at bytes ≡ Ok x
    → (counted n one at bytes).stop ≡ (counted (n - 1) one (at + (length bytes - length x.1)) x.1).stop
stop_more {A} {W} one n at bytes x some e = ap (λ (w : Counted A W). w.stop) (counted_more one n at bytes x some e)

pub rest_more : {A W : Type 0} (one : Reader A W) (n at : ℕ) (bytes : List ℕ) (x : A × List ℕ) → 0 < n → one at bytes ≡ Ok x
    → (counted n one at bytes).rest ≡ (counted (n - 1) one (at + (length bytes - length x.1)) x.1).rest
rest_more {A} {W} one n at bytes x some e = ap (λ (w : Counted A W). w.rest) (counted_more one n at bytes x some e)

pub stop_zero : {A W : Type 0} (one : Reader A W) (n at : ℕ) (bytes : List ℕ) → n ≡ 0 → (counted n one at bytes).stop ≡ None
stop_zero {A} {W} one zero at bytes e = ap (λ (w : Counted A W). w.stop) (counted_none one at bytes)
stop_zero {A} {W} one (suc n) at bytes e = absurd (omega arith)

pub rest_zero : {A W : Type 0} (one : Reader A W) (n at : ℕ) (bytes : List ℕ) → n ≡ 0 → (counted n one at bytes).rest ≡ bytes
rest_zero {A} {W} one zero at bytes e = ap (λ (w : Counted A W). w.rest) (counted_none one at bytes)
rest_zero {A} {W} one (suc n) at bytes e = absurd (omega arith)

pub stop_here : {A W : Type 0} (one : Reader A W) (n at : ℕ) (bytes : List ℕ) (d : Refused W) → 0 < n → one at bytes ≡ Err d → (counted n one at bytes).stop ≡ Some d
stop_here one zero at bytes d some e = absurd (omega arith)
stop_here {A} {W} one (suc n) at bytes d some e = ap (λ (w : Counted A W). w.stop) (counted_err one n at bytes d e)
