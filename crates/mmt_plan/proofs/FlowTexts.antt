-- The text of a flow is read back as that flow.
use Rattle.std.proofs.Common.{◌≡◌, ◌≢◌, ℕ, zero, suc, ◌+◌, ◌*◌, ◌/◌, ◌%◌, ◌^◌, ◌<◌, List, Bool, true, false, ◌&&◌, if◌then◌else◌, Option, Some, None, IfSome, IfNone, refl, sym, ap, subst, ◌∙◌, arith}
use Rattle.std.proofs.lemmas.Bool.Decides.{nat_tests}
use Rattle.std.proofs.lemmas.Fmt.{decimal_is_IsNumeral}
use Rattle.std.proofs.lemmas.Int.Digits.{digits_value_push}
use Rattle.std.proofs.lemmas.Slice.Eq.{bytes_eq-Decides}
use Rattle.std.proofs.Math.Nat.{pow-suc}
use Rattle.std.specs.Char.{digit_value}
use Rattle.std.specs.Fmt.{digit_glyph}
use Rattle.std.specs.Str.{bytes_eq}
use Rattle.std.specs.Str.Parse.{digits_value}
use Rattle.mmt_model.specs.Right.{IsRightFlow}
use Rattle.mmt_model.specs.declared.programmes.Flow.{Flow}
use Rattle.mmt_command.specs.Flows.{hex_text, flow_text, HasFlowRange}
use Rattle.mmt_command.proofs.FlowTexts.{hex_last, hex_none, front_of, port_of}
use Rattle.mmt_plan.specs.Flows.{flow_from, is_in_range, flow_in}

glyph_value : (d : ℕ) → d < 16 → digit_value (digit_glyph false d) ≡ d
glyph_value d h = grind (arith, nat_tests)

below : (n p q : ℕ) → n < q → q ≡ p * 16 → n / 16 < p
below n p q h e = omega arith

rejoined : (n d r : ℕ) → d ≡ n / 16 → r ≡ n % 16 → d * 16 + r ≡ n
rejoined n d r e f = omega arith

hex_value : (k n : ℕ) → n < 16 ^ k → digits_value 16 (hex_text k n) ≡ n
hex_value zero n h = ap (digits_value 16) (sym (hex_none n)) ∙ omega arith
hex_value (suc k) n h =
    ap (digits_value 16) (hex_last k n) ∙ digits_value_push 16 (hex_text k (n / 16)) (digit_glyph false (n % 16))
    ∙ rejoined n _ _ (hex_value k (n / 16) (below n (16 ^ k) (16 ^ suc k) h (pow-suc 16 k))) (glyph_value (n % 16) (omega arith))

same_flow : (f g : Flow) → f.address ≡ g.address → f.port ≡ g.port → f ≡ g
same_flow f g a p = ap (λ x. record f { address = x }) a ∙ ap (λ x. record g { port = x }) p

pub from_text : (f : Flow) → HasFlowRange f → flow_from (flow_text f) ≡ f
from_text f range =
    same_flow (flow_from (flow_text f)) f (ap (digits_value 16) (front_of f) ∙ hex_value 32 f.address range.address)
    (ap (digits_value 10) (port_of f) ∙ (decimal_is_IsNumeral f.port (omega arith)).1)

both_true : (a b c d : Bool) → a ≡ true → b ≡ true → c ≡ true → d ≡ true → (a && (b && c && d)) ≡ true
both_true a b c d p q r t = rw (p, q, r, t)

pub in_range : (f : Flow) → HasFlowRange f → is_in_range f ≡ true
in_range f range = let p = range.port_low in let q = range.port_high in let n = range.not_ntp in let a = range.address in grind (arith, nat_tests)

pub range_of : (f : Flow) → is_in_range f ≡ true → HasFlowRange f
range_of f is = record { address = grind (arith, nat_tests); port_low = grind (arith, nat_tests); port_high = grind (arith, nat_tests); not_ntp = grind (arith, nat_tests) }

no_flow : (b c : Bool) (g : Flow) → (b ≡ true → c ≡ true → ⊥) → None ≡ (if b && c then Some g else None)
no_flow true true g h = absurd (h refl refl)
no_flow true false g h = refl
no_flow false c g h = refl

pub reads : (text : List ℕ) (r : Option Flow) → IfSome r (λ f. text ≡ flow_text f) → IfSome r (λ f. HasFlowRange f) → IfNone r ((f : Flow) → HasFlowRange f → text ≢ flow_text f) → r ≡ flow_in text
unfolding flow_in
reads text (Some f) some range none =
    let e : flow_from text ≡ f = ap flow_from some ∙ from_text f range in
    subst (λ g. Some f ≡ (if is_in_range g && bytes_eq text (flow_text g) then Some g else None)) (sym e) (rw (in_range f range, (bytes_eq-Decides text (flow_text f)).1 some))
reads text None some range none =
    no_flow (is_in_range (flow_from text)) (bytes_eq text (flow_text (flow_from text))) (flow_from text) (λ b c. none (flow_from text) (range_of (flow_from text) b) ((bytes_eq-Decides text (flow_text (flow_from text))).0 c))

pub ranges : (r : Option Flow) → IfSome r (λ f. HasFlowRange f) → IfSome r IsRightFlow
ranges None h = tt
ranges (Some f) h = record { address = h.address; port_some = omega (arith, h.port_low); port = omega (arith, h.port_high); no_ntp = h.not_ntp }
