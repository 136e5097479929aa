-- Going from message to message.
use Rattle.std.proofs.Common.{◌≡◌, ℕ, ◌+◌, ◌-◌, ◌<◌, Bool, true, false, leb, List, [], ◌∷◌, length, Some, None, Ok, Err, ap, arith}
use Rattle.std.specs.Int.{byte_len}
use Rattle.mmt_base.specs.declared.refused.Refused.{Refused}
use Rattle.mmt_fields.specs.Reading.{number_at, bytes_at, check}
use Rattle.mmt_fields.specs.Items.{all_items}
use Rattle.mmt_fields.proofs.Codec.{bind_ok, ok_is}
use Rattle.mmt_fields.proofs.Numbers.{number_leaves, bytes_leave}
use Rattle.mmt_fields.proofs.Items.{Shortens}
use Rattle.mmt_lists.proofs.ItemSteps as steps
use Rattle.mmt_sig.specs.declared.head.SigWhy.{SigWhy}
use Rattle.mmt_sig.specs.declared.head.SigWhy.TheVariants as why
use Rattle.mmt_sig.specs.Payload.{length_width}
use Rattle.mmt_sig.specs.PayloadReading.{message_at}

abbrev pub Step : Type 0
Step = List ℕ × List ℕ

some_bytes : (long : Bool) → 0 < byte_len (length_width long)
some_bytes true = omega arith
some_bytes false = omega arith

-- a message takes its length at least
pub message_shorter : (long : Bool) → Shortens (message_at long)
unfolding message_at
message_shorter long at bytes x e =
    let a = bind_ok (number_at (length_width long) bytes at why.Short) _ x e in
    let w = bind_ok (check (leb a.0.0 (length a.0.1)) at why.Overrun) _ x a.2 in
    let m = bind_ok (bytes_at a.0.0 a.0.1 (at + byte_len (length_width long)) why.Short) _ x w.2 in
    let is : length m.0.1 ≡ length x.1 = ap (λ (y : Step). length y.1) (ok_is _ x m.2) in
    omega (arith, some_bytes long, number_leaves (length_width long) bytes at why.Short a.0 a.1, bytes_leave a.0.0 a.0.1 (at + byte_len (length_width long)) why.Short m.0 m.1)

pub items_step : (long : Bool) (at : ℕ) (bytes : List ℕ) (x : Step) → message_at long at bytes ≡ Ok x → (all_items (message_at long) at bytes).items ≡ x.0 ∷ (all_items (message_at long) (at + (length bytes - length x.1)) x.1).items
items_step long at bytes x e = steps.items_step (message_at long) (message_shorter long) at bytes x e

pub items_err : (long : Bool) (at : ℕ) (bytes : List ℕ) (d : Refused SigWhy) → message_at long at bytes ≡ Err d → (all_items (message_at long) at bytes).items ≡ []
items_err long at bytes d e = steps.items_err (message_at long) at bytes d e

pub items_none : (long : Bool) (at : ℕ) (bytes : List ℕ) → length bytes ≡ 0 → (all_items (message_at long) at bytes).items ≡ []
items_none long at bytes e = steps.items_none (message_at long) at bytes e

pub stop_step : (long : Bool) (at : ℕ) (bytes : List ℕ) (x : Step) → message_at long at bytes ≡ Ok x → (all_items (message_at long) at bytes).stop ≡ (all_items (message_at long) (at + (length bytes - length x.1)) x.1).stop
stop_step long at bytes x e = steps.stop_step (message_at long) (message_shorter long) at bytes x e

pub count_step : (long : Bool) (at : ℕ) (bytes : List ℕ) (x : Step) → message_at long at bytes ≡ Ok x → length (all_items (message_at long) at bytes).items ≡ length (all_items (message_at long) (at + (length bytes - length x.1)) x.1).items + 1
count_step long at bytes x e = steps.count_step (message_at long) (message_shorter long) at bytes x e

pub stop_err : (long : Bool) (at : ℕ) (bytes : List ℕ) (d : Refused SigWhy) → 0 < length bytes → message_at long at bytes ≡ Err d → (all_items (message_at long) at bytes).stop ≡ Some d
stop_err long at bytes d some e = steps.stop_err (message_at long) at bytes d some e

pub stop_none : (long : Bool) (at : ℕ) (bytes : List ℕ) → length bytes ≡ 0 → (all_items (message_at long) at bytes).stop ≡ None
stop_none long at bytes e = steps.stop_none (message_at long) at bytes e

pub count_none : (long : Bool) (at : ℕ) (bytes : List ℕ) → length bytes ≡ 0 → length (all_items (message_at long) at bytes).items ≡ 0
count_none long at bytes e = ap length (items_none long at bytes e)
