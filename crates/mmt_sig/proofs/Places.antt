-- The place of a refused signalling payload lies within its bytes, or directly behind them.
use Rattle.std.proofs.Common.{◌≡◌, ℕ, zero, suc, ◌+◌, ◌-◌, ◌/◌, ◌%◌, ◌≤◌, Bool, true, false, ◌||◌, eqb, leb, List, [], ◌∷◌, length, Option, Some, None, Result, Ok, Err, refl, arith}
use Rattle.std.specs.Prelude.{IfSome}
use Rattle.std.specs.Int.{w8, byte_len}
use Rattle.mmt_base.specs.declared.refused.Refused.{Refused}
use Rattle.mmt_fields.specs.Reading.{number_at, bytes_at, check}
use Rattle.mmt_fields.specs.Items.{Walk, go_on, walk, all_items, unless_stopped, items_of}
use Rattle.mmt_fields.proofs.Numbers.{number_leaves}
use Rattle.mmt_sig.specs.declared.head.SigWhy.{SigWhy}
use Rattle.mmt_sig.specs.declared.head.SigWhy.TheVariants as why
use Rattle.mmt_sig.specs.Payload.{length_width}
use Rattle.mmt_sig.specs.PayloadReading.{message_at, messages_of, payload_of}
use Rattle.mmt_sig.proofs.Within.{message_within}
use Rattle.mmt_fields.proofs.Places.{IsWithin, bind_within, bytes_within, check_within, number_within}

abbrev Step : Type 0
Step = List ℕ × List ℕ

message_places : (last : ℕ) (long : Bool) (at : ℕ) (bytes : List ℕ) → at + length bytes ≤ last → IsWithin last (message_at long at bytes)
unfolding message_at
message_places last long at bytes le =
    bind_within last (number_at (length_width long) bytes at why.Short) _ (number_within last (length_width long) bytes at why.Short (omega arith)) (λ a ea.
    let la = number_leaves (length_width long) bytes at why.Short a ea in
    bind_within last (check (leb a.0 (length a.1)) at why.Overrun) _ (check_within last (leb a.0 (length a.1)) at why.Overrun (omega arith)) (λ w ew.
    bind_within last (bytes_at a.0 a.1 (at + byte_len (length_width long)) why.Short) _ (bytes_within last a.0 a.1 (at + byte_len (length_width long)) why.Short (omega arith)) (λ m em. tt)))

abbrev Stops : ℕ → Walk (List ℕ) SigWhy → Type 0
Stops last w = IfSome w.stop (λ e. e.at ≤ last)

go_on_within : (last : ℕ) (r : Result Step (Refused SigWhy)) (others : Step → Walk (List ℕ) SigWhy) → IsWithin last r → ((x : Step) → r ≡ Ok x → Stops last (others x)) → Stops last (go_on r others)
go_on_within last (Ok x) others here later = later x refl
go_on_within last (Err e) others here later = here

walk_within : (last n : ℕ) (long : Bool) (at : ℕ) (bytes : List ℕ) → at + length bytes ≤ last → Stops last (walk n (message_at long) at bytes)
unfolding walk
walk_within last zero long at bytes le = tt
walk_within last (suc n) long at [] le = tt
walk_within last (suc n) long at (b ∷ bytes) le =
    go_on_within last (message_at long at (b ∷ bytes)) (λ x. walk n (message_at long) (at + (length (b ∷ bytes) - length x.1)) x.1) (message_places last long at (b ∷ bytes) le)
    (λ x e. let short = (message_within long at (b ∷ bytes) x e).1 in walk_within last n long (at + (length (b ∷ bytes) - length x.1)) x.1 (omega arith))

unless_within : {A : Type 0} (last : ℕ) (stop : Option (Refused SigWhy)) (x : A) → IfSome stop (λ e. e.at ≤ last) → IsWithin last (unless_stopped stop x)
unless_within last None x here = tt
unless_within last (Some e) x here = here

messages_within : (last : ℕ) (aggregated long : Bool) (bytes : List ℕ) → 2 + length bytes ≤ last → IsWithin last (messages_of aggregated long bytes)
unfolding messages_of items_of
messages_within last true long bytes le = unless_within last (all_items (message_at long) 2 bytes).stop (all_items (message_at long) 2 bytes).items (walk_within last (length bytes) long 2 bytes le)
messages_within last false long bytes le = tt

pub payload_within : (bytes : List ℕ) → IsWithin (length bytes) (payload_of bytes)
unfolding payload_of
payload_within bytes =
    let last = length bytes in
    bind_within last (number_at w8 bytes 0 why.Short) _ (number_within last w8 bytes 0 why.Short (omega arith)) (λ a ea.
    let la = number_leaves w8 bytes 0 why.Short a ea in
    bind_within last (check (eqb (a.0 % 2) 0 || eqb (a.0 / 64) 0) 0 why.AggregatedPart) _ (check_within last (eqb (a.0 % 2) 0 || eqb (a.0 / 64) 0) 0 why.AggregatedPart (omega arith)) (λ whole ew.
    bind_within last (number_at w8 a.1 1 why.Short) _ (number_within last w8 a.1 1 why.Short (omega arith)) (λ counter ec.
    let lc = number_leaves w8 a.1 1 why.Short counter ec in
    bind_within last (messages_of (eqb (a.0 % 2) 1) (eqb (a.0 / 2 % 2) 1) counter.1) _ (messages_within last (eqb (a.0 % 2) 1) (eqb (a.0 / 2 % 2) 1) counter.1 (omega arith)) (λ messages em. tt))))
