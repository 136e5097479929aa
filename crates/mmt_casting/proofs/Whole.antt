-- The first refusal of a programme, from its three parts.
use Rattle.std.proofs.Common.{◌≡◌, ℕ, length, option_map, is_some, true, false, true≢false, refl, ap, sym, ◌∙◌, Option, Some, None}
use Rattle.mmt_cast.specs.Casting.{planned}
use Rattle.mmt_cast.specs.Placing.{all_mpus}
use Rattle.mmt_cast.specs.Refusing.{Refusal, first_of, refusal, refusal_of_mpus, refusal_of_packets, refusal_of_signals}
use Rattle.mmt_casting.specs.Ends.{end_of}
use Rattle.mmt_casting.specs.declared.ends.CastEnd.{CastEnd}
use Rattle.mmt_model.specs.declared.programmes.Programme.{Programme}

-- an end of the first of two refusals is that of both, and without one the later one is
some-first : (p q : Option Refusal) (a : Option CastEnd) → a ≡ option_map end_of p → true ≡ is_some a → a ≡ option_map end_of (first_of p q)
some-first None q a e some = absurd (true≢false (some ∙ ap is_some e))
some-first (Some r) q a e some = e

none-first : (p q : Option Refusal) (a : Option CastEnd) → a ≡ option_map end_of p → false ≡ is_some a → first_of p q ≡ q
none-first None q a e none = refl
none-first (Some r) q a e none = absurd (true≢false (sym (ap is_some e) ∙ sym none))

pub end-by-times : (programme : Programme) (a : Option CastEnd) → a ≡ option_map end_of (refusal_of_mpus (all_mpus programme)) → true ≡ is_some a → a ≡ option_map end_of (refusal programme)
unfolding refusal
end-by-times programme a e some = some-first _ _ a e some

pub end-by-tables : (programme : Programme) (a b : Option CastEnd) → a ≡ option_map end_of (refusal_of_mpus (all_mpus programme)) → false ≡ is_some a
    → b ≡ option_map end_of (refusal_of_signals programme 0 programme.signals) → true ≡ is_some b → b ≡ option_map end_of (refusal programme)
unfolding refusal
end-by-tables programme a b ea none eb some = some-first _ _ b eb some ∙ ap (option_map end_of) (sym (none-first _ _ a ea none))

pub end-by-packets : (programme : Programme) (n : ℕ) (a b o : Option CastEnd) → a ≡ option_map end_of (refusal_of_mpus (all_mpus programme)) → false ≡ is_some a
    → b ≡ option_map end_of (refusal_of_signals programme 0 programme.signals) → false ≡ is_some b → n ≡ length (planned programme) → o ≡ option_map end_of (refusal_of_packets n) → o ≡ option_map end_of (refusal programme)
unfolding refusal
end-by-packets programme n a b o ea none eb none' en eo =
    eo ∙ (ap (λ k. option_map end_of (refusal_of_packets k)) en ∙ ap (option_map end_of) (sym (none-first _ _ a ea none ∙ none-first _ _ b eb none')))
