use Rattle.std.proofs.Common.{rules, ℕ, ◌≡◌, ◌+◌, List, [], ◌∷◌, ◌++◌, length, Some, None, refl, sym, ap, subst, ◌∙◌, arith}
use Rattle.std.specs.Prelude.{All}
use Rattle.std.proofs.lemmas.List.Elements.{All-push}
use Rattle.mmt_ctx.specs.Squeezing.{Squeezing as Squeezer, IsAtCall}
use Rattle.mmt_gate.specs.contracts.shrinker.Shrinker.{the_view}
use Rattle.mmt_gate.specs.Keeping.{Shrinking, HasSqueezed}
use Rattle.mmt_gate.proofs.Placing.{Found, place_found, place_full, place_new, agrees, pairs_new}
use Rattle.mmt_gate.proofs.shrinker.Shrinker.place.Goals as goal

pub returns-in-Some-clause-found : goal.returns-in-Some-clause-found
returns-in-Some-clause-found c = λ hs has.
    subst (λ (s : Shrinking). Found c.args.header hs (Some c.in-Some.place) s s) c.self.view_is
    (place_found (the_view c.self.inside) hs c.args.header _ (λ g. agrees c.flow_of-flow.result c.args.header g c.flow_of-flow.ensures) c.in-Some.place (subst (λ (s : Shrinking). HasSqueezed hs s) (sym c.self.view_is) has) (sym c.in-Some.is ∙ c.get_index_of.ensures.index))

pub returns-then-context-ge-CONTEXTS-clause-found : goal.returns-then-context-ge-CONTEXTS-clause-found
returns-then-context-ge-CONTEXTS-clause-found c = λ hs has.
    subst (λ (s : Shrinking). Found c.args.header hs None s s) c.self.view_is
    (place_full (the_view c.self.inside) hs c.args.header _ (λ g. agrees c.flow_of-flow.result c.args.header g c.flow_of-flow.ensures) (subst (λ (s : Shrinking). HasSqueezed hs s) (sym c.self.view_is) has) (sym c.in_default.is ∙ c.get_index_of.ensures.index)
    (omega (arith, c.if-context-ge-CONTEXTS.true, c.len-place.ensures)))

len_is : (c : goal.After-unwrap) → c.len-place.result ≡ length (the_view c.self.inside).squeezers
len_is c = omega (arith, c.len-place.ensures)

pushed : (c : goal.After-unwrap) → c.push.new.self.items ≡ c.self.inside.squeezers.items ++ c.new-squeezer.result ∷ []
pushed c = search rules

abbrev squeezer : (c : goal.After-unwrap) → ℕ → Squeezer
squeezer c n = record { context = n; full_every = c.self.inside.full_every; header = c.args.header; number = 0; since = 0 }

context_is : (c : goal.After-unwrap) → c.self.inside.context + c.len-place.result ≡ (the_view c.self.inside).options.context + length (the_view c.self.inside).squeezers
context_is c = ap (λ (n : ℕ). c.self.inside.context + n) (len_is c)

pub returns-clause-found : goal.returns-clause-found
returns-clause-found c = λ hs has.
    let v : Shrinking = the_view c.self.inside in
    let t : Shrinking = the_view (record { context = c.self.inside.context; full_every = c.self.inside.full_every; flows = c.insert.new.self; squeezers = c.push.new.self }) in
    let f = place_new v t hs c.args.header _ (λ g. agrees c.flow_of-flow.result c.args.header g c.flow_of-flow.ensures) (subst (λ (s : Shrinking). HasSqueezed hs s) (sym c.self.view_is) has) (sym c.in_default.is ∙ c.get_index_of.ensures.index)
    (omega (arith, c.if-context-ge-CONTEXTS.false, c.len-place.ensures)) c.flow_of-flow.result c.flow_of-flow.ensures refl c.in_default-insert.ensures.keys (pushed c ∙ ap (λ (x : Squeezer). c.self.inside.squeezers.items ++ x ∷ []) (c.new-squeezer.ensures.made ∙ ap (λ (n : ℕ). squeezer c n) (context_is c))) in
    let g : Found c.args.header hs (Some c.len-place.result) v t = (f.0, ap Some (len_is c) ∙ f.1) in
    subst (λ (s : Shrinking). Found c.args.header hs (Some c.len-place.result) s t) c.self.view_is g

pub invariant_of-self-2 : goal.invariant_of-self-2
invariant_of-self-2 c = record {
  context = c.self.invariant.context;
  full_every = c.self.invariant.full_every;
  pairs = pairs_new (the_view c.self.inside) _ c.flow_of-flow.result c.new-squeezer.result c.insert.new.self.keys c.push.new.self.items c.self.invariant.pairs (sym c.in_default.is ∙ c.get_index_of.ensures.index) c.in_default-insert.ensures.keys (pushed c);
  calls = subst (λ (x : List Squeezer). All (λ (q : Squeezer). (call : ℕ) × IsAtCall call q) x) (sym (pushed c))
      (All-push (λ (q : Squeezer). (call : ℕ) × IsAtCall call q) c.self.inside.squeezers.items c.new-squeezer.result c.self.invariant.calls (0, c.new-squeezer.ensures.first));
}
