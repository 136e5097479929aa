use Rattle.std.proofs.Common.{ℕ, ◌≡◌, ◌+◌, ◌<◌, ◌++◌, ◌∷◌, List, length, set, Some, refl, sym, ap, subst, ◌∙◌}
use Rattle.std.specs.Prelude.{count_by}
use Rattle.std.proofs.lemmas.List.{length-set}
use Rattle.std.proofs.lemmas.List.Elements.{All-set}
use Rattle.mmt_tlv.specs.Framing.{spelling}
use Rattle.mmt_ip.specs.declared.packet.Ip6Header.{Ip6Header}
use Rattle.mmt_ctx.specs.Spelling.{spelling as compressed_spelling}
use Rattle.mmt_ctx.specs.Squeezing.{Squeezing as Squeezer, IsAtCall, packet_at}
use Rattle.mmt_gate.specs.contracts.shrinker.Shrinker.{the_view}
use Rattle.mmt_gate.specs.Flows.{Options, same, with_context, place_among}
use Rattle.mmt_gate.specs.Keeping.{Shrinking, Knows}
use Rattle.mmt_gate.specs.Shrinking.{squeezed_as}
use Rattle.mmt_gate.proofs.Placing.{squeezer_is, calls_at, next_after}
use Rattle.mmt_gate.proofs.shrinker.Shrinker.squeeze_at.Goals as goal

pub put_squeezed-requires-clause-at_call : goal.put_squeezed-requires-clause-at_call
put_squeezed-requires-clause-at_call c =
    let within : c.args.place < length (the_view c.self.inside).squeezers = subst (λ (s : Shrinking). c.args.place < length s.squeezers) (sym c.self.view_is) c.requires.within in
    subst (λ (q : Squeezer). (call : ℕ) × IsAtCall call q) (sym c.index_mut.ensures.value) (c.self.invariant.calls c.args.place c.index_mut.result.now within)

abbrev Here : (c : goal.In_ok-put_squeezed) → List Ip6Header → Ip6Header → Shrinking → Type 0
Here c hs header s = Knows (with_context s.options (header ∷ hs)) hs s × (Some c.args.place ≡ place_among header (with_context s.options (header ∷ hs)))

pub returns-clause-packet : goal.returns-clause-packet
returns-clause-packet c = λ hs header knows at.
    let v : Shrinking = the_view c.self.inside in
    let here : Here c hs header v = subst (λ (s : Shrinking). Here c hs header s) (sym c.self.view_is) (knows, at) in
    let is = squeezer_is v hs header c.args.place c.index_mut.result.now here.0 here.1 c.index_mut.ensures.value in
    let options : v.options ≡ c.args.self.now.options = ap (λ (s : Shrinking). s.options) c.self.view_is in
    c.in_ok-put_squeezed.ensures.packet (count_by (same header) hs) (calls_at v hs header c.args.place c.index_mut.result.now here.0 here.1 c.index_mut.ensures.value)
    ∙ (ap (λ (x : Squeezer). c.args.out.now.items ++ spelling (record { kind = 3; body = compressed_spelling (packet_at (count_by (same header) hs) x c.args.payload.now) })) is
    ∙ ap (λ (o : Options). c.args.out.now.items ++ spelling (squeezed_as o (count_by (same header) hs) c.args.place header c.args.payload.now)) options)

pub returns-clause-next : goal.returns-clause-next
returns-clause-next c = λ hs header knows at.
    let v : Shrinking = the_view c.self.inside in
    let here : Here c hs header v = subst (λ (s : Shrinking). Here c hs header s) (sym c.self.view_is) (knows, at) in
    next_after v (record { options = v.options; flows = v.flows; squeezers = set v.squeezers c.args.place c.put_squeezed.new.squeezer }) hs header c.args.place c.index_mut.result.now c.put_squeezed.new.squeezer here.0 here.1 c.index_mut.ensures.value refl refl refl
    c.in_ok-put_squeezed.ensures.call c.in_ok-put_squeezed.ensures.same

pub invariant_of-self-2 : goal.invariant_of-self-2
invariant_of-self-2 c =
    let within : c.args.place < length (the_view c.self.inside).squeezers = subst (λ (s : Shrinking). c.args.place < length s.squeezers) (sym c.self.view_is) c.requires.within in
    let called : (call : ℕ) × IsAtCall call c.index_mut.result.now = subst (λ (q : Squeezer). (call : ℕ) × IsAtCall call q) (sym c.index_mut.ensures.value) (c.self.invariant.calls c.args.place c.index_mut.result.now within) in
    record {
      context = c.self.invariant.context;
      full_every = c.self.invariant.full_every;
      pairs = c.self.invariant.pairs ∙ sym (length-set c.self.inside.squeezers.items c.args.place c.put_squeezed.new.squeezer);
      calls = All-set (λ (q : Squeezer). (call : ℕ) × IsAtCall call q) c.self.inside.squeezers.items c.args.place c.put_squeezed.new.squeezer (called.0 + 1, c.in_ok-put_squeezed.ensures.call called.0 called.1) c.self.invariant.calls;
    }
