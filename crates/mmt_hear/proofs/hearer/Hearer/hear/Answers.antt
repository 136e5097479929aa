use Rattle.std.proofs.Common.{refl, sym, ◌∙◌, arith}
use Rattle.mmt_hear.specs.Hearing.{compressed_bodies}
use Rattle.mmt_hear.proofs.PacketTypes.{ip4_is, ip6_is, ctx_is, signal_is, null_is, other_is, heard_as}
use Rattle.mmt_hear.proofs.hearer.Hearer.hear.Goals as goal

pub returns-in-1-clause-heard : goal.returns-in-1-clause-heard
returns-in-1-clause-heard c = λ earlier packet fits is heard.
    heard_as _ earlier packet _ 1 _ _ (c.opened-kind.ensures.packet packet fits is) c.in-1.is (ip4_is c.args.flow.now earlier c.opened-kind.result.1.now)

pub returns-in-2-clause-heard : goal.returns-in-2-clause-heard
returns-in-2-clause-heard c = λ earlier packet fits is heard.
    heard_as _ earlier packet _ 2 _ _ (c.opened-kind.ensures.packet packet fits is) c.in-2.is (ip6_is c.args.flow.now earlier c.opened-kind.result.1.now ∙ sym c.datagram.ensures.heard)

pub returns-in-3-clause-heard : goal.returns-in-3-clause-heard
returns-in-3-clause-heard c = λ earlier packet fits is heard.
    heard_as _ earlier packet _ 3 _ _ (c.opened-kind.ensures.packet packet fits is) c.in-3.is (ctx_is c.args.flow.now earlier c.opened-kind.result.1.now ∙ sym (c.compressed.ensures.heard (compressed_bodies earlier) heard))

pub returns-in-254-clause-heard : goal.returns-in-254-clause-heard
returns-in-254-clause-heard c = λ earlier packet fits is heard.
    heard_as _ earlier packet _ 254 _ _ (c.opened-kind.ensures.packet packet fits is) c.in-254.is (signal_is c.args.flow.now earlier c.opened-kind.result.1.now)

pub returns-in-255-clause-heard : goal.returns-in-255-clause-heard
returns-in-255-clause-heard c = λ earlier packet fits is heard.
    heard_as _ earlier packet _ 255 _ _ (c.opened-kind.ensures.packet packet fits is) c.in-255.is (null_is c.args.flow.now earlier c.opened-kind.result.1.now)

pub returns-in_default-clause-heard : goal.returns-in_default-clause-heard
returns-in_default-clause-heard c = λ earlier packet fits is heard.
    heard_as _ earlier packet _ _ _ _ (c.opened-kind.ensures.packet packet fits is) refl
    (other_is c.args.flow.now earlier c.opened-kind.result.0 c.opened-kind.result.1.now (λ e. omega (arith, e, c.in_default)) (λ e. omega (arith, e, c.in_default)) (λ e. omega (arith, e, c.in_default)) (λ e. omega (arith, e, c.in_default)) (λ e. omega (arith, e, c.in_default)))
