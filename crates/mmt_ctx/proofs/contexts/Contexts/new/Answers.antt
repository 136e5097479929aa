use Rattle.std.proofs.Common.{◌≡◌, ℕ, Option, None, replicate, ap, ◌∙◌, arith}
use Rattle.mmt_ip.specs.declared.packet.Ip6Header.{Ip6Header}
use Rattle.mmt_ctx.proofs.contexts.Contexts.new.Goals as goal

pub returns-clause-empty : goal.returns-clause-empty
returns-clause-empty c =
    let all : c.loop-context.context ≡ 4096 = omega arith in
    c.loop-context.invariant ∙ ap (λ (n : ℕ). replicate {A = Option Ip6Header} n None) all
