use Rattle.std.proofs.Common.{Result, sym, subst, ◌∙◌}
use Rattle.std.specs.List.{cons_option}
use Rattle.mmt_base.specs.declared.refused.Refused.{Refused}
use Rattle.mmt_ip.specs.declared.packet.IpWhy.{IpWhy}
use Rattle.mmt_ip.specs.Spelling.{Value as Plain}
use Rattle.mmt_gate.specs.Flows.{header_read}
use Rattle.mmt_gate.specs.Keeping.{HasSqueezed}
use Rattle.mmt_gate.proofs.Placing.{none_next, on_ok}
use Rattle.mmt_gate.proofs.shrinker.Shrinker.plain.Goals as goal

pub returns-in-None-clause-next : goal.returns-in-None-clause-next
returns-in-None-clause-next c = on_ok c.put_as_it_is-in-None.result _ (λ hs has.
    let found = c.in-Ok-place.ensures.found hs has in
    subst (λ (r : Result Plain (Refused IpWhy)). HasSqueezed (cons_option (header_read r) hs) c.place.new.self) (sym c.in-Ok.ensures.exact)
    (none_next c.args.self.now c.place.new.self hs c.in-Ok.packet.header c.place.ensures.options found.0 (sym c.in-None.is ∙ found.1)))
