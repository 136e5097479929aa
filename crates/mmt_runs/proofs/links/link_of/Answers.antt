use Rattle.std.proofs.Common.{sym, ◌∙◌}
use Rattle.mmt_runs.proofs.Linking.{some_media, none_media}
use Rattle.mmt_runs.proofs.links.link_of.Goals as goal

pub returns-in-Some-clause-link : goal.returns-in-Some-clause-link
returns-in-Some-clause-link c = c.part_link.ensures.link ∙ sym (some_media _ _ c.args.pool.now.kept _ _ c.in-Some.bytes.now (sym c.in-Some.ensures.bytes))

pub returns-in-None-clause-link : goal.returns-in-None-clause-link
returns-in-None-clause-link c = sym (none_media _ _ c.args.pool.now.kept _ _ (sym c.in-None.ensures.bytes))
