use Rattle.std.proofs.Common.{◌∙◌, ap, ◌++◌, length}
use Rattle.mmt_list.specs.Left.{left_text}
use Rattle.mmt_list.specs.Text.{head_text}
use Rattle.mmt_list.proofs.Parts.{whole_line}
use Rattle.mmt_list.proofs.lister.Lister.line.Goals as goal

pub returns-in-Ok-clause-line : goal.returns-in-Ok-clause-line
returns-in-Ok-clause-line c = λ earlier packet fits is heard.
    whole_line c.args.out.now.items c.put_head.new.out.items c.sections_head-left.new.out.items c.end.new.out.items (left_text c.sections_head-left.result) c.args.place earlier packet c.opened-kind.result.0 c.opened-kind.result.1.now
    (c.opened-kind.ensures.packet packet fits is) (c.put_head.ensures.items ∙ ap (λ x. x ++ head_text c.args.place c.opened-kind.result.0 (length c.opened-kind.result.1.now)) c.reserve.ensures.items) (c.sections_head-left.ensures.items earlier (rw c.self.view_is heard)) (c.in-Ok.ensures.items)
