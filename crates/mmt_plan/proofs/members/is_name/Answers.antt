use Rattle.std.proofs.Common.{◌≡◌, ◌∙◌, string_bytes, rules}
use Rattle.std.specs.List.{list_any}
use Rattle.std.specs.Str.{bytes_eq}
use Rattle.mmt_plan.proofs.Keys.{any_name}
use Rattle.mmt_plan.proofs.members.is_name.Goals as goal

pub returns : goal.returns
returns c =
    let e : c.contains.result ≡ list_any (λ n. bytes_eq n.now (string_bytes c.args.key.now)) c.args.names.now = search rules in
    e ∙ any_name (string_bytes c.args.key.now) c.args.names.now
