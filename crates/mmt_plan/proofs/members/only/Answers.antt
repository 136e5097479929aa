use Rattle.std.proofs.Common.{◌∙◌, map, string_bytes, rules, tests}
use Rattle.std.proofs.lemmas.Iterator.Consumers.{YieldsList-from_rest}
use Rattle.std.proofs.lemmas.Iterator.Search.{all_from_yields_List}
use Rattle.std.specs.BTreeMap.{keys}
use Rattle.mmt_plan.specs.Members.{is_name_of}
use Rattle.mmt_plan.proofs.Keys.{all_keys}
use Rattle.mmt_plan.proofs.members.only.Goals as goal

pub returns : goal.returns
returns c =
    let test = is_name_of (map (λ n. n.now) c.args.names.now) in
    all_from_yields_List (λ k. test (string_bytes k)) _ _ c.all.result c.all.ensures.ran (YieldsList-from_rest (keys c.args.members.now) c.keys.ensures.rest) (λ x b q k. search (rules, tests))
    ∙ all_keys test c.args.members.now.entries
