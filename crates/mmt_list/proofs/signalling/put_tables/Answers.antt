use Rattle.std.proofs.Common.{arith, ◌≡◌, ◌^◌, ◌<◌, length, get_or}
use Rattle.mmt_sig.specs.Tables.{ListedTable}
use Rattle.mmt_sig.specs.TableView.{view_table}
use Rattle.mmt_sig.specs.MessageView.{tables_left}
use Rattle.mmt_list.specs.Signalling.{table_text}
use Rattle.mmt_list.proofs.Appended.{one_more, front_more, others}
use Rattle.mmt_list.proofs.signalling.put_tables.Goals as goal

pub loop-table-preserved : goal.loop-table-preserved
loop-table-preserved c =
    let steps = c.in-Some.ensures.steps in
    let text = c.in_ok-put_table.ensures.items in
    let before = c.loop-table.invariant in
    record {
      items = one_more table_text c.loop-table.out.items _ _ _ (view_table c.in-Some.table) (tables_left c.next.new.self) steps text before.items;
      front = front_more c.args.out.now.len c.args.out.now.items c.loop-table.out.items _ _ (omega (arith, c.args.out.now.ok)) text before.front;
      within = others (λ (t : ListedTable). length t.bytes < 2 ^ 17) _ (view_table c.in-Some.table) (tables_left c.next.new.self) steps before.within;
      begin = others (λ (t : ListedTable). get_or t.bytes 0 0 ≡ t.id) _ (view_table c.in-Some.table) (tables_left c.next.new.self) steps before.begin;
    }
