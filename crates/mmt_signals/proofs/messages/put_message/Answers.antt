use Rattle.std.proofs.Common.{◌∙◌, sym, subst}
use Rattle.mmt_signals.proofs.Tables.{MayFor, names_may, params_message, signal_here, table_message}
use Rattle.mmt_signals.specs.Named.{MayBeNamed}
use Rattle.mmt_signals.proofs.messages.put_message.Goals as goal

pub put_pa-requires-clause-names : goal.put_pa-requires-clause-names
put_pa-requires-clause-names c =
    let programme = c.args.programme.now in
    let here = signal_here programme c.args.at c.index-as_slice-at.result c.as_slice.result.now c.requires.at c.as_slice.ensures c.index-as_slice-at.is in
    let may = subst (MayFor programme) (here ∙ c.in-Table.is) (names_may programme c.requires.right c.requires.cast c.args.at c.requires.at) in
    subst (MayBeNamed programme) (sym c.as_slice-in-Table.ensures) may

pub returns-in-Parameters-clause-ok : goal.returns-in-Parameters-clause-ok
returns-in-Parameters-clause-ok c =
    let programme = c.args.programme.now in
    let here = signal_here programme c.args.at c.index-as_slice-at.result c.as_slice.result.now c.requires.at c.as_slice.ensures c.index-as_slice-at.is in
    let bytes = params_message programme c.args.at c.in-Parameters.at (here ∙ c.in-Parameters.is) in
    rw bytes c.put_hrbm.ensures.ok

pub returns-in-Table-clause-ok : goal.returns-in-Table-clause-ok
returns-in-Table-clause-ok c =
    let programme = c.args.programme.now in
    let here = signal_here programme c.args.at c.index-as_slice-at.result c.as_slice.result.now c.requires.at c.as_slice.ensures c.index-as_slice-at.is in
    let bytes = table_message programme c.args.at c.args.earlier c.in-Table.at c.in-Table.names c.requires.earlier (here ∙ c.in-Table.is) in
    rw bytes (rw c.as_slice-in-Table.ensures at c.put_pa.ensures.ok)
