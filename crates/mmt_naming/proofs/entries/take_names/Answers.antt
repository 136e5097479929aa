use Rattle.std.proofs.Common.{◌∙◌, sym, subst, ℕ, List, [], ◌∷◌, map, arith}
use Rattle.std.specs.Prelude.{IsTrue}
use Rattle.mmt_io.proofs.Sends.{sends_both}
use Rattle.mmt_times.specs.NamedView.{view_named}
use Rattle.mmt_times.specs.NamedLeft.{named_left}
use Rattle.mmt_naming.specs.Findings.{finding_of}
use Rattle.mmt_naming.specs.Lines.{lines_of}
use Rattle.mmt_naming.specs.Begun.{Begun}
use Rattle.mmt_naming.proofs.Begun.{begun_end}
use Rattle.mmt_naming.proofs.Taking.{learned_more, lines_more, lines_part}
use Rattle.mmt_naming.proofs.One.{learned_none, lines_none}
use Rattle.mmt_naming.proofs.entries.take_names.Goals as goal

pub loop-named-preserved : goal.loop-named-preserved
loop-named-preserved g c =
    let i = c.loop-named.invariant in
    let e = c.in-Ok.ensures in
    let of = finding_of c.args.spot.message c.args.spot.at in
    let all = map of (named_left c.args.entries) in
    let left = map of (named_left c.next.new.self) in
    let here = of (view_named c.in-Some.named) ∷ [] in
    let place = c.args.by.now.place in
    let now = c.args.by.now.clock.0 in
    record {
      sends = sends_both i.sends e.sends;
      places = (rw c.in-Some.ensures.steps at i.places).1;
      told = e.told;
      names = learned_more now c.args.names.now c.loop-named.names c.take_name.new.names all here left (rw c.in-Some.ensures.steps at i.names) e.names;
      begun = λ told.
          let b = i.begun told in
          lines_more place now _ _ _ (lines_of place now c.args.names.now.entries all) c.loop-named.names c.take_name.new.names here left (rw c.in-Some.ensures.steps at b) e.names (e.put (subst IsTrue (sym i.sends.telling) told));
    }

pub returns-in-Err-clause-put : goal.returns-in-Err-clause-put
returns-in-Err-clause-put g c = λ told.
    let i = c.loop-named.invariant in
    let of = finding_of c.args.spot.message c.args.spot.at in
    let place = c.args.by.now.place in
    let now = c.args.by.now.clock.0 in
    let b = i.begun told in
    lines_part place now _ _ _ (lines_of place now c.args.names.now.entries (map of (named_left c.args.entries))) c.loop-named.names (of (view_named c.in-Some.named) ∷ []) (map of (named_left c.next.new.self))
    (rw c.in-Some.ensures.steps at b) (c.in-Err.ensures.put (subst IsTrue (sym i.sends.telling) told))

pub returns-clause-names : goal.returns-clause-names
returns-clause-names g c = learned_none c.args.by.now.clock.0 c.loop-named.names ∙ (rw c.in-None.ensures.steps.0 at c.loop-named.invariant.names)

pub returns-clause-put : goal.returns-clause-put
returns-clause-put g c = λ told.
    let b = c.loop-named.invariant.begun told in
    let of = finding_of c.args.spot.message c.args.spot.at in
    let place = c.args.by.now.place in
    let now = c.args.by.now.clock.0 in
    let P : List ℕ → Type 0 = λ x. Begun (g.P.Port.history c.args.port.now) (g.P.Port.history c.loop-named.port) (lines_of place now c.args.names.now.entries (map of (named_left c.args.entries))) x in
    begun_end _ _ _ (subst P (sym (lines_none place now c.loop-named.names.entries)) (rw c.in-None.ensures.steps.0 at b))
