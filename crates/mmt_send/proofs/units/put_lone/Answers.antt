use Rattle.std.proofs.Common.{◌≡◌, ◌*◌, ◌≤◌, ◌++◌, take, drop, length, ℕ, arith, subst}
use Rattle.std.proofs.lemmas.List.{length-take}
use Rattle.mmt_frag.specs.declared.cutting.PartOf.{PartOf}
use Rattle.mmt_sent.specs.Payloads.{bytes_of}
use Rattle.mmt_sent.specs.Stream.{contents_sent}
use Rattle.mmt_send.specs.Carried.{lone_written}
use Rattle.mmt_send.specs.Files.{files_on}
use Rattle.mmt_send.proofs.AllHeld.{part-held}
use Rattle.mmt_send.proofs.Lone.{lone-out, part-place, payload-long, source-from, source-plain}
use Rattle.mmt_send.proofs.units.put_lone.Goals as goal

pub overflow_mul-from : goal.overflow_mul-from
overflow_mul-from g c = omega (arith, part-place c.args.job.now.programme.now c.args.lone.now.unit c.args.lone.now.number c.requires.job.right c.requires.unit c.requires.begins)

pub read_unit-requires-clause-from : goal.read_unit-requires-clause-from
read_unit-requires-clause-from g c = source-from c.args.job.now.programme.now c.source_of-source.result c.requires.job.right c.source_of-source.ensures.source

pub write_part-requires-clause-item : goal.write_part-requires-clause-item
write_part-requires-clause-item g c = source-plain c.args.job.now.programme.now c.source_of-source.result c.requires.job.right c.source_of-source.ensures.source

pub returns-clause-long : goal.returns-clause-long
returns-clause-long g c =
    let limit : c.args.job.now.programme.now.limit ≤ 60000 = c.requires.job.right.limit in
    let fits : c.min-length.result ≤ length c.args.buf.now = omega (arith, c.requires.room, c.min-length.ensures) in
    let cut : PartOf = record { from = c.args.lone.now.number * c.args.job.now.programme.now.limit; length = c.min-length.result; part = c.args.lone.now.part; left = c.args.lone.now.left } in
    payload-long c.source_of-source.result.mpu c.source_of-source.result.unit.now cut (take c.min-length.result (c.read_unit.new.buf ++ drop c.min-length.result c.args.buf.now)) c.write_part.new.out.items c.args.out.now.items c.in_ok-write_part.ensures.ok
    (omega (arith, length-take c.min-length.result (c.read_unit.new.buf ++ drop c.min-length.result c.args.buf.now), c.requires.room, c.min-length.ensures))

pub returns-clause-payload : goal.returns-clause-payload
returns-clause-payload g c t =
    let cut : PartOf = record { from = c.args.lone.now.number * c.args.job.now.programme.now.limit; length = c.min-length.result; part = c.args.lone.now.part; left = c.args.lone.now.left } in
    let is : c.source_of-source.result.number ≡ c.args.lone.now.unit = c.source_of-source.ensures.number in
    subst (λ (u : ℕ). c.write_part.new.out.items ≡ c.args.out.now.items ++ bytes_of (lone_written c.args.job.now.cast.now (contents_sent c.args.job.now.programme.now (files_on (g.H.Shelf.file c.args.shelf.now) c.args.job.now.programme.now)) u c.args.lone.now.number c.args.lone.now.part c.args.lone.now.left)) is
    (lone-out c.args.job.now.programme.now c.args.job.now.cast.now (g.H.Shelf.file c.args.shelf.now) c.source_of-source.result c.args.lone.now.number cut c.args.buf.now c.read_unit.new.buf c.write_part.new.out.items c.args.out.now.items
    c.requires.job c.source_of-source.ensures.source c.min-length.ensures c.requires.room c.read_unit.auto.buf (c.in_ok-read_unit.ensures.bytes t) c.in_ok-write_part.ensures.ok)

pub returns-clause-held : goal.returns-clause-held
returns-clause-held g c t =
    part-held c.args.job.now.programme.now (g.H.Shelf.file c.args.shelf.now) c.source_of-source.result c.args.lone.now.unit c.args.lone.now.number c.min-length.result c.args.buf.now c.source_of-source.ensures.source c.source_of-source.ensures.number
    c.min-length.ensures (omega (arith, c.requires.room, c.min-length.ensures)) (c.in_ok-read_unit.ensures.there t)
