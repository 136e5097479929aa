use Rattle.std.proofs.Common.{◌≡◌, ℕ, List, Option, length, arith}
use Rattle.mmt_plan.proofs.Passes.{before}
use Rattle.mmt_send.specs.Files.{bytes_in, bytes_of_unit}
use Rattle.mmt_send.proofs.FileReads.{is-short, whole-read, whole-there}
use Rattle.mmt_send.proofs.files.read_unit.Goals as goal

pub returns-then-there-buf-clause-bytes : goal.returns-then-there-buf-clause-bytes
returns-then-there-buf-clause-bytes g c t =
    whole-read (bytes_in (g.H.Shelf.file c.args.shelf.now c.args.source.now.name.now)) c.args.source.now.unit.now.from c.args.at c.in_ok-there.there c.args.source.now.unit.now.length c.read_file.new.buf c.if-there-buf.true (c.in_ok-there.ensures.bytes t) (length c.args.buf.now) c.read_file.auto.buf c.requires.within

pub returns-then-there-buf-clause-there : goal.returns-then-there-buf-clause-there
returns-then-there-buf-clause-there g c t =
    whole-there (bytes_in (g.H.Shelf.file c.args.shelf.now c.args.source.now.name.now)) c.args.source.now.unit.now.from c.args.at c.in_ok-there.there c.args.source.now.unit.now.length c.read_file.new.buf c.if-there-buf.true (c.in_ok-there.ensures.count t) (length c.args.buf.now) c.read_file.auto.buf c.requires.within c.requires.some

pub returns-clause-cause : goal.returns-clause-cause
returns-clause-cause g c t =
    is-short c.args.programme.now (g.H.Shelf.file c.args.shelf.now) c.args.source.now c.args.at c.in_ok-there.there c.in_ok-got.got c.read_file.new.buf c.requires.source c.if-there-buf.false (c.in_ok-there.ensures.count t) (let e : length c.read_file.new.buf ≡ length c.args.buf.now = c.read_file.auto.buf in omega arith)
    (before (λ (file : List ℕ → Option (List ℕ)). c.in_ok-got.got ≡ length (bytes_of_unit (bytes_in (file c.args.source.now.name.now)) c.args.source.now.unit.now)) c.in_ok-there.ensures.shelf c.in_ok-got.ensures.count t)
