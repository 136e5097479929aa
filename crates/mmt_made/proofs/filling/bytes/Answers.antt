use Rattle.std.proofs.Common.{◌≡◌, ◌+◌, ℕ, map, arith, ap, sym, ◌∙◌}
use Rattle.mmt_made.proofs.Lists.{no-numbers, one-more}
use Rattle.mmt_made.specs.Generator.{byte_at, file_bytes}
use Rattle.mmt_model.specs.Carrying.{numbers}
use Rattle.mmt_made.proofs.filling.bytes.Goals as goal

pub loop-place-init : goal.loop-place-init
loop-place-init c = c.in_ok-bytes.ensures.items ∙ sym (no-numbers (byte_at c.args.seed c.args.file) 0)

pub loop-place-preserved : goal.loop-place-preserved
loop-place-preserved c =
    let z : c.loop-place.place ≡ 0 + c.loop-place.place = omega arith in
    one-more (byte_at c.args.seed c.args.file) 0 c.loop-place.place c.loop-place.place c.loop-place.bytes.items c.push.new.self.items c.byte.result c.loop-place.invariant c.in_ok-push.ensures.items z c.byte.ensures

pub returns : goal.returns
unfolding file_bytes
returns c =
    let all : c.loop-place.place ≡ c.args.size = omega arith in
    c.loop-place.invariant ∙ ap (λ (n : ℕ). map (byte_at c.args.seed c.args.file) (numbers 0 n)) all
