use Rattle.std.proofs.Common.{rules, ◌≡◌, List, ◌++◌, ℕ, length, take, ap, refl, ◌∙◌}
use Rattle.std.proofs.lemmas.List.{take_at}
use Rattle.std.specs.Int.{w8, w16, w32}
use Rattle.mmt_fields.specs.Reading.{big_endian}
use Rattle.mmt_mpu.specs.Spelling.{flags}
use Rattle.mmt_mpu.specs.Writing.{begun}
use Rattle.mmt_mpu.specs.declared.types.MpuHead.{MpuHead}
use Rattle.mmt_frag.proofs.writing.write_part.Goals as goal

-- what stood before a payload was begun
taken : (out : List ℕ) (head : MpuHead) → take (length out) (begun out head) ≡ out
unfolding begun
taken out head = take_at out (big_endian w16 0 ++ (big_endian w8 (flags head) ++ (big_endian w8 head.counter ++ big_endian w32 head.mpu))) (length out) refl

taken-from : (out bytes : List ℕ) (head : MpuHead) (n : ℕ) → n ≡ length out → bytes ≡ begun out head → take n bytes ≡ out
taken-from out bytes head n e b = ap (take n) b ∙ ap (λ k. take k (begun out head)) e ∙ taken out head

pub returns-in-Err-clause-refused : goal.returns-in-Err-clause-refused
returns-in-Err-clause-refused c = c.truncate.ensures.items ∙ taken-from c.args.out.now.items c.unit.new.out.items _ c.len-start.result (let e : c.len-start.result ≡ length c.args.out.now.items = search rules in e) (c.in-Err.ensures.err.0 ∙ c.in_ok-writer.ensures.ok)
