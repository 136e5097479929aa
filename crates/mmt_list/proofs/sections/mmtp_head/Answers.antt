use Rattle.std.proofs.Common.{◌≡◌, ◌∙◌, refl, ap, ℕ, ◌+◌, ◌-◌, List, ◌++◌, length, Ok, arith, append_assoc}
use Rattle.mmt_packet.specs.Spelling.{Value, view, spelling, head_length}
use Rattle.mmt_packet.specs.Reading.{packet_of}
use Rattle.mmt_packet.proofs.Lengths.{length_spelling}
use Rattle.mmt_list.specs.Text.{mmtp_text}
use Rattle.mmt_list.specs.Line.{kind_section, mmtp_section}
use Rattle.mmt_list.specs.Left.{left_text}
use Rattle.mmt_list.proofs.sections.mmtp_head.Goals as goal

-- the two sections of a packet that was read, where the payload is the end of the packet
both : (old first next : List ℕ) (at from : ℕ) (bytes : List ℕ) (p : Value) → packet_of bytes ≡ Ok p → bytes ≡ spelling p → from ≡ length bytes - length p.payload
    → first ≡ old ++ mmtp_text p → next ≡ first ++ kind_section p.kind (at + from) p.payload → next ≡ old ++ mmtp_section at (packet_of bytes)
unfolding mmtp_section
both old first next at from bytes p read is end head more =
    let place : from ≡ head_length p = omega (arith, ap length is, length_spelling p) in
    rw read (more ∙ rw (head, place) (append_assoc old (mmtp_text p) (kind_section p.kind (at + head_length p) p.payload)))

pub returns-in-Ok-clause-items : goal.returns-in-Ok-clause-items
returns-in-Ok-clause-items c =
    both c.args.out.now.items c.put_mmtp.new.out.items (c.kind_head.new.out.items ++ left_text c.kind_head.result) c.args.at (length c.args.bytes.now - length c.in-Ok.packet.payload.now) c.args.bytes.now (view c.in-Ok.packet)
    c.in-Ok.ensures.exact c.in-Ok.ensures.found.1 refl c.put_mmtp.ensures.items c.kind_head.ensures.items
