use Rattle.std.proofs.Common.{List, ◌++◌, ℕ, arith, ◌∙◌, ap}
use Rattle.mmt_tlv.specs.Framing.{Packet, spelling}
use Rattle.mmt_gate.proofs.tests.packet.Goals as goal

pub returns : goal.returns
returns c =
    let said : Packet = record { kind = c.args.kind; body = c.args.body.now } in
    (said, record { kind = omega arith; length = c.requires }, c.in_ok-write_tlv.ensures.ok ∙ ap (λ (x : List ℕ). x ++ spelling said) c.new-out.ensures.items)
