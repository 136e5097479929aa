use Rattle.std.proofs.Common.{true}
use Rattle.mmt_gate.proofs.Spelled.{plain_written}
use Rattle.mmt_gate.proofs.writing.put_plain.Goals as goal

pub returns-in-Ok-clause-ok : goal.returns-in-Ok-clause-ok
returns-in-Ok-clause-ok c =
    plain_written c.args.out.now.items c.put_header.new.out.items c.write_ip6udp.new.out.items (record { header = c.args.header; summed = true; payload = c.args.payload.now }) c.in_ok-put_header.ensures.ok c.in-Ok.ensures.ok
