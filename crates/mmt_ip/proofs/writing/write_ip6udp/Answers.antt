use Rattle.std.proofs.Common.{arith}
use Rattle.mmt_ip.proofs.writing.write_ip6udp.Goals as goal

pub returns-clause-fits : goal.returns-clause-fits
returns-clause-fits c = record {
  header = record {
    traffic_class = c.first_word.ensures.fits;
    flow_label = c.requires.label;
    hop_limit = c.put_u8-2.ensures.fits;
    source = c.put_u128.ensures.fits;
    destination = c.put_u128-2.ensures.fits;
    source_port = c.put_u16-2.ensures.fits;
    destination_port = c.put_u16-3.ensures.fits;
  };
  len = omega arith;
}
