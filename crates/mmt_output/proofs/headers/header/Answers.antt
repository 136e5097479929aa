use Rattle.std.proofs.Common.{◌≡◌, ◌++◌, length, arith}
use Rattle.std.specs.Int.{w16, w32, w64}
use Rattle.mmt_fields.specs.Reading.{big_endian}
use Rattle.mmt_output.specs.Records.{timed_mark, key_bytes}
use Rattle.mmt_output.proofs.Spread.{header_is}
use Rattle.mmt_output.proofs.headers.header.Goals as goal

pub returns : goal.returns
unfolding big_endian
returns c =
    let o = c.args.order.now in
    let la : length c.place_bytes.result ≡ 14 = omega arith in
    let lb : length c.key_bytes.result ≡ 12 = omega arith in
    let lc : length c.to_be_bytes.result ≡ 4 = omega arith in
    header_is c.timed_mark-timed.result (timed_mark o.key) c.place_bytes.result c.key_bytes.result c.to_be_bytes.result
    (big_endian w16 o.packet_id ++ big_endian w64 o.time.0 ++ big_endian w32 o.mpu) (key_bytes o.key) (big_endian w32 c.args.length) c.args.priority c.args.dependency
    c.timed_mark-timed.ensures la lb lc c.place_bytes.ensures c.key_bytes.ensures c.to_be_bytes.ensures
