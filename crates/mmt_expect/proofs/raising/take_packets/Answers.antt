use Rattle.mmt_expect.proofs.Taking.{up-to-next, up-to-none}
use Rattle.mmt_expect.specs.Latest.{signal_in, unit_in}
use Rattle.std.proofs.Common.{refl}
use Rattle.mmt_expect.proofs.raising.take_packets.Goals as goal

pub loop-place-init : goal.loop-place-init
loop-place-init c = record {
  units = up-to-none unit_in c.args.packets.now c.args.reaches.now c.args.units.now c.requires.no_units;
  signals = up-to-none signal_in c.args.packets.now c.args.reaches.now c.args.signals.now c.requires.no_signals;
}

pub loop-place-preserved : goal.loop-place-preserved
loop-place-preserved c = record {
  units = up-to-next unit_in c.args.packets.now c.args.reaches.now c.loop-place.place _ _ c.carries_at.result c.loop-place.units c.take_packet.new.units c.carries_at.ensures refl c.loop-place.invariant.units c.take_packet.ensures.units;
  signals = up-to-next signal_in c.args.packets.now c.args.reaches.now c.loop-place.place _ _ c.carries_at.result c.loop-place.signals c.take_packet.new.signals c.carries_at.ensures refl c.loop-place.invariant.signals c.take_packet.ensures.signals;
}
