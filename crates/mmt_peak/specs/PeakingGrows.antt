-- What `peak` writes grows with the packets: nothing while the stream goes on, and its line at the end.
use Rattle.std.specs.Prelude.{refl}
use Rattle.mmt_model.specs.declared.programmes.FlowChoice.{FlowChoice}
use Rattle.mmt_model.specs.declared.programmes.Params.{Params}
use Rattle.mmt_stream.specs.Consuming.{Grows}
use Rattle.mmt_peak.specs.Peaking.{peaking}

pub peaking_grows : (flow : FlowChoice) (r : Params) → Grows (peaking flow r)
peaking_grows flow r = record {
  none = refl;
  more = λ packets others. record { written = (_, refl); noted = (_, refl) };
  end = λ packets. record { written = (_, refl); noted = (_, refl) };
}
