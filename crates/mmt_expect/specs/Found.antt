-- What is found of a delivery.
use Rattle.std.specs.Prelude.{◌≡◌, ℕ, Bool, ◌&&◌, nat_lt, List, length, get_or}
use Rattle.mmt_casting.specs.Spans.{starts}
use Rattle.mmt_expect.specs.Latest.{AreLatest, signal_in, unit_in}
use Rattle.mmt_expect.specs.Named.{AreNamed}
use Rattle.mmt_expect.specs.Reaches.{AreReaches, never}
use Rattle.mmt_expect.specs.declared.counting.Found.{Found}
use Rattle.mmt_model.specs.Carrying.{mpu_of, sent_unit}
use Rattle.mmt_model.specs.Delivery.{newest_first}
use Rattle.mmt_model.specs.Received.{tuned_places}
use Rattle.mmt_model.specs.declared.casts.Cast.{Cast}
use Rattle.mmt_model.specs.declared.programmes.Programme.{Programme}

-- what is found of a delivery of the cast of a programme: the reaches of its packets give those of its units and tables, and these when MPUs are named
pub record IsFound (programme : Programme) (cast : Cast) (list : List ℕ) (found : Found) : Type 0 where
  pub reaches : List ℕ
  pub signals : List ℕ
  pub of_packets : AreReaches cast.packets cast.params.delay (newest_first (tuned_places cast programme.full_every list)) reaches
  pub of_units : AreLatest unit_in cast.packets reaches (length cast.units) found.units.items
  pub of_signals : AreLatest signal_in cast.packets reaches (length programme.signals) signals
  pub named : AreNamed cast.copies signals (length cast.mpus) found.named.items
  pub begins : found.starts.items ≡ starts programme

-- all packets of a unit survive, and its MPU is named before its due tick
unfoldable pub is_found : Cast → Found → ℕ → Bool
is_found cast found u = nat_lt (get_or found.units.items u 0) never && nat_lt (get_or found.named.items (mpu_of cast u) 0) (sent_unit cast u).due.0
