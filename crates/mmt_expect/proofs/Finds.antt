-- What the walks find, put together.
use Rattle.std.proofs.Common.{◌≡◌, ℕ, ◌<◌, ◌≤◌, ◌&&◌, nat_lt, List, length, get_or, ap, ap₂, sym, ◌∙◌, subst}
use Rattle.std.proofs.lemmas.Bool.{le-ltb, lt-ltb}
use Rattle.mmt_casting.specs.Spans.{starts}
use Rattle.mmt_expect.specs.Found.{IsFound, is_found}
use Rattle.mmt_expect.specs.Latest.{AreLatest, signal_in, unit_in}
use Rattle.mmt_expect.specs.Named.{AreNamed}
use Rattle.mmt_expect.specs.Reaches.{AreReaches, never}
use Rattle.mmt_expect.specs.declared.counting.Found.{Found}
use Rattle.mmt_model.specs.Carrying.{mpu_of, sent_unit}
use Rattle.mmt_model.specs.Delivery.{newest_first}
use Rattle.mmt_model.specs.Received.{tuned_places}
use Rattle.mmt_model.specs.declared.casts.Cast.{Cast}
use Rattle.mmt_model.specs.declared.casts.Sent.{Sent}
use Rattle.mmt_model.specs.declared.casts.TableCopy.{TableCopy}
use Rattle.mmt_model.specs.declared.programmes.Programme.{Programme}

-- what was found, of slices that are those of the cast
pub found-is : (programme : Programme) (cast : Cast) (list : List ℕ) (found : Found) (packets : List Sent) (from reaches lent signals lent_signals : List ℕ) (copies : List TableCopy) (units signal_count mpus : ℕ)
    → packets ≡ cast.packets → from ≡ tuned_places cast programme.full_every list → lent ≡ reaches → lent_signals ≡ signals → copies ≡ cast.copies
    → units ≡ length cast.units → signal_count ≡ length programme.signals → mpus ≡ length cast.mpus
    → AreReaches packets cast.params.delay (newest_first from) reaches → AreLatest unit_in packets lent units found.units.items → AreLatest signal_in packets lent signal_count signals
    → AreNamed copies lent_signals mpus found.named.items → found.starts.items ≡ starts programme
    → IsFound programme cast list found
found-is programme cast list found packets from reaches lent signals lent_signals copies units signal_count mpus p f l s c u n m of_packets of_units of_signals named begins =
    record {
      reaches = reaches;
      signals = signals;
      of_packets = subst (λ (ps : List Sent). AreReaches ps cast.params.delay (newest_first (tuned_places cast programme.full_every list)) reaches) p (subst (λ ds. AreReaches packets cast.params.delay (newest_first ds) reaches) f of_packets);
      of_units = subst (λ k. AreLatest unit_in cast.packets reaches k found.units.items) u (subst (λ (ps : List Sent). AreLatest unit_in ps reaches units found.units.items) p (subst (λ r. AreLatest unit_in packets r units found.units.items) l of_units));
      of_signals = subst (λ k. AreLatest signal_in cast.packets reaches k signals) n (subst (λ (ps : List Sent). AreLatest signal_in ps reaches signal_count signals) p (subst (λ r. AreLatest signal_in packets r signal_count signals) l of_signals));
      named = subst (λ k. AreNamed cast.copies signals k found.named.items) m (subst (λ (cs : List TableCopy). AreNamed cs signals mpus found.named.items) c (subst (λ r. AreNamed copies r mpus found.named.items) s named));
      begins = begins;
    }

pub both-found : (cast : Cast) (found : Found) (u mpu due : ℕ) (units named : List ℕ) → units ≡ found.units.items → named ≡ found.named.items → mpu ≡ mpu_of cast u → due ≡ (sent_unit cast u).due.0 → get_or units u 0 < never
    → nat_lt (get_or named mpu 0) due ≡ is_found cast found u
unfolding is_found
both-found cast found u mpu due units named un na m d less =
    ap₂ (λ xs k. nat_lt (get_or xs k 0) due) na m
    ∙ (ap (λ x. nat_lt (get_or found.named.items (mpu_of cast u) 0) x) d
    ∙ sym (ap (λ b. b && nat_lt (get_or found.named.items (mpu_of cast u) 0) (sent_unit cast u).due.0) (ap (λ xs. nat_lt (get_or xs u 0) never) (sym un) ∙ lt-ltb (get_or units u 0) never less)))

pub not-found : (cast : Cast) (found : Found) (u : ℕ) (units : List ℕ) → units ≡ found.units.items → never ≤ get_or units u 0 → nat_lt (get_or units u 0) never ≡ is_found cast found u
unfolding is_found
not-found cast found u units un late =
    le-ltb (get_or units u 0) never late
    ∙ sym (ap (λ b. b && nat_lt (get_or found.named.items (mpu_of cast u) 0) (sent_unit cast u).due.0) (ap (λ xs. nat_lt (get_or xs u 0) never) (sym un) ∙ le-ltb (get_or units u 0) never late))
