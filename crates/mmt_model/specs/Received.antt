-- A delivery of a cast as a receiver meets it: from the packet that tunes it, whether it is near, what of it survives, and which units are expected.
use Rattle.std.specs.Prelude.{ℕ, Bool, List, get_or}
use Rattle.mmt_model.specs.Admission.{has_parameters}
use Rattle.mmt_model.specs.Carrying.{Contents, broadcast_of}
use Rattle.mmt_model.specs.Delivery.{NearDelivery, newest_first, tuned}
use Rattle.mmt_model.specs.Expected.{expected}
use Rattle.mmt_model.specs.Handing.{Presentation}
use Rattle.mmt_model.specs.Survival.{no_packet, survives}
use Rattle.mmt_model.specs.declared.casts.Cast.{Cast}

-- the packet at a place of a cast carries a buffer message, which tunes a receiver
unfoldable pub tunes_at : Cast → ℕ → Bool
tunes_at cast n = has_parameters (get_or cast.packets n no_packet).carries

-- a delivery from its tuning packet on: the first that is heard and carries a buffer message. Of every full_every packets one has a full header, and with 0 each is heard (this project's rule)
unfoldable pub tuned_places : Cast → ℕ → List ℕ → List ℕ
tuned_places cast full_every delivery = tuned full_every (tunes_at cast) delivery

-- a delivery is near: from its tuning packet on, each packet lies less than 8 hours, 57 minutes and 36 seconds from the greatest timestamp before it (this project's rule)
abbrev pub IsNear : Cast → ℕ → List ℕ → Type 0
IsNear cast full_every delivery = NearDelivery cast.packets (tuned_places cast full_every delivery)

-- the packet at a place survives a delivery: from the tuning packet on some occurrence of it is not overtaken by more than the delay (this project's rule)
unfoldable pub survives_in : Cast → ℕ → List ℕ → ℕ → Bool
survives_in cast full_every delivery n = survives cast.packets cast.params.delay (newest_first (tuned_places cast full_every delivery)) n

-- the units that are expected of a delivery, with their times, in the order of handing out (this project's rule)
unfoldable pub expected_in : Cast → Contents → ℕ → List ℕ → List Presentation
expected_in cast contents full_every delivery = expected (broadcast_of cast contents) cast.params.delay (newest_first (tuned_places cast full_every delivery))
