-- The jobs of a cast: from which tick on and until which tick each packet may be sent (this project's rules).
use Rattle.std.specs.Prelude.{ℕ, ◌+◌, ◌-◌, nat_lt, ◌==◌, List, [], ◌∷◌, map, if◌then◌else◌}
use Rattle.std.specs.List.{filter}
use Rattle.mmt_cast.specs.Casting.{least}
use Rattle.mmt_model.specs.Carrying.{copy_place, numbers, sent_mpu, sent_unit, table_copy}
use Rattle.mmt_model.specs.declared.casts.Carries.{Carries}
use Rattle.mmt_model.specs.declared.casts.Carries.TheVariants as carries
use Rattle.mmt_model.specs.declared.casts.Cast.{Cast}
use Rattle.mmt_model.specs.declared.casts.Sent.{Sent}
use Rattle.mmt_slots.specs.declared.row.Job.{Job}

-- the last tick from which the delay ends before a due tick, and 0 where there is none
abbrev pub latest_for : ℕ → ℕ → ℕ
latest_for delay due = due - (delay + 1)

-- until when a packet of a unit may be sent: the delay ends before the unit is due
unfoldable pub unit_limit : Cast → ℕ → ℕ
unit_limit cast u = latest_for cast.params.delay (sent_unit cast u).due.0

-- until when a packet of a table copy may be sent for an MPU that it names: the delay ends before the least due tick of the MPU where it does as the copy stands, and otherwise before its last due tick
unfoldable pub name_limit : Cast → ℕ → ℕ → ℕ
name_limit cast last m =
    latest_for cast.params.delay (if nat_lt (last + cast.params.delay) (sent_mpu cast m).least.0 then (sent_mpu cast m).least.0 else (sent_mpu cast m).last.0)

-- until when a packet that is sent at a tick may be sent at the latest, where no unit and no MPU says when: the window later
abbrev pub window_limit : Cast → ℕ → ℕ
window_limit cast at = at + cast.params.window

-- until when a packet of a table copy that is sent at a tick may be sent: the least limit of the MPUs that the copy names, the copy ending at `last`
unfoldable pub names_limit : Cast → ℕ → ℕ → List ℕ → ℕ
names_limit cast at last [] = window_limit cast at
names_limit cast at last (m ∷ ms) = least (map (name_limit cast last) (m ∷ ms))

-- the same, by the signalling message that is the copy
unfoldable pub copy_limit : Cast → ℕ → ℕ → ℕ
copy_limit cast at signal =
    let copy = table_copy cast (copy_place cast.copies signal) in
    names_limit cast at copy.last.0 copy.names

-- until when a packet that is sent at a tick may be sent, by what it carries
unfoldable pub carried_limit : Cast → ℕ → Carries → ℕ
carried_limit cast at (carries.Whole u) = unit_limit cast u
carried_limit cast at (carries.Fragment u k) = unit_limit cast u
carried_limit cast at (carries.Group f c) = least (map (unit_limit cast) (numbers f c))
carried_limit cast at (carries.Parameters s) = window_limit cast at
carried_limit cast at (carries.Table s) = copy_limit cast at s
carried_limit cast at (carries.TablePart s k) = copy_limit cast at s

-- until when a packet may be sent for its own sake
unfoldable pub own_limit : Cast → Sent → ℕ
own_limit cast p = carried_limit cast p.at.0 p.carries

-- the own limits of the packets of a packet id among these
unfoldable pub limits_of_id : Cast → ℕ → List Sent → List ℕ
limits_of_id cast packet_id packets = map (own_limit cast) (filter (λ q. q.packet_id == packet_id) packets)

-- the jobs of these packets, which are the last of the cast's: a packet is released at its timestamp, and its deadline is the least own limit of the packets of its packet id from it on, so that a packet that goes no later than a following one of its packet id leaves that one its time
unfoldable pub jobs_from : Cast → List Sent → List Job
jobs_from cast [] = []
jobs_from cast (p ∷ ps) = record { release = p.at.0; deadline = least (limits_of_id cast p.packet_id (p ∷ ps)) } ∷ jobs_from cast ps

-- the jobs of a cast, one for each packet in their order
unfoldable pub jobs_by : Cast → List Job
jobs_by cast = jobs_from cast cast.packets
