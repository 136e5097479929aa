-- A slot as the entry that it keeps.
use Rattle.std.specs.Prelude.{map, take}
use Rattle.mmt_model.specs.Entries.{Entry}
use Rattle.mmt_times.specs.declared.slot.Slot.{Slot}
use Rattle.mmt_times.specs.TimesLeft.{view_time}

-- the entry of a slot (this project's rule)
abbrev pub slot_entry : Slot → Entry
slot_entry s = record { packet_id = s.packet_id; mpu = s.mpu; time = s.time.0; aus = map view_time (take s.count s.aus) }
