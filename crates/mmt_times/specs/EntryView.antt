-- What contracts see of an entry.
use Rattle.mmt_model.specs.Entries.{Entry as EntryValue}
use Rattle.mmt_times.specs.declared.entry.Entry.{Entry}
use Rattle.mmt_times.specs.TimesLeft.{times_left}

-- an entry without where its offsets lie in memory
abbrev pub view_entry : Entry → EntryValue
view_entry e = record { packet_id = e.packet_id; mpu = e.mpu; time = e.times.time.0; aus = times_left e.times }
