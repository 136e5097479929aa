-- What contracts see of the entries of extended descriptors.
use Rattle.std.specs.Prelude.{List, map}
use Rattle.mmt_times.specs.declared.candidate.Candidate.{Candidate}
use Rattle.mmt_times.specs.declared.candidate.Content.{Content}
use Rattle.mmt_times.specs.ContentView.{view_mpu}
use Rattle.mmt_times.specs.ExtendedReading.{mpus_from}
use Rattle.mmt_times.specs.NamesOf.{ExtendedEntry}

-- an entry of an extended descriptor as a value
abbrev pub view_candidate : Candidate → ExtendedEntry
view_candidate c = record { at = c.at; timescale = c.timescale; default = c.default; mpu = view_mpu c.each c.mpu }

-- the entries that a content has left
abbrev pub content_left : Content → List ExtendedEntry
content_left c = map (λ m. record { at = c.at; timescale = c.timescale; default = c.default; mpu = m }) (mpus_from c.each c.rest.now)
