-- What contracts see of names.
use Rattle.mmt_times.specs.declared.named.Named.{Named}
use Rattle.mmt_times.specs.declared.named.Named.TheVariants as variants
use Rattle.mmt_times.specs.EntryView.{view_entry}
use Rattle.mmt_times.specs.NamesOf.{NamedValue, IsEntry, IsRefused}

-- a name without where it lies in memory
abbrev pub view_named : Named → NamedValue
view_named (variants.Entry e) = IsEntry (view_entry e)
view_named (variants.Refused at why) = IsRefused at why
