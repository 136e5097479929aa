-- What contracts see of a refusal.
use Rattle.mmt_base.specs.declared.refused.Refused.{Refused}
use Rattle.mmt_times.specs.declared.times_why.TimesWhy.{TimesWhy}
use Rattle.mmt_times.specs.NamesOf.{NamedValue, IsRefused}

-- a refusal as a name
abbrev pub refused_name : Refused TimesWhy → NamedValue
refused_name r = IsRefused r.at r.why
