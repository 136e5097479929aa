-- How the refusal of a part of a table is named as that of the table.
use Rattle.std.specs.Prelude.{ℕ, Result, Ok, Err}
use Rattle.mmt_base.specs.declared.refused.Refused.{Refused}
use Rattle.mmt_mpt.specs.declared.location.LocationWhy.{LocationWhy}
use Rattle.mmt_mpt.specs.declared.location.LocationWhy.TheVariants as locations
use Rattle.mmt_mpt.specs.declared.part_why.PartWhy.{PartWhy}
use Rattle.mmt_mpt.specs.declared.part_why.PartWhy.TheVariants as parts
use Rattle.mmt_mpt.specs.declared.mpt_why.MptWhy.{MptWhy}
use Rattle.mmt_mpt.specs.declared.mpt_why.MptWhy.TheVariants as tables

-- a location that is refused (this project's rule)
abbrev pub part_why : LocationWhy → PartWhy
part_why locations.Short = parts.Short
part_why (locations.Kind n) = parts.LocationKind n

-- a part that is refused; a clock relation tells the number of its asset (this project's rule)
abbrev pub mpt_why : ℕ → PartWhy → MptWhy
mpt_why number parts.Short = tables.Short
mpt_why number parts.ClockRelation = tables.ClockRelation number
mpt_why number (parts.LocationKind n) = tables.LocationKind n

-- the same at its place
abbrev pub table_refusal : ℕ → Refused PartWhy → Refused MptWhy
table_refusal number e = record { at = e.at; why = mpt_why number e.why }

-- a location that is read as a part
abbrev pub as_part : {A : Type 0} → Result A (Refused LocationWhy) → Result A (Refused PartWhy)
as_part (Ok x) = Ok x
as_part (Err e) = Err (record { at = e.at; why = part_why e.why })

-- a part that is read as one of a table
abbrev pub in_table : {A : Type 0} → ℕ → Result A (Refused PartWhy) → Result A (Refused MptWhy)
in_table number (Ok x) = Ok x
in_table number (Err e) = Err (table_refusal number e)
