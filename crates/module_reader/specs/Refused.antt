use Rattle.std.specs.Prelude.{IsTrue}
use Rattle.jats_fault.specs.Table.{has_number, table}
use Rattle.jats_fault.specs.declared.fault.Fault.{Fault}
use Rattle.module_reader.specs.declared.refusals.Refusal.TheInside.{Inside}

-- what is refused
abbrev pub refused_by : Inside → Fault
refused_by r = r.fault

-- its number stands in the table
abbrev pub IsInTable : Inside → Type 0
IsInTable r = IsTrue (has_number table r.fault.number)
