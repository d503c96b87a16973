use Rattle.pe_expansion.specs.Bound.{Bound}
use Rattle.pe_expansion.specs.declared.bindings.Bindings.TheInside.{Inside}

-- what the map of the bindings holds, in order
abbrev pub bound_by : Inside → Bound
bound_by bindings = bindings.entries.entries
