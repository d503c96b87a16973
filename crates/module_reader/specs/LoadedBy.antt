use Rattle.std.specs.Prelude.{ℕ, List}
use Rattle.module_reader.specs.declared.state.Modules.TheInside.{Inside}

-- what the map of the modules holds, in order
abbrev pub loaded_by : Inside → List (List ℕ × List ℕ)
loaded_by modules = modules.texts.entries
