-- What reading a flat text gives.
use Rattle.std.specs.Prelude.{◌≡◌, ◌≤◌, ℕ, List, [], ◌∷◌, length, None, Ok, encode_utf8_all}
use Rattle.dtd_scanner.specs.Walk.{◌>>=◌}
use Rattle.decl_set.specs.Asked.{IsKept}
use Rattle.decl_set.specs.Declarations.{Declarations}
use Rattle.decl_set.specs.Declaring.{end_fault}
use Rattle.module_reader.specs.Reading.{module_read}
use Rattle.module_reader.specs.Sets.{finished, set_from}
use Rattle.module_reader.specs.Sources.{Source, started}
use Rattle.dtd_flattener.specs.Flat.{flat_text}

-- The flat text of a set that keeps its constraints and passes the last tests is read as the same set, from whatever module
-- it is the text and whatever the store holds: it refers to nothing.
abbrev pub ReadsBack : Type 0
ReadsBack = (set : Declarations) (source : Source) (name : List ℕ) → IsKept set → end_fault set ≡ None
    → (module_read source name started (flat_text set) >>= finished name) ≡ Ok set

-- Written to a file of at most 4,194,304 bytes, which is read as an entry with the empty catalog, it gives the same set.
abbrev pub ReadsBackAsFile : Type 0
ReadsBackAsFile = (set : Declarations) (name : List ℕ) → IsKept set → end_fault set ≡ None → length (encode_utf8_all (flat_text set)) ≤ 4194304
    → set_from (record { files = (name, encode_utf8_all (flat_text set)) ∷ []; catalog = record { systems = []; publics = [] } }) name ≡ Ok set
