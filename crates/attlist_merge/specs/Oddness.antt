-- The first attribute by which a list is odd against another.
use Rattle.std.specs.Prelude.{◌≡◌, ℕ, Bool, false, not, ◌&&◌, List, [], ◌∷◌, Option, Some, None, option_map, bytes_eq, IsTrue, if◌then◌else◌}
use Rattle.std.specs.List.{flat_map}
use Rattle.std.specs.Option.{option_map_or, option_or}
use Rattle.attribute_types.specs.Proper.{sample_of}
use Rattle.attribute_types.specs.Table.{uncovered}
use Rattle.attlist_merge.specs.declared.list.Definition.{Definition}
use Rattle.attlist_merge.specs.declared.odd.OddAtt.{OddAtt}
use Rattle.attlist_merge.specs.declared.odd.OddAtt.TheVariants.{Undeclared, Value, Missing}
use Rattle.attlist_merge.specs.Lists.{Entry, Definitions, definition_of, is_required}
use Rattle.attlist_merge.specs.Values.{Values, CoversList, is_right, are_apart}

-- the first that a function gives
abbrev pub first_some : {X Y : Type 0} → (X → Option Y) → List X → Option Y
first_some f [] = None
first_some f (x ∷ xs) = option_or (f x) (first_some f xs)

-- an attribute of the first against what the second declares of its name: lacking, with a sample, or not covered, with a value
abbrev pub against : Entry → Option Definition → Option OddAtt
against e None = Some (Undeclared e.0 (sample_of e.1.class))
against e (Some d) = option_map (λ value. Value e.0 value) (uncovered e.1.class d.class)

abbrev pub odd_value : Definitions → Entry → Option OddAtt
odd_value second e = against e (definition_of second e.0)

-- whether the list requires the attribute
abbrev pub requires : Definitions → List ℕ → Bool
requires list name = option_map_or (λ d. is_required d.preset) (definition_of list name) false

-- an attribute that the second requires and the first does not
abbrev pub odd_missing : Definitions → Entry → Option OddAtt
odd_missing first e = if is_required e.1.preset && not (requires first e.0) then Some (Missing e.0) else None

-- an attribute of the first that is lacking or not covered, else one that is missing
abbrev pub odd_of : Definitions → Definitions → Option OddAtt
odd_of first second = option_or (first_some (odd_value second) first) (first_some (odd_missing first) second)

-- ---- values that show it

-- the value that shows it, at its name
abbrev pub odd_at : OddAtt → List ℕ → Option (List ℕ)
odd_at (Undeclared name value) other = if bytes_eq other name then Some value else None
odd_at (Value name value) other = if bytes_eq other name then Some value else None
odd_at (Missing name) other = None

-- that value, else the sample of a required attribute
abbrev pub chosen : Option (List ℕ) → Entry → Values
chosen (Some value) e = (e.0, value) ∷ []
chosen None e = if is_required e.1.preset then (e.0, sample_of e.1.class) ∷ [] else []

-- the required attributes with their samples, and the value that shows it in the place of its name
abbrev pub shown_by : OddAtt → Definitions → Values
shown_by o list = flat_map (λ e. chosen (odd_at o e.0) e) list

-- every list of values goes over, or these are right by the first and not by the second
abbrev pub Tells : Definitions → Definitions → Option OddAtt → Type 0
Tells first second None = CoversList first second
Tells first second (Some o) = IsTrue (is_right first (shown_by o first)) × (is_right second (shown_by o first) ≡ false) × IsTrue (are_apart (shown_by o first))
