-- The text of a reference to a parameter entity.
use Rattle.std.specs.Prelude.{ℕ, ◌+◌, List, length, bytes_eq, Option, Some, None, Result, Ok, Err, Bool, nat_lt, if◌then◌else◌}
use Rattle.jats_chars.specs.declared.limits.TheConstants as limit
use Rattle.std.specs.List.{list_any}
use Rattle.pe_expansion.specs.Bound.{Bound, text_bound, text_in}
use Rattle.pe_expansion.specs.declared.bindings.PeText.{PeText}
use Rattle.pe_expansion.specs.declared.faults.PeFault.{PeFault}
use Rattle.pe_expansion.specs.declared.faults.PeFault.TheVariants.{UndeclaredPe, RecursivePe, EntityTooDeep, NotLoaded, ExpansionOver}

-- whether a name is among those that are open
abbrev pub is_open : List (List ℕ) → List ℕ → Bool
is_open names name = list_any (λ n. bytes_eq n name) names

-- how many names may be open, and how many characters may be included
abbrev pub most_open : ℕ
most_open = limit.OPEN_ENTITIES

abbrev pub most_included : ℕ
most_included = limit.INCLUDED_CHARACTERS

-- the text, and the count of included characters with it
abbrev pub counted : List ℕ → ℕ → List ℕ → Result (List ℕ × ℕ) PeFault
counted name spent text = if nat_lt most_included (spent + length text) then Err (ExpansionOver name) else Ok (text, spent + length text)

abbrev pub loaded : List ℕ → ℕ → Option (List ℕ) → Result (List ℕ × ℕ) PeFault
loaded name spent None = Err (NotLoaded name)
loaded name spent (Some text) = counted name spent text

abbrev pub opened : List (List ℕ) → ℕ → List ℕ → Option PeText → Result (List ℕ × ℕ) PeFault
opened names spent name None = Err (UndeclaredPe name)
opened names spent name (Some entity) =
    if is_open names name then Err (RecursivePe name)
    else if nat_lt (length names) most_open then loaded name spent (text_in entity)
    else Err (EntityTooDeep name)

-- The text of a name and the count of included characters with it, where these names are open and so many characters were
-- included before: the name is bound and not open, fewer than 32 are open, the text is there, and the count is not over.
unfoldable pub opening : Bound → List (List ℕ) → ℕ → List ℕ → Result (List ℕ × ℕ) PeFault
opening bound names spent name = opened names spent name (text_bound bound name)
