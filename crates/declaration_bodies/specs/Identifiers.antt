-- External identifiers, read from the front (XML 1.0, 4.2.2).
use Rattle.std.specs.Prelude.{ℕ, List, ◌==◌, bytes_eq, codes, Some, None, option_map, option_and_then, map, if◌then◌else◌}
use Rattle.std.specs.List.{list_all}
use Rattle.jats_chars.specs.Classes.{is_pubid_char}
use Rattle.text_fronts.specs.Fronts.{Read, word, after_word, spaced_literal}
use Rattle.entity_catalog.specs.Collapse.{collapse_public}
use Rattle.entity_catalog.specs.declared.ids.Ids.{Ids}
use Rattle.entity_catalog.specs.declared.ids.Ids.TheVariants.{System, Public}

abbrev pub line_end : ℕ → ℕ
line_end c = if c == 13 then 10 else c

-- a system identifier, in which CR is LF
abbrev pub as_system : List ℕ → List ℕ
as_system text = map line_end text

-- a public identifier of PubidChars, collapsed (4.2.2)
abbrev pub as_public : List ℕ × List ℕ → Read (List ℕ)
as_public x = if list_all is_pubid_char x.0 then Some (collapse_public x.0, x.1) else None

-- S public literal
abbrev pub spaced_public : List ℕ → Read (List ℕ)
spaced_public text = option_and_then as_public (spaced_literal text)

abbrev pub with_system : List ℕ × List ℕ → Read Ids
with_system x = option_map (λ y. (Public x.0 (as_system y.0), y.1)) (spaced_literal x.1)

-- behind `SYSTEM`
abbrev pub read_system : List ℕ → Read Ids
read_system text = option_map (λ y. (System (as_system y.0), y.1)) (spaced_literal text)

-- an external identifier (production 75)
unfoldable pub read_ids : List ℕ → Read Ids
read_ids text =
    if bytes_eq (word text) (codes "SYSTEM") then read_system (after_word text)
    else if bytes_eq (word text) (codes "PUBLIC") then option_and_then with_system (spaced_public (after_word text))
    else None
