-- The bodies of notation declarations without references to parameter entities (XML 1.0, 4.7), read from the front.
use Rattle.std.specs.Prelude.{ℕ, List, bytes_eq, codes, Option, Some, None, option_map, option_and_then, if◌then◌else◌}
use Rattle.text_fronts.specs.Fronts.{is_blank, read_space, spaced_name, word, after_word}
use Rattle.entity_catalog.specs.declared.ids.Ids.{Ids}
use Rattle.entity_catalog.specs.declared.ids.Ids.TheVariants.{PublicOnly}
use Rattle.declaration_bodies.specs.Identifiers.{with_system, read_system, spaced_public}

abbrev pub if_blank : {X : Type 0} → X × List ℕ → Option X
if_blank x = if is_blank x.1 then Some x.0 else None

-- a public identifier alone, or with a system identifier
abbrev pub public_ids : List ℕ × List ℕ → Option Ids
public_ids x = if is_blank x.1 then Some (PublicOnly x.0) else option_and_then if_blank (with_system x)

abbrev pub notation_ids : List ℕ → Option Ids
notation_ids text =
    if bytes_eq (word text) (codes "SYSTEM") then option_and_then if_blank (read_system (after_word text))
    else if bytes_eq (word text) (codes "PUBLIC") then option_and_then public_ids (spaced_public (after_word text))
    else None

abbrev pub with_ids : List ℕ × List ℕ → Option (List ℕ × Ids)
with_ids x = option_map (λ ids. (x.0, ids)) (option_and_then notation_ids (read_space x.1))

-- the body of a notation declaration (productions 82 and 83)
unfoldable pub notation_of : List ℕ → Option (List ℕ × Ids)
notation_of body = option_and_then with_ids (spaced_name body)
