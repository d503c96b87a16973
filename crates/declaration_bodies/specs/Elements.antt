-- The bodies of element declarations without references to parameter entities (XML 1.0, 3.2), read from the front.
use Rattle.std.specs.Prelude.{ℕ, List, Option, option_map, option_and_then}
use Rattle.text_fronts.specs.Fronts.{read_space, spaced_name, trimmed_end}

abbrev pub with_content : List ℕ × List ℕ → Option (List ℕ × List ℕ)
with_content x = option_map (λ content. (x.0, trimmed_end content)) (read_space x.1)

-- S Name S content S?: the name, and the content as it is written (production 45)
unfoldable pub element_of : List ℕ → Option (List ℕ × List ℕ)
element_of body = option_and_then with_content (spaced_name body)
