-- The end of ignored contents (XML 1.0, 3.4, productions 63 to 65).
use Rattle.std.specs.Prelude.{ℕ, ◌+◌, ◌-◌, List, [], ◌∷◌, drop, Bool, ◌&&◌, Option, Some, None, nat_eq, codes, if◌then◌else◌}
use Rattle.std.specs.List.{starts_with}

-- whether a section starts where this text begins
abbrev pub opens : List ℕ → Bool
opens text = starts_with nat_eq text (codes "<![")

-- whether the end of a section stands where this text begins
abbrev pub closes : List ℕ → Bool
closes text = starts_with nat_eq text (codes "]]>")

-- how many inner sections are open behind the first character
abbrev pub depth_after : ℕ → List ℕ → ℕ
depth_after depth text = if opens text then depth + 1 else if closes text then depth - 1 else depth

-- the place after the `]]>` that ends the contents, where the text begins at this place and this many inner sections are open
abbrev pub end_from : ℕ → ℕ → List ℕ → Option ℕ
end_from place depth [] = None
end_from place depth (c ∷ cs) = if nat_eq depth 0 && closes (c ∷ cs) then Some (place + 3) else end_from (place + 1) (depth_after depth (c ∷ cs)) cs

-- the same for the contents that begin at a place of a text
abbrev pub ignored_end : List ℕ → ℕ → Option ℕ
ignored_end text at = end_from at 0 (drop at text)
