-- External identifiers (XML 1.0, 4.2.2 and 4.7).
use Rattle.std.specs.Prelude.{◌≡◌}
use Rattle.entity_catalog.specs.Collapse.{collapse_public}
use Rattle.entity_catalog.specs.declared.ids.Ids.{Ids}
use Rattle.entity_catalog.specs.declared.ids.Ids.TheVariants.{System, Public, PublicOnly}

-- a system identifier stands there
abbrev pub HasSystem : Ids → Type 0
HasSystem (System s) = Unit {0}
HasSystem (Public p s) = Unit {0}
HasSystem (PublicOnly p) = ⊥

-- a public identifier that stands there is collapsed
abbrev pub IsCollapsed : Ids → Type 0
IsCollapsed (System s) = Unit {0}
IsCollapsed (Public p s) = collapse_public p ≡ p
IsCollapsed (PublicOnly p) = collapse_public p ≡ p
