-- The file that an external identifier names (XML 1.0, 4.2.2, and a catalog).
use Rattle.std.specs.Prelude.{ℕ, List, Option, None}
use Rattle.std.specs.Option.{option_or}
use Rattle.entity_catalog.specs.Collapse.{collapse_public}
use Rattle.entity_catalog.specs.Join.{join}
use Rattle.entity_catalog.specs.Named.{Named, file_of}
use Rattle.entity_catalog.specs.declared.ids.Ids.{Ids}
use Rattle.entity_catalog.specs.declared.ids.Ids.TheVariants.{System, Public, PublicOnly}

-- the first SYSTEM line with the system identifier, else the first PUBLIC line with the public one, which is compared collapsed,
-- else the join with the base; None where that escapes, and where there is no system identifier
unfoldable pub resolve : Named → List ℕ → Ids → Option (List ℕ)
resolve named base (System s) = option_or (file_of named.systems s) (join base s)
resolve named base (Public p s) = option_or (file_of named.systems s) (option_or (file_of named.publics (collapse_public p)) (join base s))
resolve named base (PublicOnly p) = None
