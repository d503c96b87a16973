-- The definitions at examples.
use Rattle.std.proofs.Common.{◌≡◌, ℕ, List, [], ◌∷◌, Some, None, Ok, Err, refl}
use Rattle.std.specs.Prelude.{codes, Option}
use Rattle.entity_catalog.specs.Collapse.{collapse_public}
use Rattle.entity_catalog.specs.Join.{join}
use Rattle.entity_catalog.specs.Lines.{line_of, nothing, public, malformed}
use Rattle.entity_catalog.specs.Catalogs.{catalog_of}
use Rattle.entity_catalog.specs.declared.faults.CatalogFault.TheVariants.{Malformed, PathEscapes}

-- words, and a tab, which is no white space here
collapsed : collapse_public (codes "  a   b\tc ") ≡ codes "a b\tc"
unfolding collapse_public
collapsed = refl

abbrev from_a : List ℕ → Option (List ℕ)
from_a identifier = join (codes "a/b.dtd") identifier

beside : from_a (codes "c") ≡ Some (codes "a/c")
unfolding join
beside = refl

above : from_a (codes "../c") ≡ Some (codes "c")
unfolding join
above = refl

escapes : from_a (codes "../../c") ≡ None
unfolding join
escapes = refl

itself : from_a (codes "") ≡ Some (codes "a")
unfolding join
itself = refl

nothing_left : from_a (codes "..") ≡ None
unfolding join
nothing_left = refl

rooted : from_a (codes "/c") ≡ None
unfolding join
rooted = refl

schemed : from_a (codes "c:d") ≡ None
unfolding join
schemed = refl

doubled : from_a (codes ".//x/./y/../z") ≡ Some (codes "a/x/z")
unfolding join
doubled = refl

spelled : line_of (codes "\t PUBLIC  \"a  b\"\t\"c\" ") ≡ public (codes "a  b") (codes "c")
unfolding line_of
spelled = refl

touching : line_of (codes "SYSTEM\"a\" \"c\"") ≡ malformed
unfolding line_of
touching = refl

comment : line_of (codes "  # PUBLIC") ≡ nothing
unfolding line_of
comment = refl

lone : catalog_of (codes "cat.txt") (codes "PUBLIC \"x\"") ≡ Err (Malformed 1)
unfolding catalog_of line_of
lone = refl

leaving : catalog_of (codes "cat.txt") (codes "# one\n\nSYSTEM \"x\" \"../y\"\nPUBLIC") ≡ Err (PathEscapes 3)
unfolding catalog_of line_of join
leaving = refl

first_wins : catalog_of (codes "d/cat.txt") (codes "SYSTEM \"x\" \"y\"\nSYSTEM \"x\" \"z\"\nPUBLIC \" p  q\" \"../z\"\n")
    ≡ Ok (record { systems = (codes "x", codes "d/y") ∷ []; publics = (codes "p q", codes "z") ∷ [] })
unfolding catalog_of line_of join collapse_public
first_wins = refl
