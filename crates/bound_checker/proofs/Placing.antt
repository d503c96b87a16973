-- Elements by place and by name, and what is made of them.
use Rattle.std.proofs.Common.{◌≡◌, Option, Some, None, refl, sym, ap, ◌∙◌}
use Rattle.std.specs.Prelude.{option_map, option_and_then, Ok}
use Rattle.decl_set.specs.Declarations.{Declarations, Element, name_of}
use Rattle.decl_set.specs.Asked.{IsKept}
use Rattle.bound_checker.specs.declared.check.Broken.{Broken}
use Rattle.bound_checker.specs.declared.tables.Tables.{Tables}
use Rattle.bound_checker.specs.Tests.{Checks, first_broken}
use Rattle.bound_checker.proofs.Tests.{none_is_broken}

-- no name there, no element
pub unplaced : (o : Option Element) → None ≡ option_map name_of o → o ≡ None
unplaced None h = refl
unplaced (Some x) h = cc

pub none_from : {Y : Type 0} (f : Element → Option Y) (o : Option Element) → None ≡ option_map name_of o → None ≡ option_and_then f o
none_from f o h = ap (option_and_then f) (sym (unplaced o h))

pub some_from : {Y : Type 0} (f : Element → Option Y) (o : Option Element) (x : Element) (y : Option Y) → o ≡ Some x → y ≡ f x → y ≡ option_and_then f o
some_from f o x y h e = e ∙ ap (option_and_then f) (sym h)

pub checks_none : (first second : Declarations) (tables : Tables) (o : Option Broken) → IsKept first → IsKept second → o ≡ first_broken first second tables → o ≡ None
    → Checks first second tables (Ok tt)
checks_none first second tables o kf ks q h = (none_is_broken first second tables kf ks).0 (sym q ∙ h)
