-- Examples of values.
use Rattle.std.proofs.Common.{◌≡◌, List, [], ◌∷◌, Ok, Err, refl}
use Rattle.std.specs.Prelude.{codes}
use Rattle.jats_chars.specs.Classes.{is_char, is_space, is_name_start, is_name_char}
use Rattle.dtd_scanner.specs.Walk.{over}
use Rattle.decl_set.specs.Declarations.{Entity}
use Rattle.decl_set.specs.Values.{opening, predefined, value_of, value_piece}
use Rattle.decl_set.specs.declared.entity.EntityDef.TheVariants.{Internal}
use Rattle.decl_set.specs.declared.faults.ValueFault.TheVariants.{LessThan, RecursiveEntity}

-- XML 1.0, 3.3.3: `d` is declared with `&#xD;`, `a` with `&#xA;` and `da` with both
line_ends : List Entity
line_ends = (codes "d", Internal (13 ∷ [])) ∷ (codes "a", Internal (10 ∷ [])) ∷ (codes "da", Internal (13 ∷ 10 ∷ [])) ∷ []

literal_ends : value_of line_ends [] 0 (10 ∷ 10 ∷ codes "xyz") ≡ Ok (record { text = codes "  xyz"; spent = 0 })
unfolding over value_piece value_of is_space
literal_ends = refl

included_ends : value_of line_ends [] 0 (codes "&d;&d;A&a;&#x20;&a;B&da;") ≡ Ok (record { text = codes "  A   B  "; spent = 6 })
unfolding line_ends over value_piece value_of opening predefined is_space is_name_start is_name_char is_char
included_ends = refl

referred_ends : value_of line_ends [] 0 (codes "&#xd;&#xd;A&#xa;&#xa;B&#xd;&#xa;") ≡ Ok (record { text = 13 ∷ 13 ∷ 65 ∷ 10 ∷ 10 ∷ 66 ∷ 13 ∷ 10 ∷ []; spent = 0 })
unfolding over value_piece value_of is_space is_char
referred_ends = refl

-- XML 1.0, 4.6: `&lt;` is `<` whatever is declared
declared_lt : value_of ((codes "lt", Internal (codes "<")) ∷ []) [] 0 (codes "&lt;") ≡ Ok (record { text = codes "<"; spent = 0 })
unfolding over value_piece value_of predefined is_space is_name_start is_name_char
declared_lt = refl

-- XML 1.0, 3.1 and 4.1
with_tag : value_of ((codes "t", Internal (codes "a<b")) ∷ []) [] 0 (codes "&t;") ≡ Err LessThan
unfolding over value_piece value_of opening predefined is_space is_name_start is_name_char
with_tag = refl

in_itself : value_of ((codes "x", Internal (codes "1&y;")) ∷ (codes "y", Internal (codes "&x;")) ∷ []) [] 0 (codes "&x;") ≡ Err (RecursiveEntity (codes "x"))
unfolding over value_piece value_of opening predefined is_space is_name_start is_name_char
in_itself = refl
