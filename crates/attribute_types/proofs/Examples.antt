-- The definitions at examples.
use Rattle.std.proofs.Common.{◌≡◌, [], ◌∷◌, refl, Some, None, false}
use Rattle.std.specs.Prelude.{codes}
use Rattle.jats_chars.specs.Classes.{is_name_start, is_name_char}
use Rattle.attribute_types.specs.Spacing.{collapsed, words_in}
use Rattle.attribute_types.specs.Classes.{in_class}
use Rattle.attribute_types.specs.Table.{uncovered, free_from}
use Rattle.attribute_types.specs.declared.classes.ValueClass.TheVariants.{Any, Name, Names, Nmtoken, Nmtokens, Tokens, Fixed}

collapsed-words : collapsed (codes "  a   b ") ≡ codes "a b"
unfolding words_in
collapsed-words = refl

tab_parts_nothing : in_class Nmtokens (97 ∷ 9 ∷ 98 ∷ []) ≡ false
unfolding words_in is_name_char is_name_start
tab_parts_nothing = refl

a_token : uncovered Nmtoken Name ≡ Some (codes "1")
a_token = refl

covered : uncovered Names Nmtokens ≡ None
covered = refl

free : uncovered Name (Tokens (codes "a" ∷ codes "aa" ∷ [])) ≡ Some (codes "aaa")
unfolding free_from
free = refl

not_empty : uncovered Any (Fixed []) ≡ Some (codes "x")
not_empty = refl
