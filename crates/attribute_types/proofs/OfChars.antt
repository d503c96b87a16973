-- Values that are chosen from classes of Chars are of Chars.
use Rattle.std.proofs.Common.{◌≡◌, ℕ, Bool, true, cond, not, ◌&&◌, List, [], ◌∷◌, refl, ap, Some, None, bytes_eq, find}
use Rattle.std.specs.Prelude.{codes}
use Rattle.std.specs.List.{list_all}
use Rattle.std.proofs.lemmas.Bool.{and_parts, and_from}
use Rattle.jats_chars.specs.Chars.{are_chars}
use Rattle.jats_chars.specs.Classes.{is_char}
use Rattle.jats_chars.specs.Names.{is_name, is_nmtoken}
use Rattle.jats_chars.proofs.Rows.{name_of_chars, nmtoken_of_chars}
use Rattle.attribute_types.specs.declared.types.AttType.{AttType}
use Rattle.attribute_types.specs.declared.types.AttType.TheVariants as kind
use Rattle.attribute_types.specs.declared.types.Preset.TheVariants as preset
use Rattle.attribute_types.specs.declared.classes.ValueClass.{ValueClass}
use Rattle.attribute_types.specs.declared.classes.ValueClass.TheVariants.{Any, Name, Names, Nmtoken, Nmtokens, Tokens, Fixed, FixedToken}
use Rattle.attribute_types.specs.Chars.{has_chars, is_of_chars, ClassOfChars, SampleOfChars, UncoveredOfChars}
use Rattle.attribute_types.specs.Classes.{among, in_class}
use Rattle.attribute_types.specs.Proper.{IsProper, first_of}
use Rattle.attribute_types.specs.Spacing.{is_filled}
use Rattle.attribute_types.specs.Table.{Uncovered, free_of, out_of, empty_or_x, spaced}
use Rattle.attribute_types.specs.Types.{class_of_type, class_of_fixed}
use Rattle.attribute_types.proofs.Free.{free_of_name}
use Rattle.attribute_types.proofs.TextTests.{on_test, all_among, found_in, Fails}

space_char : is_char 0x20 ≡ true
unfolding is_char
space_char = refl

a_char : is_char 0x61 ≡ true
unfolding is_char
a_char = refl

one_char : is_char 0x31 ≡ true
unfolding is_char
one_char = refl

x_char : is_char 0x78 ≡ true
unfolding is_char
x_char = refl

single : (c : ℕ) → is_char c ≡ true → are_chars (c ∷ []) ≡ true
single c h = ap (λ b. b && true) h

one_of_chars : are_chars (codes "1") ≡ true
one_of_chars = single 0x31 one_char

a_a_of_chars : are_chars (codes "a a") ≡ true
a_a_of_chars = and_from (is_char 0x61) (are_chars (0x20 ∷ 0x61 ∷ [])) a_char (and_from (is_char 0x20) (are_chars (0x61 ∷ [])) space_char (single 0x61 a_char))

free_of_chars : (tokens : List (List ℕ)) → are_chars (free_of tokens) ≡ true
free_of_chars tokens = name_of_chars (free_of tokens) (free_of_name tokens)

first_of_chars : (tokens : List (List ℕ)) → list_all are_chars tokens ≡ true → are_chars (first_of tokens) ≡ true
first_of_chars [] h = refl
first_of_chars (t ∷ ts) h = (and_parts (are_chars t) (list_all are_chars ts) h).0

found_of_chars : (p : List ℕ → Bool) (tokens : List (List ℕ)) → list_all are_chars tokens ≡ true → is_of_chars (find (λ x. not (p x)) tokens) ≡ true
found_of_chars p tokens h = by (find (λ x. not (p x)) tokens) (found_in p tokens)
  where
    by : (o : Uncovered) → Fails p tokens o → is_of_chars o ≡ true
    by None f = refl
    by (Some v) f = all_among are_chars tokens v h f.0

empty_or_x_of_chars : (text : List ℕ) → are_chars (empty_or_x text) ≡ true
empty_or_x_of_chars [] = single 0x78 x_char
empty_or_x_of_chars (c ∷ cs) = refl

spaced_of_chars : (token text : List ℕ) → are_chars token ≡ true → are_chars (spaced token text) ≡ true
spaced_of_chars token text h =
    let Q : Bool → Type 0 = λ b. are_chars (cond b (0x20 ∷ token) token) ≡ true in
    on_test Q (bytes_eq token text) (λ t. and_from (is_char 0x20) (are_chars token) space_char h) (λ t. h)

out_of_chars : (class : ValueClass) (text : List ℕ) → are_chars text ≡ true → is_of_chars (out_of class text) ≡ true
out_of_chars class text h =
    let Q : Bool → Type 0 = λ b. is_of_chars (cond b None (Some text)) ≡ true in
    on_test Q (in_class class text) (λ t. refl) (λ t. h)

-- ---- samples

pub sample_of_chars : SampleOfChars
sample_of_chars Any h = refl
sample_of_chars Name h = single 0x61 a_char
sample_of_chars Names h = single 0x61 a_char
sample_of_chars Nmtoken h = single 0x61 a_char
sample_of_chars Nmtokens h = single 0x61 a_char
sample_of_chars (Tokens tokens) h = first_of_chars tokens h
sample_of_chars (Fixed text) h = h
sample_of_chars (FixedToken text) h = h

-- ---- the table, a line for each cell

pub uncovered_of_chars : UncoveredOfChars
uncovered_of_chars Any Any h = refl
uncovered_of_chars Any Name h = refl
uncovered_of_chars Any Names h = refl
uncovered_of_chars Any Nmtoken h = refl
uncovered_of_chars Any Nmtokens h = refl
uncovered_of_chars Any (Tokens others) h = refl
uncovered_of_chars Any (Fixed text) h = empty_or_x_of_chars text
uncovered_of_chars Any (FixedToken text) h = refl
uncovered_of_chars Name Any h = refl
uncovered_of_chars Name Name h = refl
uncovered_of_chars Name Names h = refl
uncovered_of_chars Name Nmtoken h = refl
uncovered_of_chars Name Nmtokens h = refl
uncovered_of_chars Name (Tokens others) h = free_of_chars others
uncovered_of_chars Name (Fixed text) h = free_of_chars (text ∷ [])
uncovered_of_chars Name (FixedToken text) h = free_of_chars (text ∷ [])
uncovered_of_chars Names Any h = refl
uncovered_of_chars Names Name h = a_a_of_chars
uncovered_of_chars Names Names h = refl
uncovered_of_chars Names Nmtoken h = a_a_of_chars
uncovered_of_chars Names Nmtokens h = refl
uncovered_of_chars Names (Tokens others) h = free_of_chars others
uncovered_of_chars Names (Fixed text) h = free_of_chars (text ∷ [])
uncovered_of_chars Names (FixedToken text) h = free_of_chars (text ∷ [])
uncovered_of_chars Nmtoken Any h = refl
uncovered_of_chars Nmtoken Name h = one_of_chars
uncovered_of_chars Nmtoken Names h = one_of_chars
uncovered_of_chars Nmtoken Nmtoken h = refl
uncovered_of_chars Nmtoken Nmtokens h = refl
uncovered_of_chars Nmtoken (Tokens others) h = free_of_chars others
uncovered_of_chars Nmtoken (Fixed text) h = free_of_chars (text ∷ [])
uncovered_of_chars Nmtoken (FixedToken text) h = free_of_chars (text ∷ [])
uncovered_of_chars Nmtokens Any h = refl
uncovered_of_chars Nmtokens Name h = one_of_chars
uncovered_of_chars Nmtokens Names h = one_of_chars
uncovered_of_chars Nmtokens Nmtoken h = a_a_of_chars
uncovered_of_chars Nmtokens Nmtokens h = refl
uncovered_of_chars Nmtokens (Tokens others) h = free_of_chars others
uncovered_of_chars Nmtokens (Fixed text) h = free_of_chars (text ∷ [])
uncovered_of_chars Nmtokens (FixedToken text) h = free_of_chars (text ∷ [])
uncovered_of_chars (Tokens tokens) Any h = refl
uncovered_of_chars (Tokens tokens) Name h = found_of_chars is_name tokens h
uncovered_of_chars (Tokens tokens) Names h = found_of_chars is_name tokens h
uncovered_of_chars (Tokens tokens) Nmtoken h = refl
uncovered_of_chars (Tokens tokens) Nmtokens h = refl
uncovered_of_chars (Tokens tokens) (Tokens others) h = found_of_chars (among others) tokens h
uncovered_of_chars (Tokens tokens) (Fixed text) h = spaced_of_chars (first_of tokens) text (first_of_chars tokens h)
uncovered_of_chars (Tokens tokens) (FixedToken text) h = found_of_chars (λ token. bytes_eq token text) tokens h
uncovered_of_chars (Fixed text) Any h = refl
uncovered_of_chars (Fixed text) Name h = out_of_chars Name text h
uncovered_of_chars (Fixed text) Names h = out_of_chars Names text h
uncovered_of_chars (Fixed text) Nmtoken h = out_of_chars Nmtoken text h
uncovered_of_chars (Fixed text) Nmtokens h = out_of_chars Nmtokens text h
uncovered_of_chars (Fixed text) (Tokens others) h = out_of_chars (Tokens others) text h
uncovered_of_chars (Fixed text) (Fixed other) h = out_of_chars (Fixed other) text h
uncovered_of_chars (Fixed text) (FixedToken other) h = out_of_chars (FixedToken other) text h
uncovered_of_chars (FixedToken text) Any h = refl
uncovered_of_chars (FixedToken text) Name h = out_of_chars Name text h
uncovered_of_chars (FixedToken text) Names h = out_of_chars Names text h
uncovered_of_chars (FixedToken text) Nmtoken h = out_of_chars Nmtoken text h
uncovered_of_chars (FixedToken text) Nmtokens h = out_of_chars Nmtokens text h
uncovered_of_chars (FixedToken text) (Tokens others) h = out_of_chars (Tokens others) text h
uncovered_of_chars (FixedToken text) (Fixed other) h = spaced_of_chars text other h
uncovered_of_chars (FixedToken text) (FixedToken other) h = out_of_chars (FixedToken other) text h

-- ---- the classes of definitions

tokens_of_chars : (tokens : List (List ℕ)) → list_all is_nmtoken tokens ≡ true → list_all are_chars tokens ≡ true
tokens_of_chars [] h = refl
tokens_of_chars (t ∷ ts) h =
    let p = and_parts (is_nmtoken t) (list_all is_nmtoken ts) h in
    and_from (are_chars t) (list_all are_chars ts) (nmtoken_of_chars t p.0) (tokens_of_chars ts p.1)

type_of_chars : (k : AttType) → IsProper (class_of_type k) → has_chars (class_of_type k) ≡ true
type_of_chars kind.Cdata p = refl
type_of_chars kind.Id p = refl
type_of_chars kind.Idref p = refl
type_of_chars kind.Idrefs p = refl
type_of_chars kind.Entity p = refl
type_of_chars kind.Entities p = refl
type_of_chars kind.Nmtoken p = refl
type_of_chars kind.Nmtokens p = refl
type_of_chars (kind.Notation names) p = tokens_of_chars names (and_parts (is_filled names) (list_all is_nmtoken names) p).1
type_of_chars (kind.Enumeration tokens) p = tokens_of_chars tokens (and_parts (is_filled tokens) (list_all is_nmtoken tokens) p).1

fixed_of_chars : (k : AttType) (text : List ℕ) → are_chars text ≡ true → has_chars (class_of_fixed k text) ≡ true
fixed_of_chars kind.Cdata text h = h
fixed_of_chars kind.Id text h = h
fixed_of_chars kind.Idref text h = h
fixed_of_chars kind.Idrefs text h = h
fixed_of_chars kind.Entity text h = h
fixed_of_chars kind.Entities text h = h
fixed_of_chars kind.Nmtoken text h = h
fixed_of_chars kind.Nmtokens text h = h
fixed_of_chars (kind.Notation names) text h = h
fixed_of_chars (kind.Enumeration tokens) text h = h

pub class_of_chars : ClassOfChars
class_of_chars k preset.Required t d = type_of_chars k t
class_of_chars k preset.Implied t d = type_of_chars k t
class_of_chars k (preset.Value text) t d = type_of_chars k t
class_of_chars k (preset.Fixed text) t d = fixed_of_chars k text d
