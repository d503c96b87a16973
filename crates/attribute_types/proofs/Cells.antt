-- What the cells of the table say.
use Rattle.std.proofs.Common.{◌≡◌, ◌∙◌, ℕ, suc, Bool, true, false, cond, ◌||◌, ◌&&◌, List, [], ◌∷◌, length, refl, sym, ap, subst, IsTrue, bytes_eq, Some, None, arith}
use Rattle.std.specs.Prelude.{codes}
use Rattle.std.specs.List.{list_all}
use Rattle.std.proofs.lemmas.Bool.{both_ways, and_parts, and_from, or_parts}
use Rattle.jats_chars.specs.Classes.{is_name_start, is_name_char}
use Rattle.jats_chars.specs.Names.{is_name, is_nmtoken, is_names, is_nmtokens}
use Rattle.attribute_types.specs.declared.classes.ValueClass.{ValueClass}
use Rattle.attribute_types.specs.declared.classes.ValueClass.TheVariants.{Any, Name, Names, Nmtoken, Nmtokens, Tokens, Fixed, FixedToken}
use Rattle.attribute_types.specs.Spacing.{words_in, collapsed, is_filled}
use Rattle.attribute_types.specs.Classes.{among, in_class}
use Rattle.attribute_types.specs.Proper.{IsProper, first_of, sample_of}
use Rattle.attribute_types.specs.Covers.{Covers}
use Rattle.attribute_types.specs.Table.{Uncovered, Tells, free_of, out_of, nameless, lacking, other_than, spaced, empty_or_x}
use Rattle.attribute_types.proofs.TextTests.{on_test, bytes_same, bytes_own, bytes_apart, all_among, Fails, found_in}
use Rattle.attribute_types.proofs.Words.{is_word, words-join, name_is_nmtoken, nmtoken_word}
use Rattle.attribute_types.proofs.Collapsing.{name_names, name_nmtoken, name_nmtokens, nmtoken_nmtokens, collapsed-nmtoken, collapsed-nmtokens, collapsed-spaced}
use Rattle.attribute_types.proofs.Free.{free_of_out, free_of_name}

Str : Type 0
Str = List ℕ

-- ---- the empty text

pub collapsed-nil : collapsed [] ≡ []
unfolding words_in
collapsed-nil = refl

not_among : (p : List ℕ → Bool) (xs : List (List ℕ)) (e : List ℕ) → list_all p xs ≡ true → p e ≡ false → among xs e ≡ false
not_among p xs e all off =
    let Q : Bool → Type 0 = λ b. among xs e ≡ b → b ≡ false in
    on_test Q (among xs e) (λ x at. absurd (both_ways (p e) off (all_among p xs e all at))) (λ x at. refl) refl

pub empty_no_name : in_class Name [] ≡ false
empty_no_name = ap is_name collapsed-nil

pub empty_no_names : in_class Names [] ≡ false
empty_no_names = ap is_names collapsed-nil

pub empty_no_nmtoken : in_class Nmtoken [] ≡ false
empty_no_nmtoken = ap is_nmtoken collapsed-nil

pub empty_no_nmtokens : in_class Nmtokens [] ≡ false
empty_no_nmtokens = ap is_nmtokens collapsed-nil

pub empty_no_token : (others : List (List ℕ)) → IsProper (Tokens others) → in_class (Tokens others) [] ≡ false
empty_no_token others p = ap (among others) collapsed-nil ∙ not_among is_nmtoken others [] (and_parts (is_filled others) (list_all is_nmtoken others) p).1 refl

pub empty_no_fixed_token : (text : List ℕ) → IsProper (FixedToken text) → in_class (FixedToken text) [] ≡ false
empty_no_fixed_token [] p = absurd (both_ways false refl p)
empty_no_fixed_token (c ∷ cs) p = ap (λ (t : List ℕ). bytes_eq t (c ∷ cs)) collapsed-nil

pub empty_or_x_out : (text : List ℕ) → Tells Any (Fixed text) (Some (empty_or_x text))
empty_or_x_out [] = (refl, refl)
empty_or_x_out (c ∷ cs) = (refl, refl)

-- ---- literals

pub two_names : IsTrue (in_class Names (codes "a a"))
unfolding words_in is_name_start is_name_char
two_names = refl

pub two_no_name : in_class Name (codes "a a") ≡ false
unfolding words_in is_name_start is_name_char
two_no_name = refl

pub two_no_nmtoken : in_class Nmtoken (codes "a a") ≡ false
unfolding words_in is_name_start is_name_char
two_no_nmtoken = refl

pub one_nmtoken : IsTrue (in_class Nmtoken (codes "1"))
unfolding words_in is_name_start is_name_char
one_nmtoken = refl

pub one_no_name : in_class Name (codes "1") ≡ false
unfolding words_in is_name_start is_name_char
one_no_name = refl

pub one_no_names : in_class Names (codes "1") ≡ false
unfolding words_in is_name_start is_name_char
one_no_names = refl

-- ---- free words

pub free_collapsed : (xs : List (List ℕ)) → collapsed (free_of xs) ≡ free_of xs
free_collapsed xs = collapsed-nmtoken (free_of xs) (name_is_nmtoken (free_of xs) (free_of_name xs))

pub free_name : (xs : List (List ℕ)) → IsTrue (in_class Name (free_of xs))
free_name xs = ap is_name (free_collapsed xs) ∙ free_of_name xs

pub free_no_token : (xs : List (List ℕ)) → in_class (Tokens xs) (free_of xs) ≡ false
free_no_token xs = ap (among xs) (free_collapsed xs) ∙ free_of_out xs

pub free_no_fixed : (text : List ℕ) → in_class (Fixed text) (free_of (text ∷ [])) ≡ false
free_no_fixed text = (or_parts (bytes_eq (free_of (text ∷ [])) text) false (free_of_out (text ∷ []))).0

pub free_no_fixed_token : (text : List ℕ) → in_class (FixedToken text) (free_of (text ∷ [])) ≡ false
free_no_fixed_token text = ap (λ (t : List ℕ). bytes_eq t text) (free_collapsed (text ∷ [])) ∙ free_no_fixed text

-- ---- token lists

tokens_of : (tokens : List (List ℕ)) → IsProper (Tokens tokens) → list_all is_nmtoken tokens ≡ true
tokens_of tokens p = (and_parts (is_filled tokens) (list_all is_nmtoken tokens) p).1

token_in : (tokens : List (List ℕ)) → IsProper (Tokens tokens) → (t : List ℕ) → among tokens t ≡ true → IsTrue (in_class (Tokens tokens) t)
token_in tokens p t at = ap (among tokens) (collapsed-nmtoken t (all_among is_nmtoken tokens t (tokens_of tokens p) at)) ∙ at

nmtoken_names : (t : List ℕ) → is_nmtoken t ≡ true → is_names t ≡ (is_name t && true)
nmtoken_names t h = ap (list_all is_name) (words-join t [] (and_from (is_word t) true (nmtoken_word t h) refl))

-- where a test of the tokens says which are in the second class
tokens_told : (tokens : List (List ℕ)) (q : List ℕ → Bool) (second : ValueClass) → IsProper (Tokens tokens) → ((v : List ℕ) → among tokens (collapsed v) ≡ true → q (collapsed v) ≡ true → IsTrue (in_class second v)) → ((t : List ℕ) → is_nmtoken t ≡ true → q t ≡ false → in_class second t ≡ false) → (o : Uncovered) → Fails q tokens o → Tells (Tokens tokens) second o
tokens_told tokens q second p inside outside None all = λ v at. inside v at (all_among q tokens (collapsed v) all at)
tokens_told tokens q second p inside outside (Some t) h = (token_in tokens p t h.0, outside t (all_among is_nmtoken tokens t (tokens_of tokens p) h.0) h.1)

pub tokens_name : (tokens : List (List ℕ)) → IsProper (Tokens tokens) → Tells (Tokens tokens) Name (nameless tokens)
tokens_name tokens p =
    tokens_told tokens is_name Name p (λ v at h. h) (λ t h off. ap is_name (collapsed-nmtoken t h) ∙ off) (nameless tokens) (found_in is_name tokens)

and_true : (b : Bool) → b ≡ false → (b && true) ≡ false
and_true b e = ap (λ x. x && true) e

pub tokens_names : (tokens : List (List ℕ)) → IsProper (Tokens tokens) → Tells (Tokens tokens) Names (nameless tokens)
tokens_names tokens p =
    tokens_told tokens is_name Names p (λ v at h. name_names v h) (λ t h off. ap is_names (collapsed-nmtoken t h) ∙ (nmtoken_names t h ∙ and_true (is_name t) off)) (nameless tokens) (found_in is_name tokens)

pub tokens_nmtoken : (tokens : List (List ℕ)) → IsProper (Tokens tokens) → Covers (Tokens tokens) Nmtoken
tokens_nmtoken tokens p = λ v at. all_among is_nmtoken tokens (collapsed v) (tokens_of tokens p) at

pub tokens_nmtokens : (tokens : List (List ℕ)) → IsProper (Tokens tokens) → Covers (Tokens tokens) Nmtokens
tokens_nmtokens tokens p = λ v at. nmtoken_nmtokens v (tokens_nmtoken tokens p v at)

pub tokens_tokens : (tokens others : List (List ℕ)) → IsProper (Tokens tokens) → Tells (Tokens tokens) (Tokens others) (lacking tokens others)
tokens_tokens tokens others p =
    tokens_told tokens (among others) (Tokens others) p (λ v at h. h) (λ t h off. ap (among others) (collapsed-nmtoken t h) ∙ off) (lacking tokens others) (found_in (among others) tokens)

pub tokens_fixed_token : (tokens : List (List ℕ)) (text : List ℕ) → IsProper (Tokens tokens) → Tells (Tokens tokens) (FixedToken text) (other_than tokens text)
tokens_fixed_token tokens text p =
    tokens_told tokens (λ t. bytes_eq t text) (FixedToken text) p (λ v at h. h) (λ t h off. ap (λ (x : List ℕ). bytes_eq x text) (collapsed-nmtoken t h) ∙ off) (other_than tokens text) (found_in (λ t. bytes_eq t text) tokens)

longer : (c : ℕ) (t : List ℕ) → (c ∷ t) ≡ t → ⊥
longer c t e = let h : suc (length t) ≡ length t = ap length e in omega (arith, h)

-- a text, or the same behind a space, is not the other one
pub spaced_out : (t text : List ℕ) → bytes_eq (spaced t text) text ≡ false
spaced_out t text =
    let Q : Bool → Type 0 = λ b. bytes_eq (cond b (0x20 ∷ t) t) text ≡ false in
    on_test Q (bytes_eq t text)
    (λ same. bytes_apart (0x20 ∷ t) text (λ e. longer 0x20 t (e ∙ sym (bytes_same t text same))))
    (λ other. other)

pub collapsed-either : (t text : List ℕ) → collapsed (spaced t text) ≡ collapsed t
collapsed-either t text =
    let Q : Bool → Type 0 = λ b. collapsed (cond b (0x20 ∷ t) t) ≡ collapsed t in
    on_test Q (bytes_eq t text) (λ e. collapsed-spaced t) (λ e. refl)

pub tokens_fixed : (tokens : List (List ℕ)) (text : List ℕ) → IsProper (Tokens tokens) → Tells (Tokens tokens) (Fixed text) (Some (spaced (first_of tokens) text))
tokens_fixed [] text p = absurd (both_ways false refl p)
tokens_fixed (t ∷ ts) text p =
    let at : among (t ∷ ts) t ≡ true = ap (λ b. b || among ts t) (bytes_own t) in
    (ap (among (t ∷ ts)) (collapsed-either t text) ∙ token_in (t ∷ ts) p t at, spaced_out t text)

-- ---- fixed texts

pub fixed_out : (text : List ℕ) (second : ValueClass) → Tells (Fixed text) second (out_of second text)
fixed_out text second =
    let Q : Bool → Type 0 = λ b. in_class second text ≡ b → Tells (Fixed text) second (cond b None (Some text)) in
    on_test Q (in_class second text)
    (λ e h v at. let P : List ℕ → Type 0 = λ x. IsTrue (in_class second x) in subst P (sym (bytes_same v text at)) h)
    (λ e h. (bytes_own text, h))
    refl

pub fixed_token_out : (text : List ℕ) (second : ValueClass) → IsProper (FixedToken text) → ((v w : List ℕ) → collapsed v ≡ collapsed w → in_class second v ≡ in_class second w) → Tells (FixedToken text) second (out_of second text)
fixed_token_out text second p alike =
    let same : collapsed text ≡ text = collapsed-nmtokens text p in
    let Q : Bool → Type 0 = λ b. in_class second text ≡ b → Tells (FixedToken text) second (cond b None (Some text)) in
    on_test Q (in_class second text)
    (λ e h v at. alike v text (bytes_same (collapsed v) text at ∙ sym same) ∙ h)
    (λ e h. (ap (λ (t : List ℕ). bytes_eq t text) same ∙ bytes_own text, h))
    refl

pub fixed_token_fixed : (text other : List ℕ) → IsProper (FixedToken text) → Tells (FixedToken text) (Fixed other) (Some (spaced text other))
fixed_token_fixed text other p =
    (ap (λ (t : List ℕ). bytes_eq t text) (collapsed-either text other ∙ collapsed-nmtokens text p) ∙ bytes_own text, spaced_out text other)

-- ---- samples

letter_name : is_name (0x61 ∷ []) ≡ true
unfolding is_name_start
letter_name = refl

letter_in : IsTrue (in_class Name (0x61 ∷ []))
letter_in = ap is_name (collapsed-nmtoken (0x61 ∷ []) (name_is_nmtoken (0x61 ∷ []) letter_name)) ∙ letter_name

first_in : (tokens : List (List ℕ)) → IsProper (Tokens tokens) → IsTrue (in_class (Tokens tokens) (first_of tokens))
first_in [] p = absurd (both_ways false refl p)
first_in (t ∷ ts) p = token_in (t ∷ ts) p t (ap (λ b. b || among ts t) (bytes_own t))

-- the sample of a class is in it
pub sample_in : (class : ValueClass) → IsProper class → IsTrue (in_class class (sample_of class))
sample_in Any p = refl
sample_in Name p = letter_in
sample_in Names p = name_names (0x61 ∷ []) letter_in
sample_in Nmtoken p = name_nmtoken (0x61 ∷ []) letter_in
sample_in Nmtokens p = name_nmtokens (0x61 ∷ []) letter_in
sample_in (Tokens tokens) p = first_in tokens p
sample_in (Fixed text) p = bytes_own text
sample_in (FixedToken text) p = ap (λ (t : List ℕ). bytes_eq t text) (collapsed-nmtokens text p) ∙ bytes_own text
