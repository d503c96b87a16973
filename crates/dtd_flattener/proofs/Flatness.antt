-- The form of a flat body: it holds no references, and no `<` or `>` outside quotes.
use Rattle.std.proofs.Common.{◌≡◌, ◌∙◌, ℕ, List, [], ◌∷◌, ◌++◌, Bool, true, not, eqb, ◌||◌, ◌⊎◌, refl, ap, sym, inl, inr, append_assoc, append-nil}
use Rattle.std.specs.Prelude.{codes}
use Rattle.std.specs.List.{list_all, concat, AllByRecursion}
use Rattle.std.proofs.lemmas.Bool.{and_parts}
use Rattle.jats_chars.specs.Classes.{is_space}
use Rattle.dtd_scanner.specs.Items.{is_quote, leaves_word}

-- a character that stands for itself in a body: no `"`, `'`, `<`, `>` or `%`
abbrev pub is_plain : ℕ → Bool
is_plain c = not (is_quote c || (eqb c 60 || (eqb c 62 || eqb c 37)))

-- a part of a body: such a character, or a text between two quotes of a kind
abbrev pub IsFlatPart : List ℕ → Type 0
IsFlatPart part = ((c : ℕ) × (is_plain c ≡ true) × (part ≡ c ∷ []))
    ⊎ ((quote : ℕ) × (inside : List ℕ) × (is_quote quote ≡ true) × (list_all (λ c. not (eqb c quote)) inside ≡ true) × (part ≡ quote ∷ inside ++ quote ∷ []))

-- the text is a list of such parts
abbrev pub IsFlat : List ℕ → Type 0
IsFlat text = (parts : List (List ℕ)) × AllByRecursion IsFlatPart parts × (text ≡ concat parts)

-- the same, behind the word of a declaration
abbrev pub IsFlatBody : List ℕ → Type 0
IsFlatBody body = (leaves_word body ≡ true) × IsFlat body

-- ---- what is flat

pub flat_empty : IsFlat []
flat_empty = ([], tt, refl)

pub flat_plain : (text : List ℕ) → list_all is_plain text ≡ true → IsFlat text
flat_plain [] all = flat_empty
flat_plain (c ∷ cs) all =
    let parts = and_parts (is_plain c) (list_all is_plain cs) all in
    let rest = flat_plain cs parts.1 in
    ((c ∷ []) ∷ rest.0, (inl (c, parts.0, refl), rest.1), ap (λ t. c ∷ t) rest.2)

pub flat_quoted : (quote : ℕ) (inside : List ℕ) → is_quote quote ≡ true → list_all (λ c. not (eqb c quote)) inside ≡ true → IsFlat (quote ∷ (inside ++ quote ∷ []))
flat_quoted quote inside is none = ((quote ∷ inside ++ quote ∷ []) ∷ [], (inr (quote, inside, is, none, refl), tt), sym (append-nil (quote ∷ inside ++ quote ∷ [])))

pub all_joined : {X : Type 0} (P : X → Type 0) (xs ys : List X) → AllByRecursion P xs → AllByRecursion P ys → AllByRecursion P (xs ++ ys)
all_joined P [] ys all more = more
all_joined P (x ∷ xs) ys all more = (all.0, all_joined P xs ys all.1 more)

concat_joined : (xs ys : List (List ℕ)) → concat (xs ++ ys) ≡ concat xs ++ concat ys
concat_joined [] ys = refl
concat_joined (x ∷ xs) ys = ap (λ t. x ++ t) (concat_joined xs ys) ∙ sym (append_assoc x (concat xs) (concat ys))

pub flat_joined : (first second : List ℕ) → IsFlat first → IsFlat second → IsFlat (first ++ second)
flat_joined first second is also =
    (is.0 ++ also.0, all_joined IsFlatPart is.0 also.0 is.1 also.1, ap (λ t. t ++ second) is.2 ∙ ap (λ t. concat is.0 ++ t) also.2 ∙ sym (concat_joined is.0 also.0))

-- a body behind its first space
pub flat_body : (text : List ℕ) → IsFlat text → IsFlatBody (codes " " ++ text)
unfolding is_space
flat_body text is = (refl, flat_joined (codes " ") text (flat_plain (codes " ") refl) is)
