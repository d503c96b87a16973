-- Items behind separators, with white space, for whatever spells an item.
use Rattle.std.proofs.Common.{◌≡◌, List, [], ◌∷◌, ◌++◌, ℕ, suc, ◌+◌, ◌≤◌, length, length-append, refl, sym, ap, ◌∙◌, subst, arith, IsTrue}
use Rattle.content_models.specs.declared.content.Particle.{Particle}
use Rattle.content_models.specs.Model.{Chars}
use Rattle.content_models.specs.Grammar.{IsSpaces, SpellsPart, SpellsRest, no_more, one_more, SpellsNames}
use Rattle.jats_chars.specs.Names.{is_name}

-- the items after the first, and the white space before `)`
abbrev pub RestOf : {X : Type 0} → (Chars → X → Type 0) → ℕ → Chars → List X → Type 0
RestOf Item sep text [] = IsSpaces text
RestOf Item sep text (x ∷ xs) =
    (a : Chars) × (b : Chars) × (s : Chars) × (rest : Chars) × (text ≡ a ++ (sep ∷ (b ++ (s ++ rest)))) × IsSpaces a × IsSpaces b × Item s x
    × RestOf Item sep rest xs

-- a name spells itself
abbrev pub Named : Chars → Chars → Type 0
Named s name = (s ≡ name) × IsTrue (is_name name)

pub rest_parts : (sep : ℕ) (ps : List Particle) (u : Chars) → RestOf SpellsPart sep u ps → SpellsRest sep u ps
rest_parts sep [] u r = no_more sep u r
rest_parts sep (p ∷ ps) u r =
    let rest = rest_parts sep ps r.3 r.8 in
    subst (λ t. SpellsRest sep t (p ∷ ps)) (sym r.4) (one_more sep r.0 r.1 r.2 r.3 p ps r.5 r.6 r.7 rest)

pub rest_names : (names : List Chars) (u : Chars) → RestOf Named 124 u names → SpellsNames u names
rest_names [] u r = r
rest_names (name ∷ names) u r =
    (r.0, r.1, r.3, r.4 ∙ ap (λ s. r.0 ++ (124 ∷ (r.1 ++ (s ++ r.3)))) r.7.0, r.5, r.6, r.7.1, rest_names names r.3 r.8)

pub names_rest : (names : List Chars) (u : Chars) → SpellsNames u names → RestOf Named 124 u names
names_rest [] u r = r
names_rest (name ∷ names) u r = (r.0, r.1, name, r.2, r.3, r.4, r.5, (refl, r.6), names_rest names r.2 r.7)

pub rest_length : {X : Type 0} (Item : Chars → X → Type 0) (sep : ℕ) (xs : List X) (u : Chars) → RestOf Item sep u xs → length xs ≤ length u
rest_length Item sep [] u r = omega arith
rest_length Item sep (x ∷ xs) u r =
    let h = rest_length Item sep xs r.3 r.8 in
    let e : length u ≡ length r.0 + suc (length r.1 + (length r.2 + length r.3)) =
    ap length r.4 ∙ simp length-append in
    omega arith

pub rest_each : {X : Type 0} (P Q : Chars → X → Type 0) → ((s : Chars) (x : X) → P s x → Q s x) → (sep : ℕ) (xs : List X) (u : Chars)
    → RestOf P sep u xs → RestOf Q sep u xs
rest_each P Q f sep [] u r = r
rest_each P Q f sep (x ∷ xs) u r = (r.0, r.1, r.2, r.3, r.4, r.5, r.6, f r.2 x r.7, rest_each P Q f sep xs r.3 r.8)
