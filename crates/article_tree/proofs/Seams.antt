-- Tokens where texts meet.
use Rattle.std.proofs.Common.{◌≡◌, ◌∙◌, ℕ, suc, ◌+◌, ◌-◌, ◌<◌, List, [], ◌∷◌, ◌++◌, length, drop, Bool, true, false, eqb, ◌&&◌, refl, ap, sym, subst, arith, append_assoc, length-append, ⊎_elim, codes}
use Rattle.std.specs.Prelude.{nat_eq}
use Rattle.std.specs.List.{starts_with}
use Rattle.std.proofs.Math.Seq.{drop-append_seam}
use Rattle.article_tree.specs.Tokens.{Token, letter, section, coded, named, remark, instruction, start, stop, IsToken, Allows, Begins}

-- what may stand behind a content: nothing, or markup
abbrev pub Seam : List ℕ → Type 0
Seam [] = Unit {0}
Seam (c ∷ cs) = c ≡ 60

never : (b : Bool) → (b && false) ≡ false
never true = refl
never false = refl

-- `]]>` does not begin over a seam
letter_extends : (c : ℕ) (rest more : List ℕ) → Seam more → starts_with nat_eq (c ∷ rest) (codes "]]>") ≡ false → starts_with nat_eq (c ∷ (rest ++ more)) (codes "]]>") ≡ false
letter_extends c [] [] seam is = never (eqb 93 c)
letter_extends c [] (d ∷ ds) seam is = ap (λ (e : ℕ). starts_with nat_eq (c ∷ e ∷ ds) (codes "]]>")) seam ∙ never (eqb 93 c)
letter_extends c (d ∷ []) [] seam is = is
letter_extends c (d ∷ []) (e ∷ es) seam is = ap (λ (f : ℕ). starts_with nat_eq (c ∷ d ∷ f ∷ es) (codes "]]>")) seam ∙ is
letter_extends c (d ∷ e ∷ rest) more seam is = is

letter_restricts : (c : ℕ) (rest more : List ℕ) → starts_with nat_eq (c ∷ (rest ++ more)) (codes "]]>") ≡ false → starts_with nat_eq (c ∷ rest) (codes "]]>") ≡ false
letter_restricts c [] more is = never (eqb 93 c)
letter_restricts c (d ∷ []) more is = ap (λ (b : Bool). eqb 93 c && b) (never (eqb 93 d)) ∙ never (eqb 93 c)
letter_restricts c (d ∷ e ∷ rest) more is = is

allows_extends : (token : Token) (rest more : List ℕ) → Seam more → Allows token rest → Allows token (rest ++ more)
allows_extends (letter c) rest more seam is = letter_extends c rest more seam is
allows_extends (section inside) rest more seam is = tt
allows_extends (coded c) rest more seam is = tt
allows_extends (named name) rest more seam is = tt
allows_extends (remark inside) rest more seam is = tt
allows_extends (instruction target body) rest more seam is = tt
allows_extends (start tag) rest more seam is = tt
allows_extends (stop name) rest more seam is = tt

allows_restricts : (token : Token) (rest more : List ℕ) → Allows token (rest ++ more) → Allows token rest
allows_restricts (letter c) rest more is = letter_restricts c rest more is
allows_restricts (section inside) rest more is = tt
allows_restricts (coded c) rest more is = tt
allows_restricts (named name) rest more is = tt
allows_restricts (remark inside) rest more is = tt
allows_restricts (instruction target body) rest more is = tt
allows_restricts (start tag) rest more is = tt
allows_restricts (stop name) rest more is = tt

-- a token stays where more follows
pub extends : (token : Token) (text rest more : List ℕ) → Seam more → Begins token text rest → Begins token (text ++ more) (rest ++ more)
extends token text rest more seam (front, is, allows, form) = (front, is, allows_extends token rest more seam allows, ap (λ t. t ++ more) form ∙ append_assoc front rest more)

-- also a token that allows what follows
pub goes_on : (token : Token) (text rest more : List ℕ) → Allows token (rest ++ more) → Begins token text rest → Begins token (text ++ more) (rest ++ more)
goes_on token text rest more allowed (front, is, allows, form) = (front, is, allowed, ap (λ t. t ++ more) form ∙ append_assoc front rest more)

-- and where less follows
pub record Restricts (token : Token) (text rest more : List ℕ) : Type 0 where
  pub front : List ℕ
  pub begins : Begins token (front ++ rest) rest
  pub form : text ≡ (front ++ rest) ++ more

pub restricts : (token : Token) (text rest more : List ℕ) → Begins token text (rest ++ more) → Restricts token text rest more
restricts token text rest more (front, is, allows, form) = record { front = front; begins = (front, is, allows_restricts token rest more allows, refl); form = form ∙ sym (append_assoc front rest more) }

-- a token is not empty
by_front : (c : ℕ) (front rest : List ℕ) → front ≡ c ∷ rest → 0 < length front
by_front c front rest is = let e : length front ≡ suc (length rest) = ap length is in omega (arith, e)

pub token_filled : (token : Token) (front : List ℕ) → IsToken token front → 0 < length front
token_filled (letter c) front is = by_front c front [] is.2
token_filled (section inside) front is = by_front 60 front _ is.1
token_filled (coded c) front is = ⊎_elim (λ h. by_front 38 front _ h.2) (λ h. by_front 38 front _ h.2) is.3
token_filled (named name) front is = by_front 38 front _ is.1
token_filled (remark inside) front is = by_front 60 front _ is.2
token_filled (instruction target body) front is = ⊎_elim (λ h. by_front 60 front _ h.1) (λ h. by_front 60 front _ h.2) is.form
token_filled (start tag) front is = by_front 60 front _ is.form
token_filled (stop name) front is = by_front 60 front _ is.3

-- how far a token goes
pub goes : (token : Token) (text rest : List ℕ) → Begins token text rest → (0 < length text - length rest) × (length rest < length text) × (drop (length text - length rest) text ≡ rest)
goes token text rest (front, is, allows, form) =
    let filled = token_filled token front is in
    let size : length text ≡ length front + length rest = ap length form ∙ length-append front rest in
    let n : length text - length rest ≡ length front = omega (arith, size) in
    (omega (arith, size, filled), omega (arith, size, filled), ap (λ k. drop k text) n ∙ ap (drop (length front)) form ∙ drop-append_seam front rest)

-- an end tag is markup
pub stop_seam : (name text rest : List ℕ) → Begins (stop name) text rest → Seam text
stop_seam name text rest (front, is, allows, form) = subst Seam (sym (form ∙ ap (λ t. t ++ rest) is.3)) refl
