-- Line ends one character at a time.
use Rattle.std.proofs.Common.{◌≡◌, ℕ, Bool, true, false, cond, ◌&&◌, List, [], ◌∷◌, ◌++◌, Ok, Err, refl, sym, ap, subst, append_assoc, ⊎_elim}
use Rattle.std.specs.Prelude.{◌==◌, Result}
use Rattle.std.proofs.lemmas.Bool.{cases_Bool, eqb-true}
use Rattle.jats_chars.specs.Decoded.{line_ends, lined}
use Rattle.jats_chars.specs.declared.decoding.DecodeFault.{DecodeFault}

-- what a character becomes behind a CR or not
abbrev pub end_after : Bool → ℕ → List ℕ
end_after after c = cond (c == 0xD) (0xA ∷ []) (cond (c == 0xA && after) [] (c ∷ []))

-- what characters become behind a CR or not
abbrev pub ends : Bool → List ℕ → List ℕ
ends after [] = []
ends after (c ∷ cs) = end_after after c ++ ends (c == 0xD) cs

and_false : (b : Bool) → (b && false) ≡ false
and_false true = refl
and_false false = refl

last_cr : (c : ℕ) → c == 0xD ≡ true → ends false (c ∷ []) ≡ line_ends (c ∷ [])
last_cr c cr = simp cr

last_other : (c : ℕ) → c == 0xD ≡ false → ends false (c ∷ []) ≡ line_ends (c ∷ [])
last_other c other = simp (other, and_false)

last_end : (c : ℕ) → ends false (c ∷ []) ≡ line_ends (c ∷ [])
last_end c = ⊎_elim (λ cr. last_cr c cr) (λ other. last_other c other) (cases_Bool (c == 0xD))

cr_lf : (c : ℕ) (later : List ℕ) → c == 0xD ≡ true → ends false (0xA ∷ later) ≡ line_ends (0xA ∷ later) → ends false (c ∷ 0xA ∷ later) ≡ line_ends (c ∷ 0xA ∷ later)
cr_lf c later cr ih = simp cr ih

cr_other : (c d : ℕ) (later : List ℕ) → c == 0xD ≡ true → d == 0xA ≡ false → ends false (d ∷ later) ≡ line_ends (d ∷ later) → ends false (c ∷ d ∷ later) ≡ line_ends (c ∷ d ∷ later)
cr_other c d later cr other ih = simp (cr, other) (simp other at (ap (λ x. 0xA ∷ x) ih))

no_cr : (c d : ℕ) (later : List ℕ) → c == 0xD ≡ false → ends false (d ∷ later) ≡ line_ends (d ∷ later) → ends false (c ∷ d ∷ later) ≡ line_ends (c ∷ d ∷ later)
no_cr c d later plain ih = simp (plain, and_false) (simp and_false at (ap (λ x. c ∷ x) ih))

first_end : (c d : ℕ) (later : List ℕ) → ends false (d ∷ later) ≡ line_ends (d ∷ later) → ends false (c ∷ d ∷ later) ≡ line_ends (c ∷ d ∷ later)
first_end c d later ih =
    ⊎_elim
    (λ cr.
    ⊎_elim
    (λ lf.
    let P : ℕ → Type 0 = λ x. ends false (x ∷ later) ≡ line_ends (x ∷ later) → ends false (c ∷ x ∷ later) ≡ line_ends (c ∷ x ∷ later) in
    subst P (sym (eqb-true _ _ lf)) (cr_lf c later cr) ih)
    (λ other. cr_other c d later cr other ih)
    (cases_Bool (d == 0xA)))
    (λ plain. no_cr c d later plain ih)
    (cases_Bool (c == 0xD))

pub ends-line_ends : (cs : List ℕ) → ends false cs ≡ line_ends cs
ends-line_ends [] = refl
ends-line_ends (c ∷ []) = last_end c
ends-line_ends (c ∷ d ∷ later) = first_end c d later (ends-line_ends (d ∷ later))

-- the same of an answer
abbrev pub ended : Bool → Result (List ℕ) DecodeFault → Result (List ℕ) DecodeFault
ended after (Ok cs) = Ok (ends after cs)
ended after (Err f) = Err f

pub lined-ended : (r : Result (List ℕ) DecodeFault) → lined r ≡ ended false r
lined-ended (Ok cs) = ap Ok (sym (ends-line_ends cs))
lined-ended (Err f) = refl

-- an answer behind what is there
abbrev pub behind : List ℕ → Result (List ℕ) DecodeFault → Result (List ℕ) DecodeFault
behind out (Ok cs) = Ok (out ++ cs)
behind out (Err f) = Err f

pub behind-nil : (r : Result (List ℕ) DecodeFault) → behind [] r ≡ r
behind-nil (Ok cs) = refl
behind-nil (Err f) = refl

-- one more character
pub behind-ended : (out : List ℕ) (after : Bool) (c : ℕ) (r : Result (List ℕ) DecodeFault)
    → behind out (ended after (behind (c ∷ []) r)) ≡ behind (out ++ end_after after c) (ended (c == 0xD) r)
behind-ended out after c (Ok cs) = ap Ok (sym (append_assoc out (end_after after c) (ends (c == 0xD) cs)))
behind-ended out after c (Err f) = refl
