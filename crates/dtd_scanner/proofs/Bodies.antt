-- The end of a declaration's body.
use Rattle.std.proofs.Common.{◌≡◌, ◌≢◌, ◌∙◌, ℕ, suc, ◌+◌, List, [], ◌∷◌, ◌++◌, length, Bool, true, false, not, cond, eqb, ◌&&◌, ◌||◌, Option, Some, None, refl, ap, sym, subst, inl, inr, ⊎_elim, arith, length-append, append_assoc}
use Rattle.std.specs.Prelude.{All}
use Rattle.std.specs.List.{list_all, concat}
use Rattle.std.specs.Option.{option_map, is_none}
use Rattle.std.proofs.lemmas.Bool.{cond-true, cond-false, and_parts, and_from, eqb-true, eqb-false, eq-eqb, ne_eqb, not_from_false, not-true, or_cases, or_left, or_right}
use Rattle.std.proofs.lemmas.List.Elements.{All-nil, All-cons, All-head, All-tail}
use Rattle.jats_chars.specs.Classes.{is_space}
use Rattle.dtd_scanner.specs.Items.{IsPart, IsBody, is_quote, leaves_word}
use Rattle.dtd_scanner.specs.Scanning.{body_len, quote_after, ends_word}
use Rattle.dtd_scanner.proofs.Runs.{none_holds, none_passes}

-- a body, or what follows the quote that is open
abbrev pub IsBodyFrom : Option ℕ → List ℕ → Type 0
IsBodyFrom None body = IsBody body
IsBodyFrom (Some q) body = (inside : List ℕ) × (more : List ℕ) × (list_all (λ c. not (eqb c q)) inside ≡ true) × IsBody more × (body ≡ inside ++ (q ∷ more))

-- where the body of a text ends
pub record EndsBody (quote : Option ℕ) (text : List ℕ) (at : ℕ) : Type 0 where
  pub body : List ℕ
  pub rest : List ℕ
  pub split : text ≡ body ++ (62 ∷ rest)
  pub place : at ≡ length body
  pub is : IsBodyFrom quote body

pub empty_body : IsBody []
empty_body = ([], All-nil IsPart, refl)

plain_body : (c : ℕ) (body : List ℕ) → is_quote c ≡ false → c ≢ 62 → IsBody body → IsBody (c ∷ body)
plain_body c body plain differs is =
    ((c ∷ []) ∷ is.0, All-cons IsPart (c ∷ []) is.0 (inl (c, plain, differs, refl)) is.1, ap (λ t. c ∷ t) is.2)

quoted_body : (q : ℕ) (body : List ℕ) → is_quote q ≡ true → IsBodyFrom (Some q) body → IsBody (q ∷ body)
quoted_body q body quote is =
    let part = q ∷ is.0 ++ q ∷ [] in
    let parts = is.3.0 in (
      part ∷ parts,
      All-cons IsPart part parts (inr (q, is.0, quote, none_holds q is.0 is.2, refl)) is.3.1,
      ap (λ t. q ∷ t) (is.4 ∙ ap (λ t. is.0 ++ (q ∷ t)) is.3.2 ∙ sym (append_assoc is.0 (q ∷ []) (concat parts))),
    )

close_quote : (q c : ℕ) (body : List ℕ) → c ≡ q → IsBody body → IsBodyFrom (Some q) (c ∷ body)
close_quote q c body same is = ([], body, refl, is, ap (λ d. d ∷ body) same)

stay_quoted : (q c : ℕ) (body : List ℕ) → eqb c q ≡ false → IsBodyFrom (Some q) body → IsBodyFrom (Some q) (c ∷ body)
stay_quoted q c body differs is =
    (c ∷ is.0, is.1, and_from (not (eqb c q)) (list_all (λ d. not (eqb d q)) is.0) (not_from_false (eqb c q) differs) is.2, is.3, ap (λ t. c ∷ t) is.4)

outside_next : (c : ℕ) (body : List ℕ) (quote : Bool) → is_quote c ≡ quote → eqb c 62 ≡ false → IsBodyFrom (cond quote (Some c) None) body → IsBody (c ∷ body)
outside_next c body true is differs h = quoted_body c body is h
outside_next c body false is differs h = plain_body c body is (eqb-false c 62 differs) h

inside_next : (q c : ℕ) (body : List ℕ) (closes : Bool) → eqb c q ≡ closes → IsBodyFrom (cond closes None (Some q)) body → IsBodyFrom (Some q) (c ∷ body)
inside_next q c body true is h = close_quote q c body (eqb-true c q is) h
inside_next q c body false is h = stay_quoted q c body is h

-- a body goes on with one more character in front
body_next : (quote : Option ℕ) (c : ℕ) (body : List ℕ) → (is_none quote && eqb c 62) ≡ false → IsBodyFrom (quote_after quote c) body → IsBodyFrom quote (c ∷ body)
body_next None c body differs is = outside_next c body (is_quote c) refl differs is
body_next (Some q) c body differs is = inside_next q c body (eqb c q) refl is

body_step : (quote : Option ℕ) (c : ℕ) (cs : List ℕ) (at : ℕ) (later : Option ℕ) → (is_none quote && eqb c 62) ≡ false → ((k : ℕ) → later ≡ Some k → EndsBody (quote_after quote c) cs k)
    → option_map suc later ≡ Some at → EndsBody quote (c ∷ cs) at
body_step quote c cs at None differs after e = absurd cc
body_step quote c cs at (Some k) differs after e =
    let found = after k refl in
    let place : suc k ≡ at = cc in
    subst (EndsBody quote (c ∷ cs)) place (record { body = c ∷ found.body; rest = found.rest; split = ap (λ t. c ∷ t) found.split; place = ap suc found.place; is = body_next quote c found.body differs found.is })

outside_step : (c : ℕ) (cs : List ℕ) (at : ℕ) (ends : Bool) (later : Option ℕ) → eqb c 62 ≡ ends → ((k : ℕ) → later ≡ Some k → EndsBody (quote_after None c) cs k)
    → cond ends (Some 0) (option_map suc later) ≡ Some at → EndsBody None (c ∷ cs) at
outside_step c cs at true later is after e =
    let place : 0 ≡ at = cc in
    subst (EndsBody None (c ∷ cs)) place (record { body = []; rest = cs; split = ap (λ d. d ∷ cs) (eqb-true c 62 is); place = refl; is = empty_body })
outside_step c cs at false later is after e = body_step None c cs at later is after e

-- what the search finds is the end of a body
pub body_found : (quote : Option ℕ) (text : List ℕ) (at : ℕ) → body_len quote text ≡ Some at → EndsBody quote text at
body_found quote [] at e = absurd cc
body_found None (c ∷ cs) at e = outside_step c cs at (eqb c 62) (body_len (quote_after None c) cs) refl (λ k is. body_found (quote_after None c) cs k is) e
body_found (Some q) (c ∷ cs) at e = body_step (Some q) c cs at (body_len (quote_after (Some q) c) cs) refl (λ k is. body_found (quote_after (Some q) c) cs k is) e

-- `>` is no quote
quote_apart : (q : ℕ) → is_quote q ≡ true → eqb q 62 ≡ false
quote_apart q is = ⊎_elim (λ e. let same = eqb-true q 34 e in rw same refl) (λ e. let same = eqb-true q 39 e in rw same refl) (or_cases (eqb q 34) (eqb q 39) is)

-- a quoted part is passed over
quote_through : (q : ℕ) (inside more : List ℕ) (n : ℕ) → list_all (λ c. not (eqb c q)) inside ≡ true → body_len None more ≡ Some n → body_len (Some q) (inside ++ (q ∷ more)) ≡ Some (length inside + suc n)
quote_through q [] more n all is =
    let e : suc n ≡ 0 + suc n = omega arith in
    ap (option_map suc) (ap (λ s. body_len s more) (cond-true (eqb q q) None (Some q) (eq-eqb q q refl)) ∙ is) ∙ ap Some e
quote_through q (c ∷ inside) more n all is =
    let parts = and_parts (not (eqb c q)) (list_all (λ d. not (eqb d q)) inside) all in
    let e : suc (length inside + suc n) ≡ suc (length inside) + suc n = omega arith in
    ap (option_map suc) (ap (λ s. body_len s (inside ++ (q ∷ more))) (cond-false (eqb c q) None (Some q) (not-true (eqb c q) parts.0)) ∙ quote_through q inside more n parts.1 is) ∙ ap Some e

-- one part in front of a text
part_through : (part more : List ℕ) (n : ℕ) → IsPart part → body_len None more ≡ Some n → body_len None (part ++ more) ≡ Some (length part + n)
part_through part more n is ends =
    let goal : List ℕ → Type 0 = λ p. body_len None (p ++ more) ≡ Some (length p + n) in
    ⊎_elim
    (λ plain.
    let c = plain.0 in
    let e : suc n ≡ length (c ∷ []) + n = omega arith in
    subst goal (sym plain.3)
    (cond-false (eqb c 62) (Some 0) (option_map suc (body_len (quote_after None c) more)) (ne_eqb c 62 plain.2)
    ∙ ap (option_map suc) (ap (λ s. body_len s more) (cond-false (is_quote c) (Some c) None plain.1) ∙ ends) ∙ ap Some e))
    (λ quoted.
    let q = quoted.0 in
    let inside = quoted.1 in
    let e : suc (length inside + suc n) ≡ length (q ∷ inside ++ q ∷ []) + n = simp length-append (omega arith) in
    subst goal (sym quoted.4)
    (cond-false (eqb q 62) (Some 0) (option_map suc (body_len (quote_after None q) ((inside ++ q ∷ []) ++ more))) (quote_apart q quoted.2)
    ∙ ap (option_map suc) (ap (λ s. body_len s ((inside ++ q ∷ []) ++ more)) (cond-true (is_quote q) (Some q) None quoted.2) ∙ ap (body_len (Some q)) (append_assoc inside (q ∷ []) more)
    ∙ quote_through q inside more n (none_passes q inside quoted.3) ends) ∙ ap Some e))
    is

parts_through : (parts : List (List ℕ)) (rest : List ℕ) → All IsPart parts → body_len None (concat parts ++ (62 ∷ rest)) ≡ Some (length (concat parts))
parts_through [] rest all = refl
parts_through (part ∷ parts) rest all =
    ap (body_len None) (append_assoc part (concat parts) (62 ∷ rest))
    ∙ part_through part (concat parts ++ (62 ∷ rest)) (length (concat parts)) (All-head IsPart part parts all) (parts_through parts rest (All-tail IsPart part parts all))
    ∙ ap Some (sym (length-append part (concat parts)))

-- the search finds the end of a body
pub body_ends : (body rest : List ℕ) → IsBody body → body_len None (body ++ (62 ∷ rest)) ≡ Some (length body)
body_ends body rest is = subst (λ (t : List ℕ). body_len None (t ++ (62 ∷ rest)) ≡ Some (length t)) (sym is.2) (parts_through is.0 rest is.1)

-- a word ends before a body that leaves it
pub word_ends : (body rest : List ℕ) → leaves_word body ≡ true → ends_word (body ++ (62 ∷ rest)) ≡ true
word_ends [] rest leaves = or_right (is_space 62) true refl
word_ends (c ∷ body) rest leaves =
    ⊎_elim (λ space. or_left (is_space c) (eqb c 37 || eqb c 62) space) (λ mark. or_right (is_space c) (eqb c 37 || eqb c 62) (or_left (eqb c 37) (eqb c 62) mark)) (or_cases (is_space c) (eqb c 37) leaves)

-- the other way: the first `>` is not in the body
pub body_leaves : (body rest : List ℕ) → ends_word (body ++ (62 ∷ rest)) ≡ true → body_len None (body ++ (62 ∷ rest)) ≡ Some (length body) → leaves_word body ≡ true
body_leaves [] rest ends is = refl
body_leaves (c ∷ body) rest ends is =
    ⊎_elim (λ space. or_left (is_space c) (eqb c 37) space)
    (λ marks. ⊎_elim (λ mark. or_right (is_space c) (eqb c 37) mark)
    (λ close. let first : Some 0 ≡ Some (length (c ∷ body)) = sym (cond-true (eqb c 62) (Some 0) (option_map suc (body_len (quote_after None c) (body ++ (62 ∷ rest)))) close) ∙ is in absurd cc)
    (or_cases (eqb c 37) (eqb c 62) marks))
    (or_cases (is_space c) (eqb c 37 || eqb c 62) ends)
