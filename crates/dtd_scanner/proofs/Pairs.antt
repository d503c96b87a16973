-- Where two characters first stand side by side.
use Rattle.std.proofs.Common.{◌≡◌, ◌∙◌, ℕ, suc, List, [], ◌∷◌, ◌++◌, length, Bool, true, false, cond, eqb, ◌&&◌, Option, Some, None, refl, ap, subst}
use Rattle.std.specs.Option.{option_map}
use Rattle.std.proofs.lemmas.Bool.{cond-true, cond-false, and_parts, and_from, eqb-true, eq-eqb, both_ways, false_from_ne_true}
use Rattle.dtd_scanner.specs.Items.{Holds, EndsIn}
use Rattle.dtd_scanner.specs.Scanning.{first_pair}
use Rattle.dtd_scanner.proofs.Runs.{nil_apart}

-- the first pair: none stands in what is before it, nor across its begin
pub record FirstPair (a b : ℕ) (text : List ℕ) (at : ℕ) : Type 0 where
  pub inside : List ℕ
  pub rest : List ℕ
  pub split : text ≡ inside ++ (a ∷ b ∷ rest)
  pub place : at ≡ length inside
  pub none : ¬ Holds inside (a ∷ b ∷ [])
  pub apart : a ≡ b → ¬ EndsIn inside (a ∷ [])

module _ (a b : ℕ) where
  pair_now : (x y : ℕ) (cs : List ℕ) → x ≡ a → y ≡ b → FirstPair a b (x ∷ y ∷ cs) 0
  pair_now x y cs first second = record {
    inside = [];
    rest = cs;
    split = cc;
    place = refl;
    none = λ holds. nil_apart holds.0 a (b ∷ holds.1) holds.2;
    apart = λ _ ends. nil_apart ends.0 a [] ends.1;
  }

  module _ (x y : ℕ) (cs inside rest : List ℕ) (differs : x ≡ a → y ≡ b → ⊥) (split : y ∷ cs ≡ inside ++ (a ∷ b ∷ rest)) where
    later_none : (before after : List ℕ) → (¬ Holds inside (a ∷ b ∷ [])) → x ∷ inside ≡ before ++ (a ∷ b ∷ after) → ⊥
    later_none [] after none e =
        let first : x ≡ a = cc in
        let begins : inside ≡ b ∷ after = cc in
        let all : y ∷ cs ≡ b ∷ (after ++ (a ∷ b ∷ rest)) = split ∙ ap (λ t. t ++ (a ∷ b ∷ rest)) begins in
        differs first cc
    later_none (z ∷ before) after none e = none (before, after, cc)

    later_apart : (before : List ℕ) → a ≡ b → (¬ EndsIn inside (a ∷ [])) → x ∷ inside ≡ before ++ (a ∷ []) → ⊥
    later_apart [] same none e =
        let first : x ≡ a = cc in
        let begins : inside ≡ [] = cc in
        let all : y ∷ cs ≡ a ∷ b ∷ rest = split ∙ ap (λ t. t ++ (a ∷ b ∷ rest)) begins in
        differs first cc
    later_apart (z ∷ before) same none e = none (before, cc)

  pair_later : (x y : ℕ) (cs : List ℕ) (at : ℕ) → (x ≡ a → y ≡ b → ⊥) → FirstPair a b (y ∷ cs) at → FirstPair a b (x ∷ y ∷ cs) (suc at)
  pair_later x y cs at differs found = record {
    inside = x ∷ found.inside;
    rest = found.rest;
    split = ap (λ t. x ∷ t) found.split;
    place = ap suc found.place;
    none = λ holds. later_none x y cs found.inside found.rest differs found.split holds.0 holds.1 found.none holds.2;
    apart = λ same ends. later_apart x y cs found.inside found.rest differs found.split ends.0 same (found.apart same) ends.1;
  }

  pair_step : (x y : ℕ) (cs : List ℕ) (at : ℕ) (here : Bool) (later : Option ℕ) → (eqb x a && eqb y b) ≡ here → ((k : ℕ) → later ≡ Some k → FirstPair a b (y ∷ cs) k)
      → cond here (Some 0) (option_map suc later) ≡ Some at → FirstPair a b (x ∷ y ∷ cs) at
  pair_step x y cs at true later is after e =
      let parts = and_parts (eqb x a) (eqb y b) is in
      let place : 0 ≡ at = cc in
      subst (FirstPair a b (x ∷ y ∷ cs)) place (pair_now x y cs (eqb-true x a parts.0) (eqb-true y b parts.1))
  pair_step x y cs at false None is after e = absurd cc
  pair_step x y cs at false (Some k) is after e =
      let place : suc k ≡ at = cc in
      subst (FirstPair a b (x ∷ y ∷ cs)) place
      (pair_later x y cs k (λ first second. both_ways (eqb x a && eqb y b) is (and_from (eqb x a) (eqb y b) (eq-eqb x a first) (eq-eqb y b second))) (after k refl))

  -- what the search finds is the first pair
  pub pair_found : (text : List ℕ) (at : ℕ) → first_pair a b text ≡ Some at → FirstPair a b text at
  pair_found [] at e = absurd cc
  pair_found (x ∷ []) at e = absurd cc
  pair_found (x ∷ y ∷ cs) at e = pair_step x y cs at (eqb x a && eqb y b) (first_pair a b (y ∷ cs)) refl (λ k is. pair_found (y ∷ cs) k is) e

  -- the search finds the first pair
  pub pair_first : (inside rest : List ℕ) → (¬ Holds inside (a ∷ b ∷ [])) → (a ≡ b → ¬ EndsIn inside (a ∷ [])) → first_pair a b (inside ++ (a ∷ b ∷ rest)) ≡ Some (length inside)
  pair_first [] rest none apart = cond-true (eqb a a && eqb b b) (Some 0) (option_map suc (first_pair a b (b ∷ rest))) (and_from (eqb a a) (eqb b b) (eq-eqb a a refl) (eq-eqb b b refl))
  pair_first (x ∷ []) rest none apart =
      cond-false (eqb x a && eqb a b) (Some 0) (option_map suc (first_pair a b (a ∷ b ∷ rest)))
      (false_from_ne_true (eqb x a && eqb a b) (λ t. let parts = and_parts (eqb x a) (eqb a b) t in apart (eqb-true a b parts.1) ([], ap (λ c. c ∷ []) (eqb-true x a parts.0))))
      ∙ ap (option_map suc) (pair_first [] rest (λ holds. nil_apart holds.0 a (b ∷ holds.1) holds.2) (λ _ ends. nil_apart ends.0 a [] ends.1))
  pair_first (x ∷ y ∷ inside) rest none apart =
      cond-false (eqb x a && eqb y b) (Some 0) (option_map suc (first_pair a b (y ∷ inside ++ (a ∷ b ∷ rest))))
      (false_from_ne_true (eqb x a && eqb y b) (λ t. let parts = and_parts (eqb x a) (eqb y b) t in let first = eqb-true x a parts.0 in let second = eqb-true y b parts.1 in none ([], inside, cc)))
      ∙ ap (option_map suc) (pair_first (y ∷ inside) rest (λ holds. none (x ∷ holds.0, holds.1, ap (λ t. x ∷ t) holds.2)) (λ same ends. apart same (x ∷ ends.0, ap (λ t. x ∷ t) ends.1)))
