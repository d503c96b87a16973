-- Names and their numbers.
use Rattle.std.proofs.Common.{◌≡◌, ◌<◌, ◌≤◌, ◌+◌, ℕ, List, length, take, get_or, Bool, true, false, ◌||◌, Some, None, refl, sym, ap, ◌∙◌, arith, bytes_eq, [], ◌∷◌, ◌++◌, inl, inr, Contains, true≢false}
use Rattle.std.specs.List.{list_any, position, position_or_len, IsDistinct}
use Rattle.std.specs.Prelude.{cond, nat_lt}
use Rattle.std.specs.Cmp.Lexicographic.{nat_list_eq_equiv}
use Rattle.std.proofs.lemmas.Bool.{ltb-false, cases_Bool}
use Rattle.std.proofs.lemmas.List.{take_more, get_or-take, length-take-le}
use Rattle.std.proofs.lemmas.List.Folds.{list_any_more}
use Rattle.std.proofs.lemmas.List.Sums.{prefix_len-le-length}
use Rattle.std.proofs.lemmas.Map.Keys.{apart_from_distinct}
use Rattle.std.proofs.lemmas.Slice.Eq.{bytes_eq-Decides}
use Rattle.indexmap.specs.IndexSet.{insert_key}
use Rattle.indexmap.proofs.CallerLemmas.{Contains-list_any}
use Rattle.content_models.specs.Model.{Chars}

found : (b : Bool) (n : ℕ) → cond b (Some n) None ≡ None → b ≡ false
found true n h = cc
found false n h = refl

-- a name that is not among the keys has their number
pub unnumbered : {X : Type 0} (p : X → Bool) (xs : List X) → position p xs ≡ None → length xs ≡ position_or_len p xs
unnumbered p xs h =
    let a : length xs ≤ position_or_len p xs = ltb-false (position_or_len p xs) (length xs) (found (nat_lt (position_or_len p xs) (length xs)) (position_or_len p xs) h) in
    let b : position_or_len p xs ≤ length xs = prefix_len-le-length _ xs in
    omega arith

or_true : (a : Bool) → true ≡ (a || true)
or_true true = refl
or_true false = refl

or_false : (a : Bool) → a ≡ (a || false)
or_false true = refl
or_false false = refl

one_more : (b a e : Bool) → b ≡ e → cond b true a ≡ (a || e)
one_more true a e h = or_true a ∙ ap (λ x. a || x) h
one_more false a e h = or_false a ∙ ap (λ x. a || x) h

pub found_more : (q k : Chars) (now before : Bool) (names : List Chars) (i : ℕ) → i < length names → k ≡ get_or names i k
    → now ≡ cond (bytes_eq k q) true before → before ≡ list_any (bytes_eq q) (take i names)
    → now ≡ list_any (bytes_eq q) (take (i + 1) names)
found_more q k now before names i h is n b =
    let s : bytes_eq k q ≡ bytes_eq q (get_or names i k) = nat_list_eq_equiv.symm k q ∙ ap (bytes_eq q) is in
    n ∙ ap (cond (bytes_eq k q) true) b ∙ one_more (bytes_eq k q) (list_any (bytes_eq q) (take i names)) (bytes_eq q (get_or names i k)) s
    ∙ sym (list_any_more (bytes_eq q) names i k h)

-- a distinct name goes behind those before it
pub kept_more : (keys : List Chars) (i : ℕ) (k : Chars) → IsDistinct bytes_eq keys → i < length keys → k ≡ get_or keys i k
    → insert_key bytes_eq (take i keys) k ≡ take (i + 1) keys
kept_more keys i k apart h is =
    ap (λ b. cond b (take i keys) (take i keys ++ k ∷ [])) new ∙ ap (λ x. take i keys ++ x ∷ []) is ∙ sym (take_more keys i k h)
  where
    new : list_any (bytes_eq k) (take i keys) ≡ false
    new = elim (cases_Bool (list_any (bytes_eq k) (take i keys))) [
      | inl e ↦
          let c : Contains (take i keys) k = Contains-list_any bytes_eq (λ x y. (bytes_eq-Decides x y).0) (take i keys) k e in
          let b : c.0 < i = omega (arith, c.1, length-take-le i keys (omega arith)) in
          let at : get_or keys c.0 k ≡ k = sym (get_or-take i keys c.0 k b) ∙ c.2 in
          let d : bytes_eq (get_or keys c.0 k) (get_or keys i k) ≡ false = apart_from_distinct bytes_eq keys c.0 i k apart b h in
          absurd (true≢false (sym (nat_list_eq_equiv.refl k) ∙ ap (λ x. bytes_eq x k) (sym at) ∙ ap (bytes_eq (get_or keys c.0 k)) is ∙ d))
      | inr e ↦ e
    ]
