-- Names that stand twice.
use Rattle.std.proofs.Common.{◌≡◌, List, [], ◌∷◌, ◌++◌, ℕ, suc, ◌+◌, ◌<◌, map, take, drop, length, get_or, refl, sym, ap, ◌∙◌, arith, Bool, true, false, not, Some, Bor, bytes_eq}
use Rattle.std.specs.Prelude.{if◌then◌else◌, ◌||◌}
use Rattle.std.specs.List.{list_any}
use Rattle.std.proofs.lemmas.List.{map-append, take_more}
use Rattle.std.proofs.Math.Seq.{drop-cons}
use Rattle.content_models.specs.Model.{Chars, among}
use Rattle.content_models.specs.Proper.{repeated_after}

any-now : (name : Chars) (ks : List (Bor Chars)) → list_any (λ k. bytes_eq name k.now) ks ≡ among (map (λ x. x.now) ks) name
any-now name [] = refl
any-now name (k ∷ ks) = ap (λ b. bytes_eq name k.now || b) (any-now name ks)

not-true : (a b : Bool) → b ≡ not a → b ≡ false → a ≡ true
not-true true b e f = refl
not-true false b e f = sym f ∙ e

not-false : (a b : Bool) → b ≡ not a → b ≡ true → a ≡ false
not-false true b e f = sym f ∙ e
not-false false b e f = refl

at-place : (names : List Chars) (i : ℕ) (name : Chars) → i < length names → name ≡ get_or names i name → drop i names ≡ name ∷ drop (i + 1) names
at-place names i name h e =
    drop-cons names i name h ∙ ap (λ n. n ∷ drop (suc i) names) (sym e) ∙ ap (λ k. name ∷ drop k names) (let q : suc i ≡ i + 1 = omega arith in q)

module _ (names : List Chars) (i : ℕ) (name : Chars) (ks : List (Bor Chars)) (new : Bool)
    (within : i < length names) (is : name ≡ get_or names i name) (seen : map (λ x. x.now) ks ≡ take i names)
    (added : new ≡ not (list_any (λ k. bytes_eq name k.now) ks)) where
  among-any : list_any (λ k. bytes_eq name k.now) ks ≡ among (take i names) name
  among-any = any-now name ks ∙ ap (λ ns. among ns name) seen

  pub repeat_found : new ≡ false → repeated_after (take i names) (drop i names) ≡ Some name
  repeat_found e =
      ap (repeated_after (take i names)) (at-place names i name within is)
      ∙ ap (λ b. if b then Some name else repeated_after (take i names ++ name ∷ []) (drop (i + 1) names)) (sym among-any ∙ not-true _ new added e)

  pub repeat_next : new ≡ true → repeated_after (take i names) (drop i names) ≡ repeated_after (take (i + 1) names) (drop (i + 1) names)
  repeat_next e =
      ap (repeated_after (take i names)) (at-place names i name within is)
      ∙ ap (λ b. if b then Some name else repeated_after (take i names ++ name ∷ []) (drop (i + 1) names)) (sym among-any ∙ not-false _ new added e)
      ∙ ap (λ ns. repeated_after ns (drop (i + 1) names)) (ap (λ n. take i names ++ n ∷ []) is ∙ sym (take_more names i name within))

  pub seen_next : (key : Bor Chars) (now : List (Bor Chars)) → key.now ≡ name → now ≡ (if list_any (λ k. bytes_eq name k.now) ks then ks else ks ++ key ∷ []) → new ≡ true
      → map (λ x. x.now) now ≡ take (i + 1) names
  seen_next key now k n e =
      ap (map (λ x. x.now)) (n ∙ ap (λ b. if b then ks else ks ++ key ∷ []) (not-false _ new added e))
      ∙ map-append (λ x. x.now) ks (key ∷ [])
      ∙ ap (λ ns. ns ++ key.now ∷ []) seen
      ∙ ap (λ n. take i names ++ n ∷ []) (k ∙ is)
      ∙ sym (take_more names i name within)
