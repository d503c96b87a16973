-- The places of a choice, part by part.
use Rattle.std.proofs.Common.{◌≡◌, List, [], ◌∷◌, ◌++◌, ℕ, zero, suc, ◌+◌, ◌<◌, ◌≤◌, length, take, get_or, Bool, true, false, ◌||◌, ◌==◌, refl, sym, ap, ◌∙◌, arith, rules}
use Rattle.std.specs.List.{list_any}
use Rattle.std.proofs.lemmas.List.{map-append, take_more}
use Rattle.content_models.specs.declared.content.Particle.{Particle}
use Rattle.content_models.specs.Model.{Chars, model, one_of, choice_of}
use Rattle.content_models.specs.Re.{Re, Alt}
use Rattle.position_automata.specs.Marked.{count}
use Rattle.position_automata.specs.declared.walk.Ends.{Ends}
use Rattle.position_automata.specs.Places.{nullable, firsts, lasts, edges, models, IsEnds}
use Rattle.position_automata.proofs.Steps.{plus-zero}

one_of-push : (q : Re Chars) (rs : List (Re Chars)) (r : Re Chars) → one_of q (rs ++ r ∷ []) ≡ Alt (one_of q rs) r
one_of-push q [] r = refl
one_of-push q (s ∷ rs) r = one_of-push (Alt q s) rs r

pub choice-count : (rs : List (Re Chars)) (r : Re Chars) → count (choice_of (rs ++ r ∷ [])) ≡ count (choice_of rs) + count r
choice-count [] r = let e : count r ≡ 0 + count r = omega arith in e
choice-count (q ∷ rs) r = ap count (one_of-push q rs r)

pub choice-firsts : (k : ℕ) (rs : List (Re Chars)) (r : Re Chars) → firsts k (choice_of (rs ++ r ∷ [])) ≡ firsts k (choice_of rs) ++ firsts (k + count (choice_of rs)) r
choice-firsts k [] r = ap (λ i. firsts i r) (plus-zero k)
choice-firsts k (q ∷ rs) r = ap (firsts k) (one_of-push q rs r)

pub choice-lasts : (k : ℕ) (rs : List (Re Chars)) (r : Re Chars) → lasts k (choice_of (rs ++ r ∷ [])) ≡ lasts k (choice_of rs) ++ lasts (k + count (choice_of rs)) r
choice-lasts k [] r = ap (λ i. lasts i r) (plus-zero k)
choice-lasts k (q ∷ rs) r = ap (lasts k) (one_of-push q rs r)

pub choice-edges : (k : ℕ) (rs : List (Re Chars)) (r : Re Chars) → edges k (choice_of (rs ++ r ∷ [])) ≡ edges k (choice_of rs) ++ edges (k + count (choice_of rs)) r
choice-edges k [] r = ap (λ i. edges i r) (plus-zero k)
choice-edges k (q ∷ rs) r = ap (edges k) (one_of-push q rs r)

or_assoc : (a b c : Bool) → ((a || b) || c) ≡ (a || (b || c))
or_assoc true b c = refl
or_assoc false b c = refl

or_false : (a : Bool) → (a || false) ≡ a
or_false true = refl
or_false false = refl

any-push : (rs : List (Re Chars)) (r : Re Chars) → list_any nullable (rs ++ r ∷ []) ≡ (list_any nullable rs || nullable r)
any-push [] r = or_false (nullable r)
any-push (q ∷ rs) r = ap (λ b. nullable q || b) (any-push rs r) ∙ sym (or_assoc (nullable q) (list_any nullable rs) (nullable r))

one_of-nullable : (q : Re Chars) (rs : List (Re Chars)) → nullable (one_of q rs) ≡ (nullable q || list_any nullable rs)
one_of-nullable q [] = sym (or_false (nullable q))
one_of-nullable q (r ∷ rs) = one_of-nullable (Alt q r) rs ∙ or_assoc (nullable q) (nullable r) (list_any nullable rs)

-- what the walk has found of a choice after some of its parts
pub record IsPartly (k : ℕ) (none : Bool) (rs : List (Re Chars)) (e : Ends) : Type 0 where
  pub nullable_is : e.nullable ≡ (none || list_any nullable rs)
  pub first_is : e.first.items ≡ firsts k (choice_of rs)
  pub last_is : e.last.items ≡ lasts k (choice_of rs)

some : (n : ℕ) → (suc n == 0) ≡ false
some n = search rules

pub partly-whole : (k : ℕ) (ps : List Particle) (none : Bool) (e : Ends) → none ≡ (length ps == 0) → IsPartly k none (models ps) e → IsEnds k (choice_of (models ps)) e
partly-whole k [] none e n I = record { nullable_is = I.nullable_is ∙ ap (λ b. b || false) n; first_is = I.first_is; last_is = I.last_is }
partly-whole k (p ∷ ps) none e n I =
    let z : none ≡ false = n ∙ some (length ps) in
    let h : e.nullable ≡ (nullable (model p) || list_any nullable (models ps)) = I.nullable_is ∙ ap (λ b. b || list_any nullable (models (p ∷ ps))) z in
    record {
      nullable_is = h ∙ sym (one_of-nullable (model p) (models ps));
      first_is = I.first_is;
      last_is = I.last_is;
    }

pub partly-more : (k : ℕ) (none : Bool) (rs : List (Re Chars)) (r : Re Chars) (a b e : Ends) → IsPartly k none rs a → IsEnds (k + count (choice_of rs)) r b
    → e.nullable ≡ (a.nullable || b.nullable) → e.first.items ≡ a.first.items ++ b.first.items → e.last.items ≡ a.last.items ++ b.last.items
    → IsPartly k none (rs ++ r ∷ []) e
partly-more k none rs r a b e A B n f l = record {
  nullable_is = n ∙ ap (λ x. x || b.nullable) A.nullable_is ∙ ap (λ x. (none || list_any nullable rs) || x) B.nullable_is
      ∙ or_assoc none (list_any nullable rs) (nullable r) ∙ ap (λ x. none || x) (sym (any-push rs r));
  first_is = f ∙ ap (λ x. x ++ b.first.items) A.first_is ∙ ap (λ x. firsts k (choice_of rs) ++ x) B.first_is ∙ sym (choice-firsts k rs r);
  last_is = l ∙ ap (λ x. x ++ b.last.items) A.last_is ∙ ap (λ x. lasts k (choice_of rs) ++ x) B.last_is ∙ sym (choice-lasts k rs r);
}

pub models_more : (ps : List Particle) (i : ℕ) (d : Particle) → i < length ps → models (take (i + 1) ps) ≡ models (take i ps) ++ model (get_or ps i d) ∷ []
models_more ps i d h = ap models (take_more ps i d h) ∙ map-append model (take i ps) (get_or ps i d ∷ [])

-- a part ends before the whole choice does
count-one_of : (q : Re Chars) (rs : List (Re Chars)) → count q ≤ count (one_of q rs)
count-one_of q [] = omega arith
count-one_of q (r ∷ rs) = omega (arith, count-one_of (Alt q r) rs)

count-within : (q : Re Chars) (ps : List Particle) (i : ℕ) (d : Particle) → i < length ps
    → count (one_of q (models (take i ps))) + count (model (get_or ps i d)) ≤ count (one_of q (models ps))
count-within q [] i d h = absurd (omega arith)
count-within q (p ∷ ps) zero d h = omega (arith, count-one_of (Alt q (model p)) (models ps))
count-within q (p ∷ ps) (suc i) d h = count-within (Alt q (model p)) ps i d (omega arith)

pub choice_within : (ps : List Particle) (i : ℕ) (d : Particle) → i < length ps
    → count (choice_of (models (take i ps))) + count (model (get_or ps i d)) ≤ count (choice_of (models ps))
choice_within [] i d h = absurd (omega arith)
choice_within (p ∷ ps) zero d h = omega (arith, count-one_of (model p) (models ps))
choice_within (p ∷ ps) (suc i) d h = count-within (model p) ps i d (omega arith)
