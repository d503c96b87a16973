-- Each step of the walk over plain values.
use Rattle.std.proofs.Common.{◌≡◌, List, [], ◌∷◌, ◌++◌, ℕ, zero, suc, ◌+◌, ◌<◌, ◌≤◌, length, take, get_or, ◌&&◌, ◌||◌, refl, ap, ◌∙◌, arith}
use Rattle.std.specs.Prelude.{if◌then◌else◌}
use Rattle.std.proofs.lemmas.List.{map-append, take_more}
use Rattle.content_models.specs.declared.content.Occurs.{Occurs}
use Rattle.content_models.specs.declared.content.Occurs.TheVariants.{Once, Opt, Star}
use Rattle.content_models.specs.declared.content.Occurs.TheVariants as sign
use Rattle.content_models.specs.declared.content.Particle.{Particle}
use Rattle.content_models.specs.Model.{Chars, model, occurring, in_order}
use Rattle.content_models.specs.Re.{Re, Eps, Cat}
use Rattle.position_automata.specs.Marked.{count}
use Rattle.position_automata.specs.declared.walk.Ends.{Ends}
use Rattle.position_automata.specs.Places.{nullable, firsts, lasts, models, IsEnds, allows_none}

pub plus-zero : (k : ℕ) → k ≡ k + 0
plus-zero k = omega arith

pub count-occurring : (m : Occurs) (r : Re Chars) → count (occurring m r) ≡ count r
count-occurring Once r = refl
count-occurring Opt r = let e : 0 + count r ≡ count r = omega arith in e
count-occurring Star r = let e : 0 + count r ≡ count r = omega arith in e
count-occurring sign.Plus r = refl

pub ends-occurring : (k : ℕ) (r : Re Chars) (m : Occurs) (e f : Ends) → IsEnds k r e → f.nullable ≡ (allows_none m || e.nullable)
    → f.first.items ≡ e.first.items → f.last.items ≡ e.last.items → IsEnds k (occurring m r) f
ends-occurring k r Once e f I n a b = record { nullable_is = n ∙ I.nullable_is; first_is = a ∙ I.first_is; last_is = b ∙ I.last_is }
ends-occurring k r Opt e f I n a b = record { nullable_is = n; first_is = a ∙ I.first_is ∙ ap (λ i. firsts i r) (plus-zero k); last_is = b ∙ I.last_is ∙ ap (λ i. lasts i r) (plus-zero k) }
ends-occurring k r Star e f I n a b = record { nullable_is = n; first_is = a ∙ I.first_is ∙ ap (λ i. firsts i r) (plus-zero k); last_is = b ∙ I.last_is ∙ ap (λ i. lasts i r) (plus-zero k) }
ends-occurring k r sign.Plus e f I n a b = record { nullable_is = n ∙ I.nullable_is; first_is = a ∙ I.first_is; last_is = b ∙ I.last_is }

pub ends-join : (k : ℕ) (r s : Re Chars) (a b e : Ends) → IsEnds k r a → IsEnds (k + count r) s b
    → e.nullable ≡ (a.nullable && b.nullable)
    → e.first.items ≡ a.first.items ++ (if a.nullable then b.first.items else [])
    → e.last.items ≡ b.last.items ++ (if b.nullable then a.last.items else []) → IsEnds k (Cat r s) e
ends-join k r s a b e A B n f l = record {
  nullable_is = n ∙ ap (λ x. x && b.nullable) A.nullable_is ∙ ap (λ x. nullable r && x) B.nullable_is;
  first_is = f ∙ ap (λ x. x ++ (if a.nullable then b.first.items else [])) A.first_is
      ∙ ap (λ x. firsts k r ++ (if x then b.first.items else [])) A.nullable_is
      ∙ ap (λ x. firsts k r ++ (if nullable r then x else [])) B.first_is;
  last_is = l ∙ ap (λ x. x ++ (if b.nullable then a.last.items else [])) B.last_is
      ∙ ap (λ x. lasts (k + count r) s ++ (if x then a.last.items else [])) B.nullable_is
      ∙ ap (λ x. lasts (k + count r) s ++ (if nullable s then x else [])) A.last_is;
}

pub in_order-push : (acc : Re Chars) (rs : List (Re Chars)) (r : Re Chars) → in_order acc (rs ++ r ∷ []) ≡ Cat (in_order acc rs) r
in_order-push acc [] r = refl
in_order-push acc (s ∷ rs) r = in_order-push (Cat acc s) rs r

pub order_more : (ps : List Particle) (i : ℕ) (d : Particle) → i < length ps
    → in_order Eps (models (take (i + 1) ps)) ≡ Cat (in_order Eps (models (take i ps))) (model (get_or ps i d))
order_more ps i d h =
    ap (λ x. in_order Eps (models x)) (take_more ps i d h)
    ∙ ap (in_order Eps) (map-append model (take i ps) (get_or ps i d ∷ []))
    ∙ in_order-push Eps (models (take i ps)) (model (get_or ps i d))

-- a part ends before the whole does
count-in_order : (acc : Re Chars) (rs : List (Re Chars)) → count acc ≤ count (in_order acc rs)
count-in_order acc [] = omega arith
count-in_order acc (r ∷ rs) = omega (arith, count-in_order (Cat acc r) rs)

count-part : (acc : Re Chars) (ps : List Particle) (i : ℕ) (d : Particle) → i < length ps
    → count (in_order acc (models (take i ps))) + count (model (get_or ps i d)) ≤ count (in_order acc (models ps))
count-part acc [] i d h = absurd (omega arith)
count-part acc (p ∷ ps) zero d h = omega (arith, count-in_order (Cat acc (model p)) (models ps))
count-part acc (p ∷ ps) (suc i) d h = count-part (Cat acc (model p)) ps i d (omega arith)

pub part_within : (ps : List Particle) (i : ℕ) (d : Particle) → i < length ps
    → count (in_order Eps (models (take i ps))) + count (model (get_or ps i d)) ≤ count (in_order Eps (models ps))
part_within ps i d h = count-part Eps ps i d h
