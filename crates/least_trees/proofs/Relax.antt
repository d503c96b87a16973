-- What one relaxation does, over plain values.
use Rattle.std.proofs.Common.{◌≡◌, List, [], ◌∷◌, ℕ, ◌+◌, ◌≤◌, ◌<◌, min, length, map, get_or, set, refl, sym, ap, ◌∙◌, subst, arith}
use Rattle.std.proofs.lemmas.List.{get_or-map, map-set, set-get_or}
use Rattle.tree_costs.specs.declared.cost.Cost.{Cost}
use Rattle.tree_costs.specs.declared.cost.Cost.TheVariants.{Fin, Inf}
use Rattle.tree_costs.specs.Costs.{sum}
use Rattle.least_trees.specs.declared.rules.Rule.{Rule}
use Rattle.least_trees.specs.Rules.{IsLess}
use Rattle.least_trees.specs.Rules.{InRange, lesser, at, sum_of, relaxed}

lesser-lt : (c d : Cost) → IsLess c d → lesser c d ≡ c
lesser-lt (Fin a) (Fin b) h = let e : min a b ≡ a = omega arith in ap Fin e
lesser-lt (Fin a) Inf h = refl
lesser-lt Inf d h = elim h [ ]

lesser-ge : (c d : Cost) → (IsLess c d → ⊥) → lesser c d ≡ d
lesser-ge (Fin a) (Fin b) h = let k : (a < b → ⊥) = h in let e : min a b ≡ b = omega arith in ap Fin e
lesser-ge (Fin a) Inf h = absurd (h tt)
lesser-ge Inf d h = refl

pub at-map : {V : Type 0} (cost : V → Cost) (vs : List V) (i : ℕ) (v : V) → v ≡ get_or vs i v → i < length vs → at (map cost vs) i ≡ cost v
at-map cost vs i v e h = get_or-map cost vs i v Inf h ∙ ap cost (sym e)

module _ {V : Type 0} (cost : V → Cost) (cap : ℕ) (r : Rule) (vs : List V) (range : InRange (length vs) r)
    (x y t s : V) (ex : x ≡ get_or vs r.left x) (ey : y ≡ get_or vs r.right y) (et : t ≡ get_or vs r.target t)
    (es : cost s ≡ sum cap (cost x) (cost y)) where
  now : relaxed cap r (map cost vs) ≡ set (map cost vs) r.target (lesser (cost s) (cost t))
  unfolding relaxed
  now =
      let el = at-map cost vs r.left x ex (omega (arith, range.1, range.2)) in
      let er = at-map cost vs r.right y ey range.2 in
      let ev = at-map cost vs r.target t et range.0 in
      let e : sum_of cap (map cost vs) r ≡ cost s = ap (λ k. sum cap k (at (map cost vs) r.right)) el ∙ ap (λ k. sum cap (cost x) k) er ∙ sym es in
      ap (λ k. set (map cost vs) r.target (lesser k (at (map cost vs) r.target))) e
      ∙ ap (λ k. set (map cost vs) r.target (lesser (cost s) k)) ev

  pub relax-less : IsLess (cost s) (cost t) → map cost (set vs r.target s) ≡ relaxed cap r (map cost vs)
  relax-less h = map-set cost vs r.target s ∙ sym (now ∙ ap (λ k. set (map cost vs) r.target k) (lesser-lt (cost s) (cost t) h))

  pub relax-same : (IsLess (cost s) (cost t) → ⊥) → map cost vs ≡ relaxed cap r (map cost vs)
  relax-same h =
      sym (now ∙ ap (λ k. set (map cost vs) r.target k) (lesser-ge (cost s) (cost t) h)
      ∙ ap (λ k. set (map cost vs) r.target k) (sym (at-map cost vs r.target t et range.0))
      ∙ set-get_or (map cost vs) r.target Inf)
