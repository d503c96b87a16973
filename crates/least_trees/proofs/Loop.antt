-- The loop of the solver, over plain values.
use Rattle.std.proofs.Common.{◌≡◌, List, [], ◌∷◌, ℕ, zero, suc, ◌+◌, ◌≤◌, ◌<◌, ◌^◌, length, get_or, set, map, refl, sym, ap, ◌∙◌, subst, arith, Bool, true, false, ◌⊎◌, inl, inr, true≢false, Option, Some, None, All, if◌then◌else◌}
use Rattle.std.proofs.lemmas.List.{get_or_past, length-set, length-map}
use Rattle.std.proofs.lemmas.List.Elements.{All-head, All-tail}
use Rattle.std.proofs.lemmas.Bool.{cases_lt}
use Rattle.tree_costs.specs.declared.cost.Cost.{Cost}
use Rattle.tree_costs.specs.declared.cost.Cost.TheVariants.{Fin, Inf}
use Rattle.tree_costs.specs.Costs.{sum, AtMost, IsSmall}
use Rattle.tree_costs.proofs.Costs.{at_most-refl, at_most-inf, at_most-trans}
use Rattle.least_trees.specs.declared.rules.Rule.{Rule}
use Rattle.least_trees.specs.Rules.{InRange, AllIn, at, is_done, lower_all, applied}
use Rattle.least_trees.specs.Solving.{AllSmall, NoneDone, open_in, Kept, IsLowest, start, both, pending}
use Rattle.least_trees.proofs.Turn.{turn, once, finish}

small-at : (cap : ℕ) (cs : List Cost) → AllSmall cap cs → (y : ℕ) → IsSmall cap (at cs y)
small-at cap [] h y = inl refl
small-at cap (c ∷ cs) h zero = h.0
small-at cap (c ∷ cs) h (suc y) = small-at cap cs h.1 y

pub kept-start : (cap : ℕ) (rules : List Rule) (starts : List Cost) (done : List Bool) → NoneDone done → AllSmall cap starts → Kept cap rules starts done starts
kept-start cap rules starts done none small = record {
  length_same = refl;
  attained = λ y. (start y, refl, tt, refl);
  small = small-at cap starts small;
  below_start = λ y. at_most-refl (at starts y);
  ordered = λ y z d o. absurd (true≢false (sym d ∙ none y));
  sums = λ r m d e. absurd (true≢false (sym d ∙ none r.left));
}

pending-one : (b : Bool) → (if b then 0 else 1) ≤ 1
pending-one true = omega arith
pending-one false = omega arith

pub pending-le : (done : List Bool) (rules : List Rule) → pending done rules ≤ length rules
pending-le done [] = omega arith
pending-le done (r ∷ rs) = omega (arith, pending-one (both done r), pending-le done rs)

pub open_in-less : (done : List Bool) (x : ℕ) → x < length done → is_done done x ≡ false → suc (open_in (set done x true)) ≤ open_in done
open_in-less [] x h o = absurd (omega arith)
open_in-less (true ∷ bs) zero h o = absurd (true≢false o)
open_in-less (false ∷ bs) zero h o = omega arith
open_in-less (b ∷ bs) (suc x) h o = omega (arith, open_in-less bs x (omega arith) o)
