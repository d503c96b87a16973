use Rattle.std.proofs.Common.{rules, arith, ◌≡◌, ◌+◌, ◌<◌, ◌≤◌, length, map, sym, ap, ◌∙◌, subst, refl, set, suc, true, Some, None}
use Rattle.std.proofs.lemmas.List.{length-map, length-set}
use Rattle.least_trees.specs.Board.{IsWhole, IsNext}
use Rattle.least_trees.specs.Uses.{AreUses, all_visited}
use Rattle.least_trees.specs.Rules.{AllIn, applied, lower_all}
use Rattle.least_trees.specs.Solving.{Kept, pending, open_in}
use Rattle.least_trees.specs.declared.rules.Part.TheVariants.{Left, Right}
use Rattle.least_trees.proofs.Visiting.{lowers_all, visited-once}
use Rattle.least_trees.proofs.Turn.{turn, once, finish}
use Rattle.least_trees.proofs.Loop.{kept-start, pending-le, open_in-less}
use Rattle.least_trees.proofs.solver.settle.Goals as goal

pub loop-x-init : goal.loop-x-init
loop-x-init g c = record {
  lengths = c.requires.lengths;
  kept_length = refl;
  kept = kept-start (g.G.StepGraph.plan c.args.graph.now).numbers.cap c.args.rules.now (map g.G.Value.Worth.cost c.args.values.now) c.args.done.now c.requires.none c.requires.small;
  board = c.requires.board;
  same = refl;
  looks = refl;
  sums = omega (arith, pending-le c.args.done.now c.args.rules.now);
}

pub settle_one-requires-clause-range : goal.settle_one-requires-clause-range
settle_one-requires-clause-range g c = subst (λ n. AllIn n c.args.rules.now) (sym c.loop-x.invariant.kept_length) c.requires.range

pub settle_one-requires-clause-left : goal.settle_one-requires-clause-left
settle_one-requires-clause-left g c = subst (λ n. AreUses n Left c.args.rules.now c.args.left.now) (sym c.loop-x.invariant.kept_length) c.requires.left

pub settle_one-requires-clause-right : goal.settle_one-requires-clause-right
settle_one-requires-clause-right g c = subst (λ n. AreUses n Right c.args.rules.now c.args.right.now) (sym c.loop-x.invariant.kept_length) c.requires.right

pub settle_one-requires-clause-spot : goal.settle_one-requires-clause-spot
settle_one-requires-clause-spot g c =
    let b : IsNext c.loop-x.done (map g.G.Value.Worth.cost c.loop-x.values) (Some c.in-Some.x) = c.in-Some.ensures in b.0

pub settle_one-requires-clause-room : goal.settle_one-requires-clause-room
settle_one-requires-clause-room g c =
    let b : IsNext c.loop-x.done (map g.G.Value.Worth.cost c.loop-x.values) (Some c.in-Some.x) = c.in-Some.ensures in
    let v = visited-once (length c.args.values.now) (set c.loop-x.done c.in-Some.x true) c.in-Some.x c.args.rules.now c.requires.range in
    omega (arith, once c.loop-x.done c.in-Some.x b.0 b.1 c.args.rules.now, v, c.loop-x.invariant.sums, c.requires.room)

pub loop-x-smaller : goal.loop-x-smaller
loop-x-smaller g c =
    let b : IsNext c.loop-x.done (map g.G.Value.Worth.cost c.loop-x.values) (Some c.in-Some.x) = c.in-Some.ensures in
    subst (λ d. suc (open_in d) ≤ open_in c.loop-x.done) (sym c.settle_one.ensures.done) (open_in-less c.loop-x.done c.in-Some.x b.0 b.1)

pub loop-x-preserved : goal.loop-x-preserved
loop-x-preserved g c =
    let b : IsNext c.loop-x.done (map g.G.Value.Worth.cost c.loop-x.values) (Some c.in-Some.x) = c.in-Some.ensures in
    let costs = map g.G.Value.Worth.cost c.loop-x.values in
    let starts = map g.G.Value.Worth.cost c.args.values.now in
    let cap = (g.G.StepGraph.plan c.args.graph.now).numbers.cap in
    let rs = c.args.rules.now in
    let x = c.in-Some.x in
    let done' = set c.loop-x.done x true in
    let range : AllIn (length costs) rs = subst (λ n. AllIn n rs) (sym (length-map c.loop-x.values g.G.Value.Worth.cost ∙ c.loop-x.invariant.kept_length)) c.requires.range in
    let t : Kept cap rs starts done' (lower_all cap done' x (all_visited rs x) costs) =
    turn cap rs starts c.loop-x.done costs (lower_all cap done' x (all_visited rs x) costs) x c.loop-x.invariant.kept b.0 b.1 b.2 (lowers_all cap done' x rs costs range) in
    let v = visited-once (length c.args.values.now) done' x rs c.requires.range in
    let D = c.settle_one.ensures.done in
    let V : map g.G.Value.Worth.cost c.settle_one.new.values ≡ lower_all cap done' x (all_visited rs x) costs =
    c.settle_one.ensures.value ∙ ap (λ p. lower_all p.numbers.cap done' x (all_visited rs x) costs) c.loop-x.invariant.same in
    let o = once c.loop-x.done x b.0 b.1 rs in
    let p : pending c.settle_one.new.done rs ≡ pending done' rs = ap (λ d. pending d rs) D in
    record {
      lengths = ap length D ∙ length-set c.loop-x.done x true ∙ c.loop-x.invariant.lengths ∙ sym c.settle_one.auto.values;
      kept_length = c.settle_one.auto.values ∙ c.loop-x.invariant.kept_length;
      kept = subst (λ d. Kept cap rs starts d (map g.G.Value.Worth.cost c.settle_one.new.values)) (sym D) (subst (λ k. Kept cap rs starts done' k) (sym V) t);
      board = subst (λ d. IsWhole d (map g.G.Value.Worth.cost c.settle_one.new.values) c.settle_one.new.winners) (sym D) c.settle_one.ensures.board;
      same = c.settle_one.ensures.same ∙ c.loop-x.invariant.same;
      looks = c.settle_one.ensures.looks ∙ c.loop-x.invariant.looks;
      sums = omega (arith, o, v, p, c.settle_one.ensures.sums, c.loop-x.invariant.sums);
    }

pub returns-clause-lowest : goal.returns-clause-lowest
returns-clause-lowest g c =
    finish (g.G.StepGraph.plan c.args.graph.now).numbers.cap c.args.rules.now (map g.G.Value.Worth.cost c.args.values.now) c.loop-x.done
    (map g.G.Value.Worth.cost c.loop-x.values) c.loop-x.invariant.kept c.in_default.ensures
