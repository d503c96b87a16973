use Rattle.std.proofs.Common.{rules, arith, ◌≡◌, ◌<◌, length, map, slice_index, sym, ◌∙◌, ap, subst, inl, inr, true≢false}
use Rattle.std.proofs.lemmas.List.{length-map}
use Rattle.tree_costs.specs.declared.cost.Cost.TheVariants.{Inf}
use Rattle.least_trees.specs.Rules.{at, IsLess}
use Rattle.least_trees.proofs.Boards.{next-some, next-none}
use Rattle.least_trees.proofs.Relax.{at-map}
use Rattle.least_trees.proofs.board.next.Goals as goal

pub returns-then-done-first : goal.returns-then-done-first
returns-then-done-first g c =
    let pos : 0 < length c.args.done.now = search rules in
    next-none c.args.done.now (map g.G.Value.Worth.cost c.args.values.now) c.args.winners.now
    (c.requires.lengths ∙ sym (length-map c.args.values.now g.G.Value.Worth.cost)) c.requires.board pos (inl c.if-done-first.true)

pub returns-then-less : goal.returns-then-less
returns-then-less g c =
    let pos : 0 < length c.args.done.now = search rules in
    next-some c.args.done.now (map g.G.Value.Worth.cost c.args.values.now) c.args.winners.now
    (c.requires.lengths ∙ sym (length-map c.args.values.now g.G.Value.Worth.cost)) c.requires.board pos c.if-done-first.false

pub returns-else-less : goal.returns-else-less
returns-else-less g c =
    let pos : 0 < length c.args.done.now = search rules in
    let first = slice_index c.args.winners.now 1 in
    let lt : first < length c.args.values.now = subst (λ z. first < z) c.requires.lengths (c.requires.board.within 1 (omega arith) (omega arith)) in
    let q : at (map g.G.Value.Worth.cost c.args.values.now) first ≡ g.G.Value.Worth.cost c.index-values-first.result =
    at-map g.G.Value.Worth.cost c.args.values.now first c.index-values-first.result c.index-values-first.is lt in
    next-none c.args.done.now (map g.G.Value.Worth.cost c.args.values.now) c.args.winners.now
    (c.requires.lengths ∙ sym (length-map c.args.values.now g.G.Value.Worth.cost)) c.requires.board pos
    (inr (λ h. true≢false (sym (c.if-less.ensures.1
    (subst (λ z. IsLess z (g.G.Value.Worth.cost c.inf.result)) q
    (subst (λ z. IsLess (at (map g.G.Value.Worth.cost c.args.values.now) first) z) (sym c.inf.ensures) h))))))
