use Rattle.std.proofs.Common.{arith, ◌≡◌, ◌+◌, ◌<◌, length, map, sym, ap, ◌∙◌}
use Rattle.least_trees.specs.declared.rules.Part.TheVariants.{Left, Right}
use Rattle.least_trees.specs.Rules.{lower_all}
use Rattle.least_trees.specs.Uses.{visited}
use Rattle.least_trees.proofs.Visiting.{lower_all-append, applied-append}
use Rattle.least_trees.proofs.lowering.lower.Goals as goal

pub lower_along-requires-clause-room : goal.lower_along-requires-clause-room
lower_along-requires-clause-room g c =
    let rs = c.args.rules.now in
    let e = applied-append c.args.done.now c.args.x (visited Left rs c.args.x (length rs)) (visited Right rs c.args.x (length rs)) in
    omega (arith, e, c.requires.room)

pub lower_along-requires-2-clause-room : goal.lower_along-requires-2-clause-room
lower_along-requires-2-clause-room g c =
    let rs = c.args.rules.now in
    let e = applied-append c.args.done.now c.args.x (visited Left rs c.args.x (length rs)) (visited Right rs c.args.x (length rs)) in
    omega (arith, e, c.requires.room, c.lower_along.ensures.sums)

pub returns-clause-value : goal.returns-clause-value
returns-clause-value g c =
    let rs = c.args.rules.now in
    let left = visited Left rs c.args.x (length rs) in
    let right = visited Right rs c.args.x (length rs) in
    let cap = (g.G.StepGraph.plan c.args.graph.now).numbers.cap in
    c.lower_along-2.ensures.value
    ∙ ap (λ p. lower_all p.numbers.cap c.args.done.now c.args.x right (map g.G.Value.Worth.cost c.lower_along.new.values)) c.lower_along.ensures.same
    ∙ ap (lower_all cap c.args.done.now c.args.x right) c.lower_along.ensures.value
    ∙ sym (lower_all-append cap c.args.done.now c.args.x left right (map g.G.Value.Worth.cost c.args.values.now))

pub returns-clause-sums : goal.returns-clause-sums
returns-clause-sums g c =
    let rs = c.args.rules.now in
    let e = applied-append c.args.done.now c.args.x (visited Left rs c.args.x (length rs)) (visited Right rs c.args.x (length rs)) in
    omega (arith, e, c.lower_along.ensures.sums, c.lower_along-2.ensures.sums)
