use Rattle.comparison_tables.proofs.Within.{fine_sides, stays_within}
use Rattle.comparison_tables.proofs.graph.ComparisonGraph.new.Goals as goal

pub invariant_of-result : goal.invariant_of-result
invariant_of-result c =
    let fine = fine_sides c.args.first.now c.args.second.now c.args.sides.now c.requires.sides in
    record {
      small = c.requires.small;
      fine = fine;
      entered = c.in_ok-entries.ensures;
      planned = stays_within c.args.first.now c.args.second.now c.args.sides.now c.args.cap c.requires.small fine;
    }
