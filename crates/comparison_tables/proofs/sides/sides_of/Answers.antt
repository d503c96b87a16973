use Rattle.std.proofs.Common.{◌++◌, ◌-◌, List, [], ◌∷◌, length, slice_get, arith, sym, ap, ◌∙◌, subst}
use Rattle.std.proofs.lemmas.Option.{slice_get_within}
use Rattle.comparison_tables.specs.declared.sides.Side.{Side}
use Rattle.comparison_tables.specs.Finding.{AreFound}
use Rattle.comparison_tables.proofs.Finding.{one_longer, one_more, fault_is, all_found}
use Rattle.comparison_tables.proofs.sides.sides_of.Goals as goal

pub returns-in-Err : goal.returns-in-Err
returns-in-Err c =
    fault_is c.args.first.now c.args.second.now c.loop-name.left c.loop-name.sides c.in-Some.name.now c.in-Some.automaton.now c.in-Err.fault
    c.loop-name.invariant.found (c.in-Some.ensures ∙ ap (slice_get c.args.first.now.elements) c.len.ensures) c.in-Err.ensures

pub loop-name-smaller : goal.loop-name-smaller
loop-name-smaller c =
    let h = c.in-Some.ensures ∙ ap (slice_get c.args.first.now.elements) c.len.ensures in
    let within = slice_get_within c.args.first.now.elements (length c.loop-name.sides) (c.in-Some.name.now, c.in-Some.automaton.now) (sym h) in
    let longer = ap length c.in_ok-push-in-Ok.ensures.ok ∙ one_longer c.loop-name.sides c.in-Ok.side in
    omega (arith, within, longer)

pub loop-name-preserved : goal.loop-name-preserved
loop-name-preserved c =
    let h = c.in-Some.ensures ∙ ap (slice_get c.args.first.now.elements) c.len.ensures in
    let more = one_more c.args.first.now c.args.second.now c.loop-name.left c.loop-name.sides (c.in-Some.name.now, c.in-Some.automaton.now) c.in-Ok.side
    c.loop-name.invariant.found h c.in-Ok.ensures.0 c.in-Ok.ensures.1 in
    record {
      found = subst (λ (z : List Side). AreFound c.args.first.now c.args.second.now z (c.loop-name.left - c.len-in-Ok.result)) (sym c.in_ok-push-in-Ok.ensures.ok)
          (subst (λ n. AreFound c.args.first.now c.args.second.now (c.loop-name.sides ++ c.in-Ok.side ∷ []) (c.loop-name.left - n)) (sym c.len-in-Ok.ensures) more);
    }

pub returns : goal.returns
returns c =
    all_found c.args.first.now c.args.second.now c.loop-name.left c.loop-name.sides c.loop-name.invariant.found
    (c.in_default.ensures ∙ ap (slice_get c.args.first.now.elements) c.len.ensures)
