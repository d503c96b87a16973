use Rattle.std.proofs.Common.{arith, ◌≡◌, List, length, subst}
use Rattle.model_inclusion.specs.Reaching.{Reaches}
use Rattle.tree_costs.specs.Leasts.{place_of}
use Rattle.tree_costs.specs.declared.least.LeastRow.{LeastRow}
use Rattle.tagset_report.specs.Useful.{count_numbers, next_numbers}
use Rattle.tagset_report.proofs.Search.{flags_tell}
use Rattle.tagset_report.proofs.useful.useful_flags.Goals as goal

pub returns : goal.returns
returns c =
    let set = c.args.set.now in
    let seen = c.in_ok-seen.seen.items in
    let end : c.loop-e.e ≡ length set.elements = omega (arith, c.loop-e-test.false, c.loop-e.auto.e-end, c.count-e-end.ensures.value) in
    let R : Reaches (next_numbers set c.args.least.now.rows (place_of set c.args.root.now)) (count_numbers set) seen =
    subst (λ (rows : List LeastRow). Reaches (next_numbers set rows (place_of set c.args.root.now)) (count_numbers set) seen) c.as_slice.ensures c.in_ok-seen.ensures in
    flags_tell set c.args.least.now c.count-e-end.ensures.kept c.requires c.args.root.now seen c.loop-e.flags.items c.loop-e.e R c.loop-e.invariant.length_same end c.loop-e.invariant.same
