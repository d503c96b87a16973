use Rattle.std.proofs.Common.{arith, ◌<◌, ◌∙◌, length, Some, None}
use Rattle.std.proofs.lemmas.Option.{slice_get_within}
use Rattle.tagset_report.specs.Useful.{children_at}
use Rattle.tagset_report.proofs.Stepped.{child_got, few_children, marked_more, all_marked, step_bound}
use Rattle.tagset_report.proofs.useful.mark_steps.Goals as goal

pub mark_step-requires : goal.mark_step-requires
mark_step-requires c =
    let s = child_got c.args.set.now c.args.e c.args.state c.loop-step.k (Some c.in-Some.step) c.in-Some.ensures.value in
    step_bound c.args.rows.now c.args.e (children_at c.args.set.now c.args.e c.args.state) c.loop-step.k c.in-Some.step (length c.loop-step.seen.items) (length c.args.seen.now.items)
    s c.loop-step.invariant.length_same c.requires

pub overflow_add-k : goal.overflow_add-k
overflow_add-k c = omega (arith, c.loop-step.invariant.within, few_children c.args.set.now c.child_at.ensures.kept c.args.e c.args.state)

pub loop-step-smaller : goal.loop-step-smaller
loop-step-smaller c =
    let s = child_got c.args.set.now c.args.e c.args.state c.loop-step.k (Some c.in-Some.step) c.in-Some.ensures.value in
    let w : c.loop-step.k < length (children_at c.args.set.now c.args.e c.args.state) = slice_get_within (children_at c.args.set.now c.args.e c.args.state) c.loop-step.k c.in-Some.step s in
    omega (arith, w)

pub loop-step-preserved : goal.loop-step-preserved
loop-step-preserved c =
    let s = child_got c.args.set.now c.args.e c.args.state c.loop-step.k (Some c.in-Some.step) c.in-Some.ensures.value in
    let w : c.loop-step.k < length (children_at c.args.set.now c.args.e c.args.state) = slice_get_within (children_at c.args.set.now c.args.e c.args.state) c.loop-step.k c.in-Some.step s in
    record {
      within = omega (arith, w);
      length_same = c.in_ok-mark_step.ensures.length_same ∙ c.loop-step.invariant.length_same;
      value = marked_more c.args.rows.now c.args.e (children_at c.args.set.now c.args.e c.args.state) c.loop-step.k c.in-Some.step _ _ _ s c.loop-step.invariant.value c.in_ok-mark_step.ensures.visits;
    }

pub returns : goal.returns
returns c =
    let s = child_got c.args.set.now c.args.e c.args.state c.loop-step.k None c.in_default.ensures.value in
    all_marked c.args.rows.now c.args.e (children_at c.args.set.now c.args.e c.args.state) c.loop-step.k _ _ s c.loop-step.invariant.value
