use Rattle.std.specs.Prelude.{option_map, ℕ}
use Rattle.std.proofs.Common.{arith, ap, sym, ◌∙◌, [], ◌∷◌}
use Rattle.content_models.specs.Model.{Chars}
use Rattle.decl_set.specs.Steps.{steps_in}
use Rattle.position_automata.specs.Stepping.{step_on}
use Rattle.bound_checker.specs.Holding.{costs_in}
use Rattle.bound_checker.specs.Tests.{on_both}
use Rattle.bound_checker.proofs.Firsts.{each_stop, each_hit, each_miss, each_end}
use Rattle.bound_checker.proofs.Stepping.{few}
use Rattle.bound_checker.proofs.check.on_pair_steps.Goals as goal

pub returns-in-None : goal.returns-in-None
returns-in-None c =
    each_stop (λ k s. on_both c.args.held.now.first.now c.args.held.now.second.now c.args.held.now.tables.now.cap (costs_in c.args.held.now) c.args.held.now.place c.args.held.now.name.now c.args.pair.now.i c.args.pair.now.j k s (step_on c.args.other.now c.args.pair.now.j s.0) ∷ [])
    (steps_in c.args.held.now.first.now c.args.held.now.automaton.now c.args.pair.now.i) c.loop-step.step
    (option_map {U = Chars × ℕ} (λ s. (s.0.now, s.2)) c.step.result) c.step.ensures.step
    (ap (option_map {U = Chars × ℕ} (λ s. (s.0.now, s.2))) c.in-None.is) c.loop-step.invariant

pub returns-in-Some-at_pair_step : goal.returns-in-Some-at_pair_step
returns-in-Some-at_pair_step c =
    each_hit (λ k s. on_both c.args.held.now.first.now c.args.held.now.second.now c.args.held.now.tables.now.cap (costs_in c.args.held.now) c.args.held.now.place c.args.held.now.name.now c.args.pair.now.i c.args.pair.now.j k s (step_on c.args.other.now c.args.pair.now.j s.0) ∷ [])
    (steps_in c.args.held.now.first.now c.args.held.now.automaton.now c.args.pair.now.i) c.loop-step.step
    (c.in-Some.on.now, c.in-Some.to) c.at_pair_step.result c.in-Some-at_pair_step.broken
    (sym (ap (option_map {U = Chars × ℕ} (λ s. (s.0.now, s.2))) c.in-Some.is) ∙ c.step.ensures.step)
    c.at_pair_step.ensures c.in-Some-at_pair_step.is c.loop-step.invariant

pub loop-step-preserved : goal.loop-step-preserved
loop-step-preserved c =
    each_miss (λ k s. on_both c.args.held.now.first.now c.args.held.now.second.now c.args.held.now.tables.now.cap (costs_in c.args.held.now) c.args.held.now.place c.args.held.now.name.now c.args.pair.now.i c.args.pair.now.j k s (step_on c.args.other.now c.args.pair.now.j s.0) ∷ [])
    (steps_in c.args.held.now.first.now c.args.held.now.automaton.now c.args.pair.now.i) c.loop-step.step
    (c.in-Some.on.now, c.in-Some.to) c.at_pair_step.result
    (sym (ap (option_map {U = Chars × ℕ} (λ s. (s.0.now, s.2))) c.in-Some.is) ∙ c.step.ensures.step)
    c.at_pair_step.ensures c.in-None-at_pair_step.is c.loop-step.invariant

pub returns : goal.returns
returns c =
    let small = few c.args.held.now.first.now c.args.held.now.name.now c.args.held.now.automaton.now c.args.pair.now.i c.requires.held.first c.requires.held.declared in
    each_end (λ k s. on_both c.args.held.now.first.now c.args.held.now.second.now c.args.held.now.tables.now.cap (costs_in c.args.held.now) c.args.held.now.place c.args.held.now.name.now c.args.pair.now.i c.args.pair.now.j k s (step_on c.args.other.now c.args.pair.now.j s.0) ∷ [])
    (steps_in c.args.held.now.first.now c.args.held.now.automaton.now c.args.pair.now.i) c.loop-step.step (omega (arith, small, c.loop-step-test.false)) c.loop-step.invariant
