use Rattle.std.proofs.Common.{◌<◌, ℕ, List, get_or, [], subst, sym}
use Rattle.content_models.specs.declared.content.Content.{Content}
use Rattle.position_automata.specs.Automata.{IsStep, IsDeterministic, states}
use Rattle.position_automata.proofs.Running.{Finds, step_of_table}
use Rattle.position_automata.proofs.Stepping.{answered}
use Rattle.position_automata.proofs.automaton.Automaton.step.Goals as goal

pub returns-in-Children : goal.returns-in-Children
returns-in-Children c =
    let s = c.self.inside in
    let d : IsDeterministic c.args.self.now = subst (λ (x : Content). IsDeterministic x) c.self.view_is c.self.invariant.deterministic in
    let f : IsStep c.args.self.now c.args.state c.args.name.now c.row_step.result =
    subst (λ (x : Content). IsStep x c.args.state c.args.name.now c.row_step.result) c.self.view_is
    (step_of_table s.content c.in-Children.field-0 s.letters s.names.keys s.rows s.accepting.items c.args.state c.args.name.now c.row_step.result
    c.in-Children.is c.self.invariant (subst (λ (x : Content). c.args.state < states x) (sym c.self.view_is) c.requires)
    (subst (λ (n : ℕ). Finds (get_or s.rows c.args.state []) n c.row_step.result) c.number_of.ensures
    (subst (λ (rows : List (List (ℕ × ℕ))). Finds (get_or rows c.args.state []) c.number_of.result c.row_step.result) c.as_slice.ensures c.row_step.ensures))) in
    record { follows = f; value = answered c.args.self.now c.args.state c.args.name.now c.row_step.result d f }
