use Rattle.std.proofs.Common.{◌≡◌, ◌<◌, ℕ, List, get_or, [], Option, subst, sym, ap, ◌∙◌, slice_get}
use Rattle.std.specs.Option.{option_map}
use Rattle.content_models.specs.declared.content.Content.{Content}
use Rattle.content_models.specs.Model.{Chars}
use Rattle.position_automata.specs.Automata.{TellsStep, states}
use Rattle.position_automata.specs.Rows.{at_position}
use Rattle.position_automata.proofs.Stepping.{told}
use Rattle.position_automata.proofs.Telling.{tells_of_table}
use Rattle.position_automata.proofs.automaton.Automaton.step_of.Goals as goal

pub returns-in-Children : goal.returns-in-Children
returns-in-Children c =
    let s = c.self.inside in
    let o : Option (Chars × ℕ) = option_map {U = Chars × ℕ} (λ p. (p.0.now, p.1)) c.position_step.result in
    let e : o ≡ at_position s.letters (option_map (λ p. p.1) (slice_get (get_or s.rows c.args.state []) c.args.k)) =
    c.position_step.ensures ∙ ap (at_position s.letters) (c.row_position.ensures
    ∙ ap (λ (rows : List (List (ℕ × ℕ))). option_map {U = ℕ} (λ p. p.1) (slice_get (get_or rows c.args.state []) c.args.k)) c.as_slice.ensures) in
    let t : TellsStep c.args.self.now c.args.state c.args.k o =
    subst (λ (x : Content). TellsStep x c.args.state c.args.k o) c.self.view_is
    (tells_of_table s.content c.in-Children.field-0 s.letters s.names.keys s.rows s.accepting.items c.args.state c.args.k o
    c.in-Children.is c.self.invariant (subst (λ (x : Content). c.args.state < states x) (sym c.self.view_is) c.requires) e) in
    record { tells = t; value = told c.args.self.now c.args.state c.args.k o c.requires t }
