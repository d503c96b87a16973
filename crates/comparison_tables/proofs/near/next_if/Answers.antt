use Rattle.std.proofs.Common.{ℕ, Some, ap, sym, ◌∙◌}
use Rattle.std.specs.Prelude.{option_map}
use Rattle.content_models.specs.Model.{Chars}
use Rattle.attribute_types.proofs.TextTests.{bytes_same}
use Rattle.bound_checker.proofs.ByPlace.{stepped}
use Rattle.comparison_tables.proofs.near.next_if.Goals as goal

pub returns-then-eq : goal.returns-then-eq
returns-then-eq c =
    stepped c.args.automaton.now c.args.state c.args.k c.in-Some.next c.args.name.now c.states.ensures.deterministic
    (sym c.step_of.ensures.value ∙ ap (option_map {U = Chars × ℕ} (λ s. (s.0.now, s.1))) c.in-Some.is
    ∙ ap (λ name. Some (name, c.in-Some.next)) (bytes_same c.in-Some.on.now c.args.name.now (sym c.eq.ensures ∙ c.if-eq.true)))
