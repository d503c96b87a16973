use Rattle.std.proofs.Common.{◌<◌, ◌^◌, ℕ, List, length, sym, ap, ◌∙◌, subst}
use Rattle.std.specs.List.{sum_by}
use Rattle.content_models.specs.declared.content.Content.{Content}
use Rattle.position_automata.specs.Automata.{IsFollows}
use Rattle.position_automata.proofs.Following.{total_small, follows_of_model, follows_of_mixed, follows_none}
use Rattle.position_automata.proofs.automaton.Automaton.follows.Goals as goal

pub total_len-requires : goal.total_len-requires
total_len-requires c =
    let s = c.self.inside in
    subst (λ (x : List (List (ℕ × ℕ))). sum_by length x < 2 ^ 64) (sym c.as_slice.ensures)
    (total_small s.content c.in-Children.field-0 s.letters s.names.keys s.rows s.accepting.items c.in-Children.is c.self.invariant)

pub returns-in-Children : goal.returns-in-Children
returns-in-Children c =
    let s = c.self.inside in
    subst (λ (x : Content). IsFollows x c.total_len.result) c.self.view_is
    (follows_of_model s.content c.in-Children.field-0 s.letters s.names.keys s.rows s.accepting.items c.total_len.result c.in-Children.is c.self.invariant
    (c.total_len.ensures ∙ ap (λ (x : List (List (ℕ × ℕ))). sum_by length x) c.as_slice.ensures))

pub returns-in-Mixed : goal.returns-in-Mixed
returns-in-Mixed c =
    let s = c.self.inside in
    subst (λ (x : Content). IsFollows x c.len.result) c.self.view_is
    (follows_of_mixed s.content c.in-Mixed.field-0 s.letters s.names.keys s.rows s.accepting.items c.len.result c.in-Mixed.is c.self.invariant c.len.ensures)

pub returns-in-Empty : goal.returns-in-Empty
returns-in-Empty c = subst (λ (x : Content). IsFollows x 0) c.self.view_is (follows_none c.self.inside.content c.in-Empty.is)

pub returns-in-Empty-2 : goal.returns-in-Empty-2
returns-in-Empty-2 c = subst (λ (x : Content). IsFollows x 0) c.self.view_is (follows_none c.self.inside.content c.in-Empty.is)
