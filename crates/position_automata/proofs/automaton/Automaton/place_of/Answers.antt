use Rattle.std.proofs.Common.{◌≡◌, ◌<◌, ℕ, List, get_or, [], Option, IfSome, length, subst, sym, ap, ◌∙◌, slice_get}
use Rattle.std.specs.Option.{option_map}
use Rattle.content_models.specs.declared.content.Content.{Content}
use Rattle.content_models.specs.Model.{Chars}
use Rattle.position_automata.specs.Automata.{TellsStep, states}
use Rattle.position_automata.specs.Rows.{at_position}
use Rattle.position_automata.specs.Stepping.{named}
use Rattle.position_automata.specs.Tables.{step_names}
use Rattle.position_automata.proofs.Stepping.{told}
use Rattle.position_automata.proofs.Telling.{tells_of_table}
use Rattle.position_automata.proofs.automaton.Automaton.place_of.Goals as goal

pub returns-in-Children : goal.returns-in-Children
returns-in-Children c =
    let s = c.self.inside in
    let o : Option (Chars × ℕ) = named s.letters c.position_place.result in
    let e : o ≡ at_position s.letters (option_map (λ p. p.1) (slice_get (get_or s.rows c.args.state []) c.args.k)) =
    c.position_place.ensures.value ∙ ap (at_position s.letters) (c.row_position.ensures
    ∙ ap (λ (rows : List (List (ℕ × ℕ))). option_map {U = ℕ} (λ p. p.1) (slice_get (get_or rows c.args.state []) c.args.k)) c.as_slice.ensures) in
    let t : TellsStep c.args.self.now c.args.state c.args.k o =
    subst (λ (x : Content). TellsStep x c.args.state c.args.k o) c.self.view_is
    (tells_of_table s.content c.in-Children.field-0 s.letters s.names.keys s.rows s.accepting.items c.args.state c.args.k o
    c.in-Children.is c.self.invariant (subst (λ (x : Content). c.args.state < states x) (sym c.self.view_is) c.requires) e) in
    let names : s.letters ≡ step_names c.args.self.now = c.self.invariant.names_are ∙ ap step_names c.self.view_is in
    let P : List Chars → Type 0 = λ letters. TellsStep c.args.self.now c.args.state c.args.k (named letters c.position_place.result) in
    let tells = subst P names t in
    record { tells = tells; value = told c.args.self.now c.args.state c.args.k (named (step_names c.args.self.now) c.position_place.result) c.requires tells; within = subst (λ (letters : List Chars). IfSome c.position_place.result (λ p. p.0 < length letters)) names c.position_place.ensures.within }
