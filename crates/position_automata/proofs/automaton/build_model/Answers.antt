use Rattle.std.proofs.Common.{◌≡◌, ◌<◌, ◌+◌, ◌==◌, ◌&&◌, ◌||◌, ℕ, false, get_or, nat_eq, ◌++◌, List, length, sym, ap, ◌∙◌, subst, arith}
use Rattle.std.specs.List.{list_any}
use Rattle.content_models.specs.Model.{Chars, model}
use Rattle.content_models.specs.Proper.{IsProper}
use Rattle.position_automata.specs.Marked.{count}
use Rattle.position_automata.specs.Owed.{SamePairs}
use Rattle.position_automata.specs.Places.{letters, nullable, lasts, pairs}
use Rattle.position_automata.specs.Tables.{AreKeys}
use Rattle.position_automata.proofs.Meaning.{length-letters}
use Rattle.position_automata.proofs.Tabled.{model_table}
use Rattle.position_automata.proofs.automaton.build_model.Goals as goal

pub invariant_of-result : goal.invariant_of-result
invariant_of-result c =
    let part = c.args.part.now in
    let r = model part in
    let names = c.spell.new.out in
    let n : names ≡ letters r = c.in_ok-spell.ensures ∙ ap (λ x. x ++ letters r) c.new-letters.ensures in
    let E = c.in_ok-ends.ensures.0 in
    let f : (i : ℕ) → i < 1 + count r → get_or c.in_ok-accepting.accepting.items i false ≡ (((i == 0) && nullable r) || list_any (nat_eq i) (lasts 1 r)) =
    λ i h. c.in_ok-accepting.ensures i (omega (arith, c.len.ensures, ap length n, length-letters r))
    ∙ ap (λ b. ((i == 0) && b) || list_any (nat_eq i) c.as_slice.result.now) E.nullable_is
    ∙ ap (λ x. ((i == 0) && nullable r) || list_any (nat_eq i) x) (c.as_slice.ensures.value ∙ E.last_is) in
    model_table c.in_ok-copy-in-Ok.field-0 part names c.in_ok-names.names.keys c.in-Ok.rows c.in_ok-accepting.accepting.items
    (c.in_ok-copy-in-Ok.ensures ∙ c.requires.is) (subst IsProper (sym c.in_ok-copy-in-Ok.ensures) c.requires.proper) c.requires.small n
    (subst (λ (x : List Chars). AreKeys x c.in_ok-names.names.keys) c.as_slice-2.ensures c.in_ok-names.ensures)
    c.in-Ok.ensures f

pub model_rows-requires-clause-found : goal.model_rows-requires-clause-found
model_rows-requires-clause-found c =
    subst (λ (k : List (ℕ × ℕ)). SamePairs k (pairs (model c.args.part.now))) (sym c.as_slice-4.ensures.value) c.in_ok-ends.ensures.1
