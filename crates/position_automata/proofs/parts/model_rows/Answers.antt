use Rattle.std.proofs.Common.{◌≡◌, ◌<◌, ◌+◌, ℕ, List, [], length, get_or, ap, ◌∙◌, subst, arith}
use Rattle.content_models.specs.Model.{Chars, model}
use Rattle.position_automata.specs.Marked.{count}
use Rattle.position_automata.specs.Outcomes.{RowsOf}
use Rattle.position_automata.specs.Places.{letters}
use Rattle.position_automata.specs.Rows.{targets, numbers_of}
use Rattle.position_automata.specs.Tables.{AreKeys}
use Rattle.position_automata.proofs.Building.{model_rows_of}
use Rattle.position_automata.proofs.Meaning.{length-letters}
use Rattle.position_automata.proofs.parts.model_rows.Goals as goal

pub returns : goal.returns
returns c =
    let part = c.args.part.now in
    let r = model part in
    let keys = c.args.names.now.keys in
    let e : c.as_slice-2.result.now ≡ numbers_of keys (letters r) =
    c.as_slice-2.ensures.value ∙ c.in_ok-numbers.ensures ∙ ap (numbers_of keys) c.requires.letters in
    let n : length c.in_ok-found.found.items ≡ 1 + count r =
    omega (arith, c.in_ok-found.ensures.len, ap length c.requires.letters, length-letters r) in
    let at : (i : ℕ) → i < 1 + count r → get_or c.in_ok-found.found.items i [] ≡ targets i c.args.found.now =
    λ i h. c.in_ok-found.ensures.rows i (omega (arith, c.in_ok-found.ensures.len)) in
    model_rows_of part keys c.args.found.now c.as_slice.result.now c.rows.result
    (subst (λ (ns : List Chars). AreKeys ns keys) c.requires.letters c.requires.names) c.requires.found
    (ap length c.as_slice.ensures.value ∙ n)
    (λ i h. ap (λ x. get_or x i []) c.as_slice.ensures.value ∙ at i h)
    (subst (λ (ns : List ℕ). RowsOf ns c.as_slice.result.now c.rows.result) e c.rows.ensures)
