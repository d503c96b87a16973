use Rattle.std.proofs.Common.{◌≡◌, ◌∷◌, ◌++◌, [], List, sym, ap, ◌∙◌, subst}
use Rattle.content_models.specs.declared.content.Content.{Content}
use Rattle.content_models.specs.Model.{Chars}
use Rattle.position_automata.specs.Tables.{IsTable, AreKeys}
use Rattle.position_automata.proofs.Tabled.{simple_table}
use Rattle.position_automata.proofs.automaton.build_simple.Goals as goal

pub invariant_of-result : goal.invariant_of-result
invariant_of-result c =
    let e : c.in_ok-copy.field-0 ≡ c.args.content.now = c.in_ok-copy.ensures in
    subst (λ (x : Content). IsTable x c.args.letters c.in_ok-names.names.keys c.push.new.self c.in_ok-accepting.accepting.items) (sym e)
    (simple_table c.args.content.now c.args.letters c.in_ok-names.names.keys c.push.new.self c.in_ok-accepting.accepting.items
    c.requires.proper c.requires.simple c.requires.letters
    (subst (λ (x : List Chars). AreKeys x c.in_ok-names.names.keys) c.as_slice.ensures c.in_ok-names.ensures)
    (c.in_ok-push.ensures.ok ∙ ap (λ x. x ++ c.new.result ∷ []) c.new-rows.ensures ∙ ap (λ x. x ∷ []) c.new.ensures)
    c.in_ok-accepting.ensures.flags)
