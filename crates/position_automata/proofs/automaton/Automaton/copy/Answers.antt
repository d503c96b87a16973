use Rattle.std.proofs.Common.{◌∙◌}
use Rattle.position_automata.proofs.Tabled.{same_table}
use Rattle.position_automata.proofs.automaton.Automaton.copy.Goals as goal

pub invariant_of-result : goal.invariant_of-result
invariant_of-result c =
    let old = c.self.inside in
    same_table old.content old.letters old.names.keys old.rows old.accepting.items
    c.in_ok-copy.field-0 c.in_ok-copy-2.field-0 c.in_ok-copy_distinct.field-0.keys c.in_ok-copy_rows.field-0 c.in_ok-copy_flags.field-0.items
    c.in_ok-copy.ensures c.in_ok-copy-2.ensures c.in_ok-copy_distinct.ensures (c.in_ok-copy_rows.ensures ∙ c.as_slice.ensures)
    (c.in_ok-copy_flags.ensures ∙ c.as_slice-2.ensures.value) c.self.invariant
