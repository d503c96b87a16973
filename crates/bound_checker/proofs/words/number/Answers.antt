use Rattle.bound_checker.proofs.Spelling.{short_by, short_led}
use Rattle.bound_checker.proofs.words.number.Goals as goal
use Rattle.std.proofs.Common.{sym, ◌∙◌}

pub returns-then-begins_number : goal.returns-then-begins_number
returns-then-begins_number c = short_by c.args.digits.now c.value.result (sym c.begins_number.ensures ∙ c.if-begins_number.true) c.value.ensures.small c.value.ensures.value

pub returns-else-begins_number : goal.returns-else-begins_number
returns-else-begins_number c = short_led c.args.digits.now (sym c.begins_number.ensures ∙ c.if-begins_number.false)
