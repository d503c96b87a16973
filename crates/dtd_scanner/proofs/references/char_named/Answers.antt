use Rattle.std.proofs.Common.{◌∙◌, sym}
use Rattle.dtd_scanner.specs.References.{number}
use Rattle.dtd_scanner.proofs.Numerals.{capped_none, capped_scalar, char_is, char_is_none}
use Rattle.dtd_scanner.proofs.references.char_named.Goals as goal

pub returns-in-None : goal.returns-in-None
returns-in-None c = sym (capped_none (number c.args.base c.args.digits.now) c.number.result c.number.ensures c.in-None.ensures.cases)

pub returns-then-is_char : goal.returns-then-is_char
returns-then-is_char c =
    let n = number c.args.base c.args.digits.now in
    char_is n c.in-Some.c (capped_scalar n c.number.result c.in-Some.c c.number.ensures c.in-Some.ensures.cases c.in-Some.ensures.value.1) (sym c.is_char.ensures ∙ c.if-is_char.true)

pub returns-else-is_char : goal.returns-else-is_char
returns-else-is_char c =
    let n = number c.args.base c.args.digits.now in
    char_is_none n c.in-Some.c (capped_scalar n c.number.result c.in-Some.c c.number.ensures c.in-Some.ensures.cases c.in-Some.ensures.value.1) (sym c.is_char.ensures ∙ c.if-is_char.false)
