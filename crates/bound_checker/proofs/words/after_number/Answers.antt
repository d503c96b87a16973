use Rattle.std.proofs.Common.{sym, ◌∙◌, arith, true≢false}
use Rattle.bound_checker.proofs.Spelling.{unspaced, other_number, own_number}
use Rattle.bound_checker.proofs.words.after_number.Goals as goal

pub returns-in-None : goal.returns-in-None
returns-in-None c = let fits = c.ranges.expected.fits in unspaced c.args.expected c.args.words.now (omega (arith, fits)) (sym c.in-None.is ∙ c.space_in.ensures.value)

pub returns-then-is_number : goal.returns-then-is_number
returns-then-is_number c = own_number c.args.expected c.in-Some.at c.args.words.now (sym c.in-Some.is ∙ c.space_in.ensures.value) (c.is_number.ensures.0 c.if-is_number.true)

pub returns-else-is_number : goal.returns-else-is_number
returns-else-is_number c =
    let fits = c.ranges.expected.fits in
    other_number c.args.expected c.in-Some.at c.args.words.now (omega (arith, fits)) (sym c.in-Some.is ∙ c.space_in.ensures.value)
    (λ e. true≢false (sym (c.is_number.ensures.1 e) ∙ c.if-is_number.false))
