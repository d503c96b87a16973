use Rattle.std.proofs.Common.{sym, ap, ◌∙◌, []}
use Rattle.std.specs.Prelude.{codes}
use Rattle.std.specs.Option.{option_copied}
use Rattle.bound_checker.specs.Certificates.{after, spaced}
use Rattle.bound_checker.proofs.Cutting.{no_both, some_both}
use Rattle.bound_checker.proofs.entries.after_element.Goals as goal

pub returns-in-None : goal.returns-in-None
returns-in-None c = no_both (codes "element ") (spaced c.args.name.now []) c.args.line.now (sym c.after.ensures ∙ ap option_copied c.in-None.is)

pub returns-in-Some : goal.returns-in-Some
returns-in-Some c =
    some_both (codes "element ") (spaced c.args.name.now []) c.args.line.now c.in-Some.rest.now (option_copied c.after_spaced.result)
    (sym c.after.ensures ∙ ap option_copied c.in-Some.is)
    (c.after_spaced.ensures ∙ ap (λ w. after (spaced w []) c.in-Some.rest.now) (c.as_slice.ensures ∙ c.text.ensures.value))
