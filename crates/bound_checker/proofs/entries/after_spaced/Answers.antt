use Rattle.std.proofs.Common.{sym, ap, ◌∙◌, [], ◌∷◌}
use Rattle.std.specs.Option.{option_copied}
use Rattle.bound_checker.proofs.Cutting.{no_both, some_both}
use Rattle.bound_checker.proofs.entries.after_spaced.Goals as goal

pub returns-in-None : goal.returns-in-None
returns-in-None c = no_both c.args.word.now (0x20 ∷ []) c.args.line.now (sym c.after_name.ensures ∙ ap option_copied c.in-None.is)

pub returns-in-Some : goal.returns-in-Some
returns-in-Some c =
    some_both c.args.word.now (0x20 ∷ []) c.args.line.now c.in-Some.rest.now (option_copied c.after.result)
    (sym c.after_name.ensures ∙ ap option_copied c.in-Some.is) c.after.ensures
