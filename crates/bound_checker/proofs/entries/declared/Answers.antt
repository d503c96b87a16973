use Rattle.std.proofs.Common.{sym, ap, ◌∙◌}
use Rattle.std.specs.Option.{option_copied}
use Rattle.decl_set.specs.Declarations.{content_in}
use Rattle.bound_checker.proofs.Naming.{found_here, passed_here}
use Rattle.bound_checker.proofs.entries.declared.Goals as goal

pub returns-then-is_name : goal.returns-then-is_name
returns-then-is_name c =
    found_here c.args.first.now.elements c.args.word.now c.in-Some.name.now c.loop-at.at (content_in c.args.first.now c.args.word.now)
    (sym (ap option_copied c.in-Some.is) ∙ c.name_at.ensures) (sym c.is_name.ensures ∙ c.if-is_name.true) c.loop-at.invariant

pub loop-at-preserved : goal.loop-at-preserved
loop-at-preserved c =
    passed_here c.args.first.now.elements c.args.word.now c.in-Some.name.now c.loop-at.at (content_in c.args.first.now c.args.word.now)
    (sym (ap option_copied c.in-Some.is) ∙ c.name_at.ensures) (sym c.is_name.ensures ∙ c.if-is_name.false) c.loop-at.invariant
