use Rattle.std.proofs.Common.{◌≡◌, refl, sym, subst}
use Rattle.std.specs.Prelude.{Option}
use Rattle.bound_checker.specs.declared.check.Broken.{Broken}
use Rattle.bound_checker.proofs.Tests.{none_is_broken}
use Rattle.tagset_tool.specs.commands.Verify as spec
use Rattle.tagset_tool.proofs.commands.verify.checked.Goals as goal

pub returns-in_ok-bytes-in-Ok-clause-answer : goal.returns-in_ok-bytes-in-Ok-clause-answer
returns-in_ok-bytes-in-Ok-clause-answer c =
    let none = (none_is_broken c.args.first.now c.args.second.now c.args.tables.now c.count.ensures.kept c.count-2.ensures.kept).1 (rw c.in-Ok.is at c.check_tables.ensures) in
    subst (λ (o : Option Broken). spec.checked c.args.first.now c.args.tables.now o 0 c.in_ok-bytes-in-Ok.bytes.items) (sym none) (refl, rw c.bound_of.ensures at c.in_ok-bytes-in-Ok.ensures)
