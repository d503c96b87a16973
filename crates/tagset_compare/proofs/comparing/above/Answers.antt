use Rattle.std.proofs.Common.{sym, subst}
use Rattle.decl_set.specs.Breaks.{IsFirstBroken}
use Rattle.decl_set.specs.declared.breaks.BrokenDecl.{BrokenDecl}
use Rattle.tagset_compare.proofs.Arms.{over_listed, first_is_broken}
use Rattle.tagset_compare.proofs.comparing.above.Goals as goal

pub unreachable-requires : goal.unreachable-requires
unreachable-requires c =
    over_listed c.args.first.now c.args.second.now c.args.tables.root c.args.tables.cap c.args.tables c.requires.exact c.count.ensures.kept c.count-2.ensures.kept
    c.in-Ok.report.differs c.in-Ok.ensures.differs c.requires.over (sym c.in-None.ensures.value)

pub returns : goal.returns
returns c =
    let P : BrokenDecl → Type 0 = λ b. IsFirstBroken c.args.first.now c.args.second.now c.args.tables.root b.element b.cause in (
      (c.requires.exact, c.requires.over),
      subst P (sym c.in_ok-broken-in-Some.ensures)
          (first_is_broken c.args.first.now c.args.second.now c.args.tables.root c.in-Ok.report.differs c.in-Some.broken.now c.in-Ok.ensures.differs (sym c.in-Some.ensures.value)),
    )
