use Rattle.std.proofs.Common.{◌≡◌, ◌≤◌, ◌+◌, Ok, cond}
use Rattle.std.specs.Prelude.{IfSome}
use Rattle.std.specs.Bool.{OnTrue, OnFalse}
use Rattle.module_reader.specs.AskedFor.{AsksFor}
use Rattle.module_reader.specs.Frames.{IsSound, left_of, size_of}
use Rattle.module_reader.proofs.machine.run.Given as goal

-- what is left gives what was left at the beginning, until nothing is left
abbrev pub invariant-loop-more : goal.invariant-loop-more
invariant-loop-more g l = record {
  keeps : g.S.Store.holds l.store ≡ g.S.Store.holds l.fn.store;
  faults : g.S.Store.faults l.fn.store ≤ g.S.Store.faults l.store;
  absences : g.S.Store.absences l.fn.store ≤ g.S.Store.absences l.store;
  asks : AsksFor l.initial.work.state.modules l.work.state.modules (g.S.Store.asked l.fn.store) (g.S.Store.asked l.store);
  sound : OnTrue l.more (IsSound l.work);
  gives : IfSome (g.S.Store.holds l.fn.store) (λ files.
      OnTrue l.more (left_of (record { files = files; catalog = l.catalog }) l.work ≡ left_of (record { files = files; catalog = l.catalog }) l.initial.work)
      × OnFalse l.more (left_of (record { files = files; catalog = l.catalog }) l.initial.work ≡ Ok l.work.state));
}

abbrev pub decreases-loop-more : goal.decreases-loop-more
decreases-loop-more g l = cond l.more (size_of l.work + 1) 0
