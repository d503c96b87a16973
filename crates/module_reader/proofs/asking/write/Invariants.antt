use Rattle.std.proofs.Common.{◌≡◌, ◌≤◌}
use Rattle.module_reader.specs.Asking.{IsOn, written}
use Rattle.module_reader.specs.AskedFor.{AsksFor}
use Rattle.module_reader.specs.Moves.{GoesOn}
use Rattle.module_reader.specs.declared.state.State.{State}
use Rattle.module_reader.proofs.Asked.{LeftIn}
use Rattle.module_reader.proofs.asking.write.Given as goal

-- what is left to ask gives what was asked for
abbrev pub invariant-questions : goal.invariant-questions
invariant-questions g l =
    (g.S.Store.holds l.store ≡ g.S.Store.holds l.fn.store)
    × (g.S.Store.faults l.fn.store ≤ g.S.Store.faults l.store)
    × (g.S.Store.absences l.fn.store ≤ g.S.Store.absences l.store)
    × GoesOn l.fn.state l.state
    × AsksFor l.fn.state.modules l.state.modules (g.S.Store.asked l.fn.store) (g.S.Store.asked l.store)
    × LeftIn (g.S.Store.holds l.fn.store) l.catalog l.standing l.at (λ (t : State). written l.manner t.bound l.chain t.spent l.text) l.left l.fn.state l.state
    × IsOn l.manner l.chain l.text l.state l.paused

abbrev pub decreases-questions : goal.decreases-questions
decreases-questions g l = l.left
