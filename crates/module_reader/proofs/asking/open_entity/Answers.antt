use Rattle.std.proofs.Common.{◌≡◌, ◌≤◌, List, ℕ, refl, ◌∙◌, arith}
use Rattle.pe_expansion.specs.Opening.{opening}
use Rattle.pe_expansion.specs.declared.openings.Opened.{Opened}
use Rattle.module_reader.specs.declared.state.State.{State}
use Rattle.module_reader.proofs.AskedFor.{asked_nothing, asked_on}
use Rattle.module_reader.proofs.Asked.{opens_stopped, opens_answer, left_again, left_begins, left_ends, left_stops}
use Rattle.module_reader.proofs.AskedChars.{opened_counts}
use Rattle.module_reader.proofs.Going.{goes_further, stays}
use Rattle.module_reader.proofs.asking.open_entity.Goals as goal

pub questions-init : goal.questions-init
questions-init g c =
    let ask = (λ (t : State). opening t.bound c.args.chain.now t.spent c.args.name.now) in
    (refl, omega arith, omega arith, stays c.args.state.now, asked_nothing c.args.state.now.modules (g.S.Store.asked c.args.store.now), rw c.len-left.ensures (left_begins (g.S.Store.holds c.args.store.now) c.args.catalog.now c.args.standing.now c.args.at ask c.args.state.now))

pub returns-in-Err-clause-told : goal.returns-in-Err-clause-told
returns-in-Err-clause-told g c =
    let ask = (λ (t : State). opening t.bound c.args.chain.now t.spent c.args.name.now) in
    opens_stopped c.args.catalog.now c.args.standing.now c.args.at ask c.args.state.now c.questions.state c.open_turn.new.state c.args.name.now (g.S.Store.holds c.args.store.now) c.in-Err.fault
    (left_stops Opened c.args.catalog.now c.args.standing.now c.args.at ask c.args.state.now c.questions.state c.open_turn.new.state c.questions.left (g.S.Store.holds c.args.store.now) (g.S.Store.holds c.questions.store) c.in-Err.fault
    c.questions.invariant.0 c.questions.invariant.5 c.in-Err.ensures.told)

pub returns-in-Ok-Some-clause-told : goal.returns-in-Ok-Some-clause-told
returns-in-Ok-Some-clause-told g c =
    let ask = (λ (t : State). opening t.bound c.args.chain.now t.spent c.args.name.now) in
    opens_answer c.args.catalog.now c.args.standing.now c.args.at ask c.args.state.now c.questions.state c.open_turn.new.state c.args.name.now (g.S.Store.holds c.args.store.now) c.in-Ok-Some.opened c.questions.left c.questions.invariant.5
    (rw c.in-Ok-Some.field-0-is at c.in-Ok-Some.ensures.answer)

pub questions-preserved : goal.questions-preserved
questions-preserved g c =
    let ask = (λ (t : State). opening t.bound c.args.chain.now t.spent c.args.name.now) in (
      c.open_turn.ensures.keeps ∙ c.questions.invariant.0,
      omega (arith, c.questions.invariant.1, c.open_turn.ensures.faults.later),
      omega (arith, c.questions.invariant.2, c.open_turn.ensures.absences.later),
      goes_further c.args.state.now c.questions.state c.open_turn.new.state c.questions.invariant.3 c.in-Ok-None.ensures.goes_on,
      asked_on c.questions.invariant.4 c.in-Ok-None.ensures.asks,
      left_again Opened c.args.catalog.now c.args.standing.now c.args.at ask c.args.state.now c.questions.state c.open_turn.new.state c.questions.left (g.S.Store.holds c.args.store.now) (g.S.Store.holds c.questions.store) c.questions.invariant.0 c.questions.invariant.5
          (rw c.in-Ok-None.field-0-is at c.in-Ok-None.ensures.told) (omega arith),
    )

pub returns-in-Ok-Some-clause-counts : goal.returns-in-Ok-Some-clause-counts
returns-in-Ok-Some-clause-counts g c =
    opened_counts c.args.chain.now c.args.state.now c.questions.state c.open_turn.new.state c.args.name.now c.in-Ok-Some.opened (rw c.in-Ok-Some.field-0-is at c.in-Ok-Some.ensures.answer) c.questions.invariant.3

pub returns-in-Ok-Some-clause-asks : goal.returns-in-Ok-Some-clause-asks
returns-in-Ok-Some-clause-asks g c = asked_on c.questions.invariant.4 c.in-Ok-Some.ensures.asks
