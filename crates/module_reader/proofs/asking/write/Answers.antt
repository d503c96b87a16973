use Rattle.std.proofs.Common.{◌≡◌, ◌≤◌, List, ℕ, refl, ◌∙◌, arith}
use Rattle.module_reader.specs.Asking.{written}
use Rattle.module_reader.specs.declared.state.State.{State}
use Rattle.module_reader.proofs.AskedFor.{asked_nothing, asked_on}
use Rattle.module_reader.proofs.Asked.{gives_stopped, on_fresh, gives_written, left_again, left_begins, left_ends, left_stops}
use Rattle.module_reader.proofs.AskedChars.{written_chars}
use Rattle.module_reader.proofs.Going.{goes_further, stays}
use Rattle.module_reader.proofs.asking.write.Goals as goal

pub questions-init : goal.questions-init
questions-init g c =
    let ask = (λ (t : State). written c.args.manner t.bound c.args.chain.now t.spent c.args.text.now) in
    (refl, omega arith, omega arith, stays c.args.state.now, asked_nothing c.args.state.now.modules (g.S.Store.asked c.args.store.now), rw c.len-left.ensures (left_begins (g.S.Store.holds c.args.store.now) c.args.catalog.now c.args.standing.now c.args.at ask c.args.state.now), on_fresh c.args.manner c.args.chain.now c.args.state.now c.args.text.now c.new-paused.result c.new-paused.ensures.paused c.new-paused.ensures.of)

pub returns-in-Err-clause-told : goal.returns-in-Err-clause-told
returns-in-Err-clause-told g c =
    let ask = (λ (t : State). written c.args.manner t.bound c.args.chain.now t.spent c.args.text.now) in
    gives_stopped c.args.catalog.now c.args.standing.now c.args.at ask c.args.state.now c.questions.state c.write_turn.new.state (g.S.Store.holds c.args.store.now) c.in-Err.fault
    (left_stops (List ℕ) c.args.catalog.now c.args.standing.now c.args.at ask c.args.state.now c.questions.state c.write_turn.new.state c.questions.left (g.S.Store.holds c.args.store.now) (g.S.Store.holds c.questions.store) c.in-Err.fault
    c.questions.invariant.0 c.questions.invariant.5 c.in-Err.ensures.told)

pub returns-in-Ok-Some-clause-told : goal.returns-in-Ok-Some-clause-told
returns-in-Ok-Some-clause-told g c =
    let ask = (λ (t : State). written c.args.manner t.bound c.args.chain.now t.spent c.args.text.now) in
    gives_written c.args.catalog.now c.args.standing.now c.args.at ask c.args.state.now c.questions.state c.write_turn.new.state (g.S.Store.holds c.args.store.now) c.in-Ok-Some.text c.questions.left c.questions.invariant.5
    (rw c.in-Ok-Some.field-0-is at c.in-Ok-Some.ensures.answer)

pub questions-preserved : goal.questions-preserved
questions-preserved g c =
    let ask = (λ (t : State). written c.args.manner t.bound c.args.chain.now t.spent c.args.text.now) in (
      c.write_turn.ensures.keeps ∙ c.questions.invariant.0,
      omega (arith, c.questions.invariant.1, c.write_turn.ensures.faults.later),
      omega (arith, c.questions.invariant.2, c.write_turn.ensures.absences.later),
      goes_further c.args.state.now c.questions.state c.write_turn.new.state c.questions.invariant.3 c.in-Ok-None.ensures.goes_on,
      asked_on c.questions.invariant.4 c.in-Ok-None.ensures.asks,
      left_again (List ℕ) c.args.catalog.now c.args.standing.now c.args.at ask c.args.state.now c.questions.state c.write_turn.new.state c.questions.left (g.S.Store.holds c.args.store.now) (g.S.Store.holds c.questions.store) c.questions.invariant.0 c.questions.invariant.5
          (rw c.in-Ok-None.field-0-is at c.in-Ok-None.ensures.told) (omega arith),
      rw c.in-Ok-None.field-0-is at c.in-Ok-None.ensures.on,
    )

pub returns-in-Ok-Some-clause-chars : goal.returns-in-Ok-Some-clause-chars
returns-in-Ok-Some-clause-chars g c =
    written_chars c.args.manner c.args.chain.now c.args.state.now c.questions.state c.write_turn.new.state c.args.text.now c.in-Ok-Some.text (rw c.in-Ok-Some.field-0-is at c.in-Ok-Some.ensures.answer) c.questions.invariant.3

pub returns-in-Ok-Some-clause-asks : goal.returns-in-Ok-Some-clause-asks
returns-in-Ok-Some-clause-asks g c = asked_on c.questions.invariant.4 c.in-Ok-Some.ensures.asks
