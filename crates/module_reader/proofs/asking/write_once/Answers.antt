use Rattle.module_reader.specs.Asking.{IsOn}
use Rattle.module_reader.proofs.Asked.{done_once, on_fresh, stops_once, waits_once}
use Rattle.module_reader.proofs.asking.write_once.Goals as goal

pub resume-requires : goal.resume-requires
resume-requires c = rw c.replace-before.ensures.value c.requires.paused

pub returns-in-Err-clause-writes : goal.returns-in-Err-clause-writes
returns-in-Err-clause-writes c =
    let on : IsOn c.args.manner c.args.chain.now c.args.text.now c.args.state.now c.replace-before.result = rw c.replace-before.ensures.value c.requires in
    stops_once c.args.manner c.args.chain.now c.args.state.now c.args.text.now c.replace-before.result c.in-Err.fault on c.in-Err.ensures

pub returns-in-Err-clause-on : goal.returns-in-Err-clause-on
returns-in-Err-clause-on c = rw c.replace-before.ensures.after (on_fresh c.args.manner c.args.chain.now c.args.state.now c.args.text.now c.new-again.result c.new-again.ensures.paused c.new-again.ensures.of)

pub returns-in-Ok-Waits-clause-writes : goal.returns-in-Ok-Waits-clause-writes
returns-in-Ok-Waits-clause-writes c =
    let on : IsOn c.args.manner c.args.chain.now c.args.text.now c.args.state.now c.replace-before.result = rw c.replace-before.ensures.value c.requires in
    (waits_once c.args.manner c.args.chain.now c.args.state.now c.args.text.now c.replace-before.result c.in-Ok-Waits.rest c.in-Ok-Waits.name on (rw c.in-Ok-Waits.field-0-is at c.in-Ok-Waits.ensures)).0

pub returns-in-Ok-Waits-clause-on : goal.returns-in-Ok-Waits-clause-on
returns-in-Ok-Waits-clause-on c =
    let on : IsOn c.args.manner c.args.chain.now c.args.text.now c.args.state.now c.replace-before.result = rw c.replace-before.ensures.value c.requires in
    (waits_once c.args.manner c.args.chain.now c.args.state.now c.args.text.now c.replace-before.result c.in-Ok-Waits.rest c.in-Ok-Waits.name on (rw c.in-Ok-Waits.field-0-is at c.in-Ok-Waits.ensures)).1

pub returns-in-Ok-Done-clause-writes : goal.returns-in-Ok-Done-clause-writes
returns-in-Ok-Done-clause-writes c =
    let on : IsOn c.args.manner c.args.chain.now c.args.text.now c.args.state.now c.replace-before.result = rw c.replace-before.ensures.value c.requires in
    done_once c.args.manner c.args.chain.now c.args.state.now c.args.text.now c.replace-before.result c.in-Ok-Done.text c.in-Ok-Done.spent on (rw c.in-Ok-Done.field-0-is at c.in-Ok-Done.ensures)
