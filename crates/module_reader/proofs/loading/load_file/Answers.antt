use Rattle.module_reader.proofs.AskedFor.{asked_given}
use Rattle.module_reader.proofs.Outer.{gives_on, gives_only, moves_given, moves_unloaded}
use Rattle.module_reader.proofs.loading.load_file.Goals as goal

pub returns-in-Err-clause-told : goal.returns-in-Err-clause-told
returns-in-Err-clause-told g c = moves_unloaded (g.S.Store.holds c.args.store.now) c.args.state.now c.load_module.new.state c.load_module.new.state c.args.file.now c.args.name.now c.in-Err.fault c.in-Err.ensures.told

pub returns-in-Ok-give_text-clause-told : goal.returns-in-Ok-give_text-clause-told
returns-in-Ok-give_text-clause-told g c = moves_given (g.S.Store.holds c.args.store.now) c.args.state.now c.load_module.new.state c.give_text.new.state c.args.file.now c.args.name.now c.in-Ok.number c.in-Ok.ensures.told c.in-Ok-give_text.ensures

pub returns-in-Ok-give_text-clause-goes_on : goal.returns-in-Ok-give_text-clause-goes_on
returns-in-Ok-give_text-clause-goes_on g c =
    gives_on c.args.state.now c.load_module.new.state c.give_text.new.state c.args.file.now c.args.name.now c.in-Ok.number c.requires.wanted c.in-Ok.ensures.bound c.in-Ok.ensures.found c.in-Ok-give_text.ensures c.in-Ok.ensures.goes_on

pub returns-in-Ok-give_text-clause-loads : goal.returns-in-Ok-give_text-clause-loads
returns-in-Ok-give_text-clause-loads g c =
    gives_only c.args.state.now c.load_module.new.state c.give_text.new.state c.args.file.now c.args.name.now c.in-Ok.number c.requires.wanted c.in-Ok.ensures.bound c.in-Ok.ensures.spent c.in-Ok.ensures.found c.in-Ok-give_text.ensures

pub returns-in-Ok-give_text-clause-asks : goal.returns-in-Ok-give_text-clause-asks
returns-in-Ok-give_text-clause-asks g c =
    asked_given c.args.state.now c.load_module.new.state c.give_text.new.state c.args.file.now c.args.name.now c.in-Ok.number c.in-Ok.ensures.found c.in-Ok-give_text.ensures c.in-Ok.ensures.asks
