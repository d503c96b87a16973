use Rattle.module_reader.proofs.Outer.{loads_nothing, moves_file, moves_named, moves_unnamed, names_outer}
use Rattle.module_reader.proofs.loading.load_outer.Goals as goal

pub load_file-requires-clause-outer : goal.load_file-requires-clause-outer
load_file-requires-clause-outer g c = names_outer c.args.catalog.now c.args.standing.now c.args.at c.args.state.now c.args.name.now c.in-Ok-Some.file c.in-Ok-Some.field-0 c.in-Ok-Some.field-0-is c.in-Ok-Some.ensures.told

pub returns-in-Err-clause-told : goal.returns-in-Err-clause-told
returns-in-Err-clause-told g c = moves_named (g.S.Store.holds c.args.store.now) c.args.catalog.now c.args.standing.now c.args.at c.args.state.now c.args.state.now c.args.name.now c.in-Err.fault c.in-Err.ensures.told

pub returns-in-Ok-None-clause-told : goal.returns-in-Ok-None-clause-told
returns-in-Ok-None-clause-told g c = moves_unnamed (g.S.Store.holds c.args.store.now) c.args.catalog.now c.args.standing.now c.args.at c.args.state.now c.args.name.now c.in-Ok-None.field-0 c.in-Ok-None.field-0-is c.in-Ok-None.ensures.told

pub returns-in-Ok-Some-clause-told : goal.returns-in-Ok-Some-clause-told
returns-in-Ok-Some-clause-told g c = moves_file (g.S.Store.holds c.args.store.now) c.args.catalog.now c.args.standing.now c.args.at c.args.state.now c.load_file.new.state c.args.name.now c.in-Ok-Some.file c.load_file.result c.in-Ok-Some.field-0 c.in-Ok-Some.field-0-is c.in-Ok-Some.ensures.told c.load_file.ensures.told

pub returns-in-Ok-None-clause-loads : goal.returns-in-Ok-None-clause-loads
returns-in-Ok-None-clause-loads g c = loads_nothing c.args.state.now
