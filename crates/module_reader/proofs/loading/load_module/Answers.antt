use Rattle.module_reader.proofs.Modules.{all_added, module_told}
use Rattle.module_reader.proofs.loading.load_module.Goals as goal

pub returns-in-None-clause-told : goal.returns-in-None-clause-told
returns-in-None-clause-told g c = module_told (g.S.Store.holds c.args.store.now) c.args.state.now c.load_new.new.state c.args.name.now c.load_new.result c.in-None.ensures c.load_new.ensures.told

pub returns-in-None-clause-found : goal.returns-in-None-clause-found
returns-in-None-clause-found g c = (all_added c.args.state.now c.load_new.new.state c.args.name.now c.load_new.result c.load_new.ensures.adds).0

pub returns-in-None-clause-goes_on : goal.returns-in-None-clause-goes_on
returns-in-None-clause-goes_on g c = (all_added c.args.state.now c.load_new.new.state c.args.name.now c.load_new.result c.load_new.ensures.adds).1
