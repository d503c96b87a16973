use Rattle.std.proofs.Common.{◌<◌, length, arith, refl}
use Rattle.module_reader.proofs.AskedFor.{asked_added, asked_last, asked_or_not, asked_refused}
use Rattle.module_reader.proofs.Modules.{new_told}
use Rattle.module_reader.specs.declared.refusals.Stop.TheVariants.{LoadFailed}
use Rattle.module_reader.proofs.loading.load_new.Goals as goal

pub returns-in-Ok-Bytes-clause-told : goal.returns-in-Ok-Bytes-clause-told
returns-in-Ok-Bytes-clause-told g c =
    new_told (g.S.Store.holds c.args.store.now) c.args.state.now c.add_module.new.state c.args.name.now c.in-Ok-Bytes.field-0 c.in-Ok-Bytes.bytes c.add_module.result c.in-Ok-Bytes.field-0-is (omega arith) c.in-Ok-Bytes.ensures.told
    (rw c.as_slice.ensures.value at c.add_module.ensures.told)

pub returns-in-Err-Failed-clause-asks : goal.returns-in-Err-Failed-clause-asks
returns-in-Err-Failed-clause-asks g c =
    let ms = c.args.state.now.modules in
    asked_last ms (g.S.Store.asked c.args.store.now) c.args.name.now c.requires.new (omega arith) ms (g.S.Store.asked c.load.new.self) LoadFailed (λ failed. refl) (rw c.in-Err-Failed.field-0-is at c.in-Err-Failed.ensures.asked)

pub returns-in-Err-NoMemory-clause-asks : goal.returns-in-Err-NoMemory-clause-asks
returns-in-Err-NoMemory-clause-asks g c =
    let ms = c.args.state.now.modules in
    asked_or_not ms (g.S.Store.asked c.args.store.now) c.args.name.now c.requires.new (omega arith) ms (g.S.Store.asked c.load.new.self) (rw c.in-Err-NoMemory.field-0-is at c.in-Err-NoMemory.ensures.asked)

pub returns-in-Ok-Absent-clause-asks : goal.returns-in-Ok-Absent-clause-asks
returns-in-Ok-Absent-clause-asks g c =
    let ms = c.args.state.now.modules in
    asked_refused ms (g.S.Store.asked c.args.store.now) c.args.name.now c.requires.new (omega arith) ms (g.S.Store.asked c.load.new.self) _ c.refusal-in-Ok-Absent.result c.refusal-in-Ok-Absent.ensures c.in-Ok-Absent.ensures.asked

pub returns-in-Ok-Bytes-clause-asks : goal.returns-in-Ok-Bytes-clause-asks
returns-in-Ok-Bytes-clause-asks g c =
    let ms = c.args.state.now.modules in
    asked_added ms (g.S.Store.asked c.args.store.now) c.args.name.now c.requires.new (omega arith) c.args.state.now c.add_module.new.state (g.S.Store.asked c.load.new.self) c.add_module.result refl c.add_module.ensures.adds c.add_module.ensures.load c.in-Ok-Bytes.ensures.asked
