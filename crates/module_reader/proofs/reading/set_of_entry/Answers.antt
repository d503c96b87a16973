use Rattle.std.proofs.Common.{◌≡◌, ◌∙◌, ℕ, Ok, Err, slice_get, sym, subst}
use Rattle.std.specs.Prelude.{Option, IfSome}
use Rattle.entity_catalog.specs.Named.{Named}
use Rattle.decl_set.specs.Declarations.{Declarations}
use Rattle.module_reader.specs.Frames.{text_found}
use Rattle.module_reader.specs.Loading.{LoadsModule}
use Rattle.module_reader.specs.Endings.{Reads}
use Rattle.module_reader.specs.Sets.{entry_read, set_from}
use Rattle.module_reader.specs.Sources.{Files, Source, module_of}
use Rattle.module_reader.proofs.AskedFrom.{all_loaded, from_loaded, from_unloaded}
use Rattle.module_reader.proofs.Entry.{set_done, set_refused}
use Rattle.module_reader.proofs.Told.{told, told_twice}
use Rattle.module_reader.proofs.reading.set_of_entry.Goals as goal

pub returns-in-Err-clause-told : goal.returns-in-Err-clause-told
returns-in-Err-clause-told g c =
    let name = c.args.entry.now in
    let s = c.begun-state.result in
    let new = c.load_module.new.state in
    let source = λ (files : Files) (named : Named). let made : Source = record { files = files; catalog = named } in made in
    told (g.S.Store.holds c.args.store.now) (λ files. (named : Named) → LoadsModule (module_of (source files named) s name) new name (Err c.in-Err.fault))
    (λ files. Reads {T = Declarations} (set_from (source files c.args.catalog.now) name) (Err c.in-Err.fault)) (λ files loads. set_refused (source files c.args.catalog.now) name s new c.in-Err.fault c.begun-state.ensures (loads c.args.catalog.now)) c.in-Err.ensures.told

pub returns-in-Ok-clause-told : goal.returns-in-Ok-clause-told
returns-in-Ok-clause-told g c =
    let name = c.args.entry.now in
    let s = c.begun-state.result in
    let new = c.load_module.new.state in
    let number = c.in-Ok.field-0 in
    let source = λ (files : Files) (named : Named). let made : Source = record { files = files; catalog = named } in made in
    let reads = λ (files : Files). Reads (entry_read (source files c.args.catalog.now) name (new, text_found (slice_get new.modules 0))) c.read_entry.result in
    let P : Option Files → Type 0 = λ holds. IfSome holds reads in
    told_twice (g.S.Store.holds c.args.store.now) (λ files. (named : Named) → LoadsModule (module_of (source files named) s name) new name (Ok number)) reads (λ files. Reads (set_from (source files c.args.catalog.now) name) c.read_entry.result)
    (λ files loads done. set_done (source files c.args.catalog.now) name s new number c.read_entry.result c.begun-state.ensures c.in-Ok.ensures.within (loads c.args.catalog.now) done) c.in-Ok.ensures.told
    (subst P c.load_module.ensures.keeps c.read_entry.ensures.told)

pub returns-in-Err-clause-asks : goal.returns-in-Err-clause-asks
returns-in-Err-clause-asks g c =
    from_unloaded Declarations ℕ c.begun-state.result (g.S.Store.asked c.args.store.now) (g.S.Store.asked c.load_module.new.store) c.args.entry.now c.in-Err.fault c.begun-state.ensures c.in-Err.ensures.one

pub returns-in-Ok-clause-asks : goal.returns-in-Ok-clause-asks
returns-in-Ok-clause-asks g c =
    from_loaded c.begun-state.result c.load_module.new.state (g.S.Store.asked c.args.store.now) (g.S.Store.asked c.load_module.new.store) (g.S.Store.asked c.read_entry.new.store) c.args.entry.now c.in-Ok.field-0 c.begun-state.ensures c.in-Ok.ensures.within c.in-Ok.ensures.found c.in-Ok.ensures.asks
    c.read_entry.result c.read_entry.ensures.asks

pub returns-in-Ok-clause-all : goal.returns-in-Ok-clause-all
returns-in-Ok-clause-all g c =
    let name = c.args.entry.now in
    let s = c.begun-state.result in
    let new = c.load_module.new.state in
    let source = λ (files : Files). let made : Source = record { files = files; catalog = c.args.catalog.now } in made in
    all_loaded s new (g.S.Store.asked c.args.store.now) (g.S.Store.asked c.load_module.new.store) (g.S.Store.asked c.read_entry.new.store) name c.in-Ok.field-0 c.begun-state.ensures c.in-Ok.ensures.within c.in-Ok.ensures.found c.in-Ok.ensures.asks
    (g.S.Store.holds c.args.store.now) (g.S.Store.holds c.load_module.new.store) source c.read_entry.result c.load_module.ensures.keeps
    (told (g.S.Store.holds c.args.store.now) (λ files. (named : Named) → LoadsModule (module_of (record { files = files; catalog = named }) s name) new name (Ok c.in-Ok.field-0)) (λ files. LoadsModule (module_of (source files) s name) new name (Ok c.in-Ok.field-0)) (λ files loads. loads c.args.catalog.now) c.in-Ok.ensures.told)
    c.read_entry.ensures.all
