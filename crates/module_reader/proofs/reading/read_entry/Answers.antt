use Rattle.std.proofs.Common.{◌≡◌, [], Ok, Err, slice_get, subst}
use Rattle.std.specs.Prelude.{Result}
use Rattle.jats_fault.specs.declared.fault.Fault.{Fault}
use Rattle.decl_set.specs.Declarations.{Declarations}
use Rattle.module_reader.specs.Frames.{from, text_found}
use Rattle.module_reader.specs.Endings.{Reads}
use Rattle.module_reader.specs.Sets.{entry_read}
use Rattle.module_reader.specs.Sources.{Files, Source}
use Rattle.module_reader.specs.Stops.{module_text}
use Rattle.module_reader.specs.declared.standing.Standing.{Standing}
use Rattle.module_reader.specs.declared.state.State.{State}
use Rattle.module_reader.proofs.AskedFor.{asked_nothing}
use Rattle.module_reader.proofs.AskedFrom.{all_read, memory_never, some_judged}
use Rattle.module_reader.proofs.Entry.{entry_done, entry_refused}
use Rattle.module_reader.proofs.Told.{told}
use Rattle.module_reader.proofs.reading.read_entry.Goals as goal

pub returns-in-Err-clause-told : goal.returns-in-Err-clause-told
returns-in-Err-clause-told g c =
    let name = c.args.entry.now in
    let s = c.args.state in
    let text = text_found (slice_get s.modules 0) in
    let source = λ (files : Files). let made : Source = record { files = files; catalog = c.args.catalog.now } in made in
    let said = λ (files : Files) (standing : Standing). from (source files) (record { text = text; names = []; standing = standing; at = 0; sections = [] }) s in
    let same : c.in_ok-standing.standing ≡ module_text name = c.in_ok-standing.ensures in
    told (g.S.Store.holds c.args.store.now) (λ files. Reads {T = State} (said files c.in_ok-standing.standing) (Err c.in-Err.fault)) (λ files. Reads {T = Declarations} (entry_read (source files) name (s, text)) (Err c.in-Err.fault))
    (λ files reads. let P : Standing → Type 0 = λ standing. Reads {T = State} (said files standing) (Err c.in-Err.fault) in entry_refused (source files) name s text c.in-Err.fault (subst P same reads)) c.in-Err.ensures.told

pub returns-in-Ok-clause-told : goal.returns-in-Ok-clause-told
returns-in-Ok-clause-told g c =
    let name = c.args.entry.now in
    let s = c.args.state in
    let text = text_found (slice_get s.modules 0) in
    let source = λ (files : Files). let made : Source = record { files = files; catalog = c.args.catalog.now } in made in
    let said = λ (files : Files) (standing : Standing). from (source files) (record { text = text; names = []; standing = standing; at = 0; sections = [] }) s in
    let same : c.in_ok-standing.standing ≡ module_text name = c.in_ok-standing.ensures in
    told (g.S.Store.holds c.args.store.now) (λ files. said files c.in_ok-standing.standing ≡ Ok c.in-Ok.state) (λ files. Reads (entry_read (source files) name (s, text)) c.finished.result)
    (λ files is. let P : Standing → Type 0 = λ standing. said files standing ≡ Ok c.in-Ok.state in entry_done (source files) name s text c.in-Ok.state c.finished.result (subst P same is) c.finished.ensures.told) c.in-Ok.ensures.told

pub returns-in-Ok-clause-asks : goal.returns-in-Ok-clause-asks
returns-in-Ok-clause-asks g c = some_judged c.args.state c.in-Ok.state c.finished.result c.finished.ensures.load c.in-Ok.ensures.asks

pub returns-in-Ok-clause-all : goal.returns-in-Ok-clause-all
returns-in-Ok-clause-all g c =
    let source = λ (files : Files). let made : Source = record { files = files; catalog = c.args.catalog.now } in made in
    all_read (g.S.Store.holds c.args.store.now) source c.args.entry.now c.args.state c.in-Ok.state (text_found (slice_get c.args.state.modules 0)) c.in_ok-standing.standing c.finished.result c.in_ok-standing.ensures c.in-Ok.ensures.told c.in-Ok.ensures.asks

pub returns-in_err-standing-clause-asks : goal.returns-in_err-standing-clause-asks
returns-in_err-standing-clause-asks g c = some_judged c.args.state c.args.state c.from_residual.result (memory_never c.from_residual.result c.from_residual.ensures.1) (asked_nothing c.args.state.modules _)
