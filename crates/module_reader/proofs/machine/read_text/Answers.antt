use Rattle.std.proofs.Common.{◌≡◌, ◌∙◌, sym, refl, [], None, Ok, Err, slice_get}
use Rattle.module_reader.specs.Frames.{Ends, from, left_of, text_found}
use Rattle.module_reader.specs.Endings.{Reads}
use Rattle.module_reader.specs.Sources.{Files, Source}
use Rattle.module_reader.specs.declared.frames.Frame.{Frame}
use Rattle.module_reader.specs.declared.frames.Work.{Work}
use Rattle.module_reader.specs.declared.state.State.{State}
use Rattle.module_reader.proofs.Told.{told}
use Rattle.module_reader.proofs.Turning.{begins, begins_sound, ends_reads}
use Rattle.module_reader.proofs.machine.read_text.Goals as goal

pub run-requires : goal.run-requires
run-requires g c = begins_sound c.args.state (record { text = None; standing = c.args.standing; at = 0; sections = c.new.result }) c.new-2.result c.new-3.result c.requires.entry c.requires.chars c.new-2.ensures.items c.new-3.ensures

pub returns-in-Err-clause-told : goal.returns-in-Err-clause-told
returns-in-Err-clause-told g c =
    let f : Frame = record { text = None; standing = c.args.standing; at = 0; sections = c.new.result } in
    let w : Work = record { state = c.args.state; frame = f; waiting = c.new-2.result; names = c.new-3.result } in
    let source = λ (files : Files). let s : Source = record { files = files; catalog = c.args.catalog.now } in s in
    let said = λ (files : Files). from (source files) (record { text = text_found (slice_get c.args.state.modules 0); names = []; standing = c.args.standing; at = 0; sections = [] }) c.args.state in
    told (g.S.Store.holds c.args.store.now) (λ files. Ends {X = Unit {0}} (source files) w c.run.new.work (Err c.in-Err.fault)) (λ files. Reads {T = State} (said files) (Err c.in-Err.fault))
    (λ files. ends_reads (source files) w c.run.new.work (said files) c.in-Err.fault (begins (source files) c.args.state f c.new-2.result c.new-3.result refl refl c.new.ensures.items c.new-2.ensures.items c.new-3.ensures)) c.in-Err.ensures.told

pub returns-in-Ok-clause-told : goal.returns-in-Ok-clause-told
returns-in-Ok-clause-told g c =
    let f : Frame = record { text = None; standing = c.args.standing; at = 0; sections = c.new.result } in
    let w : Work = record { state = c.args.state; frame = f; waiting = c.new-2.result; names = c.new-3.result } in
    let source = λ (files : Files). let s : Source = record { files = files; catalog = c.args.catalog.now } in s in
    let said = λ (files : Files). from (source files) (record { text = text_found (slice_get c.args.state.modules 0); names = []; standing = c.args.standing; at = 0; sections = [] }) c.args.state in
    told (g.S.Store.holds c.args.store.now) (λ files. left_of (source files) w ≡ Ok c.run.new.work.state) (λ files. said files ≡ Ok c.run.new.work.state)
    (λ files ends. sym (begins (source files) c.args.state f c.new-2.result c.new-3.result refl refl c.new.ensures.items c.new-2.ensures.items c.new-3.ensures) ∙ ends) c.in-Ok.ensures.told
