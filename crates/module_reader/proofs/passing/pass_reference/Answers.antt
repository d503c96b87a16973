use Rattle.std.proofs.Common.{◌≡◌, ◌-◌, ◌∙◌, List, [], ℕ, Ok, Err, subst, sym}
use Rattle.dtd_scanner.specs.References.{named}
use Rattle.pe_expansion.specs.Opening.{opening}
use Rattle.module_reader.specs.Asking.{OpensIn}
use Rattle.module_reader.specs.Frames.{Enters, Stepped, current, left_of, rest_of}
use Rattle.module_reader.specs.Sources.{Files, asking}
use Rattle.module_reader.proofs.Moved.{entered_advances, entered_steps, unopened_fault}
use Rattle.module_reader.proofs.Told.{told}
use Rattle.module_reader.proofs.passing.pass_reference.Goals as goal

pub returns-in-Err-clause-told : goal.returns-in-Err-clause-told
returns-in-Err-clause-told g c =
    let w = c.args.work.now in
    let name = c.as_slice.result.now in
    let is : name ≡ named (c.args.next - w.frame.at) (rest_of (current w)) = c.as_slice.ensures ∙ c.text.ensures.value ∙ c.in_ok-name.ensures in
    let said = λ (files : Files). asking (record { files = files; catalog = c.args.catalog.now }) w.frame.standing w.frame.at (λ t. opening t.bound w.names t.spent name) w.state in
    let u = c.open_entity.new.state in
    told (g.S.Store.holds c.args.store.now) (λ files. OpensIn (said files) u name (Err c.in-Err.fault)) (λ files. Stepped {X = Unit {0}} (record { files = files; catalog = c.args.catalog.now }) w w (Err c.in-Err.fault))
    (λ files. unopened_fault (record { files = files; catalog = c.args.catalog.now }) w c.args.next c.requires.stands name is u c.in-Err.fault) c.in-Err.ensures.told

pub returns-in-Ok-enter-clause-told : goal.returns-in-Ok-enter-clause-told
returns-in-Ok-enter-clause-told g c =
    let w = c.args.work.now in
    let name = c.as_slice.result.now in
    let spelled : name ≡ c.in_ok-name.name = c.as_slice.ensures ∙ c.text.ensures.value in
    let is : name ≡ named (c.args.next - w.frame.at) (rest_of (current w)) = spelled ∙ c.in_ok-name.ensures in
    let said = λ (files : Files). asking (record { files = files; catalog = c.args.catalog.now }) w.frame.standing w.frame.at (λ t. opening t.bound w.names t.spent name) w.state in
    let u = c.open_entity.new.state in
    let new = c.enter.new.work in
    let P : List ℕ → Type 0 = λ n. Enters c.args.catalog.now (record w { state = u }) new c.args.next n c.in-Ok.opened.number in
    told (g.S.Store.holds c.args.store.now) (λ files. OpensIn (said files) u name (Ok c.in-Ok.opened)) (λ files. left_of (record { files = files; catalog = c.args.catalog.now }) new ≡ left_of (record { files = files; catalog = c.args.catalog.now }) w)
    (λ files opens. entered_steps (record { files = files; catalog = c.args.catalog.now }) w c.args.next c.requires.stands name is u c.in-Ok.opened c.requires.sound c.in-Ok.ensures.goes_on c.in-Ok.ensures.counts new opens (subst P (sym spelled) c.in-Ok-enter.ensures))
    c.in-Ok.ensures.told

pub returns-in-Ok-enter-clause-advances : goal.returns-in-Ok-enter-clause-advances
returns-in-Ok-enter-clause-advances g c =
    let w = c.args.work.now in
    let name = c.as_slice.result.now in
    let spelled : name ≡ c.in_ok-name.name = c.as_slice.ensures ∙ c.text.ensures.value in
    let u = c.open_entity.new.state in
    let new = c.enter.new.work in
    let P : List ℕ → Type 0 = λ n. Enters c.args.catalog.now (record w { state = u }) new c.args.next n c.in-Ok.opened.number in
    entered_advances (record { files = []; catalog = c.args.catalog.now }) w c.args.next c.requires.stands name (spelled ∙ c.in_ok-name.ensures) u c.in-Ok.opened c.requires.sound c.in-Ok.ensures.goes_on c.in-Ok.ensures.counts new c.in-Ok.ensures.found (subst P (sym spelled) c.in-Ok-enter.ensures)
