use Rattle.std.proofs.Common.{◌≡◌, ◌-◌, ◌≤◌, ◌∙◌, List, ℕ, Ok, Err, arith, length, subst, sym}
use Rattle.dtd_scanner.specs.Parts.{contents_of}
use Rattle.dtd_scanner.specs.declared.item.ItemKind.TheVariants.{SectionStart}
use Rattle.module_reader.specs.Frames.{IsSound, Stepped, current, rest_of, size_of}
use Rattle.text_fronts.specs.Fronts.{trimmed}
use Rattle.module_reader.specs.Moves.{Gives, counted}
use Rattle.module_reader.specs.Reading.{expanded}
use Rattle.module_reader.specs.Sources.{Files}
use Rattle.module_reader.proofs.Moved.{begun_nears, begun_stepped, gives_fault, keyword_steps, same_text, still_sound}
use Rattle.module_reader.proofs.Told.{told}
use Rattle.module_reader.proofs.passing.pass_section.Goals as goal

pub returns-in-Err-clause-told : goal.returns-in-Err-clause-told
returns-in-Err-clause-told g c =
    let w = c.args.work.now in
    let keyword = c.as_slice.result.now in
    let contents : keyword ≡ contents_of (rest_of (current w)) 0 SectionStart (c.args.next - w.frame.at) = c.as_slice.ensures ∙ c.in_ok-keyword.ensures.value in
    let said = λ (files : Files). counted (expanded (record { files = files; catalog = c.args.catalog.now }) w.names w.frame.standing w.frame.at w.state keyword) in
    let t = c.expand_body.new.state in
    told (g.S.Store.holds c.args.store.now) (λ files. Gives (said files) t (Err c.in-Err.fault)) (λ files. Stepped {X = Unit {0}} (record { files = files; catalog = c.args.catalog.now }) w w (Err c.in-Err.fault))
    (λ files. gives_fault (record { files = files; catalog = c.args.catalog.now }) w (said files) t c.in-Err.fault (keyword_steps (record { files = files; catalog = c.args.catalog.now }) w c.args.next c.requires.stands keyword contents)) c.in-Err.ensures.told

pub begin_section-requires-clause-sound : goal.begin_section-requires-clause-sound
begin_section-requires-clause-sound g c = still_sound c.args.work.now c.expand_body.new.state c.requires.sound c.in-Ok.ensures.goes_on

pub begin_section-requires-clause-within : goal.begin_section-requires-clause-within
begin_section-requires-clause-within g c =
    let P : List ℕ → Type 0 = λ text. c.args.next ≤ length text in
    (c.requires.stands.some, subst P (sym (same_text c.args.work.now c.expand_body.new.state c.requires.sound c.in-Ok.ensures.goes_on)) c.requires.stands.within)

pub returns-clause-told : goal.returns-clause-told
returns-clause-told g c =
    let w = c.args.work.now in
    let keyword = c.as_slice.result.now in
    let contents : keyword ≡ contents_of (rest_of (current w)) 0 SectionStart (c.args.next - w.frame.at) = c.as_slice.ensures ∙ c.in_ok-keyword.ensures.value in
    let said = λ (files : Files). counted (expanded (record { files = files; catalog = c.args.catalog.now }) w.names w.frame.standing w.frame.at w.state keyword) in
    let u = c.expand_body.new.state in
    told (g.S.Store.holds c.args.store.now) (λ files. Gives (said files) u (Ok c.in-Ok.word)) (λ files. Stepped (record { files = files; catalog = c.args.catalog.now }) w c.begin_section.new.work c.begin_section.result)
    (λ files gives. begun_stepped (record { files = files; catalog = c.args.catalog.now }) w c.args.next c.requires.stands keyword contents u c.in-Ok.word gives c.requires.sound c.in-Ok.ensures.goes_on c.begin_section.new.work c.begin_section.result c.begin_section.ensures.begins)
    c.in-Ok.ensures.told

pub returns-clause-advances : goal.returns-clause-advances
returns-clause-advances g c =
    begun_nears c.args.work.now c.expand_body.new.state c.requires.sound c.in-Ok.ensures.goes_on c.begin_section.new.work c.args.next (trimmed c.in-Ok.word) c.begin_section.result c.begin_section.ensures.begins
