use Rattle.std.proofs.Common.{◌≡◌, ◌-◌, ◌∙◌, ap, List, ℕ, Err}
use Rattle.dtd_scanner.specs.Parts.{contents_of}
use Rattle.module_reader.specs.Frames.{IsSound, Stepped, current, left_of, rest_of, size_of}
use Rattle.module_reader.specs.Moves.{Moves}
use Rattle.module_reader.specs.Reading.{declaration}
use Rattle.module_reader.specs.Sources.{Files}
use Rattle.module_reader.proofs.Moved.{advances_to, declared_steps, moves_fault, refused_steps}
use Rattle.module_reader.proofs.Told.{told}
use Rattle.module_reader.proofs.passing.pass_declaration.Goals as goal

pub returns-in-Err-clause-told : goal.returns-in-Err-clause-told
returns-in-Err-clause-told g c =
    let w = c.args.work.now in
    let contents : c.as_slice.result.now ≡ contents_of (rest_of (current w)) 0 c.args.kind (c.args.next - w.frame.at) = c.as_slice.ensures ∙ c.in_ok-body.ensures.value in
    let said = λ (files : Files). declaration (record { files = files; catalog = c.args.catalog.now }) w.names w.frame.standing w.frame.at c.args.kind w.state c.as_slice.result.now in
    let t = c.declare_expanded.new.state in
    told (g.S.Store.holds c.args.store.now) (λ files. Moves {T = Unit {0}} (said files) t (Err c.in-Err.fault)) (λ files. Stepped {X = Unit {0}} (record { files = files; catalog = c.args.catalog.now }) w w (Err c.in-Err.fault))
    (λ files. moves_fault (record { files = files; catalog = c.args.catalog.now }) w (said files) t c.in-Err.fault
    (refused_steps (record { files = files; catalog = c.args.catalog.now }) w c.args.kind c.args.next c.requires.declares c.requires.stands c.as_slice.result.now contents)) c.in-Err.ensures.told

pub returns-clause-told : goal.returns-clause-told
unfolding left_of
returns-clause-told g c =
    let w = c.args.work.now in
    let contents : c.as_slice.result.now ≡ contents_of (rest_of (current w)) 0 c.args.kind (c.args.next - w.frame.at) = c.as_slice.ensures ∙ c.in_ok-body.ensures.value in
    told (g.S.Store.holds c.args.store.now) _ _
    (λ files. declared_steps (record { files = files; catalog = c.args.catalog.now }) w c.args.kind c.args.next c.requires.declares c.requires.stands c.as_slice.result.now contents c.declare_expanded.new.state c.requires.sound c.in-Ok.ensures.goes_on) c.in-Ok.ensures.told

pub returns-clause-advances : goal.returns-clause-advances
unfolding IsSound size_of
returns-clause-advances g c = advances_to c.args.work.now c.declare_expanded.new.state c.args.next c.requires.sound c.in-Ok.ensures.goes_on c.requires.stands.some c.requires.stands.within

pub declare_expanded-requires-clause-kept : goal.declare_expanded-requires-clause-kept
unfolding IsSound
declare_expanded-requires-clause-kept g c = c.requires.sound.2
