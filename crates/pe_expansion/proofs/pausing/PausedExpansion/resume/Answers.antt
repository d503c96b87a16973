use Rattle.std.proofs.Common.{◌≡◌, ◌∙◌, All, IsSome, refl, rules}
use Rattle.pe_expansion.specs.Bound.{loaded_at}
use Rattle.pe_expansion.specs.declared.pausing.Place.{Place}
use Rattle.pe_expansion.proofs.Numbering.{paused_there, resumes, turn_waits}
use Rattle.pe_expansion.proofs.pausing.PausedExpansion.resume.Goals as goal

pub restore-requires-clause-there : goal.restore-requires-clause-there
restore-requires-clause-there c = rw c.as_slice.ensures.value (paused_there c.args.bound.now c.args.chain.now c.args.text.now c.args.self c.requires)

pub loop-more-init : goal.loop-more-init
loop-more-init c =
    let e = c.in_ok-restore.ensures in
    let r = resumes c.args.bound.now c.args.chain.now c.args.text.now c.args.self c.restore.new.work c.requires e.numbered (e.places ∙ c.as_slice.ensures.value) e.written.0 e.written.1 e.at.0 e.at.1 in
    (r.0, r.1, tt)

pub pause-requires : goal.pause-requires
pause-requires c = rw (rw c.in-Err-NotLoaded.field-0-is at c.in-Err-NotLoaded.ensures.stays) (rw c.loop-more-test.true at c.loop-more.invariant).1

pub returns-in-Err-NotLoaded : goal.returns-in-Err-NotLoaded
returns-in-Err-NotLoaded c =
    let a = c.args.self in
    turn_waits a.manner c.args.bound.now c.args.chain.now c.args.text.now a.first c.loop-more.work c.turn.new.work c.in-Err-NotLoaded.name c.in_ok-pause-in-Err-NotLoaded.field-0 (rw c.loop-more-test.true at c.loop-more.invariant).0
    (rw c.in-Err-NotLoaded.field-0-is at c.in-Err-NotLoaded.ensures.stays) (rw c.in-Err-NotLoaded.field-0-is at c.in-Err-NotLoaded.ensures.turns) c.in_ok-pause-in-Err-NotLoaded.ensures
