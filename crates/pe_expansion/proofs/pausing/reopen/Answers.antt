use Rattle.std.proofs.Common.{sym, refl, ◌+◌}
use Rattle.pe_expansion.specs.declared.stack.Frame.{Frame}
use Rattle.pe_expansion.proofs.Numbering.{numbered_push}
use Rattle.pe_expansion.proofs.pausing.reopen.Goals as goal

pub returns-clause-numbers : goal.returns-clause-numbers
returns-clause-numbers c = λ outer numbered.
    let w = c.args.work.now in
    let p = c.args.place in
    let frame : Frame = record { number = p.number; name = c.in-Some.name; text = w.text; at = p.at; start = p.start; broken = p.broken } in
    rw c.in_ok-push.ensures.items (numbered_push c.args.bound.now outer w.text.now c.in-Some.text.now w.frames.items frame refl (sym c.in-Some.ensures) numbered)
