use Rattle.std.proofs.Common.{◌≡◌, ◌+◌, ◌∙◌, Err, refl}
use Rattle.pe_expansion.specs.Frames.{left_of, size_of}
use Rattle.pe_expansion.specs.Nesting.{Judges}
use Rattle.pe_expansion.specs.declared.stack.Frame.{Frame}
use Rattle.pe_expansion.proofs.Judging.{opens_judged}
use Rattle.pe_expansion.proofs.KeptTexts.{opening_stays}
use Rattle.pe_expansion.proofs.Numbering.{numbered_push, stays_same}
use Rattle.pe_expansion.proofs.Works.{refused_left, opens_left, opens_size}
use Rattle.pe_expansion.proofs.stack.open_text.Goals as goal

pub returns-in-Err-clause-steps : goal.returns-in-Err-clause-steps
unfolding left_of
returns-in-Err-clause-steps c =
    let w = c.args.work.now in
    refused_left c.args.manner c.args.bound.now c.args.chain.now w.frames.items w.text.now w.at (record { text = w.written; spent = w.spent }) c.args.len c.in-Err.fault c.requires.within.1 c.requires.within.0 c.requires.piece
    (rw c.name_at.ensures at c.in-Err.ensures.text)

pub returns-in_ok-push-in-Ok-clause-steps : goal.returns-in_ok-push-in-Ok-clause-steps
unfolding left_of size_of
returns-in_ok-push-in-Ok-clause-steps c = λ later keeps.
    let w = c.args.work.now in
    let inner = c.in-Ok.entered.text.now in
    let same : c.as_slice-work.result.now ≡ inner = c.as_slice-work.ensures in
    let frame : Frame = record { number = c.in-Ok.entered.number; name = c.in-Ok.entered.name; text = w.text; at = w.at + c.args.len; start = c.len.result; broken = w.broken } in
    rw same (
      opens_left c.args.manner later c.args.chain.now w.frames.items w.text.now w.at (record { text = w.written; spent = w.spent }) c.args.len inner c.in-Ok.entered.spent frame c.push.new.self.items c.pad.new.written c.requires.within.1 c.requires.within.0 c.requires.piece
          (opening_stays c.args.bound.now later _ w.spent _ _ keeps (rw c.name_at.ensures at c.in-Ok.ensures.text)) c.in-Ok.ensures.within.2 (c.in-Ok.ensures.name ∙ c.name_at.ensures) refl refl c.len.ensures c.in_ok-push-in-Ok.ensures.items c.in_ok-pad-in-Ok.ensures,
      opens_size w.frames.items w.text.now w.at c.args.len w.spent c.in-Ok.entered.spent inner frame c.push.new.self.items c.requires.within.1 c.requires.within.0 c.in-Ok.ensures.within.0 c.in-Ok.ensures.within.1 refl refl c.in_ok-push-in-Ok.ensures.items,
    )

pub returns-in_ok-push-in-Ok-clause-judges : goal.returns-in_ok-push-in-Ok-clause-judges
unfolding Judges
returns-in_ok-push-in-Ok-clause-judges c =
    let w = c.args.work.now in
    let frame : Frame = record { number = c.in-Ok.entered.number; name = c.in-Ok.entered.name; text = w.text; at = w.at + c.args.len; start = c.len.result; broken = w.broken } in
    opens_judged c.args.manner w.broken w.frames.items w.text.now w.at w.written c.args.len _ frame c.push.new.self.items c.pad.new.written c.requires.within.1 c.requires.within.0 c.len.ensures refl c.in_ok-push-in-Ok.ensures.items c.in_ok-pad-in-Ok.ensures c.requires.judges

pub returns-in_ok-push-in-Ok-clause-numbers : goal.returns-in_ok-push-in-Ok-clause-numbers
returns-in_ok-push-in-Ok-clause-numbers c = λ outer numbered.
    let w = c.args.work.now in
    let inner = c.in-Ok.entered.text.now in
    let same : c.as_slice-work.result.now ≡ inner = c.as_slice-work.ensures in
    let frame : Frame = record { number = c.in-Ok.entered.number; name = c.in-Ok.entered.name; text = w.text; at = w.at + c.args.len; start = c.len.result; broken = w.broken } in
    rw (c.in_ok-push-in-Ok.ensures.items, same) (numbered_push c.args.bound.now outer w.text.now inner w.frames.items frame refl c.in-Ok.ensures.entry numbered)

pub returns-in-Err-clause-stays : goal.returns-in-Err-clause-stays
returns-in-Err-clause-stays c = stays_same {X = Unit {0}} c.args.work.now (Err c.in-Err.fault)
