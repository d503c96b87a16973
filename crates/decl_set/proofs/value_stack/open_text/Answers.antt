use Rattle.std.proofs.Common.{◌≡◌, ◌+◌, ◌∙◌, refl}
use Rattle.decl_set.specs.ValueFrames.{left_of, size_of}
use Rattle.decl_set.specs.declared.value_stack.Frame.{Frame}
use Rattle.decl_set.proofs.ValueWorks.{refused_left, opens_left, opens_size}
use Rattle.decl_set.proofs.value_stack.open_text.Goals as goal

pub returns-in-Err : goal.returns-in-Err
unfolding left_of
returns-in-Err c =
    let w = c.args.work.now in
    refused_left c.args.entities.now.entries c.args.chain.now w.frames.items w.text.now w.at (record { text = w.written; spent = w.spent }) c.args.len c.in-Err.fault c.requires.within.1 c.requires.within.0 c.requires.piece
    (rw c.requires.named at c.requires.other) (rw c.requires.named at c.in-Err.ensures.text)

pub returns-in_ok-push-in-Ok : goal.returns-in_ok-push-in-Ok
unfolding left_of size_of
returns-in_ok-push-in-Ok c =
    let w = c.args.work.now in
    let inner = c.in-Ok.entered.text.now in
    let same : c.as_slice-work.result.now ≡ inner = c.as_slice-work.ensures in
    let frame : Frame = record { name = c.in-Ok.entered.name; text = w.text; at = w.at + c.args.len } in
    rw same (
      opens_left c.args.entities.now.entries c.args.chain.now w.frames.items w.text.now w.at (record { text = w.written; spent = w.spent }) c.args.len inner c.in-Ok.entered.spent frame c.push.new.self.items c.requires.within.1 c.requires.within.0 c.requires.piece
          (rw c.requires.named at c.requires.other) (rw c.requires.named at c.in-Ok.ensures.text) c.in-Ok.ensures.within.2 (c.in-Ok.ensures.name ∙ c.requires.named) refl refl c.in_ok-push-in-Ok.ensures.items,
      opens_size w.frames.items w.text.now w.at c.args.len w.spent c.in-Ok.entered.spent inner frame c.push.new.self.items c.requires.within.1 c.requires.within.0 c.in-Ok.ensures.within.0 c.in-Ok.ensures.within.1 refl refl c.in_ok-push-in-Ok.ensures.items,
    )
