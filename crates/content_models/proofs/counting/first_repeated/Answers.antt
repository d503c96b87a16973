use Rattle.std.proofs.Common.{ap, sym, ◌∙◌, Some, refl}
use Rattle.content_models.proofs.Repeats.{repeat_found, repeat_next, seen_next}
use Rattle.content_models.proofs.counting.first_repeated.Goals as goal

pub returns-then-not-branch : goal.returns-then-not-branch
returns-then-not-branch c =
    ap Some c.in_ok-copy.ensures
    ∙ sym (repeat_found c.args.names.now c.loop-name.name-index c.name-item.result c.loop-name.seen.keys c.in_ok-insert.field-0 c.loop-name-test.true c.name-item.is c.loop-name.invariant.seen c.in_ok-insert.ensures.added c.if-not-branch.true)
    ∙ c.loop-name.invariant.rest

pub loop-name-preserved : goal.loop-name-preserved
loop-name-preserved c = record {
  seen = seen_next c.args.names.now c.loop-name.name-index c.name-item.result c.loop-name.seen.keys c.in_ok-insert.field-0 c.loop-name-test.true c.name-item.is c.loop-name.invariant.seen c.in_ok-insert.ensures.added
      _ c.insert.new.self.keys refl c.in_ok-insert.ensures.keys c.if-not-branch.false;
  rest = sym (repeat_next c.args.names.now c.loop-name.name-index c.name-item.result c.loop-name.seen.keys c.in_ok-insert.field-0 c.loop-name-test.true c.name-item.is c.loop-name.invariant.seen c.in_ok-insert.ensures.added c.if-not-branch.false)
      ∙ c.loop-name.invariant.rest;
}
