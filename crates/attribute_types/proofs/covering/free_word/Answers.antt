use Rattle.std.proofs.Common.{◌≡◌, ◌∙◌, ◌-◌, ◌+◌, List, ℕ, length, sym, ap, suc, arith}
use Rattle.attribute_types.specs.Table.{free_from}
use Rattle.attribute_types.proofs.Free.{free_from_end, free_from_here, free_from_next}
use Rattle.attribute_types.proofs.covering.free_word.Goals as goal

pub returns-then-not-is_among : goal.returns-then-not-is_among
returns-then-not-is_among c =
    sym (free_from_here (length c.args.tokens.now - c.loop.counter) c.loop.word c.args.tokens.now (sym c.is_among.ensures ∙ c.if-not-is_among.true)) ∙ c.loop.invariant

pub returns : goal.returns
returns c = sym (free_from_end (length c.args.tokens.now - c.loop.counter) c.loop.word c.args.tokens.now (omega arith)) ∙ c.loop.invariant

pub loop-preserved : goal.loop-preserved
loop-preserved c =
    let next : length c.args.tokens.now - c.loop.counter ≡ suc (length c.args.tokens.now - (c.loop.counter + 1)) = omega arith in
    ap (λ (w : List ℕ). free_from (length c.args.tokens.now - (c.loop.counter + 1)) w c.args.tokens.now) c.in_ok-push.ensures.ok
    ∙ (sym (free_from_next (length c.args.tokens.now - c.loop.counter) (length c.args.tokens.now - (c.loop.counter + 1)) c.loop.word c.args.tokens.now next (sym c.is_among.ensures ∙ c.if-not-is_among.false)) ∙ c.loop.invariant)
