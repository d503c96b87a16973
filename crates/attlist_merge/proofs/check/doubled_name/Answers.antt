use Rattle.std.proofs.Common.{◌∙◌, Some, refl, sym, ap}
use Rattle.attlist_merge.proofs.Seen.{again_found, again_next}
use Rattle.attlist_merge.proofs.check.doubled_name.Goals as goal

pub returns-then-contains : goal.returns-then-contains
returns-then-contains c =
    ap Some (c.in_ok-copy.ensures ∙ c.text.ensures.value)
    ∙ again_found c.args.names.now c.loop-name.name-index c.name-item.result c.loop-name.seen.keys c.loop-name-test.true c.name-item.is c.loop-name.invariant (sym c.contains.ensures ∙ c.if-contains.true)

pub loop-name-preserved : goal.loop-name-preserved
loop-name-preserved c =
    again_next c.args.names.now c.loop-name.name-index c.name-item.result c.loop-name.seen.keys c.loop-name-test.true c.name-item.is c.loop-name.invariant _ c.insert.new.self.keys refl
    (sym c.contains.ensures ∙ c.if-contains.false) c.in_ok-insert.ensures.keys
