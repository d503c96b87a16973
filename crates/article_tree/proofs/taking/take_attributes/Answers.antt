use Rattle.std.proofs.Common.{◌≡◌, ◌∙◌, ◌++◌, ◌∷◌, [], map, sym, ap}
use Rattle.std.proofs.lemmas.List.{map-append}
use Rattle.article_tree.specs.Taken.{raw_of}
use Rattle.article_tree.specs.Taking.{take_end}
use Rattle.article_tree.proofs.Taken.{read_end, read_no, read_one, attribute_shortens}
use Rattle.article_tree.proofs.taking.take_attributes.Goals as goal

pub returns-in-Some : goal.returns-in-Some
returns-in-Some c =
    read_end c.args.text.now c.loop-closed.rest.now (map raw_of c.loop-closed.atts.items) (c.in-Some.closed, c.in-Some.rest.now) c.loop-closed.invariant (ap take_end (sym c.skipped.ensures.value) ∙ sym c.in-Some.ensures)

pub returns-in-None-take_attribute : goal.returns-in-None-take_attribute
returns-in-None-take_attribute c =
    read_no c.args.text.now c.loop-closed.rest.now (map raw_of c.loop-closed.atts.items) c.loop-closed.invariant (ap take_end (sym c.skipped.ensures.value) ∙ sym c.in-None.ensures) (sym c.in-None-take_attribute.ensures)

pub loop-closed-smaller : goal.loop-closed-smaller
loop-closed-smaller c = attribute_shortens c.loop-closed.rest.now (raw_of c.in-Some-take_attribute.att, c.in-Some-take_attribute.after.now) (sym c.in-Some-take_attribute.ensures)

pub loop-closed-preserved : goal.loop-closed-preserved
loop-closed-preserved c =
    let one = read_one c.args.text.now c.loop-closed.rest.now (map raw_of c.loop-closed.atts.items) (raw_of c.in-Some-take_attribute.att, c.in-Some-take_attribute.after.now) c.loop-closed.invariant (ap take_end (sym c.skipped.ensures.value) ∙ sym c.in-None.ensures) (sym c.in-Some-take_attribute.ensures) in
    let same : map raw_of c.push.new.self.items ≡ map raw_of c.loop-closed.atts.items ++ raw_of c.in-Some-take_attribute.att ∷ [] = ap (map raw_of) c.in_ok-push-in-Some-take_attribute.ensures.items ∙ map-append raw_of c.loop-closed.atts.items (c.in-Some-take_attribute.att ∷ []) in
    rw same one
