use Rattle.std.proofs.Common.{◌∙◌, sym}
use Rattle.attlist_merge.specs.Lists.{Entry}
use Rattle.attlist_merge.proofs.Copies.{take_past, new_copy, copied}
use Rattle.attlist_merge.proofs.list.AttList.put_copy.Goals as goal

pub put-requires : goal.put-requires
put-requires c =
    let e : Entry = (c.in-Some.name.now, c.in-Some.definition.now) in
    new_copy c.args.self.now c.args.atts.now.entries c.args.at e c.in_ok-copy-in-Some.field-0 c.requires.distinct c.requires.before (sym c.in-Some.ensures.value) c.in_ok-copy-in-Some.ensures

pub returns-in-None : goal.returns-in-None
returns-in-None c = c.requires.before ∙ take_past c.args.self.now c.args.at (sym c.in-None.ensures.value)

pub returns-in_ok-copy-in-Some-2 : goal.returns-in_ok-copy-in-Some-2
returns-in_ok-copy-in-Some-2 c =
    let e : Entry = (c.in-Some.name.now, c.in-Some.definition.now) in
    let f : Entry = (c.in_ok-copy-in-Some.field-0, c.in_ok-copy-in-Some-2.field-0) in
    copied c.args.self.now c.args.atts.now.entries c.put.new.atts.entries c.args.at e f c.put.result c.requires.before (sym c.in-Some.ensures.value) c.in_ok-copy-in-Some.ensures c.in_ok-copy-in-Some-2.ensures c.put.ensures.ok
