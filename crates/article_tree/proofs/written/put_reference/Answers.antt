use Rattle.article_tree.proofs.Appended.{shown, nine, ten, thirteen, thirty_two}
use Rattle.article_tree.proofs.written.put_reference.Goals as goal

pub returns-then-c-eq9 : goal.returns-then-c-eq9
returns-then-c-eq9 c = shown c.push_slice.result c.push_slice.new.self c.args.out.now _ _ c.push_slice.ensures.ok (nine c.args.c c.if-c-eq9.true)

pub returns-then-c-eq10 : goal.returns-then-c-eq10
returns-then-c-eq10 c = shown c.push_slice-then-c-eq10.result c.push_slice-then-c-eq10.new.self c.args.out.now _ _ c.push_slice-then-c-eq10.ensures.ok (ten c.args.c c.if-c-eq10.true)

pub returns-then-c-eq13 : goal.returns-then-c-eq13
returns-then-c-eq13 c = shown c.push_slice-then-c-eq13.result c.push_slice-then-c-eq13.new.self c.args.out.now _ _ c.push_slice-then-c-eq13.ensures.ok (thirteen c.args.c c.if-c-eq13.true)

pub returns-else-c-eq13 : goal.returns-else-c-eq13
returns-else-c-eq13 c =
    shown c.push_slice-else-c-eq13.result c.push_slice-else-c-eq13.new.self c.args.out.now _ _ c.push_slice-else-c-eq13.ensures.ok (thirty_two c.args.c c.requires c.if-c-eq9.false c.if-c-eq10.false c.if-c-eq13.false)
