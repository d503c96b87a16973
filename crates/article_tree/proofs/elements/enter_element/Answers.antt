use Rattle.std.proofs.Common.{◌∙◌, Ok, ap, sym, arith}
use Rattle.article_tree.proofs.Tagged.{refuses_fails, few_open, many_open}
use Rattle.article_tree.proofs.elements.enter_element.Goals as goal

pub returns-then-len-ge-OPEN_ELEMENTS : goal.returns-then-len-ge-OPEN_ELEMENTS
returns-then-len-ge-OPEN_ELEMENTS c = λ raws. refuses_fails c.refused_name.result _ _ (rw (c.as_slice.ensures, c.text.ensures.value) at c.refused_name.ensures) (many_open c.args.held.now.opens.items _ _ (let a = c.args.held.now.opens.ok.0 in omega (arith, a, c.len.ensures, c.if-len-ge-OPEN_ELEMENTS.true)))

pub returns : goal.returns
returns c = λ raws. (few_open c.args.held.now.opens.items _ _ (let a = c.args.held.now.opens.ok.0 in omega (arith, a, c.len.ensures, c.if-len-ge-OPEN_ELEMENTS.false)) ∙ ap Ok (sym c.in_ok-put_element.ensures.state), c.in_ok-put_element.ensures.apart)
