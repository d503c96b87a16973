use Rattle.std.proofs.Common.{◌∙◌, Ok, ap, sym, refl, arith}
use Rattle.article_tree.specs.Held.{state_of}
use Rattle.article_tree.specs.Outcomes.{standing_of}
use Rattle.article_tree.proofs.Valued.{not_true, not_false}
use Rattle.article_tree.proofs.Tagged.{refuses_fails, none_ends, other_name, same_name}
use Rattle.article_tree.proofs.elements.end_element.Goals as goal

pub returns-then-len-base : goal.returns-then-len-base
returns-then-len-base c =
    let h = c.args.held.now in
    refuses_fails c.malformed.result _ _ c.malformed.ensures (none_ends c.args.base (standing_of c.args.stand.now) c.args.at (state_of h) c.args.name.now h.opens.items refl (let a = h.opens.ok.0 in omega (arith, a, c.len.ensures, c.if-len-base.true)))

pub returns-then-ne : goal.returns-then-ne
returns-then-ne c =
    let h = c.args.held.now in
    let is = rw c.deref.ensures.value at c.in-Some.ensures.value in
    let differs = rw (c.as_slice.ensures, c.text.ensures.value) at c.ne.ensures in
    refuses_fails c.refused_names.result _ _ (rw (c.as_slice-then-ne.ensures, c.text-then-ne.ensures.value) at c.refused_names.ensures)
    (other_name c.args.base (standing_of c.args.stand.now) c.args.at (state_of h) c.args.name.now h.opens.items refl c.in-Some.open.now (let a = h.opens.ok.0 in omega (arith, a, c.len.ensures, c.if-len-base.false)) (sym is) (not_false _ _ differs c.if-ne.true))

pub returns-in_ok-close_element-in-Some : goal.returns-in_ok-close_element-in-Some
returns-in_ok-close_element-in-Some c =
    let h = c.args.held.now in
    let is = rw c.deref.ensures.value at c.in-Some.ensures.value in
    let differs = rw (c.as_slice.ensures, c.text.ensures.value) at c.ne.ensures in
    let t = same_name c.args.base (standing_of c.args.stand.now) c.args.at (state_of h) c.args.name.now h.opens.items refl c.in-Some.open.now (let a = h.opens.ok.0 in omega (arith, a, c.len.ensures, c.if-len-base.false)) (sym is) (not_true _ _ differs c.if-ne.false) in
    (t.2 ∙ ap Ok (sym (c.in_ok-close_element-in-Some.ensures.state _ t.0 t.1)), c.in_ok-close_element-in-Some.ensures.apart)
