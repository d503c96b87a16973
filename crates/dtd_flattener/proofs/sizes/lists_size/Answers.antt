use Rattle.std.proofs.Common.{sym, map}
use Rattle.std.specs.List.{concat}
use Rattle.dtd_scanner.specs.declared.item.ItemKind.TheVariants.{AttlistDecl}
use Rattle.dtd_flattener.specs.Flat.{attribute_body, written}
use Rattle.dtd_flattener.proofs.Sized.{size_zero, sizes_more, sizes_end}
use Rattle.dtd_flattener.proofs.sizes.lists_size.Goals as goal

pub loop-at-preserved : goal.loop-at-preserved
loop-at-preserved c =
    sizes_more (λ a. concat (map (λ e. written (AttlistDecl, attribute_body a.0 e)) a.1)) c.args.set.now.lists c.loop-at.at (c.in-Some.element.now, c.in-Some.list.now) c.loop-at.total c.in_ok-more-in-Some.more c.saturating_add-total.result
    (sym c.in-Some.ensures) c.loop-at.invariant c.in_ok-more-in-Some.ensures c.saturating_add-total.ensures

pub loop-at-init : goal.loop-at-init
loop-at-init c = size_zero

pub returns-in-None : goal.returns-in-None
returns-in-None c = sizes_end (λ a. concat (map (λ e. written (AttlistDecl, attribute_body a.0 e)) a.1)) c.args.set.now.lists c.loop-at.at c.loop-at.total (sym c.in-None.ensures) c.loop-at.invariant
