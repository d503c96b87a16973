use Rattle.std.proofs.Common.{sym}
use Rattle.dtd_scanner.specs.declared.item.ItemKind.TheVariants.{AttlistDecl}
use Rattle.dtd_flattener.specs.Flat.{attribute_body, written}
use Rattle.dtd_flattener.proofs.Sized.{size_zero, sizes_more, sizes_end}
use Rattle.dtd_flattener.proofs.sizes.attributes_size.Goals as goal

pub loop-at-preserved : goal.loop-at-preserved
loop-at-preserved c =
    sizes_more (λ e. written (AttlistDecl, attribute_body c.args.element.now e)) c.args.list.now c.loop-at.at (c.in-Some.name.now, c.in-Some.definition.now) c.loop-at.total c.in_ok-more-in-Some.more c.saturating_add-total.result
    (sym c.in-Some.ensures.value) c.loop-at.invariant c.in_ok-more-in-Some.ensures c.saturating_add-total.ensures

pub loop-at-init : goal.loop-at-init
loop-at-init c = size_zero

pub returns-in-None : goal.returns-in-None
returns-in-None c = sizes_end (λ e. written (AttlistDecl, attribute_body c.args.element.now e)) c.args.list.now c.loop-at.at c.loop-at.total (sym c.in-None.ensures.value) c.loop-at.invariant
