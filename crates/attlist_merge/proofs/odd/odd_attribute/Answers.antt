use Rattle.std.proofs.Common.{IsTrue, is_none, subst}
use Rattle.std.specs.Prelude.{◌↔◌, IfOk}
use Rattle.std.specs.Option.{option_copied}
use Rattle.attlist_merge.specs.Lists.{Definitions}
use Rattle.attlist_merge.specs.Shown.{attributes}
use Rattle.attlist_merge.specs.Values.{CoversList}
use Rattle.attlist_merge.proofs.odd.odd_attribute.Goals as goal

pub returns-clause-none : goal.returns-clause-none
returns-clause-none c =
    subst (λ (first : Definitions). IfOk c.odd_att.result (λ o. IsTrue (is_none o) ↔ CoversList first (attributes (option_copied c.args.second)))) c.or_none.ensures
    (subst (λ (second : Definitions). IfOk c.odd_att.result (λ o. IsTrue (is_none o) ↔ CoversList c.or_none.result.now second)) c.or_none-2.ensures c.odd_att.ensures.none)
