use Rattle.std.proofs.Common.{◌≡◌, ◌+◌, ◌++◌, drop}
use Rattle.std.specs.Option.{option_copied}
use Rattle.separating_article.specs.Openings.{values_by}
use Rattle.separating_article.specs.Sizes.{atts_size}
use Rattle.separating_article.proofs.required.put_each.Given as goal

abbrev pub invariant-loop-at : goal.invariant-loop-at
invariant-loop-at l = record {
  put : l.atts ++ values_by (option_copied l.odd) (drop l.at l.list) ≡ l.initial.atts ++ values_by (option_copied l.odd) l.list;
  spent : l.room + atts_size (values_by (option_copied l.odd) (drop l.at l.list)) ≡ l.left + atts_size (values_by (option_copied l.odd) l.list);
}
