use Rattle.std.specs.Option.{option_copied}
use Rattle.separating_article.proofs.ShownAtts.{put_next, spent_next, over_at}
use Rattle.separating_article.proofs.required.put_each.Goals as goal

pub returns-in-Err : goal.returns-in-Err
returns-in-Err c =
    over_at (option_copied c.args.odd) c.args.list.now c.loop-at.at c.args.room c.loop-at.left c.args.atts.now c.loop-at.atts c.put_chosen_at.new.atts c.in-Err.over c.in-Err.ensures
    c.loop-at.invariant.spent

pub loop-at-preserved : goal.loop-at-preserved
loop-at-preserved c = record {
  put = put_next (option_copied c.args.odd) c.args.list.now c.loop-at.at c.args.atts.now c.loop-at.atts c.put_chosen_at.new.atts c.in-Ok.ensures.0 c.loop-at.invariant.put;
  spent = spent_next (option_copied c.args.odd) c.args.list.now c.loop-at.at c.args.room c.loop-at.left c.in-Ok.rest c.in-Ok.ensures.1 c.loop-at.invariant.spent;
}
