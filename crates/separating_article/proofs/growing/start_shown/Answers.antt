use Rattle.std.proofs.Common.{◌∙◌, [], Ok, ap, subst}
use Rattle.std.specs.Prelude.{unwrap_or}
use Rattle.std.specs.Option.{option_copied}
use Rattle.separating_article.specs.Growing.{PutsAtts}
use Rattle.separating_article.specs.Openings.{att_of, values_by}
use Rattle.separating_article.proofs.Starting.{all_put}
use Rattle.separating_article.proofs.growing.start_shown.Goals as goal

pub returns : goal.returns
returns c =
    let guide = c.args.guide.now in
    let chosen = c.args.chosen in
    let values = ap (λ o. values_by o (unwrap_or (option_copied c.atts_of-list.result) [])) c.att_of.ensures ∙ ap (λ l. values_by (att_of (option_copied c.args.odd)) (unwrap_or l [])) c.atts_of-list.ensures in
    all_put guide chosen.name.now chosen.way chosen.place chosen.step (option_copied c.args.odd) c.plain_front-front.result c.requires.odd c.plain_front-front.ensures c.args.left c.in-Some.left
    c.in-Ok.left c.new-atts.result c.put_all.new.atts c.in_ok-node.node c.new-atts.ensures c.in-Some.ensures
    (subst (λ v. PutsAtts c.new-atts.result c.put_all.new.atts c.in-Some.left v (Ok c.in-Ok.left)) values c.in-Ok.ensures) c.in_ok-node.ensures
