use Rattle.separating_article.proofs.Stepped.{leaves}
use Rattle.separating_article.proofs.growing.step.Goals as goal

pub returns-in_ok-leave-in-None : goal.returns-in_ok-leave-in-None
returns-in_ok-leave-in-None c =
    leaves c.args.guide.now c.args.work.now c.leave.new.work c.in_ok-leave-in-None.field-0 c.requires c.in-None.is c.in_ok-leave-in-None.ensures
