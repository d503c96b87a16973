use Rattle.module_reader.specs.Frames.{Turns}
use Rattle.module_reader.proofs.Told.{told_always}
use Rattle.module_reader.proofs.machine.turn.Goals as goal

pub returns-else-work-len-clause-told : goal.returns-else-work-len-clause-told
returns-else-work-len-clause-told g c =
    told_always (g.S.Store.holds c.args.store.now) (λ files. Turns (record { files = files; catalog = c.args.catalog.now }) c.args.work.now c.finish_text.new.work c.finish_text.result)
    (λ files. c.finish_text.ensures.turns (record { files = files; catalog = c.args.catalog.now }))
