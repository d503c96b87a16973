use Rattle.std.specs.Option.{option_copied}
use Rattle.tagset_tool.proofs.Asked.{told_read}
use Rattle.tagset_tool.proofs.words.read_named.Goals as goal

pub returns-clause-told : goal.returns-clause-told
returns-clause-told g c =
    told_read (g.S.Store.holds c.args.store.now) _ (option_copied c.args.catalog) c.args.entry.now c.in-Ok.catalog c.read_set.result c.in-Ok.ensures.keeps c.in-Ok.ensures.told c.read_set.ensures.told
