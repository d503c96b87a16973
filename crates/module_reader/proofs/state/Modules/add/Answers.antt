use Rattle.std.proofs.Common.{◌≡◌, ◌∙◌, None, bytes_eq}
use Rattle.std.specs.Map.{lookup}
use Rattle.indexmap.proofs.CallerLemmas.{insert_entry-new}
use Rattle.module_reader.proofs.state.Modules.add.Goals as goal

pub returns : goal.returns
returns c =
    let none : lookup (bytes_eq c.args.name) c.self.inside.texts.entries ≡ None = rw (← c.self.view_is) at c.requires in
    rw (← c.self.view_is) (c.in_ok-insert.ensures.entries ∙ insert_entry-new bytes_eq c.self.inside.texts c.args.name c.args.text none)
