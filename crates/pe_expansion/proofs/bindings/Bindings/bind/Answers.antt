use Rattle.std.proofs.Common.{rules, ◌≡◌, ◌∙◌, None, bytes_eq}
use Rattle.std.specs.Map.{lookup}
use Rattle.indexmap.proofs.CallerLemmas.{insert_entry-new}
use Rattle.pe_expansion.proofs.bindings.Bindings.bind.Goals as goal

pub returns-in-Ok : goal.returns-in-Ok
returns-in-Ok c =
    let none : lookup (bytes_eq c.args.name) c.self.inside.entries.entries ≡ None = search rules in (
      rw (← c.self.view_is) none,
      rw (← c.self.view_is) (c.in-Ok.ensures.entries ∙ insert_entry-new bytes_eq c.self.inside.entries c.args.name c.args.text none),
    )
