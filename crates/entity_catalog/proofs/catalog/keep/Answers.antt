use Rattle.std.proofs.Common.{refl, arith, ◌≡◌, ◌∙◌, None, bytes_eq}
use Rattle.std.specs.Map.{lookup}
use Rattle.std.proofs.lemmas.Grind.{common_steps}
use Rattle.indexmap.proofs.CallerLemmas.{insert_entry-new}
use Rattle.entity_catalog.proofs.catalog.keep.Goals as goal

pub returns : goal.returns
returns c =
    let none : lookup (bytes_eq c.args.identifier) c.args.files.now.entries ≡ None = grind (arith, common_steps) in
    c.in_ok-insert.ensures.entries ∙ insert_entry-new bytes_eq c.args.files.now c.args.identifier c.args.file none ∙ rw none refl
