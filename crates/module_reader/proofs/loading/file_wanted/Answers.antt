use Rattle.std.proofs.Common.{◌≡◌, ◌∙◌, Some, sym, ap}
use Rattle.pe_expansion.specs.Bound.{text_bound}
use Rattle.pe_expansion.specs.declared.bindings.PeText.TheVariants.{Outer}
use Rattle.module_reader.proofs.Outer.{names_escapes, names_file}
use Rattle.module_reader.proofs.loading.file_wanted.Goals as goal

pub returns-in-Ok-None-clause-told : goal.returns-in-Ok-None-clause-told
returns-in-Ok-None-clause-told c = λ files.
    names_escapes (record { files = files; catalog = c.args.catalog.now }) c.args.standing.now c.args.at c.args.state.now c.args.name.now c.in-Some-Outer.ids c.in-Some-Outer.base c.in-Some-Outer.field-0-2 (sym c.in-Some-Outer.ensures ∙ ap (λ t. Some t) c.in-Some-Outer.field-0-is) c.escapes.result (rw c.in-Ok-None.field-0-is at c.in-Ok-None.ensures) c.escapes.ensures

pub returns-in-Ok-Some-clause-told : goal.returns-in-Ok-Some-clause-told
returns-in-Ok-Some-clause-told c = λ files.
    names_file (record { files = files; catalog = c.args.catalog.now }) c.args.standing.now c.args.at c.args.state.now c.args.name.now c.in-Some-Outer.ids c.in-Some-Outer.base c.in-Some-Outer.field-0-2 (sym c.in-Some-Outer.ensures ∙ ap (λ t. Some t) c.in-Some-Outer.field-0-is) c.in-Ok-Some.file (rw c.in-Ok-Some.field-0-is at c.in-Ok-Some.ensures)
