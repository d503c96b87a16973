use Rattle.std.proofs.Common.{◌∙◌, ap}
use Rattle.dtd_scanner.specs.Scanning.{name_len}
use Rattle.dtd_scanner.proofs.ReferenceNames.{reference_name}
use Rattle.dtd_scanner.proofs.references.reference_len.Goals as goal

pub returns-then-starts_with-clause-name : goal.returns-then-starts_with-clause-name
returns-then-starts_with-clause-name c = reference_name c.args.text.now c.name_len-length.result (c.name_len-length.ensures.value ∙ ap name_len c.split_at.ensures.back) c.if-length-gt0.true
