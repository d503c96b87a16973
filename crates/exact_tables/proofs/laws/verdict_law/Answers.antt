use Rattle.exact_tables.proofs.Verdicts.{documents_told, verdict_told, content_told}
use Rattle.exact_tables.proofs.laws.verdict_law.Goals as goal

pub returns : goal.returns
returns c = record { documents = documents_told; verdict = verdict_told; content = content_told }
