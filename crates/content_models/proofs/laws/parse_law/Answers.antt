use Rattle.content_models.proofs.Exact.{one_content, same_answer, parses_spelled}
use Rattle.content_models.proofs.laws.parse_law.Goals as goal

pub returns : goal.returns
returns c = record { content = one_content; answer = same_answer; spelled = parses_spelled }
