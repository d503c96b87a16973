-- check: how much a set declares.
use Rattle.module_reader.specs.Sources.{Files}
use Rattle.tagset_tool.specs.Counts.{count_lines}
use Rattle.tagset_tool.specs.Outcomes.{Outcome, after, answering}
use Rattle.tagset_tool.specs.Words.{SetWords, set_by}

abbrev pub checks : Files → SetWords → Outcome
checks files words = after (set_by files words) (λ set. answering 0 (count_lines set))
