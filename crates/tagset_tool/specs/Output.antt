-- What the program writes, and its status.
use Rattle.std.specs.Prelude.{ℕ, List, [], ◌∷◌, ◌++◌, Option, Some, None, codes}
use Rattle.module_reader.specs.Sources.{Files}
use Rattle.tagset_tool.specs.Outcomes.{Outcome, answering}
use Rattle.tagset_tool.specs.Words.{Asked, check, flatten, validate, fill, compare, report, least, verify, work, asked}
use Rattle.tagset_tool.specs.commands.Check.{checks}
use Rattle.tagset_tool.specs.commands.Compare.{compares}
use Rattle.tagset_tool.specs.commands.Fill.{fills}
use Rattle.tagset_tool.specs.commands.Flatten.{flattens}
use Rattle.tagset_tool.specs.commands.Least.{leasts}
use Rattle.tagset_tool.specs.commands.Report.{reports}
use Rattle.tagset_tool.specs.commands.Validate.{validates}
use Rattle.tagset_tool.specs.commands.Verify.{verifies}
use Rattle.tagset_tool.specs.commands.Work.{work_lines}

-- the line for words of no form
abbrev pub usage_line : List ℕ
usage_line = codes "usage" ++ 10 ∷ []

abbrev pub outcome_of : Option Asked → Files → Outcome
outcome_of None files = answering 3 usage_line
outcome_of (Some (check words)) files = checks files words
outcome_of (Some (flatten words)) files = flattens files words
outcome_of (Some (validate words root article)) files = validates files words root article
outcome_of (Some (fill words article)) files = fills files words article
outcome_of (Some (compare first second root cap)) files = compares files first second root cap
outcome_of (Some (report first second root)) files = reports files first second root
outcome_of (Some (least words root cap)) files = leasts files words root cap
outcome_of (Some (verify certificate first second)) files = verifies files certificate first second
outcome_of (Some (work count)) files = answering 0 (work_lines count)

-- this status and these bytes are the output for these words, over these files
abbrev pub IsOutput : List (List ℕ) → Files → Outcome
IsOutput words files = outcome_of (asked words) files
