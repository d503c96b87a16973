-- flatten: the flat text of a set, in UTF-8.
use Rattle.std.specs.Prelude.{encode_utf8_all}
use Rattle.dtd_flattener.specs.Flat.{flat_text}
use Rattle.module_reader.specs.Sources.{Files}
use Rattle.tagset_tool.specs.Outcomes.{Outcome, after, fitting}
use Rattle.tagset_tool.specs.Words.{SetWords, set_by}

abbrev pub flattens : Files → SetWords → Outcome
flattens files words = after (set_by files words) (λ set. fitting 0 (encode_utf8_all (flat_text set)))
