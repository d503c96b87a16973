-- The keywords of conditional sections (XML 1.0, 3.4).
use Rattle.std.specs.Prelude.{ℕ, List, bytes_eq, codes, if◌then◌else◌}
use Rattle.module_reader.specs.declared.sections.Keyword.{Keyword}
use Rattle.module_reader.specs.declared.sections.Keyword.TheVariants.{Include, Ignore, Other}

abbrev pub keyword_of : List ℕ → Keyword
keyword_of word = if bytes_eq word (codes "INCLUDE") then Include else if bytes_eq word (codes "IGNORE") then Ignore else Other
