-- What a content derives leads from its start to acceptance.
use Rattle.std.proofs.Common.{List}
use Rattle.content_models.specs.declared.content.Content.{Content}
use Rattle.content_models.specs.Model.{Chars, Derives}
use Rattle.position_automata.specs.Runs.{Runs}
use Rattle.position_automata.proofs.States.{derives_by_runs}

pub runs-of : (content : Content) (names : List Chars) → Derives content names → Runs content 0 names
runs-of content names d = (derives_by_runs content names).0 d

pub derives-of : (content : Content) (names : List Chars) → Runs content 0 names → Derives content names
derives-of content names r = (derives_by_runs content names).1 r
