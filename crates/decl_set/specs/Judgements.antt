-- What comes of judging a content.
use Rattle.std.specs.Prelude.{◌≡◌, ℕ, Result, Ok, Err}
use Rattle.content_models.specs.declared.content.Content.{Content}
use Rattle.position_automata.specs.Automata.{IsDeterministic}
use Rattle.position_automata.specs.Judged.{judged}
use Rattle.position_automata.specs.declared.fault.BuildFault.{BuildFault}
use Rattle.position_automata.specs.declared.fault.BuildFault.TheVariants.{Ambiguous, NoMemory}

-- the automaton with its follows, or the two positions for which there is none
abbrev pub IsJudgement : Content → Result (Content × ℕ) BuildFault → Type 0
IsJudgement content (Ok a) = (a.0 ≡ content) × IsDeterministic content × (judged content ≡ Ok a.1)
IsJudgement content (Err (Ambiguous p q)) = judged content ≡ Err (p, q)
IsJudgement content (Err NoMemory) = Unit {0}
