-- Whether a content is deterministic, and how many steps it has, as a function (XML 1.0, 3.2.1 and Appendix E).
use Rattle.std.specs.Prelude.{ℕ, ◌+◌, ◌-◌, List, [], ◌∷◌, Option, None, Some, Result, Ok, Err, length, find, nat_eq, bytes_eq, slice_index_or}
use Rattle.std.specs.List.{filter, list_any, range_with_len, sum_by}
use Rattle.std.specs.Option.{option_map, option_or}
use Rattle.content_models.specs.declared.content.Content.{Content}
use Rattle.content_models.specs.declared.content.Content.TheVariants.{Empty, Any, Mixed, Children}
use Rattle.content_models.specs.Model.{Chars, model}
use Rattle.content_models.specs.Re.{Re}
use Rattle.position_automata.specs.Automata.{IsDeterministic, IsAmbiguous, IsFollows}
use Rattle.position_automata.specs.Marked.{count}
use Rattle.position_automata.specs.Places.{letters, pairs}
use Rattle.position_automata.specs.Rows.{targets}

-- the states of a model, in order
abbrev pub states_of : Re Chars → List ℕ
states_of r = range_with_len 0 (1 + count r)

-- the name at a position, counted from 1
abbrev pub name_at : List Chars → ℕ → Chars
name_at names p = slice_index_or names (p - 1) []

-- the positions that may come next from state i, in order and each once
abbrev pub positions_after : Re Chars → ℕ → List ℕ
positions_after r i = filter (λ j. list_any (nat_eq j) (targets i (pairs r))) (range_with_len 1 (count r))

-- the first of these positions that has the name of a later one, with the first such later one
abbrev pub shared : List Chars → List ℕ → Option (ℕ × ℕ)
shared names [] = None
shared names (p ∷ ps) =
    option_or (option_map {U = ℕ × ℕ} (λ q. (p, q)) (find (λ q. bytes_eq (name_at names p) (name_at names q)) ps)) (shared names ps)

-- the two positions of one name that may come next from state i
abbrev pub clash_of : Re Chars → ℕ → Option (ℕ × ℕ)
clash_of r i = shared (letters r) (positions_after r i)

-- the clash of the first of these states that has one
abbrev pub first_clash : Re Chars → List ℕ → Option (ℕ × ℕ)
first_clash r [] = None
first_clash r (i ∷ is) = option_or (clash_of r i) (first_clash r is)

-- how many steps the states of a model have together
abbrev pub follows_in_model : Re Chars → ℕ
follows_in_model r = sum_by (λ i. length (positions_after r i)) (states_of r)

-- the clash, or the number of steps where there is none
abbrev pub verdict : ℕ → Option (ℕ × ℕ) → Result ℕ (ℕ × ℕ)
verdict n None = Ok n
verdict n (Some clash) = Err clash

-- the same of a model: its first clash, or its number of steps
abbrev pub judged_model : Re Chars → Result ℕ (ℕ × ℕ)
judged_model r = verdict (follows_in_model r) (first_clash r (states_of r))

-- how many steps the states of a deterministic content have together; the two positions for which another is not deterministic
unfoldable pub judged : Content → Result ℕ (ℕ × ℕ)
judged Empty = Ok 0
judged Any = Ok 0
judged (Mixed names) = Ok (length names)
judged (Children part) = judged_model (model part)

-- the content is deterministic and has this many steps, or it is not, for these two positions
abbrev pub Judges : Content → Result ℕ (ℕ × ℕ) → Type 0
Judges content (Ok n) = IsDeterministic content × IsFollows content n
Judges content (Err clash) = IsAmbiguous content clash.0 clash.1
