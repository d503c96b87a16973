-- What the opening of a text counts.
use Rattle.std.specs.Prelude.{◌≤◌, ◌<◌, ℕ, ◌+◌, List, [], length}
use Rattle.std.specs.Option.{option_map_or}
use Rattle.module_reader.specs.Moves.{loaded_at}
use Rattle.module_reader.specs.Reading.{Names}
use Rattle.module_reader.specs.declared.state.State.{State}

-- fewer than 32 names are open, and the text of the entity at the number is counted, which is not over
pub record Counts (names : Names) (before : ℕ) (new : State) (number : ℕ) : Type 0 where
  pub room : length names < 32
  pub counted : before + length (option_map_or (λ e. e.1) (loaded_at new.bound number) []) ≤ new.spent
  pub within : new.spent ≤ 67108864
