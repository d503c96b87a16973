-- A board of winners: of any two spots the one that is settled earlier, and so up to the first of all.
use Rattle.std.specs.Prelude.{◌≡◌, ◌≤◌, ◌<◌, ℕ, zero, suc, ◌+◌, ◌*◌, ◌/◌, ◌⊎◌, List, length, Bool, true, false, slice_index, Option, Some, None}
use Rattle.tree_costs.specs.declared.cost.Cost.{Cost}
use Rattle.tree_costs.specs.declared.cost.Cost.TheVariants.{Inf}
use Rattle.tree_costs.specs.Costs.{AtMost}
use Rattle.least_trees.specs.Rules.{at, is_done}

-- a is settled no later than b: b is settled, or a is not and costs no more
abbrev pub IsAhead : List Bool → List Cost → ℕ → ℕ → Type 0
IsAhead done costs a b = (is_done done b ≡ true) ⊎ ((is_done done a ≡ false) × AtMost (at costs a) (at costs b))

-- the winner is one of the two, and ahead of both
pub record Wins (done : List Bool) (costs : List Cost) (a b winner : ℕ) : Type 0 where
  pub one : (winner ≡ a) ⊎ (winner ≡ b)
  pub left : IsAhead done costs winner a
  pub right : IsAhead done costs winner b

-- one place is filled from the two below it
pub record Plays (done : List Bool) (costs : List Cost) (old : List ℕ) (j : ℕ) (new : List ℕ) : Type 0 where
  pub size : length new ≡ length old
  pub wins : Wins done costs (slice_index old (2 * j)) (slice_index old (2 * j + 1)) (slice_index new j)
  pub others : (k : ℕ) → (k ≡ j → ⊥) → slice_index new k ≡ slice_index old k

-- a board of n spots that says nothing yet of who wins
pub record IsBlank (n : ℕ) (winners : List ℕ) : Type 0 where
  pub size : length winners ≡ n + n
  pub spots : (y : ℕ) → y < n → slice_index winners (n + y) ≡ y
  pub within : (j : ℕ) → 1 ≤ j → j < n + n → slice_index winners j < n

-- halved so often: the places above a place, 1 the uppermost
abbrev pub halved : ℕ → ℕ → ℕ
halved zero l = l
halved (suc s) l = halved s l / 2

abbrev pub IsAbove : ℕ → ℕ → Type 0
IsAbove j l = (s : ℕ) × (j ≡ halved s l)

-- the places from n on hold the spots; each place below n where the test holds has the winner of the two below it
pub record IsBoard (n : ℕ) (sound : ℕ → Type 0) (done : List Bool) (costs : List Cost) (winners : List ℕ) : Type 0 where
  pub size : length winners ≡ n + n
  pub spots : (y : ℕ) → y < n → slice_index winners (n + y) ≡ y
  pub within : (j : ℕ) → 1 ≤ j → j < n + n → slice_index winners j < n
  pub wins : (j : ℕ) → 1 ≤ j → j < n → sound j → Wins done costs (slice_index winners (2 * j)) (slice_index winners (2 * j + 1)) (slice_index winners j)

-- all places have
abbrev pub IsWhole : List Bool → List Cost → List ℕ → Type 0
IsWhole done costs winners = IsBoard (length done) (λ j. Unit {0}) done costs winners

-- the places from k on have
abbrev pub IsWholeFrom : ℕ → List Bool → List Cost → List ℕ → Type 0
IsWholeFrom k done costs winners = IsBoard (length done) (λ j. k ≤ j) done costs winners

-- all have but those above a place l that are above k
abbrev pub IsWholeBut : ℕ → ℕ → List Bool → List Cost → List ℕ → Type 0
IsWholeBut l k done costs winners = IsBoard (length done) (λ j. IsAbove j l → k ≤ j) done costs winners

-- the spot that is next: not settled, of a finite cost, and no other that is not settled costs less; none where all others are Inf
abbrev pub IsNext : List Bool → List Cost → Option ℕ → Type 0
IsNext done costs None = (y : ℕ) → is_done done y ≡ false → at costs y ≡ Inf
IsNext done costs (Some x) =
    (x < length done) × (is_done done x ≡ false) × ((y : ℕ) → is_done done y ≡ false → AtMost (at costs x) (at costs y))
