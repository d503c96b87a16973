-- Counts that rise where something goes wrong.
use Rattle.std.specs.Prelude.{◌≡◌, ℕ, ◌+◌, ◌-◌, ◌^◌, ◌<◌, ◌≤◌, ◌⊎◌, min}

-- the count once it is raised: one more, or still the last value of a counter
abbrev pub raised : ℕ → ℕ
raised count = min (count + 1) (2 ^ 64 - 1)

-- the count is greater than before, or stands at the last value of a counter
abbrev pub Rose : ℕ → ℕ → Type 0
Rose before now = (before < now) ⊎ (now ≡ 2 ^ 64 - 1)

-- the count is raised where this happened, and else it is as it was
pub record Counts (before now : ℕ) (happened : Type 0) : Type 0 where
  pub raised : happened → now ≡ raised before
  pub kept : ¬ happened → now ≡ before

-- the count has not fallen, and has risen where this happened
pub record HasCause (before now : ℕ) (happened : Type 0) : Type 0 where
  pub later : before ≤ now
  pub risen : happened → Rose before now
