-- What counts rose for.
use Rattle.std.proofs.Common.{ℕ, ◌≤◌}
use Rattle.jats_io.specs.Causes.{HasCause}

-- what does not happen needs no cause
pub no_cause : (before now : ℕ) (Q : Type 0) → before ≤ now → (Q → ⊥) → HasCause before now Q
no_cause before now Q le never = record { later = le; risen = λ q. absurd (never q) }
