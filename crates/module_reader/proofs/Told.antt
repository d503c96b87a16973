-- What a store tells, and causes over several calls.
use Rattle.std.proofs.Common.{◌≡◌, ◌≤◌, ℕ, Some, None, IfSome, arith}
use Rattle.std.specs.Prelude.{Option}
use Rattle.jats_io.specs.Causes.{HasCause}
use Rattle.jats_io.proofs.Failures.{rose_since}

pub told : {A : Type 0} (o : Option A) (P Q : A → Type 0) → ((a : A) → P a → Q a) → IfSome o P → IfSome o Q
told None P Q from one = tt
told (Some a) P Q from one = from a one

pub told_always : {A : Type 0} (o : Option A) (P : A → Type 0) → ((a : A) → P a) → IfSome o P
told_always None P from = tt
told_always (Some a) P from = from a

-- of two calls, the second with what the first left
pub told_twice : {A : Type 0} (o : Option A) (P Q R : A → Type 0) → ((a : A) → P a → Q a → R a) → IfSome o P → IfSome o Q → IfSome o R
told_twice None P Q R from one two = tt
told_twice (Some a) P Q R from one two = from a one two

-- a count that rose for one thing rose for what comes of that alone
pub cause_of : (before now : ℕ) (P Q : Type 0) → HasCause before now P → (Q → P) → HasCause before now Q
cause_of before now P Q cause from = record { later = cause.later; risen = λ q. cause.risen (from q) }

-- a count that rose later rose
pub cause_later : (before mid now : ℕ) (P : Type 0) → before ≤ mid → HasCause mid now P → HasCause before now P
cause_later before mid now P le cause = record {
  later = (let l = cause.later in omega arith);
  risen = λ p. rose_since before mid now le (cause.risen p);
}

-- what does not happen needs no cause
pub no_cause : (before now : ℕ) (Q : Type 0) → before ≤ now → (Q → ⊥) → HasCause before now Q
no_cause before now Q le never = record { later = le; risen = λ q. absurd (never q) }
