-- Counts of failures over several calls.
use Rattle.std.proofs.Common.{◌≡◌, ◌≤◌, ℕ, true, false, subst, inl, inr, arith}
use Rattle.std.specs.Prelude.{Result, Ok, IsErr}
use Rattle.jats_io.specs.Causes.{Counts, Rose}

-- a call that did not fail leaves the count
pub kept_ok : {X E : Type 0} (before now : ℕ) (r : Result X E) (x : X) → r ≡ Ok x → Counts before now (IsErr r) → now ≡ before
kept_ok before now r x is counts = counts.kept (λ err. let no : false ≡ true = subst (λ it. IsErr it) is err in absurd (cc))

-- a count that rose since a later one rose
pub rose_since : (before mid now : ℕ) → before ≤ mid → Rose mid now → Rose before now
rose_since before mid now le (inl more) = inl (omega (arith, le, more))
rose_since before mid now le (inr last) = inr last
