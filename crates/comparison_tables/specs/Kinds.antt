-- What the states of a copy are for, by their numbers: the start, the states of the content for P and then for F, and the
-- listed pairs in their order.
use Rattle.std.specs.Prelude.{ℕ, zero, suc, ◌+◌, ◌-◌, List, Option, Some, None, nat_lt, slice_get, if◌then◌else◌}
use Rattle.comparison_tables.specs.declared.kinds.Kind.{Kind}
use Rattle.comparison_tables.specs.declared.kinds.Kind.TheVariants.{Start, Go, Wrong, Pair, Beyond}

abbrev pub pair_kind : Option (ℕ × ℕ) → Kind
pair_kind None = Beyond
pair_kind (Some p) = Pair p.0 p.1

-- past the states for P
abbrev pub later_kind : ℕ → List (ℕ × ℕ) → ℕ → Kind
later_kind n pairs t = if nat_lt t n then Wrong t else pair_kind (slice_get pairs (t - n))

-- n is the number of states of the content
abbrev pub kind_of : ℕ → List (ℕ × ℕ) → ℕ → Kind
kind_of n pairs zero = Start
kind_of n pairs (suc t) = if nat_lt t n then Go t else later_kind n pairs (t - n)

-- the numbers of the kinds
abbrev pub go_number : ℕ → ℕ
go_number i = suc i

abbrev pub wrong_number : ℕ → ℕ → ℕ
wrong_number n i = suc (n + i)

abbrev pub pair_number : ℕ → ℕ → ℕ
pair_number n at = suc (n + (n + at))
