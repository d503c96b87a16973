-- Numbers of 32 bits.
use Rattle.std.specs.Prelude.{◌≡◌, ◌≤◌, ◌^◌, ◌==◌, ℕ, Bool, true, false, not, List, [], ◌∷◌, Option, Some, None, nat_lt, option_map, option_and_then, if◌then◌else◌}
use Rattle.std.specs.Str.Parse.{AllDigits, digits_value}
use Rattle.bound_checker.specs.Certificates.{number_in, both, split, cost_in, a_pair}
use Rattle.bound_checker.specs.declared.tables.PairRow.{PairRow}

-- the number, where it is below 2 ^ 32
abbrev pub short : Option ℕ → Option ℕ
short None = None
short (Some n) = if nat_lt n 4294967296 then Some n else None

-- a number without leading zeros that is below 2 ^ 32
abbrev pub short_number_in : List ℕ → Option ℕ
short_number_in cs = short (number_in cs)

-- two of them that a space parts
abbrev pub short_numbers_in : List ℕ → Option (ℕ × ℕ)
short_numbers_in cs = option_and_then (λ t. both (short_number_in t.0) (short_number_in t.1)) (split cs)

-- a pair with its cost, where its states are below 2 ^ 32
abbrev pub short_pair_in : ℕ → List ℕ → Option PairRow
short_pair_in cap cs = option_map a_pair (option_and_then (λ t. both (short_numbers_in t.0) (cost_in cap t.1)) (split cs))

-- whether there is a character, and no zero in front of more
abbrev pub begins_number : List ℕ → Bool
begins_number [] = false
begins_number (c ∷ []) = true
begins_number (c ∷ d ∷ cs) = not (c == 0x30)

-- the number that digits write, or that they are none or write one of more than 32 bits
abbrev pub Writes : List ℕ → Option ℕ → Type 0
Writes cs (Some n) = AllDigits 10 cs × (digits_value 10 cs ≡ n)
Writes cs None = AllDigits 10 cs → 2 ^ 32 ≤ digits_value 10 cs
