-- work: the summary of a comparison of generated sets.
use Rattle.std.specs.Prelude.{ℕ, ◌-◌, ◌*◌, List, [], ◌∷◌, ◌++◌, codes, nat_le, if◌then◌else◌}
use Rattle.std.specs.Fmt.{decimal}

-- The generated set has the elements e0, e1, .. in order: each is followed by the next and, where there is one, by the one
-- after that or nothing; the last is EMPTY. Its variant has character data in the last.

-- the listed pairs of the set of n elements against itself: three states of each but the last two, two of the one before the
-- last, and one of the last
abbrev pub listed_pairs : ℕ → ℕ
listed_pairs n = if nat_le n 1 then 1 else 3 * n - 3

-- the least article of the variant that the set does not allow is a chain of all elements
abbrev pub work_lines : ℕ → List ℕ
work_lines n =
    codes "elements " ++ (decimal n ++ (10 ∷ codes "self subset" ++ (10 ∷ codes "pairs " ++ (decimal (listed_pairs n)
    ++ (10 ∷ codes "variant least " ++ (decimal n ++ 10 ∷ []))))))
