-- Pairs as numbers, and what is reached among them: pair (i, j) has number i * width + j.
use Rattle.std.specs.Prelude.{◌≡◌, ◌<◌, ◌+◌, ◌*◌, ◌/◌, ◌%◌, ℕ, List, [], ◌∷◌, ◌++◌, length, Bool, true, false, if◌then◌else◌, ◌⊎◌, slice_set, slice_index_or, Option, Some, None, option_map, replicate, Contains}
use Rattle.std.specs.List.{filter_map}

abbrev pub Member : {A : Type 0} → A → List A → Type 0
Member x [] = ⊥
Member x (y ∷ ys) = (x ≡ y) ⊎ Member x ys

-- the steps of a row, each noted at its number
abbrev pub noted : List (ℕ × ℕ) → List (Option ℕ) → List (Option ℕ)
noted [] steps = steps
noted (s ∷ row) steps = noted row (slice_set steps s.0 (Some s.1))

-- and taken away again
abbrev pub forgotten : List (ℕ × ℕ) → List (Option ℕ) → List (Option ℕ)
forgotten [] steps = steps
forgotten (s ∷ row) steps = forgotten row (slice_set steps s.0 None)

-- the pair to which a step leads together with the noted step on its name
abbrev pub common_step : List (Option ℕ) → ℕ → ℕ × ℕ → Option ℕ
common_step steps width s = option_map (λ j. s.1 * width + j) (slice_index_or steps s.0 None)

-- the pairs to which the steps of a row lead together with noted ones
abbrev pub common : List (ℕ × ℕ) → List (Option ℕ) → ℕ → List ℕ
common row steps width = filter_map (common_step steps width) row

-- the pairs next to a pair
abbrev pub next : List (List (ℕ × ℕ)) → List (List (ℕ × ℕ)) → ℕ → ℕ → List ℕ
next firsts seconds names pair =
    common (slice_index_or firsts (pair / length seconds) []) (noted (slice_index_or seconds (pair % length seconds) []) (replicate names None)) (length seconds)

abbrev pub is_seen : List Bool → ℕ → Bool
is_seen seen x = slice_index_or seen x false

-- what is new among these, marked and put on the stack
abbrev pub visit : List ℕ → List Bool × List ℕ → List Bool × List ℕ
visit [] s = s
visit (y ∷ ys) s = visit ys (if is_seen s.0 y then s else (slice_set s.0 y true, s.1 ++ y ∷ []))

-- what steps reach from 0
pub data Reach (step : ℕ → List ℕ) : ℕ → Type 0 where
  Here : Reach step 0
  There : (x y : ℕ) → Reach step x → Member y (step x) → Reach step y

-- exactly what is reached is seen
pub record Reaches (step : ℕ → List ℕ) (n : ℕ) (seen : List Bool) : Type 0 where
  pub length_same : length seen ≡ n
  pub sound : (y : ℕ) → is_seen seen y ≡ true → Reach step y
  pub complete : (y : ℕ) → Reach step y → is_seen seen y ≡ true

-- how many are not seen
abbrev pub unseen : List Bool → ℕ
unseen [] = 0
unseen (b ∷ bs) = (if b then 0 else 1) + unseen bs

-- what the search keeps
pub record Working (step : ℕ → List ℕ) (n : ℕ) (seen : List Bool) (stack : List ℕ) : Type 0 where
  pub length_same : length seen ≡ n
  pub start : is_seen seen 0 ≡ true
  pub sound : (y : ℕ) → is_seen seen y ≡ true → Reach step y
  pub closed : (x : ℕ) → is_seen seen x ≡ true → Member x stack ⊎ ((y : ℕ) → Member y (step x) → is_seen seen y ≡ true)
  pub stacked : (x : ℕ) → Member x stack → (x < n) × (is_seen seen x ≡ true)

-- each step stays among the first n
abbrev pub StaysWithin : (ℕ → List ℕ) → ℕ → Type 0
StaysWithin step n = (x y : ℕ) → x < n → Member y (step x) → y < n

-- the pairs of the numbers that are seen, counted from k
abbrev pub pairs_from : ℕ → ℕ → List Bool → List (ℕ × ℕ)
pairs_from k width [] = []
pairs_from k width (b ∷ seen) = if b then (k / width, k % width) ∷ pairs_from (k + 1) width seen else pairs_from (k + 1) width seen

-- each step of these rows is on one of the first names and leads to one of the states
abbrev pub IsWithin : ℕ → ℕ → List (ℕ × ℕ) → Type 0
IsWithin names states row = (n j : ℕ) → Contains row (n, j) → (n < names) × (j < states)

abbrev pub AreWithin : List (List (ℕ × ℕ)) → List (List (ℕ × ℕ)) → ℕ → Type 0
AreWithin firsts seconds names =
    ((i : ℕ) → i < length firsts → IsWithin names (length firsts) (slice_index_or firsts i []))
    × ((j : ℕ) → j < length seconds → IsWithin names (length seconds) (slice_index_or seconds j []))
