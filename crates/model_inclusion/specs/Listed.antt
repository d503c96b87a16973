-- The pairs of states to which the same names lead two contents (XML 1.0, 3.2.1).
use Rattle.std.specs.Prelude.{◌≡◌, ◌≤◌, ◌<◌, ℕ, List, [], ◌∷◌, length, IsTrue, Contains, ◌↔◌, ◌⊎◌, Result, Ok, Err}
use Rattle.std.specs.List.{list_all, AllByRecursion}
use Rattle.content_models.specs.declared.content.Content.{Content}
use Rattle.content_models.specs.Model.{Chars, among}
use Rattle.position_automata.specs.Automata.{Leads}
use Rattle.model_inclusion.specs.declared.fault.PairFault.{PairFault}
use Rattle.model_inclusion.specs.declared.fault.PairFault.TheVariants.{PairsOver, NoMemory}

-- one list of live names leads the first content to state i and the second to state j
abbrev pub IsListed : List Chars → Content → Content → ℕ → ℕ → Type 0
IsListed live a b i j = (names : List Chars) × IsTrue (list_all (among live) names) × Leads a names i × Leads b names j

-- the pair stands before the other: its first state is smaller, or that is the same and its second state is smaller
abbrev pub Precedes : ℕ × ℕ → ℕ × ℕ → Type 0
Precedes p q = (p.0 < q.0) ⊎ ((p.0 ≡ q.0) × (p.1 < q.1))

-- each pair stands before all later ones
abbrev pub IsAscending : List (ℕ × ℕ) → Type 0
IsAscending [] = Unit {0}
IsAscending (p ∷ ps) = AllByRecursion (Precedes p) ps × IsAscending ps

-- these are the listed pairs, ascending
pub record ArePairs (live : List Chars) (a b : Content) (pairs : List (ℕ × ℕ)) : Type 0 where
  pub ascending : IsAscending pairs
  pub listed : (i j : ℕ) → Contains pairs (i, j) ↔ IsListed live a b i j

-- the pairs where they are at most so many, and PairsOver exactly where they are more
abbrev pub ListsPairs : List Chars → Content → Content → ℕ → Result (List (ℕ × ℕ)) PairFault → Type 0
ListsPairs live a b left (Ok pairs) = ArePairs live a b pairs × (length pairs ≤ left)
ListsPairs live a b left (Err PairsOver) = (pairs : List (ℕ × ℕ)) × ArePairs live a b pairs × (left < length pairs)
ListsPairs live a b left (Err NoMemory) = Unit {0}
