-- Whether a content derives, of live names, what another does not (XML 1.0, 3.2.1).
use Rattle.std.specs.Prelude.{◌≡◌, ◌≤◌, ◌<◌, ℕ, Bool, false, List, length, IsTrue, slice_index_or, ◌⊎◌, ◌↔◌, Result, Ok, Err, [], Option, None, is_none, not, ◌&&◌, ◌||◌, replicate}
use Rattle.std.specs.Bool.{Decides}
use Rattle.std.specs.List.{list_all, list_any}
use Rattle.content_models.specs.declared.content.Content.{Content}
use Rattle.content_models.specs.Model.{Chars, among, Derives}
use Rattle.position_automata.specs.Automata.{states, FollowsOn, Accepts, IsDeterministic}
use Rattle.position_automata.specs.Runs.{Runs}
use Rattle.position_automata.specs.Stepping.{does_accept}
use Rattle.model_inclusion.specs.Reaching.{noted}
use Rattle.model_inclusion.specs.Listed.{IsListed, ArePairs}
use Rattle.model_inclusion.specs.declared.fault.PairFault.{PairFault}
use Rattle.model_inclusion.specs.declared.fault.PairFault.TheVariants.{PairsOver, NoMemory}
use Rattle.model_inclusion.specs.declared.side.Compared.{Compared}

-- some list of live names is derived by the first content and not by the second
abbrev pub Separates : List Chars → Content → Content → Type 0
Separates live a b = (names : List Chars) × IsTrue (list_all (among live) names) × Derives a names × (Derives b names → ⊥)

-- live names lead from the state to acceptance
abbrev pub Ends : List Chars → Content → ℕ → Type 0
Ends live a i = (names : List Chars) × IsTrue (list_all (among live) names) × Runs a i names

-- flags tell from which states
abbrev pub TellEnds : List Chars → Content → List Bool → Type 0
TellEnds live a ends = (i : ℕ) → i < states a → Decides (slice_index_or ends i false) (Ends live a i)

-- from the first state acceptance can be reached by a live step that the second state does not have
abbrev pub Lacks : List Chars → Content → Content → ℕ → ℕ → Type 0
Lacks live a b i j =
    (name : Chars) × (k : ℕ) × IsTrue (among live name) × FollowsOn a i name k × ((l : ℕ) → FollowsOn b j name l → ⊥) × Ends live a k

-- the contents part at a pair of states: the first accepts and the second does not, or the second lacks a step
abbrev pub PartAt : List Chars → Content → Content → ℕ → ℕ → Type 0
PartAt live a b i j = (Accepts a i × (Accepts b j → ⊥)) ⊎ Lacks live a b i j

-- the contents are told apart exactly where they part at a listed pair
abbrev pub SeparatesAtPairs : Type 0
SeparatesAtPairs =
    (live : List Chars) (a b : Content) → IsDeterministic b → Separates live a b ↔ ((i : ℕ) × (j : ℕ) × IsListed live a b i j × PartAt live a b i j)

-- the number of pairs and whether the contents are told apart, where the pairs are at most so many; else PairsOver
abbrev pub Compares : List Chars → Content → Content → ℕ → Result Compared PairFault → Type 0
Compares live a b left (Ok c) =
    ((pairs : List (ℕ × ℕ)) × ArePairs live a b pairs × (c.pairs ≡ length pairs)) × (c.pairs ≤ left) × Decides c.separates (Separates live a b)
Compares live a b left (Err PairsOver) = (pairs : List (ℕ × ℕ)) × ArePairs live a b pairs × (left < length pairs)
Compares live a b left (Err NoMemory) = Unit {0}

-- ---- by rows

-- a step that is not noted, to a state from which acceptance can be reached
abbrev pub lacking : List (Option ℕ) → List Bool → ℕ × ℕ → Bool
lacking steps ends s = is_none (slice_index_or steps s.0 None) && slice_index_or ends s.1 false

-- whether the contents part at a pair, by the rows of its states
abbrev pub do_part : Content → Content → List (List (ℕ × ℕ)) → List (List (ℕ × ℕ)) → ℕ → List Bool → ℕ × ℕ → Bool
do_part a b firsts seconds names ends p =
    (does_accept a p.0 && not (does_accept b p.1))
    || list_any (lacking (noted (slice_index_or seconds p.1 []) (replicate names None)) ends) (slice_index_or firsts p.0 [])
