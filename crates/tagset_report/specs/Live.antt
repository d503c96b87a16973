-- Names that have documents, and the pairs of states to which they lead.
use Rattle.std.specs.Prelude.{◌↔◌, ℕ, List, Contains, IsTrue}
use Rattle.std.specs.List.{AllByRecursion}
use Rattle.content_models.specs.declared.content.Content.{Content}
use Rattle.content_models.specs.Model.{Chars, among}
use Rattle.position_automata.specs.Automata.{Leads}
use Rattle.decl_set.specs.Declarations.{Declarations}
use Rattle.decl_set.specs.Validity.{HasDocument}
use Rattle.model_inclusion.specs.Listed.{IsAscending}

-- the names are those that have a document in the set
abbrev pub AreLive : Declarations → List Chars → Type 0
AreLive set live = (name : Chars) → IsTrue (among live name) ↔ HasDocument set name

-- one list of names, each with a document of the first, leads the contents to these states
abbrev pub IsListed : Declarations → Content → Content → ℕ → ℕ → Type 0
IsListed first a b i j = (names : List Chars) × AllByRecursion (HasDocument first) names × Leads a names i × Leads b names j

-- these are the listed pairs, ascending
pub record AreListed (first : Declarations) (a b : Content) (pairs : List (ℕ × ℕ)) : Type 0 where
  pub ascending : IsAscending pairs
  pub listed : (i j : ℕ) → Contains pairs (i, j) ↔ IsListed first a b i j
