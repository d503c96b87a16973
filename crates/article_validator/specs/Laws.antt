-- What the definitions of the validator say together.
use Rattle.std.specs.Prelude.{◌≡◌, ◌↔◌, ℕ, List, [], None, IsTrue}
use Rattle.content_models.specs.declared.content.Content.{Content}
use Rattle.content_models.specs.Model.{Chars, Derives}
use Rattle.document_trees.specs.Trees.{Node, EachNode}
use Rattle.position_automata.specs.Automata.{IsDeterministic}
use Rattle.decl_set.specs.Asked.{IsKept}
use Rattle.decl_set.specs.Declarations.{Declarations}
use Rattle.decl_set.specs.Validity.{Meets, IsValid}
use Rattle.article_validator.specs.Deriving.{is_derived}
use Rattle.article_validator.specs.Faults.{fault_list}
use Rattle.article_validator.specs.Filling.{filled}
use Rattle.article_validator.specs.First.{first_broken}
use Rattle.article_validator.specs.Links.{AreLinked}

-- going through the states tells what a deterministic content derives
abbrev pub DerivedByStates : Type 0
DerivedByStates = (content : Content) (names : List Chars) → IsDeterministic content → IsTrue (is_derived content names) ↔ Derives content names

-- nothing is wrong exactly where the document is valid from the root and its links are right
abbrev pub ValidWithoutFaults : Type 0
ValidWithoutFaults = (set : Declarations) (root : List ℕ) (node : Node) → IsKept set → (fault_list set root node ≡ []) ↔ (IsValid set root node × AreLinked set node)

-- no node is broken exactly where every node meets its declaration
abbrev pub NoneBroken : Type 0
NoneBroken = (set : Declarations) (node : Node) → IsKept set → (first_broken set node ≡ None) ↔ EachNode (Meets set) node

-- filling again changes nothing
abbrev pub FilledOnce : Type 0
FilledOnce = (set : Declarations) (node : Node) → filled set (filled set node) ≡ filled set node

-- a document that is valid from a root is so with its defaults
abbrev pub FilledValid : Type 0
FilledValid = (set : Declarations) (root : List ℕ) (node : Node) → IsKept set → IsValid set root node → IsValid set root (filled set node)
