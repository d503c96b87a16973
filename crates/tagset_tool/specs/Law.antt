-- What the first line of an output says of the documents.
use Rattle.std.specs.Prelude.{◌≡◌, ◌↔◌, ℕ, ◌⊎◌, List, Some, Ok, IsSome, IsTrue, nat_eq}
use Rattle.std.specs.List.{starts_with}
use Rattle.decl_set.specs.Declarations.{Declarations, content_in}
use Rattle.document_trees.specs.Trees.{Node}
use Rattle.decl_set.specs.Validity.{IsSeparating, IsSubset}
use Rattle.module_reader.specs.Sources.{Files}
use Rattle.tagset_report.specs.Reported.{PassesAt}
use Rattle.tagset_tool.specs.Outcomes.{IsUnique, Outcome, refusing}
use Rattle.tagset_tool.specs.Output.{IsOutput}
use Rattle.tagset_tool.specs.Refusals.{output_over}
use Rattle.tagset_tool.specs.Words.{SetWords, compare, asked, set_by}
use Rattle.tagset_tool.specs.commands.Compare.{subset_line}

-- Status 0 where no document separates, and only there; status 1 where one does, and only there. The first line is `subset`
-- exactly at status 0.
pub record SaysSubset (first second : Declarations) (root : List ℕ) (status : ℕ) (bytes : List ℕ) : Type 0 where
  pub subset : status ≡ 0 → IsSubset first second root
  pub separate : status ≡ 1 → (node : Node) × IsSeparating first second root node
  pub one_of : (status ≡ 0) ⊎ (status ≡ 1)
  pub first_line : (status ≡ 0) ↔ IsTrue (starts_with nat_eq bytes subset_line)

-- the refusal of an output that is too long
abbrev pub IsTooLong : Outcome
IsTooLong = refusing output_over

-- at no element the listed pairs are too many
abbrev pub FewPairs : Declarations → Declarations → Type 0
FewPairs first second = (name : List ℕ) → PassesAt first second name → ⊥

-- words ask to compare two sets up to a cap, which are read, the first declares the root, and the listed pairs are not too many
pub record IsCompared (words : List (List ℕ)) (files : Files) (first second : Declarations) (root : List ℕ) (cap : ℕ) : Type 0 where
  pub one : SetWords
  pub other : SetWords
  pub asks : asked words ≡ Some (compare one other root cap)
  pub reads_first : set_by files one ≡ Ok first
  pub reads_second : set_by files other ≡ Ok second
  pub declared : IsSome (content_in first root)
  pub few : FewPairs first second

-- whatever the cap is
abbrev pub SubsetLaw : Type 0
SubsetLaw =
    (words : List (List ℕ)) (files : Files) (first second : Declarations) (root : List ℕ) (cap status : ℕ) (bytes : List ℕ)
    → IsCompared words files first second root cap → IsOutput words files status bytes → IsTooLong status bytes ⊎ SaysSubset first second root status bytes

-- words and files have one output
abbrev pub OutputLaw : Type 0
OutputLaw = (words : List (List ℕ)) (files : Files) → IsUnique (IsOutput words files)
