-- What answers tell of validity.
use Rattle.std.proofs.Common.{◌≡◌, ℕ, List, [], None, sym, subst}
use Rattle.std.specs.Prelude.{◌↔◌, Option, Result, Ok, Err, IfOk}
use Rattle.document_trees.specs.Trees.{Node, EachNode}
use Rattle.decl_set.specs.Asked.{IsKept}
use Rattle.decl_set.specs.Declarations.{Declarations}
use Rattle.decl_set.specs.Validity.{Meets, IsValid}
use Rattle.decl_set.specs.declared.breaks.BrokenDecl.{BrokenDecl}
use Rattle.article_validator.specs.Faults.{fault_list}
use Rattle.article_validator.specs.First.{first_broken}
use Rattle.article_validator.specs.Links.{AreLinked}
use Rattle.article_validator.specs.declared.fault.Invalid.{Invalid}
use Rattle.article_validator.proofs.Unbroken.{none_broken}
use Rattle.article_validator.proofs.Valid.{valid_without_faults}

pub none_told : {E : Type 0} (set : Declarations) (node : Node) (r : Result (Option BrokenDecl) E) → IsKept set → IfOk r (λ o. o ≡ first_broken set node) → IfOk r (λ o. (o ≡ None) ↔ EachNode (Meets set) node)
none_told set node (Ok o) kept e = let P : Option BrokenDecl → Type 0 = λ x. (x ≡ None) ↔ EachNode (Meets set) node in subst P (sym e) (none_broken set node kept)
none_told set node (Err f) kept e = tt

pub valid_told : {E : Type 0} (set : Declarations) (root : List ℕ) (node : Node) (r : Result (List Invalid) E) → IsKept set → IfOk r (λ list. list ≡ fault_list set root node)
    → IfOk r (λ list. (list ≡ []) ↔ (IsValid set root node × AreLinked set node))
valid_told set root node (Ok list) kept e =
    let P : List Invalid → Type 0 = λ x. (x ≡ []) ↔ (IsValid set root node × AreLinked set node) in subst P (sym e) (valid_without_faults set root node kept)
valid_told set root node (Err f) kept e = tt
