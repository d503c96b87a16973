-- What the arms of a comparison answer.
use Rattle.std.proofs.Common.{◌≡◌, ◌≤◌, ◌+◌, ℕ, List, [], ◌∷◌, Some, None, sym, subst, refl, slice_get}
use Rattle.content_models.specs.Model.{Chars}
use Rattle.document_trees.specs.Trees.{Node, EachNode}
use Rattle.decl_set.specs.Asked.{IsKept}
use Rattle.decl_set.specs.Declarations.{Declarations}
use Rattle.decl_set.specs.Validity.{IsSeparating, Meets}
use Rattle.decl_set.specs.Breaks.{IsFirstBroken}
use Rattle.decl_set.specs.declared.breaks.BrokenDecl.{BrokenDecl}
use Rattle.tree_costs.specs.declared.cost.Cost.TheVariants.{Fin}
use Rattle.bound_checker.specs.declared.tables.Tables.{Tables}
use Rattle.bound_checker.specs.Tabled.{costs_of}
use Rattle.exact_tables.specs.Chosen.{IsChosen}
use Rattle.exact_tables.specs.LeastTrees.{IsBuilt}
use Rattle.exact_tables.proofs.Chosen.{chosen_is_built}
use Rattle.exact_tables.proofs.Verdicts.{verdict_told}
use Rattle.tagset_report.specs.Reported.{ListsBroken}
use Rattle.tagset_report.proofs.Broken.{none_is_listed}
use Rattle.tagset_report.proofs.Firsts.{first_listed}
use Rattle.comparison_tables.specs.Outcome.{AreExactTables}
use Rattle.separating_article.specs.Separating.{HasSeparating, IsChosenOf}

none_first : {X : Type 0} (xs : List X) → slice_get xs 0 ≡ None → xs ≡ []
none_first [] e = refl
none_first (x ∷ xs) e = cc

some_first : {X : Type 0} (xs : List X) (x : X) → slice_get xs 0 ≡ Some x → (rest : List X) × (xs ≡ x ∷ rest)
some_first [] x e = cc
some_first (y ∷ ys) x e = (ys, cc)

module _ (first second : Declarations) (root : Chars) (cap : ℕ) (tables : Tables) (X : AreExactTables first second root cap tables) where
  -- tables are exact for the root and the cap that stand in them
  pub exact_own : AreExactTables first second tables.root tables.cap tables
  exact_own = subst (λ (e : Chars). AreExactTables first second e tables.cap tables) (sym X.root_is) (subst (λ (k : ℕ). AreExactTables first second root k tables) (sym X.cap_is) X)

  -- the size of a separating tree
  pub root_bound : (h : HasSeparating first tables) → (costs_of first tables).v root ≡ Fin h.0
  root_bound h = subst (λ (e : Chars). (costs_of first tables).v e ≡ Fin h.0) X.root_is h.1

  pub bound_within : (h : HasSeparating first tables) → h.0 ≤ cap
  bound_within h = subst (λ (k : ℕ). h.0 ≤ k) X.cap_is h.2

  module _ (kf : IsKept first) (ks : IsKept second) where
    -- the chosen tree is as large as v says, and it separates
    pub article_is_built : (article : Node) (h : HasSeparating first tables) → IsChosenOf first second tables article → IsBuilt 2048 first root h.0 article × IsSeparating first second root article
    article_is_built article h chosen =
        let there : IsChosen first second cap (costs_of first tables) root article =
        subst (λ (e : Chars). IsChosen first second cap (costs_of first tables) e article) X.root_is (subst (λ (k : ℕ). IsChosen first second k (costs_of first tables) tables.root article) X.cap_is chosen) in
        chosen_is_built first second cap (costs_of first tables) kf ks X.exact root h.0 (bound_within h) (root_bound h) article there

    -- one of its nodes does not meet the second set
    pub article_breaks : (article : Node) → HasSeparating first tables → IsChosenOf first second tables article → EachNode (Meets second) article → ⊥
    article_breaks article h chosen met = let s = (article_is_built article h chosen).1 in s.2 (s.1.0, met)

    -- some useful element breaks where each separating tree is above the cap
    pub over_listed : (differs : List BrokenDecl) → ListsBroken first second root first.elements differs → (costs_of first tables).v root ≡ Fin (cap + 1) → slice_get differs 0 ≡ None → ⊥
    over_listed differs listed q none =
        let over = (verdict_told first second cap (costs_of first tables) X.exact root).over.0 q in
        (none_is_listed first second root differs kf ks listed).0 (none_first differs none) over.0 over.1

-- the first that is listed is the first useful element that breaks
pub first_is_broken : (first second : Declarations) (root : Chars) (differs : List BrokenDecl) (broken : BrokenDecl) → ListsBroken first second root first.elements differs → slice_get differs 0 ≡ Some broken
    → IsFirstBroken first second root broken.element broken.cause
first_is_broken first second root differs broken listed some =
    let t = some_first differs broken some in
    first_listed first second root broken t.0 (subst (ListsBroken first second root first.elements) t.1 listed)
