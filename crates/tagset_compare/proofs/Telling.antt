-- What a verdict says of all documents.
use Rattle.std.proofs.Common.{◌≡◌, ◌≤◌, ℕ, Ok, sym, ap, ◌∙◌, subst}
use Rattle.content_models.specs.Model.{Chars}
use Rattle.document_trees.specs.Trees.{Node, size}
use Rattle.decl_set.specs.Asked.{IsKept}
use Rattle.decl_set.specs.Declarations.{Declarations}
use Rattle.tree_costs.specs.declared.cost.Cost.TheVariants.{Fin}
use Rattle.bound_checker.specs.declared.tables.Tables.{Tables}
use Rattle.bound_checker.specs.Tabled.{costs_of}
use Rattle.exact_tables.specs.Verdicts.{IsVerdict}
use Rattle.exact_tables.proofs.Verdicts.{verdict_told}
use Rattle.comparison_tables.specs.Outcome.{AreExactTables}
use Rattle.separating_article.proofs.Trees.{chosen_article_is_writable}
use Rattle.tagset_compare.specs.declared.outcome.Verdict.{Verdict}
use Rattle.tagset_compare.specs.declared.outcome.Verdict.TheVariants.{Subset, Not, Over}
use Rattle.tagset_compare.specs.Compared.{IsArticle, Compares}
use Rattle.tagset_compare.specs.Verdicts.{IsLeastArticle, SaysOf, tables_in, bound_in, VerdictIsTrue, BoundIsTold}
use Rattle.tagset_compare.proofs.Arms.{exact_own, root_bound, bound_within, article_is_built}

module _ (first second : Declarations) (root : Chars) (cap limit : ℕ) (kf : IsKept first) (ks : IsKept second) where
  verdict_of : (tables : Tables) → AreExactTables first second root cap tables → IsVerdict first second cap root ((costs_of first tables).v root)
  verdict_of tables X = verdict_told first second cap (costs_of first tables) X.exact root

  least_article : (tables : Tables) (article : Node) → IsArticle first second root cap tables article → IsLeastArticle first second root cap article
  least_article tables article h =
      let X = h.0 in
      let built = article_is_built first second root cap tables X kf ks article h.1 h.2 in
      let l = bound_within first second root cap tables X h.1 in
      let told = ((verdict_of tables X).least h.1.0 l).0 (root_bound first second root cap tables X h.1) in
      record {
        separating = built.1;
        least = λ other s. subst (λ (n : ℕ). n ≤ size other) (sym built.0.sized) (told.3 other s);
        within = subst (λ (n : ℕ). n ≤ cap) (sym built.0.sized) l;
        writable = chosen_article_is_writable first second tables kf ks (exact_own first second root cap tables X).exact h.1 article h.2;
      }

  says : (verdict : Verdict) → Compares first second root cap limit (Ok verdict) → SaysOf first second root cap verdict
  says (Subset tables) h = (verdict_of tables h.0).subset.0 h.1
  says (Not article broken tables) h = least_article tables article h.0
  says (Over broken tables) h = (verdict_of tables h.0.0).over.0 h.0.1

  bound_told : (verdict : Verdict) → Compares first second root cap limit (Ok verdict) → (costs_of first (tables_in verdict)).v root ≡ bound_in cap verdict
  bound_told (Subset tables) h = h.1
  bound_told (Not article broken tables) h =
      let built = article_is_built first second root cap tables h.0.0 kf ks article h.0.1 h.0.2 in
      root_bound first second root cap tables h.0.0 h.0.1 ∙ ap Fin (sym built.0.sized)
  bound_told (Over broken tables) h = h.0.1

pub verdict_is_true : VerdictIsTrue
verdict_is_true first second root cap limit verdict kf ks h = says first second root cap limit kf ks verdict h

pub bound_is_told : BoundIsTold
bound_is_told first second root cap limit verdict kf ks h = bound_told first second root cap limit kf ks verdict h
