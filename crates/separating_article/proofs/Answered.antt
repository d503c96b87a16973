-- What is answered by the least tree, and by the chosen separating one.
use Rattle.std.proofs.Common.{◌<◌, ◌≤◌, ℕ, List, [], ◌∷◌, sym, subst, Result, Ok, Err}
use Rattle.std.specs.List.{AllByRecursion}
use Rattle.content_models.specs.Model.{Chars}
use Rattle.document_trees.specs.Trees.{Node, size}
use Rattle.decl_set.specs.Asked.{IsKept}
use Rattle.decl_set.specs.Declarations.{Declarations, Element}
use Rattle.tree_costs.specs.declared.least.Least.{Least}
use Rattle.tree_costs.specs.Leasts.{IsExact}
use Rattle.bound_checker.specs.declared.tables.Tables.{Tables}
use Rattle.bound_checker.specs.declared.tables.Row.{Row}
use Rattle.bound_checker.specs.Tabled.{FitRows, AreAscending}
use Rattle.separating_article.specs.Articles.{HasLeast, IsLeastOf, text_size, Builds}
use Rattle.separating_article.specs.Separating.{HasSeparating, AreExact, IsChosenOf, Separates}
use Rattle.separating_article.specs.Building.{TellsOf}
use Rattle.separating_article.specs.declared.fault.BuildOver.{BuildOver}
use Rattle.separating_article.specs.declared.fault.BuildOver.TheVariants.{TextOver, NoMemory}
use Rattle.separating_article.proofs.TextSizes.{size_of_text}
use Rattle.separating_article.proofs.Trees.{least_article_exists, least_article_is_built, chosen_article_exists, chosen_article_is_built}

-- ---- the least tree

-- there is one, no larger than the cap
pub has_least : (set : Declarations) (least : Least) (root : Chars) → IsKept set → IsExact set least → HasLeast set least root
    → (tree : Node) × IsLeastOf set least root tree × (size tree ≤ least.cap)
has_least set least root kept exact h =
    let t = least_article_exists set least root kept exact h in
    let b = least_article_is_built set least root h.0 kept exact h.1 h.2 t.0 t.1 in
    (t.0, t.1, subst (λ (n : ℕ). n ≤ least.cap) (sym b.sized) h.2)

pub builds : (set : Declarations) (least : Least) (root : Chars) (limit : ℕ) (result : Result Node BuildOver) (tree : Node) → IsLeastOf set least root tree
    → TellsOf limit tree result → Builds set least root limit result
builds set least root limit (Ok node) tree h tells = (
  subst (IsLeastOf set least root) (sym tells.0) h,
  subst (λ (n : Node). text_size n ≤ limit) (sym tells.0) (subst (λ (k : ℕ). k ≤ limit) (size_of_text tree) tells.1),
)
builds set least root limit (Err TextOver) tree h tells = (tree, h, subst (λ (k : ℕ). limit < k) (size_of_text tree) tells)
builds set least root limit (Err NoMemory) tree h tells = tt

-- ---- the chosen one

pub has_chosen : (first second : Declarations) (tables : Tables) → IsKept first → IsKept second → AreExact first second tables → HasSeparating first tables
    → (tree : Node) × IsChosenOf first second tables tree × (size tree ≤ tables.cap)
has_chosen first second tables kept other exact h =
    let t = chosen_article_exists first second tables kept other exact h in
    let b = chosen_article_is_built first second tables h.0 kept other exact h.1 h.2 t.0 t.1 in
    (t.0, t.1, subst (λ (n : ℕ). n ≤ tables.cap) (sym b.0.sized) h.2)

pub separates : (first second : Declarations) (tables : Tables) (limit : ℕ) (result : Result Node BuildOver) (tree : Node) → IsChosenOf first second tables tree
    → TellsOf limit tree result → Separates first second tables limit result
separates first second tables limit (Ok node) tree h tells = (
  subst (IsChosenOf first second tables) (sym tells.0) h,
  subst (λ (n : Node). text_size n ≤ limit) (sym tells.0) (subst (λ (k : ℕ). k ≤ limit) (size_of_text tree) tells.1),
)
separates first second tables limit (Err TextOver) tree h tells = (tree, h, subst (λ (k : ℕ). limit < k) (size_of_text tree) tells)
separates first second tables limit (Err NoMemory) tree h tells = tt

-- the pairs of rows that fit ascend
pub in_order : (cap : ℕ) (second : Declarations) (es : List Element) (rows : List Row) → FitRows cap second es rows → AllByRecursion (λ row. AreAscending row.pairs) rows
in_order cap second [] [] h = tt
in_order cap second [] (row ∷ rows) h = elim h [ ]
in_order cap second (e ∷ es) [] h = elim h [ ]
in_order cap second (e ∷ es) (row ∷ rows) h = (h.0.ascending, in_order cap second es rows h.1)
