-- What documents give is closed under the kinds: a cost that a kind gives from costs of documents is one of documents.
use Rattle.std.specs.Prelude.{◌≡◌, ℕ, Some, is_some, IsTrue}
use Rattle.content_models.specs.declared.content.Content.{Content}
use Rattle.content_models.specs.Model.{Chars}
use Rattle.position_automata.specs.Automata.{FollowsOn, Accepts}
use Rattle.decl_set.specs.Declarations.{Declarations, content_in}
use Rattle.decl_set.specs.Asked.{IsKept}
use Rattle.tree_costs.specs.declared.cost.Cost.{Cost}
use Rattle.tree_costs.specs.declared.cost.Cost.TheVariants.{Fin}
use Rattle.tree_costs.specs.Costs.{sum}
use Rattle.decl_set.specs.Oddness.{odd_in}
use Rattle.tree_costs.specs.Families.{OfDocument}
use Rattle.exact_tables.specs.Families.{OfSeparating}
use Rattle.tree_costs.specs.Forests.{OfForest}
use Rattle.exact_tables.specs.Forests.{OfWrongForest, OfOddForest}

pub record GivesDocuments (first second : Declarations) (cap : ℕ) : Type 0 where
  pub kind1 : (a : Content) (i : ℕ) → Accepts a i → OfForest cap first a i (Fin 0)
  pub kind2 : (a : Content) (i k : ℕ) (name : Chars) (c d : Cost) → FollowsOn a i name k
      → OfDocument cap first name c → OfForest cap first a k d → OfForest cap first a i (sum cap c d)
  pub kind3 : (a : Content) (i k : ℕ) (name : Chars) (c d : Cost) → FollowsOn a i name k
      → OfSeparating cap first second name c → OfForest cap first a k d → OfWrongForest cap first second a i (sum cap c d)
  pub kind4 : (a : Content) (i k : ℕ) (name : Chars) (c d : Cost) → FollowsOn a i name k
      → OfDocument cap first name c → OfWrongForest cap first second a k d → OfWrongForest cap first second a i (sum cap c d)
  pub kind5 : (a b : Content) (i j : ℕ) → Accepts a i → (Accepts b j → ⊥) → OfOddForest cap first a b i j (Fin 0)
  pub kind6 : (e : Chars) (a b : Content) (i j k l : ℕ) (name : Chars) (c d : Cost) → content_in second e ≡ Some b → FollowsOn a i name k → FollowsOn b j name l
      → OfDocument cap first name c → OfOddForest cap first a b k l d → OfOddForest cap first a b i j (sum cap c d)
  pub kind7 : (a b : Content) (i j k : ℕ) (name : Chars) (c d : Cost) → FollowsOn a i name k → ((l : ℕ) → FollowsOn b j name l → ⊥)
      → OfDocument cap first name c → OfForest cap first a k d → OfOddForest cap first a b i j (sum cap c d)
  pub kind8 : (e : Chars) (a : Content) (c : Cost) → content_in first e ≡ Some a → OfForest cap first a 0 c → OfDocument cap first e (sum cap (Fin 1) c)
  pub kind9 : (e : Chars) (a : Content) (c : Cost) → content_in first e ≡ Some a
      → OfWrongForest cap first second a 0 c → OfSeparating cap first second e (sum cap (Fin 1) c)
  pub kind10 : (e : Chars) (a b : Content) (c : Cost) → content_in first e ≡ Some a → content_in second e ≡ Some b
      → OfOddForest cap first a b 0 0 c → OfSeparating cap first second e (sum cap (Fin 1) c)
  pub kind11 : (e : Chars) (a : Content) (c : Cost) → content_in first e ≡ Some a → IsTrue (is_some (odd_in first second e))
      → OfDocument cap first e c → OfSeparating cap first second e c

abbrev pub EachGives : Type 0
EachGives = (first second : Declarations) (cap : ℕ) → IsKept first → IsKept second → GivesDocuments first second cap
