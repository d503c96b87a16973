-- The choice of a least document, by the exact costs of one set.
use Rattle.std.specs.Prelude.{◌≡◌, ◌≤◌, ℕ, ◌+◌, ◌==◌, Bool, true, false, ◌&&◌, not, max, List, [], ◌∷◌, Some, IsTrue, ◌⊎◌}
use Rattle.std.specs.List.{list_any}
use Rattle.content_models.specs.declared.content.Content.{Content}
use Rattle.content_models.specs.Model.{Chars}
use Rattle.document_trees.specs.Trees.{Attribute, Items, nothing, element, chars, comment, pi, Node, IsDocument, EachNode, is_white, are_attributes, size}
use Rattle.position_automata.specs.Automata.{Accepts}
use Rattle.attlist_merge.specs.Shown.{required_of}
use Rattle.decl_set.specs.Declarations.{Declarations, content_in, attributes_in}
use Rattle.decl_set.specs.Asked.{IsKept}
use Rattle.decl_set.specs.Steps.{steps_in}
use Rattle.decl_set.specs.Validity.{IsValid}
use Rattle.tree_costs.specs.declared.cost.Cost.{Cost}
use Rattle.tree_costs.specs.declared.cost.Cost.TheVariants.{Fin}
use Rattle.tree_costs.specs.Costs.{sum}
use Rattle.tree_costs.specs.Families.{AreExact}

-- it is the first of the list of which P holds
abbrev pub IsFirst : {A : Type 0} → (A → Type 0) → A → List A → Type 0
IsFirst P x [] = ⊥
IsFirst P x (y ∷ ys) = (P y × (x ≡ y)) ⊎ ((P y → ⊥) × IsFirst P x ys)

-- ---- least trees

module _ (set : Declarations) (cap : ℕ) (m : Chars → Cost) (p : Chars → ℕ → Cost) where
  -- the step attains P(i)
  abbrev pub AttainsLeast : Chars → ℕ → (Chars × ℕ) → Type 0
  AttainsLeast e i s = p e i ≡ sum cap (m s.0) (p e s.1)

  -- least trees along the path of P from state i of a content of e: it stops where the state accepts, else takes the first
  -- step that attains P
  abbrev pub LeastFrom : Chars → Content → ℕ → Items → Type 0
  LeastFrom e a i nothing = Accepts a i
  LeastFrom e a i (element name atts inside later) =
      (k : ℕ) × (b : Content) × (Accepts a i → ⊥) × IsFirst (AttainsLeast e i) (name, k) (steps_in set a i)
      × (atts ≡ required_of (attributes_in set name)) × (content_in set name ≡ Some b) × LeastFrom name b 0 inside × LeastFrom e a k later
  LeastFrom e a i (chars text plain later) = ⊥
  LeastFrom e a i (comment text later) = ⊥
  LeastFrom e a i (pi target body later) = ⊥

  -- the attributes and items of a least tree of e
  abbrev pub IsLeastTop : Chars → List Attribute → Items → Type 0
  IsLeastTop e atts items = (a : Content) × (content_in set e ≡ Some a) × (atts ≡ required_of (attributes_in set e)) × LeastFrom e a 0 items

  -- a least tree of e
  abbrev pub IsLeastTree : Chars → Node → Type 0
  IsLeastTree e node = (node.name ≡ e) × IsLeastTop e node.atts node.items

-- ---- what can be written and read back

-- whether a run comes first
abbrev pub begins_run : Items → Bool
begins_run (chars text plain later) = true
begins_run items = false

abbrev pub has_cr : List ℕ → Bool
has_cr text = list_any (λ x. x == 13) text

abbrev pub is_filled : List ℕ → Bool
is_filled [] = false
is_filled (x ∷ text) = true

-- the runs of a node can be written: no two stand side by side, and plain ones are white, not empty and without CR. There
-- are no comments and no processing instructions.
abbrev pub are_written : Items → Bool
are_written nothing = true
are_written (element name atts inside later) = are_written later
are_written (chars text true later) = is_white text && (is_filled text && (not (has_cr text) && (not (begins_run later) && are_written later)))
are_written (chars text false later) = not (begins_run later) && are_written later
are_written (comment text later) = false
are_written (pi target body later) = false

abbrev pub IsWritten : Chars → List Attribute → Items → Type 0
IsWritten e atts items = IsTrue (are_attributes atts) × IsTrue (are_written items)

-- how many elements are open at most
abbrev pub depth : Items → ℕ
depth nothing = 0
depth (element name atts inside later) = max (1 + depth inside) (depth later)
depth (chars text plain later) = depth later
depth (comment text later) = depth later
depth (pi target body later) = depth later

-- the tree is a document, valid, of this size, and can be written: each node, and no more elements are open than this
pub record IsBuilt (open_ones : ℕ) (set : Declarations) (e : Chars) (n : ℕ) (node : Node) : Type 0 where
  pub document : IsDocument node
  pub valid : IsValid set e node
  pub sized : size node ≡ n
  pub written : EachNode IsWritten node
  pub shallow : 1 + depth node.items ≤ open_ones

-- ---- the laws

-- two least trees of an element are equal
abbrev pub OneLeastTree : Type 0
OneLeastTree =
    (set : Declarations) (cap : ℕ) (m : Chars → Cost) (p : Chars → ℕ → Cost) (e : Chars) (x y : Node)
    → IsLeastTree set cap m p e x → IsLeastTree set cap m p e y → x ≡ y

-- by the exact costs of a set a least tree is built so, as large as m says, and not more than 1,024 elements are open
abbrev pub LeastTreeIsBuilt : Type 0
LeastTreeIsBuilt =
    (set : Declarations) (cap : ℕ) (m : Chars → Cost) (p : Chars → ℕ → Cost) → IsKept set → AreExact set cap m p
    → (e : Chars) (n : ℕ) → n ≤ cap → m e ≡ Fin n → (node : Node) → IsLeastTree set cap m p e node → IsBuilt 1024 set e n node

-- where m has a number up to the cap there is a least tree
abbrev pub LeastTreeExists : Type 0
LeastTreeExists =
    (set : Declarations) (cap : ℕ) (m : Chars → Cost) (p : Chars → ℕ → Cost) → IsKept set → AreExact set cap m p
    → (e : Chars) (n : ℕ) → n ≤ cap → m e ≡ Fin n → (node : Node) × IsLeastTree set cap m p e node
