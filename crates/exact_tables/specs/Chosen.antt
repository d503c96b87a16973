-- The choice of a least separating document, and what exact tables say of least ones.
use Rattle.std.specs.Prelude.{◌≡◌, ◌≤◌, ℕ, true, false, List, [], ◌∷◌, Option, Some, None, is_some, IsTrue, ◌⊎◌}
use Rattle.content_models.specs.declared.content.Content.{Content}
use Rattle.content_models.specs.declared.content.TextKind.{TextKind}
use Rattle.content_models.specs.declared.content.TextKind.TheVariants.{NoItems, White}
use Rattle.content_models.specs.Model.{Chars}
use Rattle.content_models.specs.Kinds.{text_kind}
use Rattle.document_trees.specs.Trees.{Attribute, Items, nothing, element, chars, comment, pi, Node}
use Rattle.position_automata.specs.Automata.{Accepts}
use Rattle.attlist_merge.specs.Lists.{Definitions}
use Rattle.attlist_merge.specs.Oddness.{shown_by}
use Rattle.attlist_merge.specs.Shown.{required_of}
use Rattle.decl_set.specs.Declarations.{Declarations, content_in, attributes_in}
use Rattle.decl_set.specs.Asked.{IsKept}
use Rattle.decl_set.specs.Validity.{IsSeparating}
use Rattle.tree_costs.specs.declared.cost.Cost.{Cost}
use Rattle.tree_costs.specs.declared.cost.Cost.TheVariants.{Fin}
use Rattle.decl_set.specs.declared.breaks.Odd.{Odd}
use Rattle.decl_set.specs.declared.breaks.Odd.TheVariants as odd
use Rattle.tree_costs.specs.Costs.{sum}
use Rattle.tree_costs.specs.Beside.{Front, put}
use Rattle.decl_set.specs.Oddness.{odd_in}
use Rattle.decl_set.specs.Steps.{steps_in}
use Rattle.position_automata.specs.Stepping.{step_on}
use Rattle.bound_checker.specs.Tabled.{Costs}
use Rattle.exact_tables.specs.Families.{IsExact}
use Rattle.exact_tables.specs.LeastTrees.{IsFirst, LeastFrom, IsLeastTop, IsLeastTree, IsBuilt}

-- ---- what stands beside the elements

-- the attributes of an odd element: one that is lacking or not covered stands in its place with the value that shows it
abbrev pub odd_atts : Odd → Definitions → List Attribute
odd_atts odd.Undeclared list = required_of list
odd_atts odd.Text list = required_of list
odd_atts (odd.Attribute o) list = shown_by o list

-- a plain space where the first has children and the second is EMPTY, else `x`
abbrev pub front_text : TextKind → TextKind → Front
front_text White NoItems = Some (0x20 ∷ [], true)
front_text k l = Some (0x78 ∷ [], false)

abbrev pub front_of : Option Content → Option Content → Front
front_of (Some a) (Some b) = front_text (text_kind a) (text_kind b)
front_of a b = None

-- the run in front of the children of an odd element
abbrev pub odd_front : Declarations → Declarations → Chars → Odd → Front
odd_front first second e odd.Undeclared = None
odd_front first second e odd.Text = front_of (content_in first e) (content_in second e)
odd_front first second e (odd.Attribute o) = None

-- ---- least separating trees

module _ (first second : Declarations) (cap : ℕ) (c : Costs) where
  -- what follows a step of kind 6 or 7
  abbrev pub past : Chars → ℕ → Option ℕ → Cost
  past e k (Some l) = c.g e k l
  past e k None = c.p e k

  -- the step attains G(i, j)
  abbrev pub AttainsOdd : Chars → Content → ℕ → ℕ → (Chars × ℕ) → Type 0
  AttainsOdd e b i j s = c.g e i j ≡ sum cap (c.m s.0) (past e s.1 (step_on b j s.0))

  -- G is 0 at the pair, and kind 5 applies
  abbrev pub StopsOdd : Chars → Content → Content → ℕ → ℕ → Type 0
  StopsOdd e a b i j = (c.g e i j ≡ Fin 0) × Accepts a i × (Accepts b j → ⊥)

  -- least trees along the path of G from a pair: it stops where it can, else takes the first step that attains G, and after
  -- one that the second does not have follows P
  abbrev pub OddFrom : Chars → Content → Content → ℕ → ℕ → Items → Type 0
  OddFrom e a b i j nothing = StopsOdd e a b i j
  OddFrom e a b i j (element name atts inside later) =
      (k : ℕ) × (StopsOdd e a b i j → ⊥) × IsFirst (AttainsOdd e b i j) (name, k) (steps_in first a i)
      × IsLeastTop first cap c.m c.p name atts inside
      × (((l : ℕ) × (step_on b j name ≡ Some l) × OddFrom e a b k l later) ⊎ ((step_on b j name ≡ None) × LeastFrom first cap c.m c.p e a k later))
  OddFrom e a b i j (chars text plain later) = ⊥
  OddFrom e a b i j (comment text later) = ⊥
  OddFrom e a b i j (pi target body later) = ⊥

  -- v(e) is attained for what is odd beside the elements
  abbrev pub AttainsKind11 : Chars → Type 0
  AttainsKind11 e = IsTrue (is_some (odd_in first second e)) × (c.v e ≡ c.m e)

  -- v(e) is attained for the names of the children
  abbrev pub AttainsKind10 : Chars → Type 0
  AttainsKind10 e = IsTrue (is_some (content_in second e)) × (c.v e ≡ sum cap (Fin 1) (c.g e 0 0))

  -- v(e) is attained for one of the children
  abbrev pub AttainsKind9 : Chars → Type 0
  AttainsKind9 e = c.v e ≡ sum cap (Fin 1) (c.f e 0)

  -- a least tree with what is odd: a run in front, or an attribute in its place
  abbrev pub ChosenOdd : Chars → List Attribute → Items → Type 0
  ChosenOdd e atts items =
      (a : Content) × (o : Odd) × (inside : Items) × (content_in first e ≡ Some a) × (odd_in first second e ≡ Some o)
      × (atts ≡ odd_atts o (attributes_in first e)) × (items ≡ put (odd_front first second e o) inside) × LeastFrom first cap c.m c.p e a 0 inside

  -- the path of G
  abbrev pub ChosenNames : Chars → List Attribute → Items → Type 0
  ChosenNames e atts items =
      (a : Content) × (b : Content) × (content_in first e ≡ Some a) × (content_in second e ≡ Some b)
      × (atts ≡ required_of (attributes_in first e)) × OddFrom e a b 0 0 items

  -- the first of the three that attains v(e), where the path of F is told from the content
  abbrev pub ChosenBy : (Content → Type 0) → Chars → List Attribute → Items → Type 0
  ChosenBy Wrong e atts items =
      (AttainsKind11 e × ChosenOdd e atts items)
      ⊎ ((AttainsKind11 e → ⊥) × ((AttainsKind10 e × ChosenNames e atts items)
      ⊎ ((AttainsKind10 e → ⊥) × AttainsKind9 e × ((a : Content) × (content_in first e ≡ Some a) × (atts ≡ required_of (attributes_in first e)) × Wrong a))))

  -- the step attains F(i) by kind 3, with a separating child
  abbrev pub AttainsKind3 : Chars → ℕ → (Chars × ℕ) → Type 0
  AttainsKind3 e i s = c.f e i ≡ sum cap (c.v s.0) (c.p e s.1)

  -- and by kind 4, with a separating child later
  abbrev pub AttainsKind4 : Chars → ℕ → (Chars × ℕ) → Type 0
  AttainsKind4 e i s = c.f e i ≡ sum cap (c.m s.0) (c.f e s.1)

  abbrev pub AttainsWrong : Chars → ℕ → (Chars × ℕ) → Type 0
  AttainsWrong e i s = AttainsKind3 e i s ⊎ AttainsKind4 e i s

  -- trees along the path of F from state i: it takes the first step that attains F. By kind 3, which comes before kind 4, the
  -- child is a chosen separating tree, and P is followed then; by kind 4 it is a least tree, and F is followed on
  abbrev pub WrongFrom : Chars → Content → ℕ → Items → Type 0
  WrongFrom e a i nothing = ⊥
  WrongFrom e a i (element name atts inside later) =
      (k : ℕ) × IsFirst (AttainsWrong e i) (name, k) (steps_in first a i)
      × ((AttainsKind3 e i (name, k) × ChosenBy (λ b. WrongFrom name b 0 inside) name atts inside × LeastFrom first cap c.m c.p e a k later)
      ⊎ ((AttainsKind3 e i (name, k) → ⊥) × IsLeastTop first cap c.m c.p name atts inside × WrongFrom e a k later))
  WrongFrom e a i (chars text plain later) = ⊥
  WrongFrom e a i (comment text later) = ⊥
  WrongFrom e a i (pi target body later) = ⊥

  -- the attributes and items of the chosen separating tree of e
  abbrev pub IsChosenTop : Chars → List Attribute → Items → Type 0
  IsChosenTop e atts items = ChosenBy (λ a. WrongFrom e a 0 items) e atts items

  -- the chosen separating tree of e
  abbrev pub IsChosen : Chars → Node → Type 0
  IsChosen e node = (node.name ≡ e) × IsChosenTop e node.atts node.items

-- ---- the laws

-- two least trees of an element are equal
abbrev pub OneLeast : Type 0
OneLeast = (first : Declarations) (cap : ℕ) (c : Costs) (e : Chars) (x y : Node) → IsLeastTree first cap c.m c.p e x → IsLeastTree first cap c.m c.p e y → x ≡ y

-- and so are two chosen ones
abbrev pub OneChosen : Type 0
OneChosen =
    (first second : Declarations) (cap : ℕ) (c : Costs) (e : Chars) (x y : Node) → IsChosen first second cap c e x → IsChosen first second cap c e y → x ≡ y

-- by exact tables a least tree is built so, as large as m says
abbrev pub LeastIsBuilt : Type 0
LeastIsBuilt =
    (first second : Declarations) (cap : ℕ) (c : Costs) → IsKept first → IsKept second → IsExact first second cap c
    → (e : Chars) (n : ℕ) → n ≤ cap → c.m e ≡ Fin n → (node : Node) → IsLeastTree first cap c.m c.p e node → IsBuilt 1024 first e n node

-- a chosen tree is built so, as large as v says, and separates
abbrev pub ChosenIsBuilt : Type 0
ChosenIsBuilt =
    (first second : Declarations) (cap : ℕ) (c : Costs) → IsKept first → IsKept second → IsExact first second cap c
    → (e : Chars) (n : ℕ) → n ≤ cap → c.v e ≡ Fin n → (node : Node) → IsChosen first second cap c e node
    → IsBuilt 2048 first e n node × IsSeparating first second e node

-- where m has a number up to the cap there is a least tree
abbrev pub LeastExists : Type 0
LeastExists =
    (first second : Declarations) (cap : ℕ) (c : Costs) → IsKept first → IsKept second → IsExact first second cap c
    → (e : Chars) (n : ℕ) → n ≤ cap → c.m e ≡ Fin n → (node : Node) × IsLeastTree first cap c.m c.p e node

-- where v has a number up to the cap there is a chosen tree
abbrev pub ChosenExists : Type 0
ChosenExists =
    (first second : Declarations) (cap : ℕ) (c : Costs) → IsKept first → IsKept second → IsExact first second cap c
    → (e : Chars) (n : ℕ) → n ≤ cap → c.v e ≡ Fin n → (node : Node) × IsChosen first second cap c e node
