-- The trees of a set's own graph are its documents, and its paths the names that lead to acceptance.
use Rattle.std.proofs.Common.{◌≡◌, List, [], ◌∷◌, ℕ, ◌+◌, inl, refl, sym, ap, ◌∙◌, subst, Some, None}
use Rattle.content_models.specs.declared.content.Content.{Content}
use Rattle.content_models.specs.Model.{Chars}
use Rattle.document_trees.specs.Trees.{Items, nothing, element, chars, comment, pi, EachBelow, child_names, elements_in}
use Rattle.position_automata.specs.Automata.{FollowsOn}
use Rattle.position_automata.specs.Runs.{Runs}
use Rattle.position_automata.proofs.States.{derives_by_runs}
use Rattle.decl_set.specs.Declarations.{Declarations, content_in}
use Rattle.decl_set.specs.Asked.{IsKept}
use Rattle.decl_set.specs.Validity.{Meets}
use Rattle.decl_set.proofs.Suiting.{met}
use Rattle.tree_costs.specs.declared.cost.Cost.{Cost}
use Rattle.tree_costs.specs.Costs.{cut}
use Rattle.tree_costs.specs.Families.{OfDocument, OfNames, AreExact}
use Rattle.tree_costs.specs.Forests.{IsForest}
use Rattle.tree_costs.specs.Graphs.{Forest, bare, tree, Grows, weights, OfTree, Path, OfPath, IsSolved, own_graph}
use Rattle.tree_costs.specs.Laws.{SolvedIsExact}
use Rattle.tree_costs.proofs.Building.{topped, document_of}
use Rattle.tree_costs.proofs.Numbered.{same_least}
use Rattle.tree_costs.proofs.Beside.{each_has_right}

one_content : (set : Declarations) (e : Chars) (a b : Content) → content_in set e ≡ Some a → content_in set e ≡ Some b → a ≡ b
one_content set e a b q r = cc

-- the elements of items as trees
grove : Items → Forest Chars
grove nothing = bare
grove (element name atts inside later) = tree name (grove inside) (grove later)
grove (chars text plain later) = grove later
grove (comment text later) = grove later
grove (pi target body later) = grove later

module _ (set : Declarations) (cap : ℕ) where
  grove-weights : (items : Items) → weights (own_graph set cap) (grove items) ≡ elements_in items
  unfolding grove
  grove-weights nothing = refl
  grove-weights (element name atts inside later) =
      ap (λ k. 1 + k + weights (own_graph set cap) (grove later)) (grove-weights inside) ∙ ap (λ k. 1 + elements_in inside + k) (grove-weights later)
  grove-weights (chars text plain later) = grove-weights later
  grove-weights (comment text later) = grove-weights later
  grove-weights (pi target body later) = grove-weights later

  -- the trees of nodes that are right grow
  grows : (items : Items) (e : Chars) (a : Content) (i : ℕ) → content_in set e ≡ Some a → EachBelow (Meets set) items → Runs a i (child_names items)
      → Grows (own_graph set cap) e i (grove items)
  unfolding grove
  grows nothing e a i d h r = (a, d, r)
  grows (element name atts inside later) e a i d h r =
      let m = met set name atts inside h.0 in (
        r.0,
        (a, d, r.1),
        grows inside name m.content 0 m.declared h.1 ((derives_by_runs m.content (child_names inside)).0 m.derived),
        grows later e a r.0 d h.2 r.2,
      )
  grows (chars text plain later) e a i d h r = grows later e a i d h r
  grows (comment text later) e a i d h r = grows later e a i d h r
  grows (pi target body later) e a i d h r = grows later e a i d h r

  tree_of : (e : Chars) (c : Cost) → OfDocument cap set e c → OfTree (own_graph set cap) e c
  tree_of e c t =
      let m = met set (t.0).name (t.0).atts (t.0).items t.2.1.0 in (
        grove (t.0).items,
        grows (t.0).items e m.content 0 (subst (λ x. content_in set x ≡ Some m.content) t.2.0 m.declared) t.2.1.1
            ((derives_by_runs m.content (child_names (t.0).items)).0 m.derived),
        t.3 ∙ ap (λ k. cut cap (1 + k)) (sym (grove-weights (t.0).items)),
      )

  module _ (kept : IsKept set) where
    -- trees that grow are those of documents side by side
    record Grown (a : Content) (i : ℕ) (n : ℕ) : Type 0 where
      items : Items
      forest : IsForest set items
      runs : Runs a i (child_names items)
      sized : elements_in items ≡ n

    grown : (f : Forest Chars) (e : Chars) (a : Content) (i : ℕ) → content_in set e ≡ Some a → Grows (own_graph set cap) e i f
        → Grown a i (weights (own_graph set cap) f)
    grown bare e a i d h = record {
      items = nothing;
      forest = record { alone = refl; made = tt; met = tt };
      runs = subst (λ x. Runs x i []) (one_content set e h.0 a h.1 d) h.2;
      sized = refl;
    }
    grown (tree y inside later) e a i d h =
        let start = first inside h.2 in
        let t = grown inside y start.0 0 start.1 h.2 in
        let u = grown later e a h.0 d h.3 in
        let r = each_has_right set y start.0 kept start.1 in
        let w = topped set y start.0 t.items r.0 None kept start.1 r.1 t.forest t.runs in
        record {
          items = element y r.0 t.items u.items;
          forest = record { alone = (u.forest).alone; made = (w.document.0, w.document.1, (u.forest).made); met = (w.valid.1.0, w.valid.1.1, (u.forest).met) };
          runs = (h.0, subst (λ x. FollowsOn x i y h.0) (one_content set e h.1.0 a h.1.1 d) h.1.2, u.runs);
          sized = ap (λ k. 1 + k + elements_in u.items) t.sized ∙ ap (λ k. 1 + weights (own_graph set cap) inside + k) u.sized;
        }
      where
        -- what grows in y says that it is declared
        first : (f : Forest Chars) → Grows (own_graph set cap) y 0 f → (b : Content) × (content_in set y ≡ Some b)
        first bare g = (g.0, g.1)
        first (tree z inside later) g = (g.1.0, g.1.1)

    document_from : (e : Chars) (c : Cost) → OfTree (own_graph set cap) e c → OfDocument cap set e c
    document_from e c t = by t.0 t.1 t.2
      where
        made : (f : Forest Chars) (a : Content) → content_in set e ≡ Some a → Grows (own_graph set cap) e 0 f → c ≡ cut cap (1 + weights (own_graph set cap) f)
            → OfDocument cap set e c
        made f a d g q =
            let u = grown f e a 0 d g in
            subst (OfDocument cap set e) (ap (λ k. cut cap (1 + k)) u.sized ∙ sym q) (document_of set cap e a u.items kept d u.forest u.runs)

        by : (f : Forest Chars) → Grows (own_graph set cap) e 0 f → c ≡ cut cap (1 + weights (own_graph set cap) f) → OfDocument cap set e c
        by bare g q = made bare g.0 g.1 g q
        by (tree y inside later) g q = made (tree y inside later) g.1.0 g.1.1 g q

    path_of : (names : List Chars) (e : Chars) (a : Content) (i : ℕ) → content_in set e ≡ Some a → Runs a i names → Path (own_graph set cap) e i names
    path_of [] e a i d r = (a, d, r)
    path_of (name ∷ names) e a i d r = (r.0, (a, d, r.1), path_of names e a r.0 d r.2)

    runs_of : (names : List Chars) (e : Chars) (a : Content) (i : ℕ) → content_in set e ≡ Some a → Path (own_graph set cap) e i names → Runs a i names
    runs_of [] e a i d p = subst (λ x. Runs x i []) (one_content set e p.0 a p.1 d) p.2
    runs_of (name ∷ names) e a i d p = (p.0, subst (λ x. FollowsOn x i name p.0) (one_content set e p.1.0 a p.1.1 d) p.1.2, runs_of names e a p.0 d p.2)

    pub exact : (m : Chars → Cost) (p : Chars → ℕ → Cost) → IsSolved (own_graph set cap) m p → AreExact set cap m p
    exact m p X = record {
      sizes = λ e. same_least (OfTree (own_graph set cap) e) (OfDocument cap set e) (m e) (document_from e) (λ d t. inl (tree_of e d t)) (X.trees e);
      sums = λ e a i d. same_least (OfPath (own_graph set cap) m e i) (OfNames cap m a i) (p e i)
          (λ c t. (t.0, runs_of t.0 e a i d t.1, t.2)) (λ c t. inl (t.0, path_of t.0 e a i d t.1, t.2)) (X.paths e i);
    }

pub solved_is_exact : SolvedIsExact
solved_is_exact set cap m p kept X = exact set cap kept m p X
