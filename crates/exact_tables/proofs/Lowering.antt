-- What documents give is closed under the kinds.
use Rattle.std.proofs.Common.{◌≡◌, List, ◌∷◌, ℕ, ◌+◌, inl, inr, refl, sym, ap, ◌∙◌, subst, Some, IsTrue}
use Rattle.std.specs.Prelude.{is_some}
use Rattle.content_models.specs.declared.content.Content.{Content}
use Rattle.content_models.specs.Model.{Chars}
use Rattle.document_trees.specs.Trees.{Items, nothing, element, Node, IsDocument, child_names, elements_in, size, bare}
use Rattle.position_automata.specs.Automata.{FollowsOn}
use Rattle.position_automata.proofs.States.{one_state_follows}
use Rattle.decl_set.specs.Declarations.{Declarations, content_in}
use Rattle.decl_set.specs.Asked.{IsKept}
use Rattle.decl_set.specs.Validity.{IsValid}
use Rattle.tree_costs.specs.declared.cost.Cost.{Cost}
use Rattle.tree_costs.specs.declared.cost.Cost.TheVariants.{Fin}
use Rattle.tree_costs.specs.Costs.{cut, sum}
use Rattle.position_automata.specs.Runs.{Runs}
use Rattle.decl_set.specs.Oddness.{odd_in}
use Rattle.tree_costs.specs.Families.{OfDocument}
use Rattle.exact_tables.specs.Families.{OfSeparating}
use Rattle.tree_costs.specs.Forests.{IsForest, OfForest}
use Rattle.exact_tables.specs.Forests.{OfWrongForest, OfOddForest}
use Rattle.exact_tables.specs.Lowering.{GivesDocuments, EachGives}
use Rattle.tree_costs.proofs.Costs.{sum-cut, one-cut, cut-zero}
use Rattle.bound_checker.proofs.Running.{runs-of}
use Rattle.decl_set.proofs.Suiting.{met}
use Rattle.decl_set.proofs.Found.{element_is}
use Rattle.document_trees.proofs.Alone.{bare_names, bare_elements}
use Rattle.tree_costs.proofs.Building.{bare_forest}
use Rattle.exact_tables.proofs.Building.{document_of, wrong_below, wrong_names, wrong_odd, wrong-each}

none_forest : (set : Declarations) → IsForest set nothing
none_forest set = record { alone = refl; made = tt; met = tt }

-- a forest with one more document in front
with_front : (set : Declarations) (name : Chars) (node : Node) (items : Items) → IsDocument node → IsValid set name node → IsForest set items
    → IsForest set (element node.name node.atts node.items items)
with_front set name node items w n f = record { alone = f.alone; made = (w.0, w.1, f.made); met = (n.1.0, n.1.1, f.met) }

front_runs : (set : Declarations) (name : Chars) (node : Node) (names : List Chars) (a : Content) (i k : ℕ) → IsValid set name node → FollowsOn a i name k → Runs a k names
    → Runs a i (node.name ∷ names)
front_runs set name node names a i k n s r = (k, subst (λ x. FollowsOn a i x k) (sym n.0) s, r)

sums : (cap : ℕ) (c d : Cost) (n k : ℕ) → c ≡ cut cap n → d ≡ cut cap k → sum cap c d ≡ cut cap (n + k)
sums cap c d n k p q = ap (λ x. sum cap x d) p ∙ ap (sum cap (cut cap n)) q ∙ sum-cut cap n k

-- the second does not run where it does not from its one step
pub other_run : (second : Declarations) (ks : IsKept second) (b : Content) (j l : ℕ) (e name : Chars) (names : List Chars) → content_in second e ≡ Some b
    → FollowsOn b j name l → (Runs b l names → ⊥) → Runs b j (name ∷ names) → ⊥
other_run second ks b j l e name names s q w r =
    let one = (one_state_follows b).0 (element_is second e b ks s).deterministic in
    w (subst (λ x. Runs b x names) (one j r.0 l name r.1 q) r.2)

module _ (first second : Declarations) (cap : ℕ) (kf : IsKept first) (ks : IsKept second) where
  kind2 : (a : Content) (i k : ℕ) (name : Chars) (c d : Cost) → FollowsOn a i name k → OfDocument cap first name c → OfForest cap first a k d
      → OfForest cap first a i (sum cap c d)
  kind2 a i k name c d s t f = (
    element (t.0).name (t.0).atts (t.0).items f.0,
    with_front first name t.0 f.0 t.1 t.2 f.1,
    front_runs first name t.0 (child_names f.0) a i k t.2 s f.2,
    sums cap c d (size t.0) (elements_in f.0) t.3 f.3,
  )

  kind3 : (a : Content) (i k : ℕ) (name : Chars) (c d : Cost) → FollowsOn a i name k → OfSeparating cap first second name c → OfForest cap first a k d
      → OfWrongForest cap first second a i (sum cap c d)
  kind3 a i k name c d s t f = (
    element (t.0).name (t.0).atts (t.0).items f.0,
    with_front first name t.0 f.0 t.1.0 t.1.1 f.1,
    front_runs first name t.0 (child_names f.0) a i k t.1.1 s f.2,
    inl (λ x y. t.1.2 (t.1.1.0, (x, y))),
    sums cap c d (size t.0) (elements_in f.0) t.2 f.3,
  )

  kind4 : (a : Content) (i k : ℕ) (name : Chars) (c d : Cost) → FollowsOn a i name k → OfDocument cap first name c → OfWrongForest cap first second a k d
      → OfWrongForest cap first second a i (sum cap c d)
  kind4 a i k name c d s t f = (
    element (t.0).name (t.0).atts (t.0).items f.0,
    with_front first name t.0 f.0 t.1 t.2 f.1,
    front_runs first name t.0 (child_names f.0) a i k t.2 s f.2,
    inr f.3,
    sums cap c d (size t.0) (elements_in f.0) t.3 f.4,
  )

  kind6 : (e : Chars) (a b : Content) (i j k l : ℕ) (name : Chars) (c d : Cost) → content_in second e ≡ Some b → FollowsOn a i name k → FollowsOn b j name l
      → OfDocument cap first name c → OfOddForest cap first a b k l d → OfOddForest cap first a b i j (sum cap c d)
  kind6 e a b i j k l name c d q s h t f = (
    element (t.0).name (t.0).atts (t.0).items f.0,
    with_front first name t.0 f.0 t.1 t.2 f.1,
    front_runs first name t.0 (child_names f.0) a i k t.2 s f.2,
    (λ r. other_run second ks b j l e name (child_names f.0) q h f.3 (subst (λ x. Runs b j (x ∷ child_names f.0)) t.2.0 r)),
    sums cap c d (size t.0) (elements_in f.0) t.3 f.4,
  )

  kind7 : (a b : Content) (i j k : ℕ) (name : Chars) (c d : Cost) → FollowsOn a i name k → ((l : ℕ) → FollowsOn b j name l → ⊥)
      → OfDocument cap first name c → OfForest cap first a k d → OfOddForest cap first a b i j (sum cap c d)
  kind7 a b i j k name c d s w t f = (
    element (t.0).name (t.0).atts (t.0).items f.0,
    with_front first name t.0 f.0 t.1 t.2 f.1,
    front_runs first name t.0 (child_names f.0) a i k t.2 s f.2,
    (λ r. w r.0 (subst (λ x. FollowsOn b j x r.0) t.2.0 r.1)),
    sums cap c d (size t.0) (elements_in f.0) t.3 f.3,
  )

  topped : (c : Cost) (n : ℕ) → c ≡ cut cap n → cut cap (1 + n) ≡ sum cap (Fin 1) c
  topped c n q = sym (ap (sum cap (Fin 1)) q ∙ one-cut cap n)

  kind11 : (e : Chars) (a : Content) (c : Cost) → content_in first e ≡ Some a → IsTrue (is_some (odd_in first second e)) → OfDocument cap first e c
      → OfSeparating cap first second e c
  kind11 e a c d o t =
      let node = t.0 in
      let h = met first node.name node.atts node.items t.2.1.0 in
      let f = bare_forest first node.items t.1.1 t.2.1.1 in
      let r = subst (Runs h.content 0) (sym (bare_names node.items)) (runs-of h.content (child_names node.items) h.derived) in
      let z = subst (λ x. content_in first x ≡ Some h.content) t.2.0 h.declared in
      subst (OfSeparating cap first second e) (sym (t.3 ∙ ap (λ k. cut cap (1 + k)) (sym (bare_elements node.items))))
      (wrong_odd first second cap kf ks e h.content (bare node.items) z f r o)

  pub gives_documents : GivesDocuments first second cap
  gives_documents = record {
    kind1 = λ a i h. (nothing, none_forest first, h, cut-zero cap);
    kind2 = kind2;
    kind3 = kind3;
    kind4 = kind4;
    kind5 = λ a b i j h w. (nothing, none_forest first, h, w, cut-zero cap);
    kind6 = kind6;
    kind7 = kind7;
    kind8 = λ e a c d f. subst (OfDocument cap first e) (topped c (elements_in f.0) f.3) (document_of first second cap kf e a f.0 d f.1 f.2);
    kind9 = λ e a c d f. subst (OfSeparating cap first second e) (topped c (elements_in f.0) f.4)
        (wrong_below first second cap kf e a f.0 d f.1 f.2 (wrong-each second f.0 f.3));
    kind10 = λ e a b c d s f. subst (OfSeparating cap first second e) (topped c (elements_in f.0) f.4)
        (wrong_names first second cap kf e a b f.0 d s f.1 f.2 f.3);
    kind11 = kind11;
  }

pub each_gives : EachGives
each_gives first second cap kf ks = gives_documents first second cap kf ks
