-- The solved graph of a comparison gives the exact tables.
use Rattle.std.proofs.Common.{◌≡◌, List, [], ◌∷◌, ℕ, ◌+◌, ◌⊎◌, inl, inr, refl, sym, ap, ◌∙◌, subst, Some}
use Rattle.content_models.specs.declared.content.Content.{Content}
use Rattle.content_models.specs.Model.{Chars}
use Rattle.position_automata.specs.Automata.{FollowsOn}
use Rattle.decl_set.specs.Declarations.{Declarations, content_in}
use Rattle.decl_set.specs.Asked.{IsKept}
use Rattle.tree_costs.specs.declared.cost.Cost.{Cost}
use Rattle.tree_costs.specs.declared.cost.Cost.TheVariants.{Fin, Inf}
use Rattle.tree_costs.specs.Costs.{AtMost, cut, sum, total}
use Rattle.position_automata.specs.Runs.{Runs}
use Rattle.bound_checker.specs.Tabled.{Costs}
use Rattle.bound_checker.specs.Kinds.{Feasible}
use Rattle.tree_costs.specs.Families.{OfDocument, OfNames}
use Rattle.exact_tables.specs.Families.{OfSeparating, OfOneName, OfOddNames, IsListed, IsReached}
use Rattle.tree_costs.specs.Forests.{OfForest}
use Rattle.exact_tables.specs.Forests.{OfWrongForest, OfOddForest}
use Rattle.exact_tables.specs.Lowering.{GivesDocuments}
use Rattle.tree_costs.specs.Graphs.{Graph, Forest, bare, tree, Grows, weights, OfTree, Path, OfPath, IsSolved}
use Rattle.exact_tables.specs.Comparing.{Elem, Plain, Copy, name, State, Go, Fs, Gs, Start, start, Moves, MovesBoth, MovesAlone, IsOdd, accepts, step, comparison, SolvedIsExact}
use Rattle.tree_costs.proofs.Costs.{at_most-trans, at_most-inf, sum-mono, zero-least, least-below, sum-cut, one-cut, cut-zero}
use Rattle.tree_costs.proofs.Solved.{IsClosed, closed, no_more}
use Rattle.exact_tables.proofs.Lowering.{gives_documents, other_run}
use Rattle.exact_tables.proofs.Closing.{either, start_listed, listed-more}
use Rattle.exact_tables.proofs.Exact.{exact}
use Rattle.exact_tables.proofs.Unique.{agreeing_is_exact}

-- an element has one content
one_content : (set : Declarations) (e : Chars) (a b : Content) → content_in set e ≡ Some a → content_in set e ≡ Some b → a ≡ b
one_content set e a b q r = cc

module _ (first second : Declarations) (cap : ℕ) where
  abbrev G : Graph Elem State
  G = comparison first second cap

  -- ---- what trees and paths of the graph give

  -- a forest of documents, or a separating document
  abbrev Gives : Elem → State → Cost → Type 0
  Gives x (Go i) c = (a : Content) × (content_in first (name x) ≡ Some a) × OfForest cap first a i c
  Gives x (Fs i) c = (a : Content) × (content_in first (name x) ≡ Some a) × OfWrongForest cap first second a i c
  Gives x (Gs i j) c =
      (a : Content) × (b : Content) × (content_in first (name x) ≡ Some a) × (content_in second (name x) ≡ Some b) × OfOddForest cap first a b i j c
  Gives x Start c = OfSeparating cap first second (name x) (sum cap (Fin 1) c)

  -- the document of a tree
  abbrev GivesTop : Elem → Cost → Type 0
  GivesTop (Plain e) c = OfDocument cap first e c
  GivesTop (Copy e) c = OfSeparating cap first second e c

  module _ (kf : IsKept first) (ks : IsKept second) where
    D : GivesDocuments first second cap
    D = gives_documents first second cap kf ks

    -- the documents that the kinds give
    by_go : (e on : Chars) (i k : ℕ) (c d : Cost) → Moves first second e i on k → OfDocument cap first on c
        → ((a : Content) × (content_in first e ≡ Some a) × OfForest cap first a k d) → (a : Content) × (content_in first e ≡ Some a) × OfForest cap first a i (sum cap c d)
    by_go e on i k c d s t f =
        (s.0, s.1, D.kind2 s.0 i k on c d s.2 t (subst (λ x. OfForest cap first x k d) (one_content first e f.0 s.0 f.1 s.1) f.2))

    by_copy : (e on : Chars) (i k : ℕ) (c d : Cost) → Moves first second e i on k → OfSeparating cap first second on c
        → ((a : Content) × (content_in first e ≡ Some a) × OfForest cap first a k d)
        → (a : Content) × (content_in first e ≡ Some a) × OfWrongForest cap first second a i (sum cap c d)
    by_copy e on i k c d s t f =
        (s.0, s.1, D.kind3 s.0 i k on c d s.2 t (subst (λ x. OfForest cap first x k d) (one_content first e f.0 s.0 f.1 s.1) f.2))

    by_later : (e on : Chars) (i k : ℕ) (c d : Cost) → Moves first second e i on k → OfDocument cap first on c
        → ((a : Content) × (content_in first e ≡ Some a) × OfWrongForest cap first second a k d)
        → (a : Content) × (content_in first e ≡ Some a) × OfWrongForest cap first second a i (sum cap c d)
    by_later e on i k c d s t f =
        (s.0, s.1, D.kind4 s.0 i k on c d s.2 t (subst (λ x. OfWrongForest cap first second x k d) (one_content first e f.0 s.0 f.1 s.1) f.2))

    by_both : (e on : Chars) (i j k l : ℕ) (c d : Cost) → MovesBoth first second e i j on k l → OfDocument cap first on c
        → ((a : Content) × (b : Content) × (content_in first e ≡ Some a) × (content_in second e ≡ Some b) × OfOddForest cap first a b k l d)
        → (a : Content) × (b : Content) × (content_in first e ≡ Some a) × (content_in second e ≡ Some b) × OfOddForest cap first a b i j (sum cap c d)
    by_both e on i j k l c d s t f = (
      s.0,
      s.1,
      s.2,
      s.3,
      D.kind6 e s.0 s.1 i j k l on c d s.3 s.4 s.5 t
          (subst (λ x. OfOddForest cap first x s.1 k l d) (one_content first e f.0 s.0 f.2 s.2)
          (subst (λ y. OfOddForest cap first f.0 y k l d) (one_content second e f.1 s.1 f.3 s.3) f.4)),
    )

    by_alone : (e on : Chars) (i j k : ℕ) (c d : Cost) → MovesAlone first second e i j on k → OfDocument cap first on c
        → ((a : Content) × (content_in first e ≡ Some a) × OfForest cap first a k d)
        → (a : Content) × (b : Content) × (content_in first e ≡ Some a) × (content_in second e ≡ Some b) × OfOddForest cap first a b i j (sum cap c d)
    by_alone e on i j k c d s t f =
        (s.0, s.1, s.2, s.3, D.kind7 s.0 s.1 i j k on c d s.4 s.5 t (subst (λ x. OfForest cap first x k d) (one_content first e f.0 s.0 f.1 s.2) f.2))

    ended : (x : Elem) (s : State) → accepts first second x s → Gives x s (Fin 0)
    ended x (Go i) h = (h.0, h.1, D.kind1 h.0 i h.2)
    ended (Copy e) (Gs i j) h = (h.0, h.1, h.2, h.3, D.kind5 h.0 h.1 i j h.4 h.5)
    ended (Copy e) Start (inl h) = D.kind10 e h.0 h.1 (Fin 0) h.2 h.3 (D.kind5 h.0 h.1 0 0 h.4 h.5)
    ended (Copy e) Start (inr h) =
        D.kind11 e h.1.0 (sum cap (Fin 1) (Fin 0)) h.1.1 h.0 (D.kind8 e h.1.0 (Fin 0) h.1.1 (D.kind1 h.1.0 0 h.1.2))
    ended (Copy e) (Fs i) h = elim h [ ]
    ended (Plain e) (Gs i j) h = elim h [ ]
    ended (Plain e) (Fs i) h = elim h [ ]
    ended (Plain e) Start h = elim h [ ]

    stepped : (x : Elem) (s : State) (y : Elem) (t : State) (c d : Cost) → step first second x s y t → GivesTop y c → Gives x t d → Gives x s (sum cap c d)
    stepped x (Go i) (Plain on) (Go k) c d h u w = by_go (name x) on i k c d h u w
    stepped (Copy e) (Fs i) (Copy on) (Go k) c d h u w = by_copy e on i k c d h u w
    stepped (Copy e) (Fs i) (Plain on) (Fs k) c d h u w = by_later e on i k c d h u w
    stepped (Copy e) (Gs i j) (Plain on) (Gs k l) c d h u w = by_both e on i j k l c d h u w
    stepped (Copy e) (Gs i j) (Plain on) (Go k) c d h u w = by_alone e on i j k c d h u w
    stepped (Copy e) Start (Copy on) (Go k) c d h u w = let f = by_copy e on 0 k c d h u w in D.kind9 e f.0 (sum cap c d) f.1 f.2
    stepped (Copy e) Start (Plain on) (Fs k) c d h u w = let f = by_later e on 0 k c d h u w in D.kind9 e f.0 (sum cap c d) f.1 f.2
    stepped (Copy e) Start (Plain on) (Gs k l) c d h u w = let f = by_both e on 0 0 k l c d h u w in D.kind10 e f.0 f.1 (sum cap c d) f.2 f.3 f.4
    stepped (Copy e) Start (Plain on) (Go k) c d (inl h) u w = let f = by_alone e on 0 0 k c d h u w in D.kind10 e f.0 f.1 (sum cap c d) f.2 f.3 f.4
    stepped (Copy e) Start (Plain on) (Go k) c d (inr h) u w =
        let f = by_go e on 0 k c d h.1 u w in
        D.kind11 e f.0 (sum cap (Fin 1) (sum cap c d)) f.1 h.0 (D.kind8 e f.0 (sum cap c d) f.1 f.2)
    stepped x s y t c d h u w = elim h [ ]

    top_of : (x : Elem) (c : Cost) → Gives x (start x) c → GivesTop x (sum cap (Fin 1) c)
    top_of (Plain e) c f = D.kind8 e f.0 c f.1 f.2
    top_of (Copy e) c f = f

    sized : (n k : ℕ) → sum cap (sum cap (Fin 1) (cut cap n)) (cut cap k) ≡ cut cap (1 + n + k)
    sized n k = ap (λ x. sum cap x (cut cap k)) (one-cut cap n) ∙ sum-cut cap (1 + n) k

    pub grown : (f : Forest Elem) (x : Elem) (s : State) → Grows G x s f → Gives x s (cut cap (weights G f))
    grown bare x s h = subst (Gives x s) (cut-zero cap) (ended x s h)
    grown (tree y inside later) x s h =
        subst (Gives x s) (sized (weights G inside) (weights G later))
        (stepped x s y h.0 (sum cap (Fin 1) (cut cap (weights G inside))) (cut cap (weights G later)) h.1
        (top_of y (cut cap (weights G inside)) (grown inside y (start y) h.2)) (grown later x h.0 h.3))

    pub tree_gives : (x : Elem) (c : Cost) → OfTree G x c → GivesTop x c
    tree_gives x c t =
        subst (GivesTop x) (one-cut cap (weights G t.0) ∙ sym t.2) (top_of x (cut cap (weights G t.0)) (grown t.0 x (start x) t.1))

-- ---- the inequalities

module _ (first second : Declarations) (cap : ℕ) (kf : IsKept first) (ks : IsKept second) (m : Elem → Cost) (p : Elem → State → Cost)
    (X : IsSolved (comparison first second cap) m p) where
  abbrev H : Graph Elem State
  H = comparison first second cap

  C : IsClosed H m p
  C = closed H m p X

  plain_step : (ys : List Elem) (e : Chars) (i : ℕ) (y : Elem) (t : State) → step first second (Plain e) (Go i) y t → Path H (Plain e) t ys
      → ((k : ℕ) → Path H (Plain e) (Go k) ys → Path H (Copy e) (Go k) ys) → Path H (Copy e) (Go i) (y ∷ ys)
  plain_step ys e i (Plain on) (Go k) s q rec = (Go k, s, rec k q)
  plain_step ys e i y t s q rec = elim s [ ]

  plain_path : (ys : List Elem) (e : Chars) (i : ℕ) → Path H (Plain e) (Go i) ys → Path H (Copy e) (Go i) ys
  plain_path [] e i h = h
  plain_path (y ∷ ys) e i h = plain_step ys e i y h.0 h.1 h.2 (λ k q. plain_path ys e k q)

  f_step : (ys : List Elem) (e : Chars) (y : Elem) (t : State) → step first second (Copy e) (Fs 0) y t → Path H (Copy e) t ys → Path H (Copy e) Start (y ∷ ys)
  f_step ys e (Copy on) (Go k) s q = (Go k, s, q)
  f_step ys e (Plain on) (Fs k) s q = (Fs k, s, q)
  f_step ys e y t s q = elim s [ ]

  f_path : (e : Chars) (ys : List Elem) → Path H (Copy e) (Fs 0) ys → Path H (Copy e) Start ys
  f_path e [] h = elim h [ ]
  f_path e (y ∷ ys) h = f_step ys e y h.0 h.1 h.2

  g_step : (ys : List Elem) (e : Chars) (y : Elem) (t : State) → step first second (Copy e) (Gs 0 0) y t → Path H (Copy e) t ys → Path H (Copy e) Start (y ∷ ys)
  g_step ys e (Plain on) (Gs k l) s q = (Gs k l, s, q)
  g_step ys e (Plain on) (Go k) s q = (Go k, inl s, q)
  g_step ys e y t s q = elim s [ ]

  g_path : (e : Chars) (ys : List Elem) → Path H (Copy e) (Gs 0 0) ys → Path H (Copy e) Start ys
  g_path e [] h = inl h
  g_path e (y ∷ ys) h = g_step ys e y h.0 h.1 h.2

  plain_grow : (inside later : Forest Elem) (e : Chars) (i : ℕ) (y : Elem) (t : State) → step first second (Plain e) (Go i) y t → Grows H y (start y) inside
      → Grows H (Plain e) t later → ((k : ℕ) → Grows H (Plain e) (Go k) later → Grows H (Copy e) (Go k) later) → Grows H (Copy e) (Go i) (tree y inside later)
  plain_grow inside later e i (Plain on) (Go k) s g q rec = (Go k, s, g, rec k q)
  plain_grow inside later e i y t s g q rec = elim s [ ]

  plain_grows : (f : Forest Elem) (e : Chars) (i : ℕ) → Grows H (Plain e) (Go i) f → Grows H (Copy e) (Go i) f
  plain_grows bare e i h = h
  plain_grows (tree y inside later) e i h = plain_grow inside later e i y h.0 h.1 h.2 h.3 (λ k q. plain_grows later e k q)

  odd_step : (inside later : Forest Elem) (e : Chars) → IsOdd first second e → (y : Elem) (t : State) → step first second (Plain e) (Go 0) y t
      → Grows H y (start y) inside → Grows H (Plain e) t later → Grows H (Copy e) Start (tree y inside later)
  odd_step inside later e o (Plain on) (Go k) s g q = (Go k, inr (o, s), g, plain_grows later e k q)
  odd_step inside later e o y t s g q = elim s [ ]

  odd_grows : (f : Forest Elem) (e : Chars) → IsOdd first second e → Grows H (Plain e) (Go 0) f → Grows H (Copy e) Start f
  odd_grows bare e o h = inr (o, h)
  odd_grows (tree y inside later) e o h = odd_step inside later e o y h.0 h.1 h.2 h.3

  copy_no_more : (e : Chars) (i : ℕ) → AtMost (p (Copy e) (Go i)) (p (Plain e) (Go i))
  copy_no_more e i = no_more H m p X (Copy e) (Plain e) (Go i) (Go i) (λ ys q. plain_path ys e i q)

  from_start : (e : Chars) (s : State) → ((ys : List Elem) → Path H (Copy e) s ys → Path H (Copy e) Start ys) → AtMost (m (Copy e)) (sum cap (Fin 1) (p (Copy e) s))
  from_start e s h = at_most-trans (m (Copy e)) (sum cap (Fin 1) (p (Copy e) Start)) (sum cap (Fin 1) (p (Copy e) s)) (C.tops (Copy e))
      (sum-mono cap (Fin 1) (p (Copy e) Start) (p (Copy e) s) (no_more H m p X (Copy e) (Copy e) Start s h))

  odd_no_more : (e : Chars) → IsOdd first second e → AtMost (m (Copy e)) (m (Plain e))
  odd_no_more e o = least-below (OfTree H (Copy e)) (m (Copy e)) (m (Plain e)) (X.trees (Copy e)) (elim (X.trees (Plain e)).1 [
    | inl q ↦ inl q
    | inr t ↦ inr (t.0, odd_grows t.0 e o t.1, t.2)
  ])

  module _ (g : Chars → ℕ → ℕ → Cost)
      (at_listed : (e : Chars) (a b : Content) (i j : ℕ) → content_in first e ≡ Some a → content_in second e ≡ Some b → IsListed first a b i j → g e i j ≡ p (Copy e) (Gs i j))
      (at_others : (e : Chars) (a b : Content) (i j : ℕ) → content_in first e ≡ Some a → content_in second e ≡ Some b → (IsListed first a b i j → ⊥) → g e i j ≡ Fin 0) where
    abbrev tables : Costs
    tables = record { m = λ e. m (Plain e); v = λ e. m (Copy e); p = λ e i. p (Plain e) (Go i); f = λ e i. p (Copy e) (Fs i); g = g }

    zero : (e : Chars) (a b : Content) (i j : ℕ) → content_in first e ≡ Some a → content_in second e ≡ Some b → (x : Cost) → (IsListed first a b i j → ⊥) → AtMost (g e i j) x
    zero e a b i j d s x n = subst (λ k. AtMost k x) (sym (at_others e a b i j d s n)) (zero-least x)

    -- a name that has a number for m has a document
    document : (on : Chars) → (m (Plain on) ≡ Inf) ⊎ OfDocument cap first on (m (Plain on))
    document on = elim (X.trees (Plain on)).1 [ inl q ↦ inl q | inr t ↦ inr (tree_gives first second cap kf ks (Plain on) (m (Plain on)) t) ]

    k6 : (e on : Chars) (a b : Content) (i j k l : ℕ) → content_in first e ≡ Some a → content_in second e ≡ Some b → FollowsOn a i on k → FollowsOn b j on l
        → AtMost (g e i j) (sum cap (m (Plain on)) (g e k l))
    k6 e on a b i j k l d s h q = either (IsListed first a b i j) (g e i j) (sum cap (m (Plain on)) (g e k l))
        (λ z. elim (document on) [
          | inl n ↦ subst (λ x. AtMost (g e i j) (sum cap x (g e k l))) (sym n) (at_most-inf (g e i j))
          | inr t ↦
              let w = listed-more first a b i j k l on z (t.0, t.1, t.2) h q in
              subst (λ x. AtMost x (sum cap (m (Plain on)) (g e k l))) (sym (at_listed e a b i j d s z))
              (subst (λ x. AtMost (p (Copy e) (Gs i j)) (sum cap (m (Plain on)) x)) (sym (at_listed e a b k l d s w))
              (C.steps (Copy e) (Gs i j) (Plain on) (Gs k l) (a, b, d, s, h, q, z, w)))
        ])
        (zero e a b i j d s (sum cap (m (Plain on)) (g e k l)))

    k7 : (e on : Chars) (a b : Content) (i j k : ℕ) → content_in first e ≡ Some a → content_in second e ≡ Some b → FollowsOn a i on k
        → ((l : ℕ) → FollowsOn b j on l → ⊥) → AtMost (g e i j) (sum cap (m (Plain on)) (p (Plain e) (Go k)))
    k7 e on a b i j k d s h w = either (IsListed first a b i j) (g e i j) (sum cap (m (Plain on)) (p (Plain e) (Go k)))
        (λ z. subst (λ x. AtMost x (sum cap (m (Plain on)) (p (Plain e) (Go k)))) (sym (at_listed e a b i j d s z))
        (at_most-trans (p (Copy e) (Gs i j)) (sum cap (m (Plain on)) (p (Copy e) (Go k))) (sum cap (m (Plain on)) (p (Plain e) (Go k)))
        (C.steps (Copy e) (Gs i j) (Plain on) (Go k) (a, b, d, s, h, w, z))
        (sum-mono cap (m (Plain on)) (p (Copy e) (Go k)) (p (Plain e) (Go k)) (copy_no_more e k))))
        (zero e a b i j d s (sum cap (m (Plain on)) (p (Plain e) (Go k))))

    pub feasible : Feasible first second cap tables
    feasible = record {
      k1 = λ e a i d h. C.ends (Plain e) (Go i) (a, d, h);
      k2 = λ e on a i k d s. C.steps (Plain e) (Go i) (Plain on) (Go k) (a, d, s);
      k3 = λ e on a i k d s. at_most-trans (p (Copy e) (Fs i)) (sum cap (m (Copy on)) (p (Copy e) (Go k))) (sum cap (m (Copy on)) (p (Plain e) (Go k)))
          (C.steps (Copy e) (Fs i) (Copy on) (Go k) (a, d, s)) (sum-mono cap (m (Copy on)) (p (Copy e) (Go k)) (p (Plain e) (Go k)) (copy_no_more e k));
      k4 = λ e on a i k d s. C.steps (Copy e) (Fs i) (Plain on) (Fs k) (a, d, s);
      k5 = λ e a b i j d s h w. either (IsListed first a b i j) (g e i j) (Fin 0)
          (λ z. subst (λ x. AtMost x (Fin 0)) (sym (at_listed e a b i j d s z)) (C.ends (Copy e) (Gs i j) (a, b, d, s, h, w, z))) (zero e a b i j d s (Fin 0));
      k6 = k6;
      k7 = k7;
      k8 = λ e a d. C.tops (Plain e);
      k9 = λ e a d. from_start e (Fs 0) (f_path e);
      k10 = λ e a b d s. subst (λ x. AtMost (m (Copy e)) (sum cap (Fin 1) x)) (sym (at_listed e a b 0 0 d s (start_listed first a b)))
          (from_start e (Gs 0 0) (g_path e));
      k11 = λ e a d o. odd_no_more e o;
    }

    -- ---- the names of paths

    abbrev Names : Elem → State → Cost → Type 0
    Names x (Go i) c = (a : Content) × (content_in first (name x) ≡ Some a) × OfNames cap (λ e. m (Plain e)) a i c
    Names x (Fs i) c = (a : Content) × (content_in first (name x) ≡ Some a) × OfOneName cap (λ e. m (Plain e)) (λ e. m (Copy e)) a i c
    Names x (Gs i j) c =
        (a : Content) × (b : Content) × (content_in first (name x) ≡ Some a) × (content_in second (name x) ≡ Some b) × OfOddNames cap (λ e. m (Plain e)) a b i j c
    Names x Start c = Unit {0}

    names_end : (x : Elem) (s : State) → accepts first second x s → Names x s (Fin 0)
    names_end x (Go i) h = (h.0, h.1, ([], h.2, refl))
    names_end (Copy e) (Gs i j) h = (h.0, h.1, h.2, h.3, ([], h.4, h.5, refl))
    names_end x Start h = tt
    names_end (Copy e) (Fs i) h = elim h [ ]
    names_end (Plain e) (Gs i j) h = elim h [ ]
    names_end (Plain e) (Fs i) h = elim h [ ]

    more_names : (e on : Chars) (i k : ℕ) (x d : Cost) (y : Chars → Cost) → y on ≡ x → Moves first second e i on k
        → ((a : Content) × (content_in first e ≡ Some a) × OfNames cap (λ e. m (Plain e)) a k d)
        → (a : Content) × (content_in first e ≡ Some a) × (names : List Chars) × Runs a i (on ∷ names) × (sum cap x d ≡ sum cap (y on) (total cap (λ e. m (Plain e)) names))
    more_names e on i k x d y h s w =
        let t = subst (λ z. OfNames cap (λ e. m (Plain e)) z k d) (one_content first e w.0 s.0 w.1 s.1) w.2 in
        (s.0, s.1, t.0, (k, s.2, t.1), ap (λ z. sum cap z d) (sym h) ∙ ap (sum cap (y on)) t.2)

    names_step : (x : Elem) (s : State) (y : Elem) (t : State) (d : Cost) → step first second x s y t → Names x t d → Names x s (sum cap (m y) d)
    names_step x (Go i) (Plain on) (Go k) d h w =
        let t = more_names (name x) on i k (m (Plain on)) d (λ e. m (Plain e)) refl h w in (t.0, t.1, (on ∷ t.2, t.3, t.4))
    names_step (Copy e) (Fs i) (Copy on) (Go k) d h w =
        let t = more_names e on i k (m (Copy on)) d (λ e. m (Copy e)) refl h w in (t.0, t.1, ([], on, t.2, t.3, t.4))
    names_step (Copy e) (Fs i) (Plain on) (Fs k) d h w =
        let t = subst (λ z. OfOneName cap (λ e. m (Plain e)) (λ e. m (Copy e)) z k d) (one_content first e w.0 h.0 w.1 h.1) w.2 in
        (h.0, h.1, (on ∷ t.0, t.1, t.2, (k, h.2, t.3), ap (sum cap (m (Plain on))) t.4))
    names_step (Copy e) (Gs i j) (Plain on) (Gs k l) d h w =
        let u = subst (λ z. OfOddNames cap (λ e. m (Plain e)) w.0 z k l d) (one_content second e w.1 h.1 w.3 h.3) w.4 in
        let t = subst (λ z. OfOddNames cap (λ e. m (Plain e)) z h.1 k l d) (one_content first e w.0 h.0 w.2 h.2) u in
        (h.0, h.1, h.2, h.3, (on ∷ t.0, (k, h.4, t.1), other_run second ks h.1 j l e on t.0 h.3 h.5 t.2, ap (sum cap (m (Plain on))) t.3))
    names_step (Copy e) (Gs i j) (Plain on) (Go k) d h w =
        let t = more_names e on i k (m (Plain on)) d (λ e. m (Plain e)) refl (h.0, h.2, h.4) w in
        (h.0, h.1, h.2, h.3, (on ∷ t.2, subst (λ z. Runs z i (on ∷ t.2)) (one_content first e t.0 h.0 t.1 h.2) t.3, (λ r. h.5 r.0 r.1), t.4))
    names_step x Start y t d h w = tt
    names_step x s y t d h w = elim h [ ]

    named : (ys : List Elem) (x : Elem) (s : State) → Path H x s ys → Names x s (total cap m ys)
    named [] x s h = names_end x s h
    named (y ∷ ys) x s h = names_step x s y h.0 (total cap m ys) h.1 (named ys x h.0 h.2)

    names_of : (x : Elem) (s : State) → (p x s ≡ Inf) ⊎ OfPath H m x s (p x s) → (p x s ≡ Inf) ⊎ Names x s (p x s)
    names_of x s (inl q) = inl q
    names_of x s (inr t) = inr (subst (Names x s) (sym t.2) (named t.0 x s t.1))

    separating : (e : Chars) → (m (Copy e) ≡ Inf) ⊎ OfSeparating cap first second e (m (Copy e))
    separating e = elim (X.trees (Copy e)).1 [ inl q ↦ inl q | inr t ↦ inr (tree_gives first second cap kf ks (Copy e) (m (Copy e)) t) ]

    pub reached : IsReached first second cap tables
    reached = record {
      m = document;
      v = separating;
      p = λ e a i d. elim (names_of (Plain e) (Go i) (X.paths (Plain e) (Go i)).1) [
        | inl q ↦ inl q
        | inr t ↦ inr (subst (λ z. OfNames cap (λ e. m (Plain e)) z i (p (Plain e) (Go i))) (one_content first e t.0 a t.1 d) t.2)
      ];
      f = λ e a i d. elim (names_of (Copy e) (Fs i) (X.paths (Copy e) (Fs i)).1) [
        | inl q ↦ inl q
        | inr t ↦ inr (subst (λ z. OfOneName cap (λ e. m (Plain e)) (λ e. m (Copy e)) z i (p (Copy e) (Fs i))) (one_content first e t.0 a t.1 d) t.2)
      ];
      g = λ e a b i j d s l.
          subst (λ x. (x ≡ Inf) ⊎ OfOddNames cap (λ e. m (Plain e)) a b i j x) (sym (at_listed e a b i j d s l))
          (elim (names_of (Copy e) (Gs i j) (X.paths (Copy e) (Gs i j)).1) [
            | inl q ↦ inl q
            | inr t ↦ inr (subst (λ z. OfOddNames cap (λ e. m (Plain e)) a z i j (p (Copy e) (Gs i j))) (one_content second e t.1 b t.3 s)
                (subst (λ z. OfOddNames cap (λ e. m (Plain e)) z t.1 i j (p (Copy e) (Gs i j))) (one_content first e t.0 a t.2 d) t.4))
          ]);
      unlisted = at_others;
    }

pub solved_is_exact : SolvedIsExact
solved_is_exact first second cap m p c kf ks X T =
    agreeing_is_exact first second cap (tables first second cap kf ks m p X c.g T.pairs T.unlisted) c
    (exact first second cap (tables first second cap kf ks m p X c.g T.pairs T.unlisted) kf ks
    (feasible first second cap kf ks m p X c.g T.pairs T.unlisted) (reached first second cap kf ks m p X c.g T.pairs T.unlisted))
    (record {
      m = λ e. sym (T.elements e);
      v = λ e. sym (T.copies e);
      p = λ e a i d. sym (T.states e a i d);
      f = λ e a i d. sym (T.wrong e a i d);
      g = λ e a b i j d s l. refl;
      unlisted = λ e a b i j d s l. refl;
    })
