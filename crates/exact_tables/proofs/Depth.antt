-- Costs fall along each path of a least or chosen tree, so that few elements are open.
use Rattle.std.proofs.Common.{◌≡◌, List, [], ◌∷◌, ℕ, ◌+◌, ◌≤◌, length, inl, inr, refl, sym, ap, ◌∙◌, subst, arith, Bool, true, false, Some, None}
use Rattle.std.specs.Prelude.{nat_lt}
use Rattle.std.proofs.lemmas.Bool.{lt-ltb, ltb-true}
use Rattle.content_models.specs.declared.content.Content.{Content}
use Rattle.content_models.specs.Model.{Chars}
use Rattle.document_trees.specs.Trees.{Attribute, Items, nothing, element, chars, comment, pi}
use Rattle.position_automata.proofs.Words.{Member}
use Rattle.decl_set.specs.Declarations.{Declarations, Element, content_in, attributes_in}
use Rattle.decl_set.specs.Asked.{IsKept}
use Rattle.tree_costs.specs.declared.cost.Cost.{Cost}
use Rattle.tree_costs.specs.declared.cost.Cost.TheVariants.{Fin, Inf}
use Rattle.tree_costs.specs.Beside.{Front, put}
use Rattle.tree_costs.specs.Costs.{sum}
use Rattle.tree_costs.specs.Families.{AreExact}
use Rattle.bound_checker.specs.Tabled.{Costs}
use Rattle.exact_tables.specs.Families.{IsExact}
use Rattle.position_automata.specs.Stepping.{step_on}
use Rattle.attlist_merge.specs.Shown.{required_of}
use Rattle.exact_tables.specs.LeastTrees.{AttainsLeast, LeastFrom, IsLeastTop, depth}
use Rattle.exact_tables.specs.Chosen.{odd_front, past, AttainsOdd, OddFrom, ChosenBy, AttainsWrong, WrongFrom, IsChosenTop}
use Rattle.bound_checker.proofs.Stepping.{declared_member}
use Rattle.exact_tables.proofs.Built.{parts, fin-same, step_of, start-of}
use Rattle.exact_tables.proofs.Unique.{exact_is_own}

-- ---- how many elements cost less than a number

abbrev below : Cost → ℕ → Bool
below (Fin a) n = nat_lt a n
below Inf n = false

abbrev one : Bool → ℕ
one true = 1
one false = 0

one-most : (b : Bool) → one b ≤ 1
one-most true = omega arith
one-most false = omega arith

abbrev count : (Chars → Cost) → ℕ → List Element → ℕ
count w n [] = 0
count w n (x ∷ es) = one (below (w x.0) n) + count w n es

count-most : (w : Chars → Cost) (n : ℕ) (es : List Element) → count w n es ≤ length es
count-most w n [] = omega arith
count-most w n (x ∷ es) = let h = count-most w n es in let o = one-most (below (w x.0) n) in omega (arith, h, o)

one-mono : (b d : Bool) → (b ≡ true → d ≡ true) → one b ≤ one d
one-mono true d h = subst (λ x. 1 ≤ one x) (sym (h refl)) (omega arith)
one-mono false d h = omega arith

below-mono : (c : Cost) (n k : ℕ) → n ≤ k → below c n ≡ true → below c k ≡ true
below-mono (Fin a) n k l h = let t = ltb-true a n h in lt-ltb a k (omega (arith, t, l))
below-mono Inf n k l h = h

count-mono : (w : Chars → Cost) (n k : ℕ) (es : List Element) → n ≤ k → count w n es ≤ count w k es
count-mono w n k [] l = omega arith
count-mono w n k (x ∷ es) l =
    let h = count-mono w n k es l in
    let o = one-mono (below (w x.0) n) (below (w x.0) k) (below-mono (w x.0) n k l) in
    omega (arith, h, o)

-- one that costs this number is not among those below it
count-more : (w : Chars → Cost) (n : ℕ) (es : List Element) (e : Chars) (a : Content) → Member (e, a) es → w e ≡ Fin n → 1 + count w n es ≤ count w (n + 1) es
count-more w n [] e a m q = elim m [ ]
count-more w n (x ∷ es) e a (inl p) q =
    let z : w x.0 ≡ Fin n = ap (λ y. w y.0) (sym p) ∙ q in
    let off : one (below (w x.0) n) ≡ 0 = ap (λ y. one (below y n)) z ∙ not_below n in
    let on : one (below (w x.0) (n + 1)) ≡ 1 = ap (λ y. one (below y (n + 1))) z ∙ ap one (lt-ltb n (n + 1) (omega arith)) in
    let h = count-mono w n (n + 1) es (omega arith) in
    omega (arith, off, on, h)
  where
    not_below : (n : ℕ) → one (below (Fin n) n) ≡ 0
    not_below n = by (nat_lt n n) refl
      where
        by : (b : Bool) → nat_lt n n ≡ b → one b ≡ 0
        by true h = absurd (let t = ltb-true n n h in omega (arith, t))
        by false h = refl
count-more w n (x ∷ es) e a (inr m) q =
    let h = count-more w n es e a m q in
    let o = one-mono (below (w x.0) n) (below (w x.0) (n + 1)) (below-mono (w x.0) n (n + 1) (omega arith)) in
    omega (arith, h, o)

put-depth : (front : Front) (items : Items) → depth (put front items) ≡ depth items
put-depth None items = refl
put-depth (Some run) items = refl

-- an element in front of others
deeper : (name : Chars) (atts : List Attribute) (inside later : Items) (n : ℕ) → 1 + depth inside ≤ n → depth later ≤ n → depth (element name atts inside later) ≤ n
deeper name atts inside later n h g = omega (arith, h, g)

-- ---- least trees

module _ (set : Declarations) (cap : ℕ) (m : Chars → Cost) (p : Chars → ℕ → Cost) (kept : IsKept set) (X : AreExact set cap m p) where
  least-depth : (e : Chars) (a : Content) (i n : ℕ) (xs : Items) → content_in set e ≡ Some a → n ≤ cap → p e i ≡ Fin n → LeastFrom set cap m p e a i xs
      → depth xs ≤ count m (n + 1) set.elements
  least-depth e a i n nothing d l q h = omega arith
  least-depth e a i n (element name at x k) d l q h =
      let s = (step_of set (AttainsLeast set cap m p e i) a i h.0 name h.3).1 in
      let u = parts cap (m name) (p e h.0) n l (sym s ∙ q) in
      let g = u.4 in
      let t = start-of set cap m p kept X name h.1 u.0 h.5 (omega (arith, g, l)) u.2 in
      let w = t.2 in
      let y = least-depth name h.1 0 t.0 x h.5 (omega (arith, g, l, w)) t.1 h.6 in
      let z = least-depth e a h.0 u.1 k d (omega (arith, g, l)) u.3 h.7 in
      let r = count-more m u.0 set.elements name h.1 (declared_member set.elements name h.1 h.5) u.2 in
      let y2 = subst (λ v. depth x ≤ count m v set.elements) (let v : t.0 + 1 ≡ u.0 = omega (arith, w) in v) y in
      let up = count-mono m (u.0 + 1) (n + 1) set.elements (omega (arith, g)) in
      let over = count-mono m (u.1 + 1) (n + 1) set.elements (omega (arith, g)) in
      deeper name at x k (count m (n + 1) set.elements) (omega (arith, y2, r, up)) (omega (arith, z, over))
  least-depth e a i n (chars t r k) d l q h = elim h [ ]
  least-depth e a i n (comment t k) d l q h = elim h [ ]
  least-depth e a i n (pi t b k) d l q h = elim h [ ]

  -- a row of least trees is no deeper than there are elements
  pub least-most : (e : Chars) (a : Content) (i n : ℕ) (xs : Items) → content_in set e ≡ Some a → n ≤ cap → p e i ≡ Fin n → LeastFrom set cap m p e a i xs
      → depth xs ≤ length set.elements
  least-most e a i n xs d l q h =
      let y = least-depth e a i n xs d l q h in
      let o = count-most m (n + 1) set.elements in
      omega (arith, y, o)

  pub top-most : (e : Chars) (n : ℕ) (at : List Attribute) (x : Items) → n ≤ cap → m e ≡ Fin n → IsLeastTop set cap m p e at x → 1 + depth x ≤ length set.elements
  top-most e n at x l q h =
      let t = start-of set cap m p kept X e h.0 n h.1 l q in
      let w = t.2 in
      let y = least-depth e h.0 0 t.0 x h.1 (omega (arith, l, w)) t.1 h.3 in
      let y2 = subst (λ v. depth x ≤ count m v set.elements) (let v : t.0 + 1 ≡ n = omega (arith, w) in v) y in
      let r = count-more m n set.elements e h.0 (declared_member set.elements e h.0 h.1) q in
      let o = count-most m (n + 1) set.elements in
      omega (arith, y2, r, o)

  pub least-open : (e : Chars) (n : ℕ) (at : List Attribute) (x : Items) → n ≤ cap → m e ≡ Fin n → IsLeastTop set cap m p e at x → 1 + depth x ≤ 1024
  least-open e n at x l q h = let y = top-most e n at x l q h in let f = kept.few in omega (arith, y, f)

module _ (first second : Declarations) (cap : ℕ) (c : Costs) (kf : IsKept first) (X : IsExact first second cap c) where
  abbrev O : AreExact first cap c.m c.p
  O = exact_is_own first second cap c X

  -- ---- the path of G

  odd-most : (e : Chars) (a b : Content) (i j n : ℕ) (xs : Items) → content_in first e ≡ Some a → n ≤ cap → c.g e i j ≡ Fin n → OddFrom first second cap c e a b i j xs
      → depth xs ≤ length first.elements
  odd-most e a b i j n nothing d l q h = omega arith
  odd-most e a b i j n (element m at x k) d l q h =
      let s = (step_of first (AttainsOdd first second cap c e b i j) a i h.0 m h.2).1 in
      let u = parts cap (c.m m) (past first second cap c e h.0 (step_on b j m)) n l (sym s ∙ q) in
      let g = u.4 in
      let y = top-most first cap c.m c.p kf O m u.0 at x (omega (arith, g, l)) u.2 h.3 in
      let z : depth k ≤ length first.elements = elim h.4 [
        | inl w ↦ odd-most e a b h.0 w.0 u.1 k d (omega (arith, g, l)) (sym (ap (past first second cap c e h.0) w.1) ∙ u.3) w.2
        | inr w ↦ least-most first cap c.m c.p kf O e a h.0 u.1 k d (omega (arith, g, l)) (sym (ap (past first second cap c e h.0) w.0) ∙ u.3) w.1
      ] in
      deeper m at x k (length first.elements) y z
  odd-most e a b i j n (chars t p k) d l q h = elim h [ ]
  odd-most e a b i j n (comment t k) d l q h = elim h [ ]
  odd-most e a b i j n (pi t o k) d l q h = elim h [ ]

  -- ---- chosen trees

  -- the elements that a chosen row may have open: those with a lesser v, and then those of least trees
  abbrev reach : ℕ → ℕ
  reach n = count c.v n first.elements + length first.elements

  split-depth : (W : Content → Type 0) (e : Chars) (atts : List Attribute) (items : Items) (n : ℕ) → n ≤ cap → c.v e ≡ Fin n
      → ((a : Content) (j : ℕ) → content_in first e ≡ Some a → n ≡ 1 + j → c.f e 0 ≡ Fin j → W a → depth items ≤ reach (j + 1))
      → ChosenBy first second cap c W e atts items → 1 + depth items ≤ reach (n + 1)
  split-depth W e atts items n l q f (inl h) =
      let o = h.1 in
      let y = top-most first cap c.m c.p kf O e n (required_of (attributes_in first e)) o.2 l (sym h.0.1 ∙ q) (o.0, o.3, refl, o.7) in
      let z : depth items ≡ depth o.2 = ap depth o.6 ∙ put-depth (odd_front first second e o.1) o.2 in
      omega (arith, y, z)
  split-depth W e atts items n l q f (inr h) = elim h.1 [
    | inl k ↦
        let u = parts cap (Fin 1) (c.g e 0 0) n l (sym k.0.1 ∙ q) in
        let g = u.4 in
        let y = odd-most e k.1.0 k.1.1 0 0 u.1 items k.1.2 (omega (arith, g, l)) u.3 k.1.5 in
        let r = count-more c.v n first.elements e k.1.0 (declared_member first.elements e k.1.0 k.1.2) q in
        omega (arith, y, r)
    | inr k ↦
        let u = parts cap (Fin 1) (c.f e 0) n l (sym k.1 ∙ q) in
        let lone : 1 ≡ u.0 = fin-same 1 u.0 u.2 in
        let g = u.4 in
        let y = f k.2.0 u.1 k.2.1 (omega (arith, lone, g)) u.3 k.2.3 in
        let y2 = subst (λ v. depth items ≤ reach v) (let v : u.1 + 1 ≡ n = omega (arith, lone, g) in v) y in
        let r = count-more c.v n first.elements e k.2.0 (declared_member first.elements e k.2.0 k.2.1) q in
        omega (arith, y2, r)
  ]

  wrong-depth : (e : Chars) (a : Content) (i n : ℕ) (xs : Items) → content_in first e ≡ Some a → n ≤ cap → c.f e i ≡ Fin n → WrongFrom first second cap c e a i xs
      → depth xs ≤ reach (n + 1)
  wrong-depth e a i n nothing d l q h = elim h [ ]
  wrong-depth e a i n (element m at x k) d l q h =
      let s = step_of first (AttainsWrong first second cap c e i) a i h.0 m h.1 in
      elim h.2 [
        | inl w ↦
            let u = parts cap (c.v m) (c.p e h.0) n l (sym w.0 ∙ q) in
            let g = u.4 in
            let t = split-depth (λ b. WrongFrom first second cap c m b 0 x) m at x u.0 (omega (arith, g, l)) u.2
            (λ b j t v y z. wrong-depth m b 0 j x t (omega (arith, g, l, v)) y z) w.1 in
            let r = least-most first cap c.m c.p kf O e a h.0 u.1 k d (omega (arith, g, l)) u.3 w.2 in
            let up = count-mono c.v (u.0 + 1) (n + 1) first.elements (omega (arith, g)) in
            deeper m at x k (reach (n + 1)) (omega (arith, t, up)) (omega (arith, r))
        | inr w ↦
            let other : c.f e i ≡ sum cap (c.m m) (c.f e h.0) = elim s.1 [ inl z ↦ absurd (w.0 z) | inr z ↦ z ] in
            let u = parts cap (c.m m) (c.f e h.0) n l (sym other ∙ q) in
            let g = u.4 in
            let y = top-most first cap c.m c.p kf O m u.0 at x (omega (arith, g, l)) u.2 w.1 in
            let r = wrong-depth e a h.0 u.1 k d (omega (arith, g, l)) u.3 w.2 in
            let up = count-mono c.v (u.1 + 1) (n + 1) first.elements (omega (arith, g)) in
            deeper m at x k (reach (n + 1)) (omega (arith, y)) (omega (arith, r, up))
      ]
  wrong-depth e a i n (chars t p k) d l q h = elim h [ ]
  wrong-depth e a i n (comment t k) d l q h = elim h [ ]
  wrong-depth e a i n (pi t b k) d l q h = elim h [ ]

  pub chosen-open : (e : Chars) (n : ℕ) (at : List Attribute) (x : Items) → n ≤ cap → c.v e ≡ Fin n → IsChosenTop first second cap c e at x → 1 + depth x ≤ 2048
  chosen-open e n at x l q h =
      let y = split-depth (λ a. WrongFrom first second cap c e a 0 x) e at x n l q (λ a j t v y z. wrong-depth e a 0 j x t (omega (arith, l, v)) y z) h in
      let m = count-most c.v (n + 1) first.elements in
      let f = kf.few in
      omega (arith, y, m, f)
