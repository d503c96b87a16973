-- The step that is taken is that of the chosen trees.
use Rattle.std.proofs.Common.{◌≡◌, ◌∙◌, ◌≤◌, ℕ, zero, suc, ◌+◌, List, [], ◌∷◌, Bool, true, false, cond, not, ◌&&◌, ◌||◌, find, length, drop, refl, sym, ap, subst, arith, inl, inr, ⊎_elim, Option, Some, None, slice_get}
use Rattle.std.specs.Prelude.{nat_lt, is_none, option_map, option_and_then}
use Rattle.std.specs.Option.{option_map_or}
use Rattle.std.proofs.lemmas.Bool.{both_ways, and_from, and_parts, lt-ltb, or_cases}
use Rattle.attribute_types.proofs.TextTests.{on_test}
use Rattle.attlist_merge.proofs.Turns.{drop_step, drop_all}
use Rattle.content_models.specs.declared.content.Content.{Content}
use Rattle.content_models.specs.Model.{Chars}
use Rattle.document_trees.specs.Trees.{Attribute, Items, nothing, element, chars, comment, pi}
use Rattle.position_automata.specs.Automata.{states, Accepts}
use Rattle.position_automata.specs.Stepping.{does_accept, step_on}
use Rattle.position_automata.proofs.Stepping.{accept_within, step_within, on_to}
use Rattle.decl_set.specs.Asked.{IsKept}
use Rattle.decl_set.specs.Declarations.{Declarations, Element, name_of, content_in}
use Rattle.decl_set.specs.Steps.{steps_in, steps_at}
use Rattle.decl_set.proofs.Found.{found_at}
use Rattle.tree_costs.specs.declared.cost.Cost.{Cost}
use Rattle.tree_costs.specs.declared.cost.Cost.TheVariants.{Fin, Inf}
use Rattle.tree_costs.specs.Costs.{at_most, sum}
use Rattle.tree_costs.specs.Leasts.{place_of}
use Rattle.tree_costs.proofs.Costs.{order_to, order_from, at_most-refl, at_most-antisym}
use Rattle.tree_costs.proofs.Places.{has_place, is_at}
use Rattle.bound_checker.proofs.Stepping.{accept_to, accept_from, few}
use Rattle.bound_checker.specs.Tabled.{is_pair, state_of}
use Rattle.exact_tables.specs.LeastTrees.{IsFirst, AttainsLeast}
use Rattle.exact_tables.specs.Chosen.{past, AttainsOdd, StopsOdd, AttainsKind3, AttainsKind4, AttainsWrong, IsChosenTop}
use Rattle.separating_article.specs.declared.choosing.Path.{Path}
use Rattle.separating_article.specs.declared.choosing.Path.TheVariants.{Own, Wrong, Pair}
use Rattle.separating_article.specs.declared.choosing.Step.{Step}
use Rattle.separating_article.specs.declared.guide.Book.{Book}
use Rattle.separating_article.specs.declared.guide.Book.TheVariants.{One, Two}
use Rattle.separating_article.specs.declared.guide.Guide.{Guide}
use Rattle.separating_article.specs.Guides.{m_at, v_at, p_at, f_at, g_at, costs_by, costs_in, IsGuide}
use Rattle.separating_article.specs.Choosing as choose
use Rattle.separating_article.specs.Choosing.{is_same, own_content, other_content, accepts_in, step_in, past_at, m_on, attains_own, attains_here, attains_later, attains_odd, attains, has_wrong, path_behind, past_path, ends, first_step, taken, next_step}
use Rattle.separating_article.specs.Paths.{IsTop, Follows}
use Rattle.separating_article.specs.Sizes.{is_empty}
use Rattle.separating_article.specs.Growing.{IsNext}

-- ---- the same cost

same_to : (c d : Cost) → is_same c d ≡ true → c ≡ d
same_to c d h = let t = and_parts (at_most c d) (at_most d c) h in at_most-antisym c d (order_to c d t.0) (order_to d c t.1)

same_from : (c d : Cost) → c ≡ d → is_same c d ≡ true
same_from c d q = subst (λ x. is_same c x ≡ true) q (and_from (at_most c c) (at_most c c) (order_from c c (at_most-refl c)) (order_from c c (at_most-refl c)))

-- the same by costs that are equal to them
pub told_same : (c d x y : Cost) → c ≡ x → d ≡ y → is_same c d ≡ true → x ≡ y
told_same c d x y p q h = sym p ∙ same_to c d h ∙ q

pub test_same : (c d x y : Cost) → c ≡ x → d ≡ y → x ≡ y → is_same c d ≡ true
test_same c d x y p q h = same_from c d (p ∙ h ∙ sym q)

-- ---- the first of a list that passes a test

found_first : {A : Type 0} (P : A → Type 0) (t : A → Bool) (x : A) (xs : List A) → ((y : A) → t y ≡ true → P y) → ((y : A) → P y → t y ≡ true)
    → IsFirst P x xs → find t xs ≡ Some x
found_first P t x [] back to h = elim h [ ]
found_first {A} P t x (y ∷ xs) back to h =
    let Q : Bool → Type 0 = λ b. t y ≡ b → cond b (Some y) (find t xs) ≡ Some x in
    on_test Q (t y)
    (λ u q. elim h [ inl g ↦ ap (λ z. Some z) (sym g.1) | inr g ↦ absurd (g.0 (back y q)) ])
    (λ u q. elim h [ inl g ↦ absurd (both_ways (t y) q (to y g.0)) | inr g ↦ found_first P t x xs back to g.1 ])
    refl

-- what is left from a place on has the first of all
abbrev pub IsLeft : {X : Type 0} → (X → Bool) → List X → ℕ → Type 0
IsLeft t xs k = find t (drop k xs) ≡ find t xs

module _ {X : Type 0} (t : X → Bool) where
  pub left_found : (xs : List X) (k : ℕ) (x : X) → Some x ≡ slice_get xs k → t x ≡ true → IsLeft t xs k → Some x ≡ find t xs
  left_found xs k x at passes left =
      ap (λ b. cond b (Some x) (find t (drop (k + 1) xs))) (sym passes) ∙ sym (ap (find t) (drop_step xs k x (sym at))) ∙ left

  pub left_next : (xs : List X) (k : ℕ) (x : X) → Some x ≡ slice_get xs k → t x ≡ false → IsLeft t xs k → IsLeft t xs (k + 1)
  left_next xs k x at fails left =
      ap (λ b. cond b (Some x) (find t (drop (k + 1) xs))) (sym fails) ∙ sym (ap (find t) (drop_step xs k x (sym at))) ∙ left

  pub left_end : (xs : List X) (k : ℕ) → length xs ≤ k → IsLeft t xs k → None ≡ find t xs
  left_end xs k past left = sym (ap (find t) (drop_all xs k past)) ∙ left

  past_end : (xs : List X) (k : ℕ) → slice_get xs k ≡ None → find t (drop k xs) ≡ None
  past_end [] k h = ap (find t) (drop_all [] k (let l : 0 ≤ k = omega arith in l))
  past_end (x ∷ xs) zero h = cc
  past_end (x ∷ xs) (suc k) h = past_end xs k h

  pub left_none : (xs : List X) (k : ℕ) → None ≡ slice_get xs k → IsLeft t xs k → None ≡ find t xs
  left_none xs k at left = sym (past_end xs k (sym at)) ∙ left

-- the content of the element that stands at a place, by its name
pub named_content : (set : Declarations) → IsKept set → (e : ℕ) (name : Chars) (o : Option Element) → slice_get set.elements e ≡ o → Some name ≡ option_map name_of o
    → content_in set name ≡ option_map (λ x. x.1) o
named_content set kept e name None h q = cc
named_content set kept e name (Some x) h q =
    let same : name ≡ x.0 = cc in
    ap (content_in set) same ∙ (is_at set kept e x h).0

-- the other set's, where there is one
pub other_named : (first second : Declarations) (name : Chars) (o : Option Element) → Some name ≡ option_map name_of o
    → content_in second name ≡ option_and_then (λ x. content_in second x.0) o
other_named first second name None q = cc
other_named first second name (Some x) q = let same : name ≡ x.0 = cc in ap (content_in second) same

-- a state has at most 1,024 steps
pub few_steps : (set : Declarations) → IsKept set → (e i : ℕ) → length (steps_at set (slice_get set.elements e) i) ≤ 1024
few_steps set kept e i = by (slice_get set.elements e) refl
  where
    by : (o : Option Element) → slice_get set.elements e ≡ o → length (steps_at set o i) ≤ 1024
    by None at = omega arith
    by (Some x) at = few set x.0 x.1 i kept (found_at set.elements e x kept.elements_apart at)

-- ---- costs by places

pub m_same : (first : Declarations) (book : Book) (name : Chars) → m_at book (place_of first name) ≡ (costs_by first book).m name
m_same first (One least) name = refl
m_same first (Two tables) name = refl

pub v_same : (first : Declarations) (book : Book) (name : Chars) → v_at book (place_of first name) ≡ (costs_by first book).v name
v_same first (One least) name = refl
v_same first (Two tables) name = refl

module _ (first : Declarations) (name : Chars) (e : ℕ) (q : place_of first name ≡ Some e) where
  pub p_same : (book : Book) (i : ℕ) → p_at book e i ≡ (costs_by first book).p name i
  p_same (One least) i =
      ap (λ o. option_map_or (λ c. c) (option_and_then (λ row. slice_get row.p i) (option_and_then (slice_get least.now.rows) o)) Inf) (sym q)
  p_same (Two tables) i =
      ap (λ o. option_map_or (λ s. s.p) (option_and_then (λ row. state_of row i) (option_and_then (slice_get tables.now.rows) o)) Inf) (sym q)

  pub f_same : (book : Book) (i : ℕ) → f_at book e i ≡ (costs_by first book).f name i
  f_same (One least) i = refl
  f_same (Two tables) i =
      ap (λ o. option_map_or (λ s. s.f) (option_and_then (λ row. state_of row i) (option_and_then (slice_get tables.now.rows) o)) Inf) (sym q)

  pub g_same : (book : Book) (i j : ℕ) → g_at book e i j ≡ (costs_by first book).g name i j
  g_same (One least) i j = refl
  g_same (Two tables) i j =
      ap (λ o. option_map_or (λ s. s.g) (option_and_then (λ row. find (is_pair i j) row.pairs) (option_and_then (slice_get tables.now.rows) o)) (Fin 0)) (sym q)

-- ---- states of a content

refused : (b : Bool) → (b ≡ true → ⊥) → b ≡ false
refused true n = absurd (n refl)
refused false n = refl

accepts_is : (a : Content) (i : ℕ) → Accepts a i → accepts_in (Some a) i ≡ true
accepts_is a i h = and_from (nat_lt i (states a)) (does_accept a i) (lt-ltb i (states a) (accept_within a i h)) (accept_from a i h)

accepts_not : (a : Content) (i : ℕ) → (Accepts a i → ⊥) → accepts_in (Some a) i ≡ false
accepts_not a i nay = refused (nat_lt i (states a) && does_accept a i) (λ h. nay (accept_to a i (and_parts (nat_lt i (states a)) (does_accept a i) h).1))

accepts_told : (a : Content) (i : ℕ) → accepts_in (Some a) i ≡ true → Accepts a i
accepts_told a i h = accept_to a i (and_parts (nat_lt i (states a)) (does_accept a i) h).1

not_from : (b : Bool) → b ≡ false → not b ≡ true
not_from b q = ap not q

not_told : (b : Bool) → not b ≡ true → b ≡ true → ⊥
not_told true h q = cc
not_told false h q = cc

step_same : (b : Content) (j : ℕ) (name : Chars) → step_in (Some b) j name ≡ step_on b j name
step_same b j name =
    let P : Bool → Type 0 = λ t. nat_lt j (states b) ≡ t → cond t (step_on b j name) None ≡ step_on b j name in
    on_test P (nat_lt j (states b)) (λ u q. refl) (λ u q. beyond (step_on b j name) refl q) refl
  where
    beyond : (o : Option ℕ) → step_on b j name ≡ o → nat_lt j (states b) ≡ false → None ≡ step_on b j name
    beyond None h q = sym h
    beyond (Some k) h q = absurd (both_ways (nat_lt j (states b)) q (lt-ltb j (states b) (step_within b j k name (on_to b j k name h))))

-- ---- along a path

-- a chosen tree is one of a declared element
pub chosen_has : (guide : Guide) (n : Chars) (atts : List Attribute) (inside : Items) → IsChosenTop guide.first.now guide.second.now guide.cap (costs_in guide) n atts inside
    → (b : Content) × (content_in guide.first.now n ≡ Some b)
chosen_has guide n atts inside (inl h) = (h.1.0, h.1.3)
chosen_has guide n atts inside (inr h) = elim h.1 [ inl g ↦ (g.1.0, g.1.2) | inr g ↦ (g.2.0, g.2.1) ]

module _ (guide : Guide) (ok : IsGuide guide) (e : ℕ) (name : Chars) (a : Content) (at : slice_get guide.first.now.elements e ≡ Some (name, a)) where
  pub placed : place_of guide.first.now name ≡ Some e
  placed = (is_at guide.first.now ok.first e (name, a) at).1

  own : own_content guide e ≡ Some a
  own = ap (option_map (λ x. x.1)) at

  other : other_content guide e ≡ content_in guide.second.now name
  other = ap (option_and_then (λ x. content_in guide.second.now x.0)) at

  abbrev C : Type 0
  C = Chars × ℕ

  m_on-same : (s : C) → m_on guide s.0 ≡ (costs_in guide).m s.0
  m_on-same s = m_same guide.first.now guide.book s.0

  p_is : (i : ℕ) → p_at guide.book e i ≡ (costs_in guide).p name i
  p_is i = p_same guide.first.now name e placed guide.book i

  f_is : (i : ℕ) → f_at guide.book e i ≡ (costs_in guide).f name i
  f_is i = f_same guide.first.now name e placed guide.book i

  g_is : (i j : ℕ) → g_at guide.book e i j ≡ (costs_in guide).g name i j
  g_is i j = g_same guide.first.now name e placed guide.book i j

  sums : (c d x y : Cost) → c ≡ x → d ≡ y → sum guide.cap c d ≡ sum guide.cap x y
  sums c d x y p q = ap (λ z. sum guide.cap z d) p ∙ ap (sum guide.cap x) q

  -- what attains P
  own_sum : (s : C) → sum guide.cap (m_on guide s.0) (p_at guide.book e s.1) ≡ sum guide.cap ((costs_in guide).m s.0) ((costs_in guide).p name s.1)
  own_sum s = sums (m_on guide s.0) (p_at guide.book e s.1) ((costs_in guide).m s.0) ((costs_in guide).p name s.1) (m_on-same s) (p_is s.1)

  abbrev IsOwn : ℕ → C → Type 0
  IsOwn i s = AttainsLeast guide.first.now guide.cap (costs_in guide).m (costs_in guide).p name i s

  own_to : (i : ℕ) (s : C) → attains_own guide e i s ≡ true → IsOwn i s
  own_to i s h = told_same (p_at guide.book e i) (sum guide.cap (m_on guide s.0) (p_at guide.book e s.1)) ((costs_in guide).p name i)
      (sum guide.cap ((costs_in guide).m s.0) ((costs_in guide).p name s.1)) (p_is i) (own_sum s) h

  own_from : (i : ℕ) (s : C) → IsOwn i s → attains_own guide e i s ≡ true
  own_from i s h = test_same (p_at guide.book e i) (sum guide.cap (m_on guide s.0) (p_at guide.book e s.1)) ((costs_in guide).p name i)
      (sum guide.cap ((costs_in guide).m s.0) ((costs_in guide).p name s.1)) (p_is i) (own_sum s) h

  -- what attains F
  here_sum : (s : C) → sum guide.cap (v_at guide.book (place_of guide.first.now s.0)) (p_at guide.book e s.1) ≡ sum guide.cap ((costs_in guide).v s.0) ((costs_in guide).p name s.1)
  here_sum s = sums (v_at guide.book (place_of guide.first.now s.0)) (p_at guide.book e s.1) ((costs_in guide).v s.0) ((costs_in guide).p name s.1)
      (v_same guide.first.now guide.book s.0) (p_is s.1)

  later_sum : (s : C) → sum guide.cap (m_on guide s.0) (f_at guide.book e s.1) ≡ sum guide.cap ((costs_in guide).m s.0) ((costs_in guide).f name s.1)
  later_sum s = sums (m_on guide s.0) (f_at guide.book e s.1) ((costs_in guide).m s.0) ((costs_in guide).f name s.1) (m_on-same s) (f_is s.1)

  abbrev IsHere : ℕ → C → Type 0
  IsHere i s = AttainsKind3 guide.first.now guide.second.now guide.cap (costs_in guide) name i s

  abbrev IsLater : ℕ → C → Type 0
  IsLater i s = AttainsKind4 guide.first.now guide.second.now guide.cap (costs_in guide) name i s

  here_to : (i : ℕ) (s : C) → attains_here guide e i s ≡ true → IsHere i s
  here_to i s h = told_same (f_at guide.book e i) (sum guide.cap (v_at guide.book (place_of guide.first.now s.0)) (p_at guide.book e s.1)) ((costs_in guide).f name i)
      (sum guide.cap ((costs_in guide).v s.0) ((costs_in guide).p name s.1)) (f_is i) (here_sum s) h

  here_from : (i : ℕ) (s : C) → IsHere i s → attains_here guide e i s ≡ true
  here_from i s h = test_same (f_at guide.book e i) (sum guide.cap (v_at guide.book (place_of guide.first.now s.0)) (p_at guide.book e s.1)) ((costs_in guide).f name i)
      (sum guide.cap ((costs_in guide).v s.0) ((costs_in guide).p name s.1)) (f_is i) (here_sum s) h

  later_to : (i : ℕ) (s : C) → attains_later guide e i s ≡ true → IsLater i s
  later_to i s h = told_same (f_at guide.book e i) (sum guide.cap (m_on guide s.0) (f_at guide.book e s.1)) ((costs_in guide).f name i)
      (sum guide.cap ((costs_in guide).m s.0) ((costs_in guide).f name s.1)) (f_is i) (later_sum s) h

  later_from : (i : ℕ) (s : C) → IsLater i s → attains_later guide e i s ≡ true
  later_from i s h = test_same (f_at guide.book e i) (sum guide.cap (m_on guide s.0) (f_at guide.book e s.1)) ((costs_in guide).f name i)
      (sum guide.cap ((costs_in guide).m s.0) ((costs_in guide).f name s.1)) (f_is i) (later_sum s) h

  abbrev IsWrong : ℕ → C → Type 0
  IsWrong i s = AttainsWrong guide.first.now guide.second.now guide.cap (costs_in guide) name i s

  wrong_to : (i : ℕ) (s : C) → (attains_here guide e i s || attains_later guide e i s) ≡ true → IsWrong i s
  wrong_to i s h = ⊎_elim (λ g. inl (here_to i s g)) (λ g. inr (later_to i s g)) (or_cases (attains_here guide e i s) (attains_later guide e i s) h)

  or_left : (x y : Bool) → x ≡ true → (x || y) ≡ true
  or_left true y h = refl
  or_left false y h = cc

  or_right : (x y : Bool) → y ≡ true → (x || y) ≡ true
  or_right true y h = refl
  or_right false y h = h

  wrong_from : (i : ℕ) (s : C) → IsWrong i s → (attains_here guide e i s || attains_later guide e i s) ≡ true
  wrong_from i s h = ⊎_elim (λ g. or_left (attains_here guide e i s) (attains_later guide e i s) (here_from i s g))
      (λ g. or_right (attains_here guide e i s) (attains_later guide e i s) (later_from i s g)) h

  here_not : (i : ℕ) (s : C) → (IsHere i s → ⊥) → attains_here guide e i s ≡ false
  here_not i s nay = refused (attains_here guide e i s) (λ h. nay (here_to i s h))

  -- what attains G
  module _ (b : Content) (has : content_in guide.second.now name ≡ Some b) where
    steps_is : (j : ℕ) (n : Chars) → step_in (other_content guide e) j n ≡ step_on b j n
    steps_is j n = ap (λ o. step_in o j n) (other ∙ has) ∙ step_same b j n

    past_is : (k : ℕ) (o : Option ℕ) → past_at guide e k o ≡ past guide.first.now guide.second.now guide.cap (costs_in guide) name k o
    past_is k None = p_is k
    past_is k (Some l) = g_is k l

    odd_sum : (j : ℕ) (s : C) → sum guide.cap (m_on guide s.0) (past_at guide e s.1 (step_in (other_content guide e) j s.0))
        ≡ sum guide.cap ((costs_in guide).m s.0) (past guide.first.now guide.second.now guide.cap (costs_in guide) name s.1 (step_on b j s.0))
    odd_sum j s = sums (m_on guide s.0) (past_at guide e s.1 (step_in (other_content guide e) j s.0)) ((costs_in guide).m s.0)
        (past guide.first.now guide.second.now guide.cap (costs_in guide) name s.1 (step_on b j s.0)) (m_on-same s)
        (ap (past_at guide e s.1) (steps_is j s.0) ∙ past_is s.1 (step_on b j s.0))

    abbrev IsOdd : ℕ → ℕ → C → Type 0
    IsOdd i j s = AttainsOdd guide.first.now guide.second.now guide.cap (costs_in guide) name b i j s

    odd_to : (i j : ℕ) (s : C) → attains_odd guide e i j s ≡ true → IsOdd i j s
    odd_to i j s h = told_same (g_at guide.book e i j) (sum guide.cap (m_on guide s.0) (past_at guide e s.1 (step_in (other_content guide e) j s.0)))
        ((costs_in guide).g name i j) (sum guide.cap ((costs_in guide).m s.0) (past guide.first.now guide.second.now guide.cap (costs_in guide) name s.1 (step_on b j s.0)))
        (g_is i j) (odd_sum j s) h

    odd_from : (i j : ℕ) (s : C) → IsOdd i j s → attains_odd guide e i j s ≡ true
    odd_from i j s h = test_same (g_at guide.book e i j) (sum guide.cap (m_on guide s.0) (past_at guide e s.1 (step_in (other_content guide e) j s.0)))
        ((costs_in guide).g name i j) (sum guide.cap ((costs_in guide).m s.0) (past guide.first.now guide.second.now guide.cap (costs_in guide) name s.1 (step_on b j s.0)))
        (g_is i j) (odd_sum j s) h

    abbrev Stops : ℕ → ℕ → Type 0
    Stops i j = StopsOdd guide.first.now guide.second.now guide.cap (costs_in guide) name a b i j

    accepts_other : (j : ℕ) → accepts_in (other_content guide e) j ≡ accepts_in (Some b) j
    accepts_other j = ap (λ o. accepts_in o j) (other ∙ has)

    accepts_own : (i : ℕ) → accepts_in (own_content guide e) i ≡ accepts_in (Some a) i
    accepts_own i = ap (λ o. accepts_in o i) own

    stops_from : (i j : ℕ) → Stops i j → ends guide e (Pair i j) ≡ true
    stops_from i j h =
        and_from (is_same (g_at guide.book e i j) (Fin 0)) (accepts_in (own_content guide e) i && not (accepts_in (other_content guide e) j))
        (same_from (g_at guide.book e i j) (Fin 0) (g_is i j ∙ h.0))
        (and_from (accepts_in (own_content guide e) i) (not (accepts_in (other_content guide e) j)) (accepts_own i ∙ accepts_is a i h.1)
        (not_from (accepts_in (other_content guide e) j) (accepts_other j ∙ accepts_not b j h.2)))

    stops_to : (i j : ℕ) → ends guide e (Pair i j) ≡ true → Stops i j
    stops_to i j h =
        let t = and_parts (is_same (g_at guide.book e i j) (Fin 0)) (accepts_in (own_content guide e) i && not (accepts_in (other_content guide e) j)) h in
        let u = and_parts (accepts_in (own_content guide e) i) (not (accepts_in (other_content guide e) j)) t.1 in (
          sym (g_is i j) ∙ same_to (g_at guide.book e i j) (Fin 0) t.0,
          accepts_told a i (sym (accepts_own i) ∙ u.0),
          λ acc. not_told (accepts_in (other_content guide e) j) u.1 (accepts_other j ∙ accepts_is b j acc),
        )

    stops_not : (i j : ℕ) → (Stops i j → ⊥) → ends guide e (Pair i j) ≡ false
    stops_not i j nay = refused (ends guide e (Pair i j)) (λ h. nay (stops_to i j h))

  -- ---- the step that is taken

  abbrev chosen_by : Path → Bool → Option C → Option Step
  chosen_by path b o = cond b None (option_and_then (taken guide e path) o)

  none_next : (path : Path) → ends guide e path ≡ true → next_step guide e path ≡ None
  none_next path h = ap (λ b. chosen_by path b (first_step guide e path)) h

  first_is : (path : Path) (s : C) → find (attains guide e path) (steps_in guide.first.now a (choose.state_of path)) ≡ Some s → first_step guide e path ≡ Some s
  first_is path s h = ap (λ o. find (attains guide e path) (steps_at guide.first.now o (choose.state_of path))) at ∙ h

  some_next : (path : Path) (s : C) (x : ℕ) → ends guide e path ≡ false → first_step guide e path ≡ Some s → place_of guide.first.now s.0 ≡ Some x
      → next_step guide e path ≡ Some (record { place = x; separates = has_wrong guide e path s; path = path_behind guide e path s })
  some_next path s x off first q =
      ap (λ b. chosen_by path b (first_step guide e path)) off
      ∙ ap (option_and_then (taken guide e path)) first
      ∙ ap (option_map (λ y. record { place = y; separates = has_wrong guide e path s; path = path_behind guide e path s })) q

  -- what still comes is told by the step
  by_step : (path : Path) (rest : Items) (o : Option Step) → next_step guide e path ≡ o → IsNext guide name a o rest → IsNext guide name a (next_step guide e path) rest
  by_step path rest o q h = subst (λ z. IsNext guide name a z rest) (sym q) h

  step_with : ℕ → Bool → Path → Step
  step_with x separates path = record { place = x; separates = separates; path = path }

  told_by : (path behind : Path) (wrong : Bool) (s : C) (b : Content) (atts : List Attribute) (inside later : Items) → content_in guide.first.now s.0 ≡ Some b
      → ends guide e path ≡ false → find (attains guide e path) (steps_in guide.first.now a (choose.state_of path)) ≡ Some s
      → has_wrong guide e path s ≡ wrong → path_behind guide e path s ≡ behind
      → IsTop guide wrong s.0 atts inside → Follows guide behind name a later
      → IsNext guide name a (next_step guide e path) (element s.0 atts inside later)
  told_by path behind wrong s b atts inside later has off found is_wrong is_behind top follows =
      let t = has_place guide.first.now s.0 b has in
      by_step path (element s.0 atts inside later) (Some (record { place = t.0; separates = has_wrong guide e path s; path = path_behind guide e path s }))
      (some_next path s t.0 off (first_is path s found) t.1) (
        s.0,
        b,
        atts,
        inside,
        later,
        refl,
        t.2,
        subst (λ w. IsTop guide w s.0 atts inside) (sym is_wrong) top,
        subst (λ p. Follows guide p name a later) (sym is_behind) follows,
      )

  -- ---- along P

  told_own : (i : ℕ) (rest : Items) → Follows guide (Own i) name a rest → IsNext guide name a (next_step guide e (Own i)) rest
  told_own i nothing h = by_step (Own i) nothing None (none_next (Own i) (ap (λ o. accepts_in o i) own ∙ accepts_is a i h)) refl
  told_own i (element n atts inside later) h =
      told_by (Own i) (Own h.0) false (n, h.0) h.1 atts inside later h.5 (ap (λ o. accepts_in o i) own ∙ accepts_not a i h.2)
      (found_first (IsOwn i) (attains_own guide e i) (n, h.0) (steps_in guide.first.now a i) (own_to i) (own_from i) h.3)
      refl refl (h.1, h.5, h.4, h.6) h.7
  told_own i (chars text plain later) h = elim h [ ]
  told_own i (comment text later) h = elim h [ ]
  told_own i (pi target body later) h = elim h [ ]

  -- ---- along F

  found_wrong : (i : ℕ) (s : C) → IsFirst (IsWrong i) s (steps_in guide.first.now a i) → find (attains guide e (Wrong i)) (steps_in guide.first.now a i) ≡ Some s
  found_wrong i s h = found_first (IsWrong i) (attains guide e (Wrong i)) s (steps_in guide.first.now a i) (wrong_to i) (wrong_from i) h

  told_wrong : (i : ℕ) (rest : Items) → Follows guide (Wrong i) name a rest → IsNext guide name a (next_step guide e (Wrong i)) rest
  told_wrong i nothing h = elim h [ ]
  told_wrong i (element n atts inside later) h =
      elim h.2 [
        | inl g ↦
            let t = chosen_has guide n atts inside g.1 in
            let here = here_from i (n, h.0) g.0 in
            told_by (Wrong i) (Own h.0) true (n, h.0) t.0 atts inside later t.1 refl (found_wrong i (n, h.0) h.1) here
            (ap (λ b. cond b (Own h.0) (Wrong h.0)) here) g.1 g.2
        | inr g ↦
            let off = here_not i (n, h.0) g.0 in
            told_by (Wrong i) (Wrong h.0) false (n, h.0) g.1.0 atts inside later g.1.1 refl (found_wrong i (n, h.0) h.1) off
            (ap (λ b. cond b (Own h.0) (Wrong h.0)) off) g.1 g.2
      ]
  told_wrong i (chars text plain later) h = elim h [ ]
  told_wrong i (comment text later) h = elim h [ ]
  told_wrong i (pi target body later) h = elim h [ ]

  -- ---- along G

  told_pair : (i j : ℕ) (rest : Items) → Follows guide (Pair i j) name a rest → IsNext guide name a (next_step guide e (Pair i j)) rest
  told_pair i j nothing h = by_step (Pair i j) nothing None (none_next (Pair i j) (stops_from h.0 h.1 i j h.2)) refl
  told_pair i j (element n atts inside later) h =
      let b = h.0 in
      let g = h.2 in
      let found = found_first (IsOdd b h.1 i j) (attains guide e (Pair i j)) (n, g.0) (steps_in guide.first.now a i) (odd_to b h.1 i j) (odd_from b h.1 i j) g.2 in
      let off = stops_not b h.1 i j g.1 in
      elim g.4 [
        | inl w ↦ told_by (Pair i j) (Pair g.0 w.0) false (n, g.0) g.3.0 atts inside later g.3.1 off found refl
            (ap (past_path g.0) (steps_is b h.1 j n ∙ w.1)) g.3 (b, h.1, w.2)
        | inr w ↦ told_by (Pair i j) (Own g.0) false (n, g.0) g.3.0 atts inside later g.3.1 off found refl
            (ap (past_path g.0) (steps_is b h.1 j n ∙ w.0)) g.3 w.1
      ]
  told_pair i j (chars text plain later) h = elim h.2 [ ]
  told_pair i j (comment text later) h = elim h.2 [ ]
  told_pair i j (pi target body later) h = elim h.2 [ ]

  -- what still comes along a path comes by the step that is taken
  pub told : (path : Path) (rest : Items) → Follows guide path name a rest → IsNext guide name a (next_step guide e path) rest
  told (Own i) = told_own i
  told (Wrong i) = told_wrong i
  told (Pair i j) = told_pair i j

-- where nothing comes next nothing is still to come
pub empty_is : (guide : Guide) (e : Chars) (a : Content) (step : Option Step) (rest : Items) → IsNext guide e a step rest → is_none step ≡ is_empty rest
empty_is guide e a None rest h = sym (ap is_empty h)
empty_is guide e a (Some s) rest h = sym (ap is_empty h.5)
