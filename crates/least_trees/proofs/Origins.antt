-- Where the spots of a graph begin, and where its rules come from.
use Rattle.std.proofs.Common.{◌≡◌, ◌≤◌, ◌<◌, ◌+◌, ◌⊎◌, ℕ, zero, suc, List, [], ◌∷◌, ◌++◌, length, map, take, get_or, Bool, true, false, cond, Option, Some, None, IfSome, IsTrue, Contains, slice_get, slice_index, inl, inr, refl, sym, ap, ◌∙◌, subst, arith, true≢false}
use Rattle.std.proofs.lemmas.List.{append_assoc, append-nil, map-append, length-append, length_push, length-map, get_or_append_left, get_or-append-add, get_or_push, length-replicate, get_or-replicate, get_or_past}
use Rattle.std.proofs.lemmas.Bool.{cases_eq, cases_lt}
use Rattle.tree_costs.specs.declared.cost.Cost.{Cost}
use Rattle.tree_costs.specs.declared.cost.Cost.TheVariants.{Fin, Inf}
use Rattle.tree_costs.specs.Costs.{AtMost, IsSmall}
use Rattle.least_trees.specs.declared.rules.Rule.{Rule}
use Rattle.least_trees.specs.Plans.{Plan, Step, IsState, IsOn, IsWithin, IsPlan, states_below, steps_within, steps_below, states_in, steps_in}
use Rattle.least_trees.specs.Rules.{at, InRange, AllIn, Member}
use Rattle.least_trees.specs.Solving.{AllSmall}
use Rattle.least_trees.specs.Spots.{base, first_spots, weight_starts, top_starts, start_of, state_starts, element_starts, all_starts, top_rule, step_rules, rules_of_steps, state_rules, rules_within, rules_below, all_rules}

-- ---- one more

one : (k : ℕ) → k + 1 ≡ suc k
one k = omega arith

pub weights_more : (plan : Plan) (e : ℕ) → weight_starts plan (e + 1) ≡ weight_starts plan e ++ Fin (plan.numbers.weight e) ∷ []
weights_more plan e = ap (weight_starts plan) (one e)

pub tops_more : (e : ℕ) → top_starts (e + 1) ≡ top_starts e ++ Inf ∷ []
tops_more e = ap top_starts (one e)

pub states_more : (plan : Plan) (e i : ℕ) → state_starts plan e (i + 1) ≡ state_starts plan e i ++ start_of plan e i ∷ []
states_more plan e i = ap (state_starts plan e) (one i)

pub elements_more : (plan : Plan) (e : ℕ) → element_starts plan (e + 1) ≡ element_starts plan e ++ state_starts plan e (plan.states e)
elements_more plan e = ap (element_starts plan) (one e)

pub firsts_more : (plan : Plan) (e : ℕ) → first_spots plan (e + 1) ≡ first_spots plan e ++ base plan e ∷ []
firsts_more plan e = ap (first_spots plan) (one e)

pub base_more : (plan : Plan) (e : ℕ) → base plan (e + 1) ≡ base plan e + plan.states e
base_more plan e = let q : states_below plan (e + 1) ≡ states_below plan e + plan.states e = ap (states_below plan) (one e) in omega (arith, q)

pub within_more : (plan : Plan) (e i : ℕ) → rules_within plan e (i + 1) ≡ rules_within plan e i ++ state_rules plan e i
within_more plan e i = ap (rules_within plan e) (one i)

pub below_more_rules : (plan : Plan) (e : ℕ) → rules_below plan (e + 1) ≡ (rules_below plan e ++ top_rule plan e ∷ []) ++ rules_within plan e (plan.states e)
below_more_rules plan e = ap (rules_below plan) (one e)

pub steps_within_more : (plan : Plan) (e i : ℕ) → steps_within plan e (i + 1) ≡ steps_within plan e i + length (plan.numbers.steps e i)
steps_within_more plan e i = ap (steps_within plan e) (one i)

pub steps_below_more : (plan : Plan) (e : ℕ) → steps_below plan (e + 1) ≡ steps_below plan e + steps_within plan e (plan.states e)
steps_below_more plan e = ap (steps_below plan) (one e)

pub states_below_more : (plan : Plan) (e : ℕ) → states_below plan (e + 1) ≡ states_below plan e + plan.states e
states_below_more plan e = ap (states_below plan) (one e)

-- a value that is pushed
pub pushed : {V : Type 0} (cost : V → Cost) (vs vs' : List V) (v : V) (before xs : List Cost) (c : Cost)
    → vs' ≡ vs ++ v ∷ [] → map cost vs ≡ before ++ xs → cost v ≡ c → map cost vs' ≡ before ++ (xs ++ c ∷ [])
pushed cost vs vs' v before xs c e h q =
    ap (map cost) e ∙ map-append cost vs (v ∷ []) ∙ ap (λ z. z ++ cost v ∷ []) h ∙ ap (λ z. (before ++ xs) ++ z ∷ []) q ∙ append_assoc before xs (c ∷ [])

-- ---- sizes

pub length-weights : (plan : Plan) (n : ℕ) → length (weight_starts plan n) ≡ n
length-weights plan zero = refl
length-weights plan (suc n) = length_push (weight_starts plan n) (Fin (plan.numbers.weight n)) ∙ ap (λ z. z + 1) (length-weights plan n) ∙ one n

pub length-tops : (n : ℕ) → length (top_starts n) ≡ n
length-tops zero = refl
length-tops (suc n) = length_push (top_starts n) Inf ∙ ap (λ z. z + 1) (length-tops n) ∙ one n

pub length-states : (plan : Plan) (e n : ℕ) → length (state_starts plan e n) ≡ n
length-states plan e zero = refl
length-states plan e (suc n) = length_push (state_starts plan e n) (start_of plan e n) ∙ ap (λ z. z + 1) (length-states plan e n) ∙ one n

pub length-elements : (plan : Plan) (n : ℕ) → length (element_starts plan n) ≡ states_below plan n
length-elements plan zero = refl
length-elements plan (suc n) =
    length-append (element_starts plan n) (state_starts plan n (plan.states n)) ∙ ap (λ z. z + length (state_starts plan n (plan.states n))) (length-elements plan n)
    ∙ ap (λ z. states_below plan n + z) (length-states plan n (plan.states n))

pub length-starts : (plan : Plan) → length (all_starts plan) ≡ base plan plan.count
length-starts plan =
    let a = length-append (weight_starts plan plan.count ++ top_starts plan.count) (element_starts plan plan.count) in
    let b = length-append (weight_starts plan plan.count) (top_starts plan.count) in
    omega (arith, a, b, length-weights plan plan.count, length-tops plan.count, length-elements plan plan.count)

-- the states of an element end before those of a later one begin
pub below-mono : (plan : Plan) (e n : ℕ) → e < n → states_below plan e + plan.states e ≤ states_below plan n
below-mono plan e zero h = absurd (omega arith)
below-mono plan e (suc n) h = elim (cases_lt e n) [
  | inl t ↦ omega (arith, below-mono plan e n t)
  | inr t ↦ let q : e ≡ n = omega arith in subst (λ k. states_below plan k + plan.states k ≤ states_below plan (suc n)) (sym q) (omega arith)
]

pub steps-mono : (plan : Plan) (e n : ℕ) → e < n → steps_below plan e + steps_within plan e (plan.states e) ≤ steps_below plan n
steps-mono plan e zero h = absurd (omega arith)
steps-mono plan e (suc n) h = elim (cases_lt e n) [
  | inl t ↦ omega (arith, steps-mono plan e n t)
  | inr t ↦ let q : e ≡ n = omega arith in subst (λ k. steps_below plan k + steps_within plan k (plan.states k) ≤ steps_below plan (suc n)) (sym q) (omega arith)
]

pub inner-mono : (plan : Plan) (e i n : ℕ) → i < n → steps_within plan e i + length (plan.numbers.steps e i) ≤ steps_within plan e n
inner-mono plan e i zero h = absurd (omega arith)
inner-mono plan e i (suc n) h = elim (cases_lt i n) [
  | inl t ↦ omega (arith, inner-mono plan e i n t)
  | inr t ↦ let q : i ≡ n = omega arith in subst (λ k. steps_within plan e k + length (plan.numbers.steps e k) ≤ steps_within plan e (suc n)) (sym q) (omega arith)
]

-- a spot of a state is that of one element and state alone
pub one-spot : (plan : Plan) (e i f j : ℕ) → i < plan.states e → j < plan.states f → base plan e + i ≡ base plan f + j → (e ≡ f) × (i ≡ j)
one-spot plan e i f j h g q = elim (cases_eq e f) [
  | inl s ↦ (s, (let t : states_below plan e ≡ states_below plan f = ap (states_below plan) s in omega arith))
  | inr d ↦ elim (cases_lt e f) [
    | inl t ↦ absurd (omega (arith, below-mono plan e f t))
    | inr t ↦ let u : f < e = omega arith in absurd (omega (arith, below-mono plan f e u))
  ]
]

-- ---- the costs to begin with

at-weights : (plan : Plan) (n e : ℕ) → e < n → at (weight_starts plan n) e ≡ Fin (plan.numbers.weight e)
at-weights plan zero e h = absurd (omega arith)
at-weights plan (suc n) e h = elim (cases_lt e n) [
  | inl t ↦
      let l : e < length (weight_starts plan n) = omega (arith, length-weights plan n) in
      get_or_append_left (weight_starts plan n) (Fin (plan.numbers.weight n) ∷ []) Inf e l ∙ at-weights plan n e t
  | inr t ↦
      let q : e ≡ n = omega arith in
      subst (λ k. at (weight_starts plan (suc n)) k ≡ Fin (plan.numbers.weight k)) (sym q)
      (get_or_push (weight_starts plan n) (Fin (plan.numbers.weight n)) Inf n (length-weights plan n))
]

at-tops : (n e : ℕ) → at (top_starts n) e ≡ Inf
at-tops zero e = refl
at-tops (suc n) e = elim (cases_lt e n) [
  | inl t ↦
      let l : e < length (top_starts n) = omega (arith, length-tops n) in
      get_or_append_left (top_starts n) (Inf ∷ []) Inf e l ∙ at-tops n e
  | inr t ↦ elim (cases_eq e n) [
    | inl q ↦ subst (λ k. at (top_starts (suc n)) k ≡ Inf) (sym q) (get_or_push (top_starts n) Inf Inf n (length-tops n))
    | inr d ↦ get_or_past (top_starts (suc n)) e Inf (omega (arith, length-tops (suc n)))
  ]
]

at-states : (plan : Plan) (e n i : ℕ) → i < n → at (state_starts plan e n) i ≡ start_of plan e i
at-states plan e zero i h = absurd (omega arith)
at-states plan e (suc n) i h = elim (cases_lt i n) [
  | inl t ↦
      let l : i < length (state_starts plan e n) = omega (arith, length-states plan e n) in
      get_or_append_left (state_starts plan e n) (start_of plan e n ∷ []) Inf i l ∙ at-states plan e n i t
  | inr t ↦
      let q : i ≡ n = omega arith in
      subst (λ k. at (state_starts plan e (suc n)) k ≡ start_of plan e k) (sym q)
      (get_or_push (state_starts plan e n) (start_of plan e n) Inf n (length-states plan e n))
]

at-elements : (plan : Plan) (n e i : ℕ) → e < n → i < plan.states e → at (element_starts plan n) (states_below plan e + i) ≡ start_of plan e i
at-elements plan zero e i h g = absurd (omega arith)
at-elements plan (suc n) e i h g = elim (cases_lt e n) [
  | inl t ↦
      let l : states_below plan e + i < length (element_starts plan n) = omega (arith, length-elements plan n, below-mono plan e n t) in
      get_or_append_left (element_starts plan n) (state_starts plan n (plan.states n)) Inf (states_below plan e + i) l ∙ at-elements plan n e i t g
  | inr t ↦
      let q : e ≡ n = omega arith in
      let s : states_below plan e + i ≡ length (element_starts plan n) + i = ap (λ k. states_below plan k + i) q ∙ ap (λ k. k + i) (sym (length-elements plan n)) in
      let g' : i < plan.states n = subst (λ k. i < plan.states k) q g in
      ap (at (element_starts plan (suc n))) s ∙ get_or-append-add (element_starts plan n) (state_starts plan n (plan.states n)) i Inf
      ∙ at-states plan n (plan.states n) i g' ∙ ap (λ k. start_of plan k i) (sym q)
]

module _ (plan : Plan) where
  abbrev W : List Cost
  W = weight_starts plan plan.count

  abbrev T : List Cost
  T = top_starts plan.count

  abbrev E : List Cost
  E = element_starts plan plan.count

  pub at-weight : (e : ℕ) → e < plan.count → at (all_starts plan) e ≡ Fin (plan.numbers.weight e)
  at-weight e h =
      let l : e < length W = omega (arith, length-weights plan plan.count) in
      let k : e < length (W ++ T) = omega (arith, length-append W T) in
      get_or_append_left (W ++ T) E Inf e k ∙ get_or_append_left W T Inf e l ∙ at-weights plan plan.count e h

  pub at-top : (e : ℕ) → e < plan.count → at (all_starts plan) (plan.count + e) ≡ Inf
  at-top e h =
      let k : plan.count + e < length (W ++ T) = omega (arith, length-append W T, length-weights plan plan.count, length-tops plan.count) in
      let q : plan.count + e ≡ length W + e = ap (λ z. z + e) (sym (length-weights plan plan.count)) in
      get_or_append_left (W ++ T) E Inf (plan.count + e) k ∙ ap (at (W ++ T)) q ∙ get_or-append-add W T e Inf ∙ at-tops plan.count e

  pub at-state : (e i : ℕ) → e < plan.count → i < plan.states e → at (all_starts plan) (base plan e + i) ≡ start_of plan e i
  at-state e i h g =
      let q : base plan e + i ≡ length (W ++ T) + (states_below plan e + i) =
      omega (arith, length-append W T, length-weights plan plan.count, length-tops plan.count) in
      ap (at (all_starts plan)) q ∙ get_or-append-add (W ++ T) E (states_below plan e + i) Inf ∙ at-elements plan plan.count e i h g

  pub length-firsts : (n : ℕ) → length (first_spots plan n) ≡ n
  length-firsts zero = refl
  length-firsts (suc n) = length_push (first_spots plan n) (base plan n) ∙ ap (λ z. z + 1) (length-firsts n) ∙ one n

  pub first_at : (n e : ℕ) → e < n → slice_index (first_spots plan n) e ≡ base plan e
  first_at zero e h = absurd (omega arith)
  first_at (suc n) e h = elim (cases_lt e n) [
    | inl t ↦
        let l : e < length (first_spots plan n) = omega (arith, length-firsts n) in
        get_or_append_left (first_spots plan n) (base plan n ∷ []) 0 e l ∙ first_at n e t
    | inr t ↦
        let q : e ≡ n = omega arith in
        subst (λ k. slice_index (first_spots plan (suc n)) k ≡ base plan k) (sym q) (get_or_push (first_spots plan n) (base plan n) 0 n (length-firsts n))
  ]

-- ---- one more element

pub grown : {V : Type 0} (cost : V → Cost) (vs vs' : List V) (plan : Plan) (e n : ℕ) → map cost vs' ≡ map cost vs ++ state_starts plan e n → length vs' ≡ length vs + n
grown cost vs vs' plan e n h =
    sym (length-map vs' cost) ∙ ap length h ∙ length-append (map cost vs) (state_starts plan e n)
    ∙ ap (λ z. z + length (state_starts plan e n)) (length-map vs cost) ∙ ap (λ z. length vs + z) (length-states plan e n)

pub both_grown : {V : Type 0} (cost : V → Cost) (v0 v1 v2 : List V) (plan : Plan) (n : ℕ) → v0 ≡ [] → map cost v1 ≡ map cost v0 ++ weight_starts plan n
    → map cost v2 ≡ map cost v1 ++ top_starts n → length v2 ≡ n + n
both_grown cost v0 v1 v2 plan n e h g =
    let a : length v1 ≡ n =
    sym (length-map v1 cost) ∙ ap length h ∙ ap (λ z. length (map cost z ++ weight_starts plan n)) e ∙ length-weights plan n in
    sym (length-map v2 cost) ∙ ap length g ∙ length-append (map cost v1) (top_starts n) ∙ ap (λ z. z + length (top_starts n)) (length-map v1 cost ∙ a)
    ∙ ap (λ z. n + z) (length-tops n)

pub top_is : (plan : Plan) (e count first : ℕ) → count ≡ plan.count → first ≡ base plan e → record { target = count + e; left = e; right = first } ≡ top_rule plan e
top_is plan e count first p q =
    ap (λ z. record { target = z + e; left = e; right = first }) p ∙ ap (λ z. record { target = plan.count + e; left = e; right = z }) q

pub on_fits : (count n limit : ℕ) (o : Option ℕ) → IsOn n o → count + n < limit → IfSome o (λ x. count + x < limit)
on_fits count n limit None h l = tt
on_fits count n limit (Some x) h l = omega arith

-- ---- members

member-left : {A : Type 0} (x : A) (xs ys : List A) → Member x xs → Member x (xs ++ ys)
member-left x [] ys m = elim m [ ]
member-left x (y ∷ xs) ys (inl e) = inl e
member-left x (y ∷ xs) ys (inr m) = inr (member-left x xs ys m)

member-right : {A : Type 0} (x : A) (xs ys : List A) → Member x ys → Member x (xs ++ ys)
member-right x [] ys m = m
member-right x (y ∷ xs) ys m = inr (member-right x xs ys m)

member-cases : {A : Type 0} (x : A) (xs ys : List A) → Member x (xs ++ ys) → Member x xs ⊎ Member x ys
member-cases x [] ys m = inr m
member-cases x (y ∷ xs) ys (inl e) = inl (inl e)
member-cases x (y ∷ xs) ys (inr m) = elim (member-cases x xs ys m) [ inl k ↦ inl (inr k) | inr k ↦ inr k ]

member_of : {A : Type 0} (xs : List A) (x : A) (k : ℕ) → k < length xs → get_or xs k x ≡ x → Member x xs
member_of [] x k h e = absurd (omega arith)
member_of (y ∷ xs) x zero h e = inl (sym e)
member_of (y ∷ xs) x (suc k) h e = inr (member_of xs x k (omega arith) e)

to_member : {A : Type 0} (xs : List A) (x : A) → Contains xs x → Member x xs
to_member xs x c = member_of xs x c.0 c.1 c.2

contains_of : {A : Type 0} (xs : List A) (x : A) → Member x xs → Contains xs x
contains_of [] x m = elim m [ ]
contains_of (y ∷ xs) x (inl e) = (0, omega arith, sym e)
contains_of (y ∷ xs) x (inr m) = let t = contains_of xs x m in (suc t.0, omega (arith, t.1), t.2)

-- ---- where rules come from

-- the rule of an element
pub record IsTop (plan : Plan) (r : Rule) : Type 0 where
  pub e : ℕ
  pub within : e < plan.count
  pub is : r ≡ top_rule plan e

-- the rule of a step of a state that does not accept
pub record IsOfStep (plan : Plan) (r : Rule) : Type 0 where
  pub e : ℕ
  pub i : ℕ
  pub x : ℕ
  pub j : ℕ
  pub element : e < plan.count
  pub state : i < plan.states e
  pub going : plan.numbers.accepts e i ≡ false
  pub step : Contains (plan.numbers.steps e i) (Some x, j)
  pub is : r ≡ record { target = base plan e + i; left = plan.count + x; right = base plan e + j }

of-steps : (count first i : ℕ) (steps : List Step) (r : Rule) → Member r (rules_of_steps count first i steps)
    → (x : ℕ) × (j : ℕ) × Member {A = Step} (Some x, j) steps × (r ≡ record { target = first + i; left = count + x; right = first + j })
of-steps count first i [] r m = elim m [ ]
of-steps count first i ((None, j) ∷ steps) r m = let t = of-steps count first i steps r m in (t.0, t.1, inr t.2, t.3)
of-steps count first i ((Some x, j) ∷ steps) r (inl e) = (x, j, inl refl, e)
of-steps count first i ((Some x, j) ∷ steps) r (inr m) = let t = of-steps count first i steps r m in (t.0, t.1, inr t.2, t.3)

to-steps : (count first i : ℕ) (steps : List Step) (x j : ℕ) → Member {A = Step} (Some x, j) steps
    → Member (record { target = first + i; left = count + x; right = first + j }) (rules_of_steps count first i steps)
to-steps count first i [] x j m = elim m [ ]
to-steps count first i ((None, k) ∷ steps) x j (inl e) = absurd (let q : Some x ≡ None = ap (λ z. z.0) e in cc)
to-steps count first i ((None, k) ∷ steps) x j (inr m) = to-steps count first i steps x j m
to-steps count first i ((Some y, k) ∷ steps) x j (inl e) =
    let u : Some x ≡ Some y = ap (λ z. z.0) e in
    let p : x ≡ y = cc in
    let q : j ≡ k = ap (λ z. z.1) e in
    inl (ap (λ z. record { target = first + i; left = count + z; right = first + j }) p ∙ ap (λ z. record { target = first + i; left = count + y; right = first + z }) q)
to-steps count first i ((Some y, k) ∷ steps) x j (inr m) = inr (to-steps count first i steps x j m)

module _ (plan : Plan) where
  of-state : (e i : ℕ) (r : Rule) → e < plan.count → i < plan.states e → Member r (state_rules plan e i) → IsOfStep plan r
  of-state e i r h g m = by (plan.numbers.accepts e i) refl m
    where
      by : (b : Bool) → plan.numbers.accepts e i ≡ b → Member r (cond b [] (rules_of_steps plan.count (base plan e) i (plan.numbers.steps e i))) → IsOfStep plan r
      by true q m = elim m [ ]
      by false q m =
          let t = of-steps plan.count (base plan e) i (plan.numbers.steps e i) r m in
          record { e = e; i = i; x = t.0; j = t.1; element = h; state = g; going = q; step = contains_of (plan.numbers.steps e i) (Some t.0, t.1) t.2; is = t.3 }

  of-within : (e n : ℕ) (r : Rule) → e < plan.count → n ≤ plan.states e → Member r (rules_within plan e n) → IsOfStep plan r
  of-within e zero r h l m = elim m [ ]
  of-within e (suc n) r h l m = elim (member-cases r (rules_within plan e n) (state_rules plan e n) m) [
    | inl k ↦ of-within e n r h (omega arith) k
    | inr k ↦ of-state e n r h (omega arith) k
  ]

  pub origin : (n : ℕ) (r : Rule) → n ≤ plan.count → Member r (rules_below plan n) → IsTop plan r ⊎ IsOfStep plan r
  origin zero r l m = elim m [ ]
  origin (suc n) r l m = elim (member-cases r (rules_below plan n ++ top_rule plan n ∷ []) (rules_within plan n (plan.states n)) m) [
    | inr k ↦ inr (of-within n (plan.states n) r (omega arith) (omega arith) k)
    | inl k ↦ elim (member-cases r (rules_below plan n) (top_rule plan n ∷ []) k) [
      | inl j ↦ origin n r (omega arith) j
      | inr (inl e) ↦ inl (record { e = n; within = omega arith; is = e })
      | inr (inr b) ↦ elim b [ ]
    ]
  ]

  to-state : (e i x j : ℕ) → plan.numbers.accepts e i ≡ false → Contains (plan.numbers.steps e i) (Some x, j)
      → Member (record { target = base plan e + i; left = plan.count + x; right = base plan e + j }) (state_rules plan e i)
  to-state e i x j q c =
      subst (λ b. Member (record { target = base plan e + i; left = plan.count + x; right = base plan e + j }) (cond b [] (rules_of_steps plan.count (base plan e) i (plan.numbers.steps e i)))) (sym q)
      (to-steps plan.count (base plan e) i (plan.numbers.steps e i) x j (to_member (plan.numbers.steps e i) (Some x, j) c))

  to-within : (e n i : ℕ) (r : Rule) → i < n → Member r (state_rules plan e i) → Member r (rules_within plan e n)
  to-within e zero i r h m = absurd (omega arith)
  to-within e (suc n) i r h m = elim (cases_lt i n) [
    | inl t ↦ member-left r (rules_within plan e n) (state_rules plan e n) (to-within e n i r t m)
    | inr t ↦
        let q : i ≡ n = omega arith in
        member-right r (rules_within plan e n) (state_rules plan e n) (subst (λ k. Member r (state_rules plan e k)) q m)
  ]

  in-element : (e : ℕ) (r : Rule) → (r ≡ top_rule plan e) ⊎ Member r (rules_within plan e (plan.states e))
      → Member r ((rules_below plan e ++ top_rule plan e ∷ []) ++ rules_within plan e (plan.states e))
  in-element e r (inl q) = member-left r (rules_below plan e ++ top_rule plan e ∷ []) (rules_within plan e (plan.states e)) (member-right r (rules_below plan e) (top_rule plan e ∷ []) (inl q))
  in-element e r (inr m) = member-right r (rules_below plan e ++ top_rule plan e ∷ []) (rules_within plan e (plan.states e)) m

  in-below : (n e : ℕ) (r : Rule) → e < n → (r ≡ top_rule plan e) ⊎ Member r (rules_within plan e (plan.states e)) → Member r (rules_below plan n)
  in-below zero e r h m = absurd (omega arith)
  in-below (suc n) e r h m = elim (cases_lt e n) [
    | inl t ↦ member-left r (rules_below plan n ++ top_rule plan n ∷ []) (rules_within plan n (plan.states n)) (member-left r (rules_below plan n) (top_rule plan n ∷ []) (in-below n e r t m))
    | inr t ↦ let q : e ≡ n = omega arith in subst (λ k. Member r ((rules_below plan k ++ top_rule plan k ∷ []) ++ rules_within plan k (plan.states k))) q (in-element e r m)
  ]

  pub has-top : (e : ℕ) → e < plan.count → Member (top_rule plan e) (all_rules plan)
  has-top e h = in-below plan.count e (top_rule plan e) h (inl refl)

  pub has-step : (e i x j : ℕ) → e < plan.count → i < plan.states e → plan.numbers.accepts e i ≡ false → Contains (plan.numbers.steps e i) (Some x, j)
      → Member (record { target = base plan e + i; left = plan.count + x; right = base plan e + j }) (all_rules plan)
  has-step e i x j h g q c =
      let r : Rule = record { target = base plan e + i; left = plan.count + x; right = base plan e + j } in
      in-below plan.count e r h (inr (to-within e (plan.states e) i r g (to-state e i x j q c)))

  -- ---- the rules speak of spots, and there are no more than elements and steps

  abbrev spots : ℕ
  spots = base plan plan.count

  module _ (P : IsPlan plan) where
    in-range : (r : Rule) → IsTop plan r ⊎ IsOfStep plan r → InRange spots r
    in-range r (inl t) =
        let s = P.starts t.e t.within in
        let m = below-mono plan t.e plan.count t.within in
        let h = t.within in
        subst (InRange spots) (sym t.is) (omega arith, omega arith, omega arith)
    in-range r (inr t) =
        let w = P.within t.e t.i (Some t.x, t.j) t.step in
        let a : t.j < plan.states t.e = w.0 in
        let b : t.x < plan.count = w.1 in
        let m = below-mono plan t.e plan.count t.element in
        let h = t.element in
        let k = t.state in
        subst (InRange spots) (sym t.is) (omega arith, omega arith, omega arith)

    all-from : (rs : List Rule) → ((r : Rule) → Member r rs → InRange spots r) → AllIn spots rs
    all-from [] h = tt
    all-from (r ∷ rs) h = (h r (inl refl), all-from rs (λ s m. h s (inr m)))

    pub rules-in-range : AllIn spots (all_rules plan)
    rules-in-range = all-from (all_rules plan) (λ r m. in-range r (origin plan.count r (omega arith) m))

  length-of-steps : (count first i : ℕ) (steps : List Step) → length (rules_of_steps count first i steps) ≤ length steps
  length-of-steps count first i [] = omega arith
  length-of-steps count first i ((None, j) ∷ steps) = omega (arith, length-of-steps count first i steps)
  length-of-steps count first i ((Some x, j) ∷ steps) = omega (arith, length-of-steps count first i steps)

  length-of-state : (e i : ℕ) → length (state_rules plan e i) ≤ length (plan.numbers.steps e i)
  length-of-state e i = by (plan.numbers.accepts e i)
    where
      by : (b : Bool) → length (cond b [] (rules_of_steps plan.count (base plan e) i (plan.numbers.steps e i))) ≤ length (plan.numbers.steps e i)
      by true = omega arith
      by false = length-of-steps plan.count (base plan e) i (plan.numbers.steps e i)

  length-within : (e n : ℕ) → length (rules_within plan e n) ≤ steps_within plan e n
  length-within e zero = omega arith
  length-within e (suc n) = omega (arith, length-append (rules_within plan e n) (state_rules plan e n), length-within e n, length-of-state e n)

  length-below : (n : ℕ) → length (rules_below plan n) ≤ steps_below plan n + n
  length-below zero = omega arith
  length-below (suc n) =
      omega (
        arith,
        length-append (rules_below plan n ++ top_rule plan n ∷ []) (rules_within plan n (plan.states n)),
        length_push (rules_below plan n) (top_rule plan n),
        length-below n,
        length-within n (plan.states n),
      )

  pub few-rules : length (all_rules plan) ≤ steps_in plan + plan.count
  unfolding steps_in
  few-rules = length-below plan.count

-- ---- no start is above what the cap allows

small-append : (cap : ℕ) (xs ys : List Cost) → AllSmall cap xs → AllSmall cap ys → AllSmall cap (xs ++ ys)
small-append cap [] ys h g = g
small-append cap (x ∷ xs) ys h g = (h.0, small-append cap xs ys h.1 g)

module _ (plan : Plan) (P : IsPlan plan) where
  small-weights : (n : ℕ) → n ≤ plan.count → AllSmall plan.numbers.cap (weight_starts plan n)
  small-weights zero h = tt
  small-weights (suc n) h =
      small-append plan.numbers.cap (weight_starts plan n) (Fin (plan.numbers.weight n) ∷ []) (small-weights n (omega arith)) (inr (P.light n (omega arith)), tt)

  small-tops : (n : ℕ) → AllSmall plan.numbers.cap (top_starts n)
  small-tops zero = tt
  small-tops (suc n) = small-append plan.numbers.cap (top_starts n) (Inf ∷ []) (small-tops n) (inl refl, tt)

  small-start : (e i : ℕ) → IsSmall plan.numbers.cap (start_of plan e i)
  small-start e i = by (plan.numbers.accepts e i)
    where
      by : (b : Bool) → IsSmall plan.numbers.cap (cond b (Fin 0) Inf)
      by true = inr (let h : 0 ≤ plan.numbers.cap + 1 = omega arith in h)
      by false = inl refl

  small-states : (e n : ℕ) → AllSmall plan.numbers.cap (state_starts plan e n)
  small-states e zero = tt
  small-states e (suc n) = small-append plan.numbers.cap (state_starts plan e n) (start_of plan e n ∷ []) (small-states e n) (small-start e n, tt)

  small-elements : (n : ℕ) → AllSmall plan.numbers.cap (element_starts plan n)
  small-elements zero = tt
  small-elements (suc n) = small-append plan.numbers.cap (element_starts plan n) (state_starts plan n (plan.states n)) (small-elements n) (small-states n (plan.states n))

  pub small-starts : AllSmall plan.numbers.cap (all_starts plan)
  small-starts =
      small-append plan.numbers.cap (weight_starts plan plan.count ++ top_starts plan.count) (element_starts plan plan.count)
      (small-append plan.numbers.cap (weight_starts plan plan.count) (top_starts plan.count) (small-weights plan.count (omega arith)) (small-tops plan.count))
      (small-elements plan.count)

-- ---- the rules of the first steps of a state

more : (count first i : ℕ) (ss : List Step) (k : ℕ) (s : Step) → slice_get ss k ≡ Some s
    → rules_of_steps count first i (take (suc k) ss) ≡ rules_of_steps count first i (take k ss) ++ step_rules count first i s
more count first i [] k s e = cc
more count first i (t ∷ ss) zero s e =
    let q : t ≡ s = cc in
    append-nil (step_rules count first i t) ∙ ap (step_rules count first i) q
more count first i (t ∷ ss) (suc k) s e =
    ap (λ x. step_rules count first i t ++ x) (more count first i ss k s e)
    ∙ sym (append_assoc (step_rules count first i t) (rules_of_steps count first i (take k ss)) (step_rules count first i s))

pub steps_more : (count first i : ℕ) (ss : List Step) (k : ℕ) (s : Step) → slice_get ss k ≡ Some s
    → rules_of_steps count first i (take (k + 1) ss) ≡ rules_of_steps count first i (take k ss) ++ step_rules count first i s
steps_more count first i ss k s e = ap (λ n. rules_of_steps count first i (take n ss)) (one k) ∙ more count first i ss k s e

pub steps_all : (ss : List Step) (k : ℕ) → slice_get ss k ≡ None → take k ss ≡ ss
steps_all [] zero e = refl
steps_all [] (suc k) e = refl
steps_all (t ∷ ss) zero e = cc
steps_all (t ∷ ss) (suc k) e = ap (λ x. t ∷ x) (steps_all ss k e)

step_member : (ss : List Step) (k : ℕ) (s : Step) → slice_get ss k ≡ Some s → Member s ss
step_member [] k s e = cc
step_member (t ∷ ss) zero s e = inl (let q : t ≡ s = cc in sym q)
step_member (t ∷ ss) (suc k) s e = inr (step_member ss k s e)

pub step_contained : (ss : List Step) (k : ℕ) (s : Step) → slice_get ss k ≡ Some s → Contains ss s
step_contained ss k s e = contains_of ss s (step_member ss k s e)
