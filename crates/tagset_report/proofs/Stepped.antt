-- What a number leads to.
use Rattle.std.proofs.Common.{◌≡◌, ◌≤◌, ◌<◌, ◌+◌, ◌-◌, ◌*◌, ◌/◌, ◌%◌, ◌==◌, ◌&&◌, ◌⊎◌, ℕ, zero, suc, List, [], ◌∷◌, ◌++◌, length, map, drop, Bool, true, false, cond, Option, Some, None, slice_get, inl, inr, refl, sym, ap, ◌∙◌, subst, arith}
use Rattle.std.specs.Prelude.{option_map}
use Rattle.std.proofs.lemmas.Bool.{and_parts, and_from, ne_eqb, eq-eqb}
use Rattle.std.proofs.lemmas.List.{length-map}
use Rattle.std.proofs.lemmas.Nat.{div-mul-add, mod-mul-add}
use Rattle.std.proofs.lemmas.Option.{slice_get_within, slice_get-map}
use Rattle.content_models.specs.declared.content.Content.{Content}
use Rattle.content_models.specs.declared.content.Content.TheVariants.{Empty, Any, Mixed, Children}
use Rattle.content_models.specs.Model.{Chars}
use Rattle.content_models.specs.Proper.{IsProper}
use Rattle.position_automata.specs.Automata.{states, FollowsOn}
use Rattle.position_automata.proofs.Meaning as words
use Rattle.position_automata.proofs.Stepping.{are_within, few_steps}
use Rattle.position_automata.proofs.Tabled.{proper_count}
use Rattle.position_automata.proofs.Words.{mapped, unmapped}
use Rattle.decl_set.specs.Asked.{IsKept, IsElement}
use Rattle.decl_set.specs.Children.{child_step}
use Rattle.decl_set.specs.Declarations.{Declarations, Element, content_in}
use Rattle.decl_set.specs.Steps.{steps_in, steps_at}
use Rattle.decl_set.proofs.Found.{all_at}
use Rattle.model_inclusion.specs.Reaching.{Member, StaysWithin, visit}
use Rattle.model_inclusion.proofs.Members.{to_member, contains_of, member-left, member-right, member-cases}
use Rattle.tree_costs.specs.declared.least.LeastRow.{LeastRow}
use Rattle.tree_costs.specs.Leasts.{place_of}
use Rattle.tree_costs.proofs.Places.{stands_at}
use Rattle.tree_costs.proofs.Steps.{follows_in, steps_from}
use Rattle.tagset_report.specs.Finite.{is_finite}
use Rattle.tagset_report.specs.Useful.{size_at, sum_at, number_at, step_numbers, steps_numbers, children_at, root_numbers, next_numbers, count_numbers}

-- ---- numbers

past : (e i : ℕ) → number_at e i - 1 ≡ e * 1025 + i
past e i = omega arith

pub element_of : (e i : ℕ) → i < 1025 → (number_at e i - 1) / 1025 ≡ e
element_of e i h = ap (λ n. n / 1025) (past e i) ∙ div-mul-add e 1025 i h

pub state_of : (e i : ℕ) → i < 1025 → (number_at e i - 1) % 1025 ≡ i
state_of e i h = ap (λ n. n % 1025) (past e i) ∙ mod-mul-add e 1025 i h

pub not_zero : (e i : ℕ) → (number_at e i == 0) ≡ false
not_zero e i = ne_eqb (number_at e i) 0 (λ h. omega (arith, h))

-- ---- members

step_found : (rows : List LeastRow) (e : ℕ) (steps : List (Option ℕ × ℕ)) (y : ℕ) → Member y (steps_numbers rows e steps)
    → (s : Option ℕ × ℕ) × Member s steps × Member y (step_numbers rows e s)
step_found rows e [] y m = elim m [ ]
step_found rows e (s ∷ steps) y m = elim (member-cases y (step_numbers rows e s) (steps_numbers rows e steps) m) [
  | inl k ↦ (s, inl refl, k)
  | inr k ↦ let t = step_found rows e steps y k in (t.0, inr t.1, t.2)
]

pub step_into : (rows : List LeastRow) (e : ℕ) (steps : List (Option ℕ × ℕ)) (s : Option ℕ × ℕ) (y : ℕ) → Member s steps → Member y (step_numbers rows e s)
    → Member y (steps_numbers rows e steps)
step_into rows e [] s y m k = elim m [ ]
step_into rows e (t ∷ steps) s y (inl q) k =
    member-left y (step_numbers rows e t) (steps_numbers rows e steps) (subst (λ (z : Option ℕ × ℕ). Member y (step_numbers rows e z)) q k)
step_into rows e (t ∷ steps) s y (inr m) k = member-right y (step_numbers rows e t) (steps_numbers rows e steps) (step_into rows e steps s y m k)

-- a step that leads on
record LeadsTo (rows : List LeastRow) (e : ℕ) (s : Option ℕ × ℕ) (y : ℕ) : Type 0 where
  child : ℕ
  next : ℕ
  is : s ≡ (Some child, next)
  size : is_finite (size_at rows child) ≡ true
  rest : is_finite (sum_at rows e next) ≡ true
  number : (y ≡ number_at e next) ⊎ (y ≡ number_at child 0)

step_parts : (rows : List LeastRow) (e : ℕ) (s : Option ℕ × ℕ) (y : ℕ) → Member y (step_numbers rows e s) → LeadsTo rows e s y
step_parts rows e (None, k) y m = elim m [ ]
step_parts rows e (Some x, k) y m = by (is_finite (size_at rows x) && is_finite (sum_at rows e k)) refl m
  where
    by : (b : Bool) → (is_finite (size_at rows x) && is_finite (sum_at rows e k)) ≡ b → Member y (cond b (number_at e k ∷ number_at x 0 ∷ []) []) → LeadsTo rows e (Some x, k) y
    by false q m = elim m [ ]
    by true q (inl h) =
        let p = and_parts (is_finite (size_at rows x)) (is_finite (sum_at rows e k)) q in
        record { child = x; next = k; is = refl; size = p.0; rest = p.1; number = inl h }
    by true q (inr (inl h)) =
        let p = and_parts (is_finite (size_at rows x)) (is_finite (sum_at rows e k)) q in
        record { child = x; next = k; is = refl; size = p.0; rest = p.1; number = inr h }
    by true q (inr (inr h)) = elim h [ ]

pub step_leads : (rows : List LeastRow) (e x k : ℕ) → is_finite (size_at rows x) ≡ true → is_finite (sum_at rows e k) ≡ true
    → step_numbers rows e (Some x, k) ≡ number_at e k ∷ number_at x 0 ∷ []
step_leads rows e x k h g = ap (λ b. cond b (number_at e k ∷ number_at x 0 ∷ []) []) (and_from (is_finite (size_at rows x)) (is_finite (sum_at rows e k)) h g)

pub few_states : (a : Content) → IsProper a → states a ≤ 1025
few_states Empty p = omega arith
few_states Any p = omega arith
few_states (Mixed listed) p = omega arith
few_states (Children part) p = omega (arith, proper_count (Children part) part refl p)

module _ (set : Declarations) (kept : IsKept set) where
  pub proper_at : (e : ℕ) (x : Element) → slice_get set.elements e ≡ Some x → IsProper x.1
  proper_at e x h = (all_at IsElement set.elements e x kept.elements_are h).proper

  few_in : (a : Content) (i : ℕ) → IsProper a → length (steps_in set a i) ≤ 1024
  few_in Empty i p = omega arith
  few_in Any i p = by (i == 0)
    where
      by : (b : Bool) → length {A = Chars × ℕ} (cond b (map {B = Chars × ℕ} (λ e. (e.0, 0)) set.elements) []) ≤ 1024
      by true = omega (arith, length-map {B = Chars × ℕ} set.elements (λ e. (e.0, 0)), kept.few)
      by false = omega arith
  few_in (Mixed listed) i p = few_steps (Mixed listed) i p
  few_in (Children part) i p = few_steps (Children part) i p

  few_at : (o : Option Element) (i : ℕ) → ((x : Element) → o ≡ Some x → IsProper x.1) → length (steps_at set o i) ≤ 1024
  few_at None i h = omega arith
  few_at (Some x) i h = few_in x.1 i (h x refl)

  pub few_children : (e i : ℕ) → length (children_at set e i) ≤ 1024
  few_children e i =
      omega (arith, length-map {B = Option ℕ × ℕ} (steps_at set (slice_get set.elements e) i) (child_step set), few_at (slice_get set.elements e) i (proper_at e))

  pub next_small : (e i k : ℕ) (x : Element) (name : Chars) → slice_get set.elements e ≡ Some x → FollowsOn x.1 i name k → k < 1025
  next_small e i k x name h f =
      let l = (are_within x.1).after i k name f in
      omega (arith, l, few_states x.1 (proper_at e x h))

  -- what a state of an element leads to
  pub record Parsed (rows : List LeastRow) (e i y : ℕ) : Type 0 where
    pub element : Element
    pub at : slice_get set.elements e ≡ Some element
    pub name : Chars
    pub next : ℕ
    pub follows : FollowsOn element.1 i name next
    pub child : ℕ
    pub place : place_of set name ≡ Some child
    pub size : is_finite (size_at rows child) ≡ true
    pub rest : is_finite (sum_at rows e next) ≡ true
    pub number : (y ≡ number_at e next) ⊎ (y ≡ number_at child 0)

  pub parsed : (rows : List LeastRow) (e i y : ℕ) → Member y (steps_numbers rows e (children_at set e i)) → Parsed rows e i y
  parsed rows e i y m =
      let t = step_found rows e (children_at set e i) y m in
      let steps = steps_at set (slice_get set.elements e) i in
      let u = unmapped {B = Option ℕ × ℕ} (child_step set) steps t.0 (words.to_member (children_at set e i) t.0 (contains_of (children_at set e i) t.0 t.1)) in
      by t.0 (step_parts rows e t.0 y t.2) u.0 u.2 (slice_get set.elements e) refl (to_member steps u.0 (words.contains_of steps u.0 u.1))
    where
      by : (s : Option ℕ × ℕ) → LeadsTo rows e s y → (step : Chars × ℕ) → s ≡ child_step set step → (o : Option Element) → slice_get set.elements e ≡ o → Member step (steps_at set o i) → Parsed rows e i y
      by s l step q None h m = elim m [ ]
      by s l step q (Some x) h m =
          let place : place_of set step.0 ≡ Some l.child = ap (λ (z : Option ℕ × ℕ). z.0) (sym q ∙ l.is) in
          let same : step.1 ≡ l.next = ap (λ (z : Option ℕ × ℕ). z.1) (sym q ∙ l.is) in
          let f : FollowsOn x.1 i step.0 step.1 = follows_in set x.1 i step.1 step.0 (words.to_member (steps_in set x.1 i) step (contains_of (steps_in set x.1 i) step m)) in
          record {
            element = x;
            at = h;
            name = step.0;
            next = l.next;
            follows = subst (λ (k : ℕ). FollowsOn x.1 i step.0 k) same f;
            child = l.child;
            place = place;
            size = l.size;
            rest = l.rest;
            number = l.number;
          }

  -- a state that follows on a declared name is among the steps
  pub child_in : (e i k c : ℕ) (x : Element) (name : Chars) (b : Content) → slice_get set.elements e ≡ Some x → content_in set name ≡ Some b → place_of set name ≡ Some c
      → FollowsOn x.1 i name k → Member {A = Option ℕ × ℕ} (Some c, k) (children_at set e i)
  child_in e i k c x name b h d q f =
      let m = steps_from set x.1 i k name b d f in
      let in_list = mapped {B = Option ℕ × ℕ} (child_step set) (steps_in set x.1 i) (name, k) m in
      let all : children_at set e i ≡ map (child_step set) (steps_in set x.1 i) = ap (λ (o : Option Element). map (child_step set) (steps_at set o i)) h in
      let s : child_step set (name, k) ≡ (Some c, k) = ap (λ (o : Option ℕ). (o, k)) q in
      let there : Member {A = Option ℕ × ℕ} (child_step set (name, k)) (map (child_step set) (steps_in set x.1 i)) =
      to_member (map (child_step set) (steps_in set x.1 i)) (child_step set (name, k)) (words.contains_of (map (child_step set) (steps_in set x.1 i)) (child_step set (name, k)) in_list) in
      subst (λ (l : List (Option ℕ × ℕ)). Member {A = Option ℕ × ℕ} (Some c, k) l) (sym all)
      (subst (λ (z : Option ℕ × ℕ). Member z (map (child_step set) (steps_in set x.1 i))) s there)

  -- ---- they stay within

  below : (e : ℕ) (x : Element) → slice_get set.elements e ≡ Some x → e < length set.elements
  below e x h = slice_get_within set.elements e x h

  number_below : (e i : ℕ) → e < length set.elements → i < 1025 → number_at e i < count_numbers set
  number_below e i h l = omega (arith, h, l)

  child_below : (name : Chars) (c : ℕ) → place_of set name ≡ Some c → c < length set.elements
  child_below name c q = let t = stands_at set name c q in below c (name, t.0) t.2

  pub state_within : (rows : List LeastRow) (e i y : ℕ) → Member y (steps_numbers rows e (children_at set e i)) → y < count_numbers set
  state_within rows e i y m =
      let p = parsed rows e i y m in
      elim p.number [
        | inl q ↦ subst (λ (z : ℕ). z < count_numbers set) (sym q) (number_below e p.next (below e p.element p.at) (next_small e i p.next p.element p.name p.at p.follows))
        | inr q ↦ subst (λ (z : ℕ). z < count_numbers set) (sym q) (number_below p.child 0 (child_below p.name p.child p.place) (omega arith))
      ]

  pub record Rooted (rows : List LeastRow) (root : Chars) (y : ℕ) : Type 0 where
    pub place : ℕ
    pub is : place_of set root ≡ Some place
    pub size : is_finite (size_at rows place) ≡ true
    pub number : y ≡ number_at place 0

  pub rooted : (rows : List LeastRow) (root : Chars) (y : ℕ) (o : Option ℕ) → place_of set root ≡ o → Member y (root_numbers rows o) → Rooted rows root y
  rooted rows root y None q m = elim m [ ]
  rooted rows root y (Some p) q m = by (is_finite (size_at rows p)) refl m
    where
      by : (b : Bool) → is_finite (size_at rows p) ≡ b → Member y (cond b (number_at p 0 ∷ []) []) → Rooted rows root y
      by false f m = elim m [ ]
      by true f (inl h) = record { place = p; is = q; size = f; number = h }
      by true f (inr h) = elim h [ ]

  module _ (rows : List LeastRow) (root : Chars) where
    abbrev pub step : ℕ → List ℕ
    step = next_numbers set rows (place_of set root)

    pub stays_within : StaysWithin step (count_numbers set)
    stays_within x y l m = by (x == 0) m
      where
        by : (b : Bool) → Member y (cond b (root_numbers rows (place_of set root)) (steps_numbers rows ((x - 1) / 1025) (children_at set ((x - 1) / 1025) ((x - 1) % 1025)))) → y < count_numbers set
        by true m =
            let r = rooted rows root y (place_of set root) refl m in
            subst (λ (z : ℕ). z < count_numbers set) (sym r.number) (number_below r.place 0 (child_below root r.place r.is) (omega arith))
        by false m = state_within rows ((x - 1) / 1025) ((x - 1) % 1025) y m

    -- what a state leads to
    pub step_at : (e i : ℕ) → i < 1025 → step (number_at e i) ≡ steps_numbers rows e (children_at set e i)
    step_at e i l =
        let n = number_at e i in
        ap (λ b. cond b (root_numbers rows (place_of set root)) (steps_numbers rows ((n - 1) / 1025) (children_at set ((n - 1) / 1025) ((n - 1) % 1025)))) (not_zero e i)
        ∙ ap (λ (z : ℕ). steps_numbers rows z (children_at set z ((n - 1) % 1025))) (element_of e i l)
        ∙ ap (λ (z : ℕ). steps_numbers rows e (children_at set e z)) (state_of e i l)

-- ---- one more at a time

visit-append : (xs ys : List ℕ) (s : List Bool × List ℕ) → visit (xs ++ ys) s ≡ visit ys (visit xs s)
visit-append [] ys s = refl
visit-append (x ∷ xs) ys s = visit-append xs ys _

drop_more : {A : Type 0} (xs : List A) (k : ℕ) (x : A) → slice_get xs k ≡ Some x → drop k xs ≡ x ∷ drop (k + 1) xs
drop_more [] k x h = cc
drop_more (y ∷ ys) zero x h = let e : y ≡ x = cc in ap (λ z. z ∷ ys) e
drop_more (y ∷ ys) (suc k) x h = drop_more ys k x h ∙ ap (λ m. x ∷ drop m (y ∷ ys)) (let e : suc (k + 1) ≡ suc k + 1 = omega arith in e)

drop_none : {A : Type 0} (xs : List A) (k : ℕ) → slice_get xs k ≡ None → drop k xs ≡ []
drop_none [] zero h = refl
drop_none [] (suc k) h = refl
drop_none (y ∷ ys) zero h = cc
drop_none (y ∷ ys) (suc k) h = drop_none ys k h

got : {A : Type 0} (xs : List A) (k : ℕ) (x : A) → slice_get xs k ≡ Some x → Member x xs
got [] k x h = cc
got (y ∷ ys) zero x h = let e : y ≡ x = cc in inl (sym e)
got (y ∷ ys) (suc k) x h = inr (got ys k x h)

module _ (rows : List LeastRow) (e : ℕ) (steps : List (Option ℕ × ℕ)) (k : ℕ) where
  pub marked_more : (step : Option ℕ × ℕ) (s t u : List Bool × List ℕ) → slice_get steps k ≡ Some step → visit (steps_numbers rows e (drop k steps)) s ≡ u
      → t ≡ visit (step_numbers rows e step) s → visit (steps_numbers rows e (drop (k + 1) steps)) t ≡ u
  marked_more step s t u h v q =
      let rest = steps_numbers rows e (drop (k + 1) steps) in
      ap (visit rest) q ∙ sym (visit-append (step_numbers rows e step) rest s)
      ∙ sym (ap (λ (z : List (Option ℕ × ℕ)). visit (steps_numbers rows e z) s) (drop_more steps k step h)) ∙ v

  pub all_marked : (s u : List Bool × List ℕ) → slice_get steps k ≡ None → visit (steps_numbers rows e (drop k steps)) s ≡ u → s ≡ u
  all_marked s u h v = sym (ap (λ (z : List (Option ℕ × ℕ)). visit (steps_numbers rows e z) s) (drop_none steps k h)) ∙ v

  pub step_bound : (step : Option ℕ × ℕ) (n m : ℕ) → slice_get steps k ≡ Some step → n ≡ m → ((y : ℕ) → Member y (steps_numbers rows e steps) → y < m)
      → (y : ℕ) → Member y (step_numbers rows e step) → y < n
  step_bound step n m h q b y i = let l = b y (step_into rows e steps step y (got steps k step h) i) in omega (arith, l, q)

-- ---- at calls

pub root_bound : (rows : List LeastRow) (o : Option ℕ) (x m : ℕ) → o ≡ Some x → is_finite (size_at rows x) ≡ true → ((y : ℕ) → Member y (root_numbers rows o) → y < m) → number_at x 0 < m
root_bound rows o x m h f b =
    let n = number_at x 0 in
    b n (subst (λ (z : Option ℕ). Member n (root_numbers rows z)) (sym h) (subst (λ (t : Bool). Member n (cond t (n ∷ []) [])) (sym f) (inl refl)))

pub both_bound : (rows : List LeastRow) (e : ℕ) (step : Option ℕ × ℕ) (x m : ℕ) → step.0 ≡ Some x → is_finite (size_at rows x) ≡ true → is_finite (sum_at rows e step.1) ≡ true
    → ((y : ℕ) → Member y (step_numbers rows e step) → y < m) → (number_at e step.1 < m) × (number_at x 0 < m)
both_bound rows e step x m h f g b =
    let k = step.1 in
    let there : (y : ℕ) → Member y (number_at e k ∷ number_at x 0 ∷ []) → y < m = λ y i.
    b y (subst (λ (z : Option ℕ). Member y (step_numbers rows e (z, k))) (sym h) (subst (λ (l : List ℕ). Member y l) (sym (step_leads rows e x k f g)) i)) in
    (there (number_at e k) (inl refl), there (number_at x 0) (inr (inl refl)))

pub child_got : (set : Declarations) (e i k : ℕ) (o : Option (Option ℕ × ℕ)) → o ≡ option_map (child_step set) (slice_get (steps_at set (slice_get set.elements e) i) k) → slice_get (children_at set e i) k ≡ o
child_got set e i k o h = slice_get-map (child_step set) (steps_at set (slice_get set.elements e) i) k ∙ sym h

pub next_root : (set : Declarations) (rows : List LeastRow) (o : Option ℕ) (n : ℕ) → n ≡ 0 → next_numbers set rows o n ≡ root_numbers rows o
next_root set rows o n h =
    ap (λ b. cond b (root_numbers rows o) (steps_numbers rows ((n - 1) / 1025) (children_at set ((n - 1) / 1025) ((n - 1) % 1025)))) (eq-eqb n 0 h)

pub next_state : (set : Declarations) (rows : List LeastRow) (o : Option ℕ) (n : ℕ) → (n ≡ 0 → ⊥)
    → next_numbers set rows o n ≡ steps_numbers rows ((n - 1) / 1025) (children_at set ((n - 1) / 1025) ((n - 1) % 1025))
next_state set rows o n h =
    ap (λ b. cond b (root_numbers rows o) (steps_numbers rows ((n - 1) / 1025) (children_at set ((n - 1) / 1025) ((n - 1) % 1025)))) (ne_eqb n 0 h)
