-- Rows of numbered names are what follows.
use Rattle.std.proofs.Common.{◌≡◌, ◌<◌, ◌≤◌, ◌+◌, List, [], ◌∷◌, ℕ, zero, suc, length, get_or, bytes_eq, Bool, true, false, cond, not, ◌||◌, Option, Some, None, refl, sym, ap, ◌∙◌, subst, arith, true≢false, Contains, Result, Ok, Err, IfOk}
use Rattle.std.specs.Prelude.{option_map}
use Rattle.std.specs.List.{position_or_len, sum_by}
use Rattle.std.proofs.lemmas.Bool.{or_left, or_right, lt-ltb}
use Rattle.std.proofs.lemmas.List.Quantifiers.{position-Some}
use Rattle.std.proofs.lemmas.List.{get_or_default}
use Rattle.std.proofs.lemmas.List.Sums.{sum_by-cons}
use Rattle.std.proofs.lemmas.Slice.Eq.{bytes_eq-Decides}
use Rattle.jats_chars.specs.declared.NoMemory.{NoMemory}
use Rattle.content_models.specs.declared.content.Content.{Content}
use Rattle.content_models.specs.declared.content.Content.TheVariants.{Empty, Any, Mixed, Children}
use Rattle.content_models.specs.Model.{Chars, among}
use Rattle.position_automata.specs.Automata.{states, FollowsOn, IsDeterministic, IsFollows}
use Rattle.position_automata.specs.Stepping.{TellsSteps, steps_of, step_on}
use Rattle.position_automata.proofs.States.{one_state_follows}
use Rattle.position_automata.proofs.Stepping.{follows_of, told_of, on_to, on_from, steps_are_told}
use Rattle.model_inclusion.specs.Rows.{number_of, numbered_step, numbered, both, asked_step, asked, IsRow}
use Rattle.model_inclusion.proofs.Members.{to_member, contains_of, filtered_to, filtered_from}

-- ---- numbers of names

-- the name with a number
pub named : (keys : List Chars) (name : Chars) (n : ℕ) → number_of keys name ≡ Some n → (n < length keys) × (name ≡ get_or keys n [])
named keys name n h =
    let t = position-Some (bytes_eq name) keys n [] h in
    (t.0, (bytes_eq-Decides name (get_or keys n [])).0 t.1)

pub same_name : (keys : List Chars) (x y : Chars) (n : ℕ) → number_of keys x ≡ Some n → number_of keys y ≡ Some n → x ≡ y
same_name keys x y n h k = (named keys x n h).1 ∙ sym (named keys y n k).1

among_at : (keys : List Chars) (n : ℕ) → n < length keys → among keys (get_or keys n []) ≡ true
among_at [] n h = absurd (omega arith)
among_at (x ∷ keys) zero h = or_left (bytes_eq x x) (among keys x) ((bytes_eq-Decides x x).1 refl)
among_at (x ∷ keys) (suc n) h = or_right (bytes_eq (get_or keys n []) x) (among keys (get_or keys n [])) (among_at keys n (omega arith))

pub among_of : (keys : List Chars) (name : Chars) (n : ℕ) → number_of keys name ≡ Some n → among keys name ≡ true
among_of keys name n h =
    let t = named keys name n h in
    subst (λ (x : Chars). among keys x ≡ true) (sym t.1) (among_at keys n t.0)

position_within : (keys : List Chars) (name : Chars) → among keys name ≡ true → position_or_len (bytes_eq name) keys < length keys
position_within [] name h = absurd (true≢false (sym h))
position_within (x ∷ keys) name h = by (bytes_eq name x) h (position_within keys name)
  where
    by : (b : Bool) → (b || among keys name) ≡ true → (among keys name ≡ true → position_or_len (bytes_eq name) keys < length keys)
        → cond (not b) (1 + position_or_len (bytes_eq name) keys) 0 < suc (length keys)
    by true h rec = omega arith
    by false h rec = omega (arith, rec h)

pub number_in : (keys : List Chars) (name : Chars) → among keys name ≡ true → (n : ℕ) × (number_of keys name ≡ Some n)
number_in keys name h =
    let n = position_or_len (bytes_eq name) keys in
    (n, ap (λ b. cond b (Some n) None) (lt-ltb n (length keys) (position_within keys name h)))

-- ---- told steps

some_pair : (o : Option ℕ) (k n j : ℕ) → option_map {U = ℕ × ℕ} (λ m. (m, k)) o ≡ Some (n, j) → (o ≡ Some n) × (k ≡ j)
some_pair None k n j h = cc
some_pair (Some m) k n j h = let e : (m, k) ≡ (n, j) = cc in (ap (λ (z : ℕ × ℕ). Some z.0) e, ap (λ (z : ℕ × ℕ). z.1) e)

pub told_is_row : (keys : List Chars) (a : Content) (i : ℕ) → TellsSteps a → IsRow keys a i (numbered keys (steps_of a i))
told_is_row keys a i tells n j = (
  (λ c.
      let t = filtered_to (numbered_step keys) (steps_of a i) (n, j) (to_member (numbered keys (steps_of a i)) (n, j) c) in
      let s = t.0 in
      let p = some_pair (number_of keys s.0) s.1 n j t.2 in
      (s.0, p.0, subst (λ (k : ℕ). FollowsOn a i s.0 k) p.1 (follows_of a i s.1 s.0 (contains_of (steps_of a i) s t.1)))),
  (λ h.
      let m = to_member (steps_of a i) (h.0, j) (told_of a i j h.0 tells h.2) in
      contains_of (numbered keys (steps_of a i)) (n, j)
      (filtered_from (numbered_step keys) (steps_of a i) (h.0, j) (n, j) m (ap (λ o. option_map {U = ℕ × ℕ} (λ m. (m, j)) o) h.1))),
)

-- ---- asked steps

asked_pair : (o q : Option ℕ) (n j : ℕ) → both o q ≡ Some (n, j) → (o ≡ Some n) × (q ≡ Some j)
asked_pair None q n j h = cc
asked_pair (Some m) None n j h = cc
asked_pair (Some m) (Some k) n j h =
    let e : (m, k) ≡ (n, j) = cc in (ap (λ (z : ℕ × ℕ). Some z.0) e, ap (λ (z : ℕ × ℕ). Some z.1) e)

pub asked_is_row : (keys : List Chars) (a : Content) (i : ℕ) → IsDeterministic a → IsRow keys a i (asked keys a i keys)
asked_is_row keys a i d n j = (
  (λ c.
      let t = filtered_to (asked_step keys a i) keys (n, j) (to_member (asked keys a i keys) (n, j) c) in
      let p = asked_pair (number_of keys t.0) (step_on a i t.0) n j t.2 in
      (t.0, p.0, on_to a i j t.0 p.1)),
  (λ h.
      let at = named keys h.0 n h.1 in
      let m = to_member keys h.0 (n, at.0, get_or_default keys n h.0 [] at.0 ∙ sym at.1) in
      contains_of (asked keys a i keys) (n, j)
      (filtered_from (asked_step keys a i) keys h.0 (n, j) m (ap (λ o. both o (step_on a i h.0)) h.1 ∙ ap (λ o. both (Some n) o) (on_from a i j h.0 d h.2)))),
)

-- ---- which of them

-- a number stands with one state
pub one_each : (keys : List Chars) (a : Content) (i : ℕ) (row : List (ℕ × ℕ)) → IsDeterministic a → IsRow keys a i row
    → (n p q : ℕ) → Contains row (n, p) → Contains row (n, q) → p ≡ q
one_each keys a i row d r n p q c e =
    let h = (r n p).0 c in
    let k = (r n q).0 e in
    (one_state_follows a).0 d i p q h.0 h.2 (subst (λ (x : Chars). FollowsOn a i x q) (sym (same_name keys h.0 k.0 n h.1 k.1)) k.2)

row_at_most : (rows : List (List (Chars × ℕ))) (i : ℕ) → length (get_or rows i []) ≤ sum_by length rows
row_at_most [] i = omega arith
row_at_most (r ∷ rows) zero = omega (arith, sum_by-cons length r rows)
row_at_most (r ∷ rows) (suc i) = omega (arith, sum_by-cons length r rows, row_at_most rows i)

-- a state has at most as many steps as all have together
pub few : (a : Content) (most i : ℕ) → IsFollows a most → i < states a → length (steps_of a i) ≤ most
few a most i f h =
    let same : get_or f.0 i [] ≡ steps_of a i = (steps_are_told a i (get_or f.0 i []) h).0 (f.2 i h) in
    omega (arith, row_at_most f.0 i, ap length same, f.3)

any_none : (rows : List (List (Chars × ℕ))) → length rows ≡ 1 → ((i : ℕ) → i < 1 → get_or rows i [] ≡ []) → sum_by length rows ≡ 0
any_none [] h e = refl
any_none (r ∷ []) h e = let z : r ≡ [] = e 0 (omega arith) in omega (arith, sum_by-cons length r [], ap length z)
any_none (r ∷ s ∷ rows) h e = absurd (omega (arith, h))

-- where there are follows, the content tells its steps
pub tells : (a : Content) (most : ℕ) → IsFollows a most → (most ≡ 0 → ⊥) → TellsSteps a
tells Empty most f h = tt
tells (Mixed listed) most f h = tt
tells (Children part) most f h = tt
tells Any most f h = h (f.3 ∙ any_none f.0 f.1 f.2)

-- ---- rows that calls answer

pub told_row_result : (keys : List Chars) (a : Content) (i : ℕ) (r : Result (List (ℕ × ℕ)) NoMemory) → TellsSteps a
    → IfOk r (λ row. row ≡ numbered keys (steps_of a i)) → IfOk r (IsRow keys a i)
told_row_result keys a i (Ok row) t e = subst (λ (x : List (ℕ × ℕ)). IsRow keys a i x) (sym e) (told_is_row keys a i t)
told_row_result keys a i (Err f) t e = tt

pub asked_row_result : (keys : List Chars) (a : Content) (i : ℕ) (r : Result (List (ℕ × ℕ)) NoMemory) → IsDeterministic a
    → IfOk r (λ row. row ≡ asked keys a i keys) → IfOk r (IsRow keys a i)
asked_row_result keys a i (Ok row) d e = subst (λ (x : List (ℕ × ℕ)). IsRow keys a i x) (sym e) (asked_is_row keys a i d)
asked_row_result keys a i (Err f) d e = tt
