-- The board of winners.
use Rattle.std.proofs.Common.{[], ◌∷◌, ◌++◌, ◌≡◌, ◌≤◌, ◌<◌, ◌+◌, ◌*◌, ◌/◌, ◌-◌, ◌⊎◌, ℕ, zero, suc, List, length, map, get_or, set, Bool, true, false, Option, Some, None, inl, inr, refl, sym, ap, ◌∙◌, subst, arith, true≢false, slice_index}
use Rattle.std.proofs.lemmas.List.{get_or-set_same, get_or-set_other, length-set, get_or_past, get_or_append_left, get_or_push, map-set}
use Rattle.std.proofs.lemmas.Bool.{cases_eq, cases_lt}
use Rattle.tree_costs.specs.declared.cost.Cost.{Cost}
use Rattle.tree_costs.specs.declared.cost.Cost.TheVariants.{Fin, Inf}
use Rattle.tree_costs.specs.Costs.{AtMost}
use Rattle.tree_costs.proofs.Costs.{at_most-refl, at_most-trans, at_most-inf}
use Rattle.least_trees.specs.Rules.{at, is_done, IsLess}
use Rattle.least_trees.specs.Board.{IsAhead, Wins, Plays, IsBlank, halved, IsAbove, IsBoard, IsWhole, IsWholeFrom, IsWholeBut, IsNext}

-- ---- halving

pub half_even : (j : ℕ) → (2 * j) / 2 ≡ j
half_even j = omega arith

pub half_odd : (j : ℕ) → (2 * j + 1) / 2 ≡ j
half_odd j = omega arith

halved-le : (s l : ℕ) → halved (suc s) l ≤ halved s l
halved-le s l = omega arith

halved-add : (d s l : ℕ) → halved (d + s) l ≤ halved s l
halved-add zero s l = let e : zero + s ≡ s = omega arith in subst (λ k. halved k l ≤ halved s l) (sym e) (omega arith)
halved-add (suc d) s l =
    let e : suc d + s ≡ suc (d + s) = omega arith in
    let h : halved (d + s) l ≤ halved s l = halved-add d s l in
    let g : halved (suc (d + s)) l ≤ halved (d + s) l = halved-le (d + s) l in
    subst (λ k. halved k l ≤ halved s l) (sym e) (omega arith)

halved-mono : (s t l : ℕ) → s ≤ t → halved t l ≤ halved s l
halved-mono s t l h = let e : (t - s) + s ≡ t = omega arith in subst (λ k. halved k l ≤ halved s l) e (halved-add (t - s) s l)

-- a place above l that is below k, itself above l, is at most half of k
pub above-next : (j k l : ℕ) → IsAbove j l → IsAbove k l → j < k → j ≤ k / 2
above-next j k l a b h = elim (cases_lt b.0 a.0) [
  | inl t ↦
      let m : halved a.0 l ≤ halved (suc b.0) l = halved-mono (suc b.0) a.0 l (omega arith) in
      let q : j ≡ halved a.0 l = a.1 in
      let r : k ≡ halved b.0 l = b.1 in
      let v : halved (suc b.0) l ≡ k / 2 = ap (λ x. x / 2) (sym r) in
      omega arith
  | inr t ↦
      let m : halved b.0 l ≤ halved a.0 l = halved-mono a.0 b.0 l t in
      let q : j ≡ halved a.0 l = a.1 in
      let r : k ≡ halved b.0 l = b.1 in
      absurd (omega arith)
]

pub above-half : (k l : ℕ) → IsAbove k l → IsAbove (k / 2) l
above-half k l a = (suc a.0, ap (λ x. x / 2) a.1)

pub above-self : (l : ℕ) → IsAbove l l
above-self l = (zero, refl)

above-even : (j l : ℕ) → IsAbove (2 * j) l → IsAbove j l
above-even j l a = subst (λ k. IsAbove k l) (half_even j) (above-half (2 * j) l a)

above-odd : (j l : ℕ) → IsAbove (2 * j + 1) l → IsAbove j l
above-odd j l a = subst (λ k. IsAbove k l) (half_odd j) (above-half (2 * j + 1) l a)

-- ---- who is ahead

pub ahead-refl : (done : List Bool) (costs : List Cost) (a : ℕ) → IsAhead done costs a a
ahead-refl done costs a = by (is_done done a) refl
  where
    by : (b : Bool) → is_done done a ≡ b → IsAhead done costs a a
    by true e = inl e
    by false e = inr (e, at_most-refl (at costs a))

pub ahead-trans : (done : List Bool) (costs : List Cost) (a b c : ℕ) → IsAhead done costs a b → IsAhead done costs b c → IsAhead done costs a c
ahead-trans done costs a b c h (inl e) = inl e
ahead-trans done costs a b c (inl d) (inr g) = absurd (true≢false (sym d ∙ g.0))
ahead-trans done costs a b c (inr h) (inr g) = inr (h.0, at_most-trans (at costs a) (at costs b) (at costs c) h.1 g.1)

-- ---- one place filled anew

module _ (n : ℕ) (done : List Bool) (costs : List Cost) (old new : List ℕ) (j : ℕ) (P : Plays done costs old j new) where
  filled-size : length old ≡ n + n → length new ≡ n + n
  filled-size h = P.size ∙ h

  filled-one : slice_index old (2 * j) < n → slice_index old (2 * j + 1) < n → slice_index new j < n
  filled-one l r = elim ((P.wins).one) [
    | inl e ↦ subst (λ k. k < n) (sym e) l
    | inr e ↦ subst (λ k. k < n) (sym e) r
  ]

  pub filled : (sound sound' : ℕ → Type 0) → j < n → 1 ≤ j → IsBoard n sound done costs old
      → ((k : ℕ) → 1 ≤ k → k < n → (k ≡ j → ⊥) → sound' k → sound k)
      → ((k : ℕ) → 1 ≤ k → k < n → sound' k → (2 * k ≡ j → ⊥) × (2 * k + 1 ≡ j → ⊥))
      → IsBoard n sound' done costs new
  filled sound sound' lt pos B keep apart = record {
    size = filled-size B.size;
    spots = λ y h. P.others (n + y) (λ e. omega arith) ∙ B.spots y h;
    within = λ k l h. elim (cases_eq k j) [
      | inl e ↦ subst (λ z. slice_index new z < n) (sym e) (filled-one (B.within (2 * j) (omega arith) (omega arith)) (B.within (2 * j + 1) (omega arith) (omega arith)))
      | inr d ↦ subst (λ z. z < n) (sym (P.others k d)) (B.within k l h)
    ];
    wins = λ k l h s.
        let a = apart k l h s in
        let ea = P.others (2 * k) a.0 in
        let eb = P.others (2 * k + 1) a.1 in
        elim (cases_eq k j) [
          | inl e ↦
              subst (λ z. Wins done costs (slice_index new (2 * k)) (slice_index new (2 * k + 1)) (slice_index new z)) (sym e)
              (subst (λ z. Wins done costs z (slice_index new (2 * k + 1)) (slice_index new j)) (sym ea)
              (subst (λ z. Wins done costs (slice_index old (2 * k)) z (slice_index new j)) (sym eb)
              (subst (λ z. Wins done costs (slice_index old (2 * z)) (slice_index old (2 * z + 1)) (slice_index new j)) (sym e) P.wins)))
          | inr d ↦
              subst (λ z. Wins done costs z (slice_index new (2 * k + 1)) (slice_index new k)) (sym ea)
              (subst (λ z. Wins done costs (slice_index old (2 * k)) z (slice_index new k)) (sym eb)
              (subst (λ z. Wins done costs (slice_index old (2 * k)) (slice_index old (2 * k + 1)) z) (sym (P.others k d))
              (B.wins k l h (keep k l h d s))))
        ];
  }

-- the next place above l
pub replayed : (l k : ℕ) (done : List Bool) (costs : List Cost) (old new : List ℕ) → IsAbove k l → 1 < k → k < length done + length done
    → IsWholeBut l k done costs old → Plays done costs old (k / 2) new → IsWholeBut l (k / 2) done costs new
replayed l k done costs old new a gt lt B P =
    filled (length done) done costs old new (k / 2) P (λ j. IsAbove j l → k ≤ j) (λ j. IsAbove j l → k / 2 ≤ j) (omega arith) (omega arith) B
    (λ j p q d s b.
    let h = s b in
    elim (cases_lt j k) [
      | inl t ↦ let u : j ≤ k / 2 = above-next j k l b a t in absurd (d (omega arith))
      | inr t ↦ t
    ])
    (λ j p q s. (
      (λ e. let b : IsAbove j l = above-even j l (subst (λ z. IsAbove z l) (sym e) (above-half k l a)) in let h = s b in omega arith),
      (λ e. let b : IsAbove j l = above-odd j l (subst (λ z. IsAbove z l) (sym e) (above-half k l a)) in let h = s b in omega arith),
    ))

-- a board with no place left to fill is whole
pub whole-of : (l k : ℕ) (done : List Bool) (costs : List Cost) (winners : List ℕ) → k ≤ 1 → IsWholeBut l k done costs winners → IsWhole done costs winners
whole-of l k done costs winners h B = record {
  size = B.size;
  spots = B.spots;
  within = B.within;
  wins = λ j p q s. B.wins j p q (λ a. omega arith);
}

-- the places from the last to the first
pub set_one : (k : ℕ) (done : List Bool) (costs : List Cost) (old new : List ℕ) → 1 < k → k ≤ length done
    → IsWholeFrom k done costs old → Plays done costs old (k - 1) new → IsWholeFrom (k - 1) done costs new
set_one k done costs old new gt le B P =
    filled (length done) done costs old new (k - 1) P (λ j. k ≤ j) (λ j. k - 1 ≤ j) (omega arith) (omega arith) B
    (λ j p q d s. elim (cases_lt j k) [ inl t ↦ absurd (d (omega arith)) | inr t ↦ t ])
    (λ j p q s. ((λ e. omega arith), (λ e. omega arith)))

pub whole-from : (k : ℕ) (done : List Bool) (costs : List Cost) (winners : List ℕ) → k ≤ 1 → IsWholeFrom k done costs winners → IsWhole done costs winners
whole-from k done costs winners h B = record {
  size = B.size;
  spots = B.spots;
  within = B.within;
  wins = λ j p q s. B.wins j p q (omega arith);
}

pub from-blank : (done : List Bool) (costs : List Cost) (winners : List ℕ) → IsBlank (length done) winners → IsWholeFrom (length done) done costs winners
from-blank done costs winners B = record {
  size = B.size;
  spots = B.spots;
  within = B.within;
  wins = λ j p q s. absurd (omega arith);
}

-- ---- a spot that was lowered or settled

-- what changes at one spot alone
module _ (n : ℕ) (done done' : List Bool) (costs costs' : List Cost) (winners : List ℕ) (y : ℕ)
    (B : IsBoard n (λ j. Unit {0}) done costs winners) (same_done : (k : ℕ) → (k ≡ y → ⊥) → is_done done' k ≡ is_done done k)
    (same_cost : (k : ℕ) → (k ≡ y → ⊥) → at costs' k ≡ at costs k) where
  -- only the places above it speak of it
  avoids : (fuel j : ℕ) → 1 ≤ j → j < n + n → n + n ≤ j + fuel → (IsAbove j (n + y) → ⊥) → slice_index winners j ≡ y → ⊥
  avoids zero j p q f a e = omega arith
  avoids (suc fuel) j p q f a e = elim (cases_lt j n) [
    | inl t ↦ elim ((B.wins j p t tt).one) [
      | inl w ↦ avoids fuel (2 * j) (omega arith) (omega arith) (omega arith) (λ h. a (above-even j (n + y) h)) (sym w ∙ e)
      | inr w ↦ avoids fuel (2 * j + 1) (omega arith) (omega arith) (omega arith) (λ h. a (above-odd j (n + y) h)) (sym w ∙ e)
    ]
    | inr t ↦
        let r : n + (j - n) ≡ j = omega arith in
        let s : slice_index winners j ≡ j - n = subst (λ z. slice_index winners z ≡ j - n) r (B.spots (j - n) (omega arith)) in
        let u : n + y ≡ j = omega (arith, s, e) in
        a (zero, sym u)
  ]

  ahead-still : (a b : ℕ) → (a ≡ y → ⊥) → (b ≡ y → ⊥) → IsAhead done costs a b → IsAhead done' costs' a b
  ahead-still a b na nb (inl d) = inl (same_done b nb ∙ d)
  ahead-still a b na nb (inr h) =
      inr (same_done a na ∙ h.0, subst (λ z. AtMost z (at costs' b)) (sym (same_cost a na)) (subst (AtMost (at costs a)) (sym (same_cost b nb)) h.1))

  pub changed : (l : ℕ) → l ≡ n + y → y < n → IsBoard n (λ j. IsAbove j l → l ≤ j) done' costs' winners
  changed l q lt = record {
    size = B.size;
    spots = B.spots;
    within = B.within;
    wins = λ j p h s.
        let na : IsAbove j (n + y) → ⊥ = λ a. let v : l ≤ j = s (subst (λ z. IsAbove j z) (sym q) a) in omega arith in
        let W = B.wins j p h tt in
        let top = avoids (n + n) j p (omega arith) (omega arith) na in
        let left = avoids (n + n) (2 * j) (omega arith) (omega arith) (omega arith) (λ a. na (above-even j (n + y) a)) in
        let right = avoids (n + n) (2 * j + 1) (omega arith) (omega arith) (omega arith) (λ a. na (above-odd j (n + y) a)) in
        record {
          one = W.one;
          left = ahead-still (slice_index winners j) (slice_index winners (2 * j)) top left W.left;
          right = ahead-still (slice_index winners j) (slice_index winners (2 * j + 1)) top right W.right;
        };
  }

pub lowered-board : {V : Type 0} (cost : V → Cost) (done : List Bool) (vs : List V) (winners : List ℕ) (y : ℕ) (s : V) → y < length done
    → IsWhole done (map cost vs) winners → IsWholeBut (length done + y) (length done + y) done (map cost (set vs y s)) winners
lowered-board cost done vs winners y s lt B =
    changed (length done) done done (map cost vs) (map cost (set vs y s)) winners y B (λ k n. refl)
    (λ k n. ap (λ z. at z k) (map-set cost vs y s) ∙ get_or-set_other (map cost vs) y k (cost s) Inf n) (length done + y) refl lt

pub settled-board : (done : List Bool) (costs : List Cost) (winners : List ℕ) (x : ℕ) → x < length done → IsWhole done costs winners
    → IsWholeBut (length (set done x true) + x) (length (set done x true) + x) (set done x true) costs winners
settled-board done costs winners x lt B =
    subst (λ n. IsBoard n (λ j. IsAbove j (n + x) → n + x ≤ j) (set done x true) costs winners) (sym (length-set done x true))
    (changed (length done) done (set done x true) costs costs winners x B (λ k n. get_or-set_other done x k true false n) (λ k n. refl) (length done + x) refl lt)

-- ---- the first of all

module _ (n : ℕ) (done : List Bool) (costs : List Cost) (winners : List ℕ) (B : IsBoard n (λ j. Unit {0}) done costs winners) where
  ahead-up : (fuel k : ℕ) → 1 ≤ k → k < n + n → k ≤ fuel → IsAhead done costs (slice_index winners 1) (slice_index winners k)
  ahead-up zero k p q f = absurd (omega arith)
  ahead-up (suc fuel) k p q f = elim (cases_eq k 1) [
    | inl e ↦ subst (λ z. IsAhead done costs (slice_index winners 1) (slice_index winners z)) (sym e) (ahead-refl done costs (slice_index winners 1))
    | inr d ↦
        let up = ahead-up fuel (k / 2) (omega arith) (omega arith) (omega arith) in
        let W = B.wins (k / 2) (omega arith) (omega arith) tt in
        ahead-trans done costs (slice_index winners 1) (slice_index winners (k / 2)) (slice_index winners k) up
        (elim (cases_eq k (2 * (k / 2))) [
          | inl e ↦ subst (λ z. IsAhead done costs (slice_index winners (k / 2)) (slice_index winners z)) (sym e) W.left
          | inr o ↦
              let e : k ≡ 2 * (k / 2) + 1 = omega arith in
              subst (λ z. IsAhead done costs (slice_index winners (k / 2)) (slice_index winners z)) (sym e) W.right
        ])
  ]

  pub first-ahead : (y : ℕ) → y < n → IsAhead done costs (slice_index winners 1) y
  first-ahead y h = subst (λ z. IsAhead done costs (slice_index winners 1) z) (B.spots y h) (ahead-up (n + n) (n + y) (omega arith) (omega arith) (omega arith))

not-less : (c : Cost) → (IsLess c Inf → ⊥) → c ≡ Inf
not-less (Fin a) h = absurd (h tt)
not-less Inf h = refl

inf-above : (c d : Cost) → c ≡ Inf → AtMost c d → d ≡ Inf
inf-above c Inf e h = refl
inf-above c (Fin a) e h = let g : AtMost Inf (Fin a) = subst (λ z. AtMost z (Fin a)) e h in elim g [ ]

open-within : (done : List Bool) (costs : List Cost) (y : ℕ) → length done ≡ length costs → (at costs y ≡ Inf → ⊥) → y < length done
open-within done costs y e h = elim (cases_lt y (length done)) [ inl t ↦ t | inr t ↦ absurd (h (get_or_past costs y Inf (omega arith))) ]

pub next-some : (done : List Bool) (costs : List Cost) (winners : List ℕ) → length done ≡ length costs → IsWhole done costs winners → 0 < length done
    → is_done done (slice_index winners 1) ≡ false → IsNext done costs (Some (slice_index winners 1))
next-some done costs winners e B pos o = (
  B.within 1 (omega arith) (omega arith),
  o,
  λ y h. elim (cases_lt y (length done)) [
    | inl t ↦ elim (first-ahead (length done) done costs winners B y t) [
      | inl d ↦ absurd (true≢false (sym d ∙ h))
      | inr g ↦ g.1
    ]
    | inr t ↦ subst (AtMost (at costs (slice_index winners 1))) (sym (get_or_past costs y Inf (omega arith))) (at_most-inf (at costs (slice_index winners 1)))
  ],
)

pub next-none : (done : List Bool) (costs : List Cost) (winners : List ℕ) → length done ≡ length costs → IsWhole done costs winners → 0 < length done
    → (is_done done (slice_index winners 1) ≡ true) ⊎ (IsLess (at costs (slice_index winners 1)) Inf → ⊥) → IsNext done costs None
next-none done costs winners e B pos s y h = elim (cases_lt y (length done)) [
  | inr t ↦ get_or_past costs y Inf (omega arith)
  | inl t ↦ elim (first-ahead (length done) done costs winners B y t) [
    | inl d ↦ absurd (true≢false (sym d ∙ h))
    | inr g ↦ elim s [
      | inl d ↦ absurd (true≢false (sym d ∙ g.0))
      | inr n ↦ inf-above (at costs (slice_index winners 1)) (at costs y) (not-less (at costs (slice_index winners 1)) n) g.1
    ]
  ]
]

-- ---- a blank board

pub blank_more : (ws : List ℕ) (n y : ℕ) → length ws ≡ n + y → ((k : ℕ) → k < y → slice_index ws (n + k) ≡ k)
    → (k : ℕ) → k < y + 1 → slice_index (ws ++ y ∷ []) (n + k) ≡ k
blank_more ws n y e h k l = elim (cases_lt k y) [
  | inl t ↦ get_or_append_left ws (y ∷ []) 0 (n + k) (omega arith) ∙ h k t
  | inr t ↦
      let q : k ≡ y = omega arith in
      ap (λ z. slice_index (ws ++ y ∷ []) (n + z)) q ∙ get_or_push ws y 0 (n + y) e ∙ sym q
]

pub own_more : (ws : List ℕ) (n x : ℕ) → n ≤ length ws → ((k : ℕ) → k < n → slice_index ws k ≡ k) → (k : ℕ) → k < n → slice_index (ws ++ x ∷ []) k ≡ k
own_more ws n x e h k l = get_or_append_left ws (x ∷ []) 0 k (omega arith) ∙ h k l

pub own_push : (ws : List ℕ) (n : ℕ) → length ws ≡ n → ((k : ℕ) → k < n → slice_index ws k ≡ k) → (k : ℕ) → k < n + 1 → slice_index (ws ++ n ∷ []) k ≡ k
own_push ws n e h k l = elim (cases_lt k n) [
  | inl t ↦ get_or_append_left ws (n ∷ []) 0 k (omega arith) ∙ h k t
  | inr t ↦
      let q : k ≡ n = omega arith in
      ap (slice_index (ws ++ n ∷ [])) q ∙ get_or_push ws n 0 n e ∙ sym q
]

pub blank : (ws : List ℕ) (n : ℕ) → length ws ≡ n + n → ((k : ℕ) → k < n → slice_index ws k ≡ k) → ((k : ℕ) → k < n → slice_index ws (n + k) ≡ k) → IsBlank n ws
blank ws n e own spots = record {
  size = e;
  spots = spots;
  within = λ j p q. elim (cases_lt j n) [
    | inl t ↦ subst (λ z. z < n) (sym (own j t)) t
    | inr t ↦
        let r : n + (j - n) ≡ j = omega arith in
        subst (λ z. z < n) (sym (subst (λ z. slice_index ws z ≡ j - n) r (spots (j - n) (omega arith)))) (omega arith)
  ];
}
