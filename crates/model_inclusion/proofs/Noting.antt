-- Steps noted by number, and taken away again.
use Rattle.std.proofs.Common.{◌≡◌, List, [], ◌∷◌, ℕ, ◌<◌, length, set, get_or, refl, sym, ap, ◌∙◌, arith, Option, Some, None, ◌⊎◌, inl, inr, replicate}
use Rattle.std.proofs.lemmas.List.{get_or-set_same, get_or-set_other, length-set, get_or-replicate, get_or_past, length-replicate, set_past, ext_get_or}
use Rattle.std.proofs.lemmas.Bool.{cases_eq, cases_lt}
use Rattle.model_inclusion.specs.Reaching.{Member, noted, forgotten}

pub length-noted : (row : List (ℕ × ℕ)) (steps : List (Option ℕ)) → length (noted row steps) ≡ length steps
length-noted [] steps = refl
length-noted (s ∷ row) steps = length-noted row (set steps s.0 (Some s.1)) ∙ length-set steps s.0 (Some s.1)

length-forgotten : (row : List (ℕ × ℕ)) (steps : List (Option ℕ)) → length (forgotten row steps) ≡ length steps
length-forgotten [] steps = refl
length-forgotten (s ∷ row) steps = length-forgotten row (set steps s.0 None) ∙ length-set steps s.0 None

-- what is noted stands in the row, or was there
pub noted_to : (row : List (ℕ × ℕ)) (steps : List (Option ℕ)) (n j : ℕ) → get_or (noted row steps) n None ≡ Some j → Member (n, j) row ⊎ (get_or steps n None ≡ Some j)
noted_to [] steps n j h = inr h
noted_to (s ∷ row) steps n j h = elim (noted_to row (set steps s.0 (Some s.1)) n j h) [
  | inl m ↦ inl (inr m)
  | inr q ↦ elim (cases_eq n s.0) [
    | inr k ↦ inr (sym (get_or-set_other steps s.0 n (Some s.1) None k) ∙ q)
    | inl e ↦ elim (cases_lt n (length steps)) [
      | inr past ↦ inr (ap (λ (z : List (Option ℕ)). get_or z n None) (sym (set_past steps s.0 (Some s.1) (omega (arith, past, e)))) ∙ q)
      | inl l ↦
          let same : get_or (set steps s.0 (Some s.1)) n None ≡ Some s.1 =
          ap (λ k. get_or (set steps s.0 (Some s.1)) k None) e ∙ get_or-set_same steps s.0 (Some s.1) None (omega (arith, l, e)) in
          let is : s.1 ≡ j = cc in
          inl (inl (ap (λ (k : ℕ). (k, j)) e ∙ ap (λ (k : ℕ). (s.0, k)) (sym is)))
    ]
  ]
]

-- a note stays where the row has no other step with its number
noted_kept : (row : List (ℕ × ℕ)) (steps : List (Option ℕ)) (n j : ℕ) → n < length steps → ((p : ℕ) → Member (n, p) row → p ≡ j) → get_or steps n None ≡ Some j
    → get_or (noted row steps) n None ≡ Some j
noted_kept [] steps n j l one h = h
noted_kept (s ∷ row) steps n j l one h =
    noted_kept row (set steps s.0 (Some s.1)) n j (omega (arith, l, length-set steps s.0 (Some s.1))) (λ p m. one p (inr m)) (elim (cases_eq n s.0) [
      | inr k ↦ get_or-set_other steps s.0 n (Some s.1) None k ∙ h
      | inl e ↦
          let is : s.1 ≡ j = one s.1 (inl (ap (λ (k : ℕ). (k, s.1)) e)) in
          ap (λ k. get_or (set steps s.0 (Some s.1)) k None) e ∙ get_or-set_same steps s.0 (Some s.1) None (omega (arith, l, e)) ∙ ap (λ (k : ℕ). Some k) is
    ])

pub noted_from : (row : List (ℕ × ℕ)) (steps : List (Option ℕ)) (n j : ℕ) → n < length steps → ((p : ℕ) → Member (n, p) row → p ≡ j) → Member (n, j) row
    → get_or (noted row steps) n None ≡ Some j
noted_from [] steps n j l one m = elim m [ ]
noted_from (s ∷ row) steps n j l one (inl e) =
    let at : n ≡ s.0 = ap (λ z. z.0) e in
    let is : j ≡ s.1 = ap (λ z. z.1) e in
    noted_kept row (set steps s.0 (Some s.1)) n j (omega (arith, l, length-set steps s.0 (Some s.1))) (λ p m. one p (inr m))
    (ap (λ k. get_or (set steps s.0 (Some s.1)) k None) at ∙ get_or-set_same steps s.0 (Some s.1) None (omega (arith, l, at)) ∙ ap (λ (k : ℕ). Some k) (sym is))
noted_from (s ∷ row) steps n j l one (inr m) =
    noted_from row (set steps s.0 (Some s.1)) n j (omega (arith, l, length-set steps s.0 (Some s.1))) (λ p m. one p (inr m)) m

-- where each note has a number of the row, nothing stays
cleared : (row : List (ℕ × ℕ)) (steps : List (Option ℕ)) (n : ℕ) → ((j : ℕ) → get_or steps n None ≡ Some j → (p : ℕ) × Member (n, p) row) → get_or (forgotten row steps) n None ≡ None
cleared [] steps n h = by (get_or steps n None) refl
  where
    by : (o : Option ℕ) → get_or steps n None ≡ o → get_or steps n None ≡ None
    by None q = q
    by (Some j) q = elim (h j q).1 [ ]
cleared (s ∷ row) steps n h = cleared row (set steps s.0 None) n (λ j q. elim (cases_eq n s.0) [
  | inr k ↦ elim ((h j (sym (get_or-set_other steps s.0 n None None k) ∙ q)).1) [
    | inl e ↦ absurd (k (ap (λ z. z.0) e))
    | inr m ↦ ((h j (sym (get_or-set_other steps s.0 n None None k) ∙ q)).0, m)
  ]
  | inl e ↦
      let none : get_or (set steps s.0 None) n None ≡ None = ap (λ k. get_or (set steps s.0 None) k None) e ∙ gone s.0 in
      absurd (some_none j (sym q ∙ none))
])
  where
    some_none : (j : ℕ) → Some j ≡ None → ⊥
    some_none j q = cc

    gone : (i : ℕ) → get_or (set steps i None) i None ≡ None
    gone i = elim (cases_lt i (length steps)) [
      | inl l ↦ get_or-set_same steps i None None l
      | inr past ↦ get_or_past (set steps i None) i None (omega (arith, past, length-set steps i None))
    ]

replicated : (k n : ℕ) → get_or {A = Option ℕ} (replicate k None) n None ≡ None
replicated k n = elim (cases_lt n k) [
  | inl l ↦ get_or-replicate k n None None l
  | inr past ↦ get_or_past (replicate k None) n None (omega (arith, past, length-replicate {A = Option ℕ} k None))
]

pub blank : (steps : List (Option ℕ)) (k n : ℕ) → steps ≡ replicate k None → get_or steps n None ≡ None
blank steps k n e = ap (λ (z : List (Option ℕ)). get_or z n None) e ∙ replicated k n

pub restored : (row : List (ℕ × ℕ)) (steps : List (Option ℕ)) → steps ≡ replicate (length steps) None → forgotten row (noted row steps) ≡ steps
restored row steps e =
    ext_get_or None (forgotten row (noted row steps)) steps (length-forgotten row (noted row steps) ∙ length-noted row steps)
    (λ n l. cleared row (noted row steps) n (λ j q. elim (noted_to row steps n j q) [
      | inl m ↦ (j, m)
      | inr r ↦ absurd (some_none j (sym r ∙ blank steps (length steps) n e))
    ]) ∙ sym (blank steps (length steps) n e))
  where
    some_none : (j : ℕ) → Some j ≡ None → ⊥
    some_none j q = cc
