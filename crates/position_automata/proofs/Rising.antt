-- Lists of numbers that rise, and their members.
use Rattle.std.proofs.Common.{◌≡◌, ◌<◌, ◌≤◌, ◌+◌, ℕ, zero, suc, List, [], ◌∷◌, get_or, map, Bool, true, cond, inl, inr, refl, sym, ap, ◌∙◌, subst, arith}
use Rattle.std.specs.List.{AllPairs, filter, range_with_len}
use Rattle.std.specs.List.Sorted.{IsStrictlyIncreasing}
use Rattle.std.proofs.lemmas.Bool.{cases_Bool, cases_eq}
use Rattle.std.proofs.lemmas.List.FromFn.{length-range_with_len, get_or-range_with_len}
use Rattle.std.proofs.lemmas.List.Kept.{AllPairs-from_increasing}
use Rattle.position_automata.proofs.Words.{Member, mapped}

-- each number is above the one before, and the first at least b
abbrev pub Rises : ℕ → List ℕ → Type 0
Rises b [] = Unit {0}
Rises b (x ∷ xs) = (b ≤ x) × Rises (x + 1) xs

rises_from : (b x : ℕ) (xs : List ℕ) → b ≤ x → AllPairs (λ x y. x < y) (x ∷ xs) → Rises b (x ∷ xs)
rises_from b x [] h all = (h, tt)
rises_from b x (y ∷ ys) h all =
    let e : x < y = all 0 1 0 (omega arith) (omega arith) in
    (h, rises_from (x + 1) y ys (omega arith) (λ i j d a l. all (suc i) (suc j) d (omega arith) (omega arith)))

pub rises_of : (xs : List ℕ) → IsStrictlyIncreasing xs → Rises 0 xs
rises_of [] up = tt
rises_of (x ∷ xs) up = rises_from 0 x xs (omega arith) (AllPairs-from_increasing (x ∷ xs) up)

pub at_or_above : (b : ℕ) (xs : List ℕ) → Rises b xs → (x : ℕ) → Member x xs → b ≤ x
at_or_above b [] r x m = elim m [ ]
at_or_above b (y ∷ ys) r x (inl e) = omega (arith, r.0)
at_or_above b (y ∷ ys) r x (inr m) = let t : y + 1 ≤ x = at_or_above (y + 1) ys r.1 x m in omega (arith, r.0)

above_second : {A : Type 0} (b : ℕ) (xs : List (A × ℕ)) → Rises b (map (λ s. s.1) xs) → (x : A × ℕ) → Member x xs → b ≤ x.1
above_second b xs r x m = at_or_above b (map (λ s. s.1) xs) r x.1 (mapped (λ s. s.1) xs x m)

first_same : {A : Type 0} (b : ℕ) (x y : A × ℕ) (xs ys : List (A × ℕ)) → Rises b (map (λ s. s.1) (x ∷ xs)) → Rises b (map (λ s. s.1) (y ∷ ys))
    → Member x (y ∷ ys) → Member y (x ∷ xs) → x ≡ y
first_same b x y xs ys r s (inl e) n = e
first_same b x y xs ys r s (inr m) (inl f) = sym f
first_same b x y xs ys r s (inr m) (inr n) =
    let h : y.1 + 1 ≤ x.1 = above_second (y.1 + 1) ys s.1 x m in
    let k : x.1 + 1 ≤ y.1 = above_second (x.1 + 1) xs r.1 y n in
    absurd (omega arith)

later_in : {A : Type 0} (x y z : A × ℕ) (xs ys : List (A × ℕ)) → x ≡ y → Rises (x.1 + 1) (map (λ s. s.1) xs) → Member z xs → Member z (y ∷ ys) → Member z ys
later_in x y z xs ys e r m (inl f) =
    let h : x.1 + 1 ≤ z.1 = above_second (x.1 + 1) xs r z m in
    let k : z.1 ≡ x.1 = ap (λ s. s.1) (f ∙ sym e) in
    absurd (omega arith)
later_in x y z xs ys e r m (inr n) = n

-- lists that rise and have the same members are the same
pub same_list : {A : Type 0} (b : ℕ) (xs ys : List (A × ℕ)) → Rises b (map (λ s. s.1) xs) → Rises b (map (λ s. s.1) ys)
    → ((x : A × ℕ) → Member x xs → Member x ys) → ((x : A × ℕ) → Member x ys → Member x xs) → xs ≡ ys
same_list b [] [] r s to from = refl
same_list b [] (y ∷ ys) r s to from = elim (from y (inl refl)) [ ]
same_list b (x ∷ xs) [] r s to from = elim (to x (inl refl)) [ ]
same_list {A} b (x ∷ xs) (y ∷ ys) r s to from =
    let e : x ≡ y = first_same b x y xs ys r s (to x (inl refl)) (from y (inl refl)) in
    let t : Rises (x.1 + 1) (map (λ s. s.1) ys) = subst (λ (k : A × ℕ). Rises (k.1 + 1) (map (λ s. s.1) ys)) (sym e) s.1 in
    let same : xs ≡ ys = same_list (x.1 + 1) xs ys r.1 t
    (λ z m. later_in x y z xs ys e r.1 m (to z (inr m)))
    (λ z m. later_in y x z ys xs (sym e) s.1 m (from z (inr m))) in
    ap (λ k. k ∷ xs) e ∙ ap (λ k. y ∷ k) same

pub filter_to : {A : Type 0} (p : A → Bool) (xs : List A) (x : A) → Member x (filter p xs) → Member x xs × (p x ≡ true)
filter_to p [] x m = elim m [ ]
filter_to p (y ∷ ys) x m = elim (cases_Bool (p y)) [
  | inl e ↦ elim (subst (λ b. Member x (cond b (y ∷ filter p ys) (filter p ys))) e m) [
    | inl f ↦ (inl f, ap p f ∙ e)
    | inr n ↦ (let t = filter_to p ys x n in (inr t.0, t.1))
  ]
  | inr e ↦ (let t = filter_to p ys x (subst (λ b. Member x (cond b (y ∷ filter p ys) (filter p ys))) e m) in (inr t.0, t.1))
]

pub filter_from : {A : Type 0} (p : A → Bool) (xs : List A) (x : A) → Member x xs → p x ≡ true → Member x (filter p xs)
filter_from p [] x m h = elim m [ ]
filter_from p (y ∷ ys) x (inl f) h = subst (λ b. Member x (cond b (y ∷ filter p ys) (filter p ys))) (sym (ap p (sym f) ∙ h)) (inl f)
filter_from p (y ∷ ys) x (inr m) h = elim (cases_Bool (p y)) [
  | inl e ↦ subst (λ b. Member x (cond b (y ∷ filter p ys) (filter p ys))) (sym e) (inr (filter_from p ys x m h))
  | inr e ↦ subst (λ b. Member x (cond b (y ∷ filter p ys) (filter p ys))) (sym e) (filter_from p ys x m h)
]

pub in_range : (a n x : ℕ) → a ≤ x → x < a + n → Member x (range_with_len a n)
in_range a zero x h l = absurd (omega arith)
in_range a (suc n) x h l = elim (cases_eq x a) [
  | inl e ↦ inl e
  | inr e ↦ inr (in_range (a + 1) n x (omega arith) (omega arith))
]

pub range_rises : (a n : ℕ) → IsStrictlyIncreasing (range_with_len a n)
range_rises a n k h =
    let l : k + 1 < n = subst (λ (m : ℕ). k + 1 < m) (length-range_with_len a n) h in
    let e : get_or (range_with_len a n) k 0 ≡ a + k = get_or-range_with_len a n k 0 (omega arith) in
    let f : get_or (range_with_len a n) (k + 1) 0 ≡ a + (k + 1) = get_or-range_with_len a n (k + 1) 0 l in
    omega arith
