-- Members of lists that are made of short lists, and what stands at a place in them.
use Rattle.std.proofs.Common.{◌≡◌, ◌<◌, ◌+◌, ◌*◌, ℕ, zero, suc, List, [], ◌∷◌, ◌++◌, ◌⊎◌, inl, inr, Some, refl, sym, ap, ◌∙◌, subst, arith, slice_get}
use Rattle.std.specs.List.{flat_map}
use Rattle.std.specs.Option.{option_map}
use Rattle.position_automata.proofs.Words.{Member}

appended : {A : Type 0} (xs ys : List A) (y : A) → Member y (xs ++ ys) → Member y xs ⊎ Member y ys
appended [] ys y m = inr m
appended (x ∷ xs) ys y (inl e) = inl (inl e)
appended (x ∷ xs) ys y (inr m) = elim (appended xs ys y m) [ inl l ↦ inl (inr l) | inr r ↦ inr r ]

in_first : {A : Type 0} (xs ys : List A) (y : A) → Member y xs → Member y (xs ++ ys)
in_first [] ys y m = elim m [ ]
in_first (x ∷ xs) ys y (inl e) = inl e
in_first (x ∷ xs) ys y (inr m) = inr (in_first xs ys y m)

in_second : {A : Type 0} (xs ys : List A) (y : A) → Member y ys → Member y (xs ++ ys)
in_second [] ys y m = m
in_second (x ∷ xs) ys y m = inr (in_second xs ys y m)

pub flat_member : {A B : Type 0} (f : A → List B) (xs : List A) (y : B) → Member y (flat_map f xs) → (x : A) × Member x xs × Member y (f x)
flat_member f [] y m = elim m [ ]
flat_member f (x ∷ xs) y m = elim (appended (f x) (flat_map f xs) y m) [
  | inl l ↦ (x, inl refl, l)
  | inr r ↦ (let t = flat_member f xs y r in (t.0, inr t.1, t.2))
]

pub member_flat : {A B : Type 0} (f : A → List B) (xs : List A) (x : A) (y : B) → Member x xs → Member y (f x) → Member y (flat_map f xs)
member_flat f [] x y m h = elim m [ ]
member_flat f (z ∷ xs) x y (inl e) h = in_first (f z) (flat_map f xs) y (subst (λ w. Member y (f w)) e h)
member_flat f (z ∷ xs) x y (inr m) h = in_second (f z) (flat_map f xs) y (member_flat f xs x y m h)

pub member_at : {A : Type 0} (xs : List A) (x : A) → Member x xs → (k : ℕ) × (slice_get xs k ≡ Some x)
member_at [] x m = elim m [ ]
member_at (y ∷ xs) x (inl e) = (zero, ap (λ z. Some z) (sym e))
member_at (y ∷ xs) x (inr m) = let t = member_at xs x m in (suc t.0, t.1)

-- ---- two for each

module _ {A B : Type 0} (f g : A → B) where
  abbrev two : A → List B
  two x = f x ∷ g x ∷ []

  pub two_even : (xs : List A) (q k : ℕ) → k ≡ q + q → slice_get (flat_map two xs) k ≡ option_map f (slice_get xs q)
  two_even [] q k e = refl
  two_even (x ∷ xs) zero zero e = refl
  two_even (x ∷ xs) zero (suc k) e = absurd (omega arith)
  two_even (x ∷ xs) (suc q) zero e = absurd (omega arith)
  two_even (x ∷ xs) (suc q) (suc zero) e = absurd (omega arith)
  two_even (x ∷ xs) (suc q) (suc (suc k)) e = two_even xs q k (omega arith)

  pub two_odd : (xs : List A) (q k : ℕ) → k ≡ q + q + 1 → slice_get (flat_map two xs) k ≡ option_map g (slice_get xs q)
  two_odd [] q k e = refl
  two_odd (x ∷ xs) zero zero e = absurd (omega arith)
  two_odd (x ∷ xs) zero (suc zero) e = refl
  two_odd (x ∷ xs) zero (suc (suc k)) e = absurd (omega arith)
  two_odd (x ∷ xs) (suc q) zero e = absurd (omega arith)
  two_odd (x ∷ xs) (suc q) (suc zero) e = absurd (omega arith)
  two_odd (x ∷ xs) (suc q) (suc (suc k)) e = two_odd xs q k (omega arith)

-- ---- four for each

-- the one of four
abbrev pub choose : {B : Type 0} → B → B → B → B → ℕ → B
choose a b c d zero = a
choose a b c d (suc zero) = b
choose a b c d (suc (suc zero)) = c
choose a b c d (suc (suc (suc k))) = d

module _ {A B : Type 0} (f g h w : A → B) where
  abbrev four : A → List B
  four x = f x ∷ g x ∷ h x ∷ w x ∷ []

  first_four : (xs : List A) (x : A) (r : ℕ) → r < 4 → slice_get (flat_map four (x ∷ xs)) r ≡ Some (choose (f x) (g x) (h x) (w x) r)
  first_four xs x zero l = refl
  first_four xs x (suc zero) l = refl
  first_four xs x (suc (suc zero)) l = refl
  first_four xs x (suc (suc (suc zero))) l = refl
  first_four xs x (suc (suc (suc (suc r)))) l = absurd (omega arith)

  pub four_at : (xs : List A) (q r k : ℕ) → r < 4 → k ≡ q * 4 + r → slice_get (flat_map four xs) k ≡ option_map (λ x. choose (f x) (g x) (h x) (w x) r) (slice_get xs q)
  four_at [] q r k l e = refl
  four_at (x ∷ xs) zero r k l e = let s : k ≡ r = omega arith in ap (slice_get (flat_map four (x ∷ xs))) s ∙ first_four xs x r l
  four_at (x ∷ xs) (suc q) r zero l e = absurd (omega arith)
  four_at (x ∷ xs) (suc q) r (suc zero) l e = absurd (omega arith)
  four_at (x ∷ xs) (suc q) r (suc (suc zero)) l e = absurd (omega arith)
  four_at (x ∷ xs) (suc q) r (suc (suc (suc zero))) l e = absurd (omega arith)
  four_at (x ∷ xs) (suc q) r (suc (suc (suc (suc k)))) l e = four_at xs q r k l (omega arith)
