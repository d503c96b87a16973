-- Members of lists.
use Rattle.std.proofs.Common.{◌≡◌, ◌<◌, ℕ, zero, suc, List, [], ◌∷◌, ◌++◌, length, get_or, Option, Some, None, inl, inr, refl, sym, ap, ◌∙◌, subst, arith, Contains, ◌⊎◌}
use Rattle.std.specs.List.{filter_map, cons_option, AllByRecursion}
use Rattle.model_inclusion.specs.Reaching.{Member}

member_of : {A : Type 0} (xs : List A) (x : A) (k : ℕ) → k < length xs → get_or xs k x ≡ x → Member x xs
member_of [] x k h e = absurd (omega arith)
member_of (y ∷ xs) x zero h e = inl (sym e)
member_of (y ∷ xs) x (suc k) h e = inr (member_of xs x k (omega arith) e)

pub to_member : {A : Type 0} (xs : List A) (x : A) → Contains xs x → Member x xs
to_member xs x c = member_of xs x c.0 c.1 c.2

pub contains_of : {A : Type 0} (xs : List A) (x : A) → Member x xs → Contains xs x
contains_of [] x m = elim m [ ]
contains_of (y ∷ xs) x (inl e) = (0, omega arith, sym e)
contains_of (y ∷ xs) x (inr m) = let t = contains_of xs x m in (suc t.0, omega (arith, t.1), t.2)

pub member-left : {A : Type 0} (x : A) (xs ys : List A) → Member x xs → Member x (xs ++ ys)
member-left x [] ys m = elim m [ ]
member-left x (y ∷ xs) ys (inl e) = inl e
member-left x (y ∷ xs) ys (inr m) = inr (member-left x xs ys m)

pub member-right : {A : Type 0} (x : A) (xs ys : List A) → Member x ys → Member x (xs ++ ys)
member-right x [] ys m = m
member-right x (y ∷ xs) ys m = inr (member-right x xs ys m)

pub member-cases : {A : Type 0} (x : A) (xs ys : List A) → Member x (xs ++ ys) → Member x xs ⊎ Member x ys
member-cases x [] ys m = inr m
member-cases x (y ∷ xs) ys (inl e) = inl (inl e)
member-cases x (y ∷ xs) ys (inr m) = elim (member-cases x xs ys m) [ inl k ↦ inl (inr k) | inr k ↦ inr k ]

pub all_member : {A : Type 0} (P : A → Type 0) (xs : List A) → ((x : A) → Member x xs → P x) → AllByRecursion P xs
all_member P [] h = tt
all_member P (x ∷ xs) h = (h x (inl refl), all_member P xs (λ y m. h y (inr m)))

pub member_all : {A : Type 0} (P : A → Type 0) (xs : List A) → AllByRecursion P xs → (x : A) → Member x xs → P x
member_all P [] h x m = elim m [ ]
member_all {A} P (y ∷ xs) h x (inl e) = let Q : A → Type 0 = P in subst Q (sym e) h.0
member_all P (y ∷ xs) h x (inr m) = member_all P xs h.1 x m

module _ {X Y : Type 0} (h : X → Option Y) where
  pub filtered_to : (xs : List X) (y : Y) → Member y (filter_map h xs) → (x : X) × Member x xs × (h x ≡ Some y)
  filtered_to [] y m = elim m [ ]
  filtered_to (x ∷ xs) y m = by (h x) refl m (λ m. filtered_to xs y m)
    where
      by : (o : Option Y) → h x ≡ o → Member y (cons_option o (filter_map h xs)) → (Member y (filter_map h xs) → (z : X) × Member z xs × (h z ≡ Some y))
          → (z : X) × Member z (x ∷ xs) × (h z ≡ Some y)
      by None q m rec = let t = rec m in (t.0, inr t.1, t.2)
      by (Some z) q (inl e) rec = (x, inl refl, q ∙ ap Some (sym e))
      by (Some z) q (inr m) rec = let t = rec m in (t.0, inr t.1, t.2)

  pub filtered_from : (xs : List X) (x : X) (y : Y) → Member x xs → h x ≡ Some y → Member y (filter_map h xs)
  filtered_from [] x y m q = elim m [ ]
  filtered_from (z ∷ xs) x y (inl e) q =
      let same : h z ≡ Some y = ap h (sym e) ∙ q in
      let P : Option Y → Type 0 = λ o. Member y (cons_option o (filter_map h xs)) in
      subst P (sym same) (inl refl)
  filtered_from (z ∷ xs) x y (inr m) q = by (h z) (filtered_from xs x y m q)
    where
      by : (o : Option Y) → Member y (filter_map h xs) → Member y (cons_option o (filter_map h xs))
      by None m = m
      by (Some w) m = inr m
