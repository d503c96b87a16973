-- The computed first, last and next letters are those of the words.
use Rattle.std.proofs.Common.{◌≡◌, List, [], ◌∷◌, ◌++◌, ℕ, zero, suc, ◌⊎◌, inl, inr, refl, sym, ap, ◌∙◌, subst}
use Rattle.std.proofs.lemmas.List.{append_assoc, append-nil}
use Rattle.content_models.specs.Re.{Re, Eps, Sym, Cat, Alt, Plus, Times, Generates}
use Rattle.position_automata.proofs.Words.{First, Last, Next}
use Rattle.position_automata.specs.Ends.{MayBeEmpty, FirstOf, LastOf, NextOf}
use Rattle.position_automata.proofs.Local.{split}

-- each model has a word
pub word : {A : Type 0} (r : Re A) → (w : List A) × Generates r w
word Eps = ([], refl)
word (Sym a) = (a ∷ [], refl)
word (Cat r s) = ((word r).0 ++ (word s).0, ((word r).0, (word s).0, refl, (word r).1, (word s).1))
word (Alt r s) = ((word r).0, inl (word r).1)
word (Plus r) = ((word r).0, (zero, (word r).1))

-- the empty list
pub empty : {A : Type 0} (r : Re A) → MayBeEmpty r → Generates r []
empty Eps n = refl
empty (Sym a) n = elim n [ ]
empty (Cat r s) n = ([], [], refl, empty r n.0, empty s n.1)
empty (Alt r s) (inl n) = inl (empty r n)
empty (Alt r s) (inr n) = inr (empty s n)
empty (Plus r) n = (zero, empty r n)

front-nil : {A : Type 0} (u v : List A) → [] ≡ u ++ v → u ≡ []
front-nil [] v e = refl
front-nil (x ∷ u) v e = cc

back-nil : {A : Type 0} (u v : List A) → [] ≡ u ++ v → v ≡ []
back-nil [] v e = sym e
back-nil (x ∷ u) v e = cc

null-times : {A : Type 0} (P : List A → Type 0) (Q : Type 0) → (P [] → Q) → (n : ℕ) → Times P n [] → Q
null-times P Q f zero d = f d
null-times P Q f (suc n) d = f (subst P (front-nil d.0 d.1 d.2) d.3)

pub empty_of : {A : Type 0} (r : Re A) → Generates r [] → MayBeEmpty r
empty_of Eps d = tt
empty_of (Sym a) d = let e : [] ≡ a ∷ [] = d in cc
empty_of (Cat r s) d =
    (empty_of r (subst (Generates r) (front-nil d.0 d.1 d.2) d.3), empty_of s (subst (Generates s) (back-nil d.0 d.1 d.2) d.4))
empty_of (Alt r s) (inl d) = inl (empty_of r d)
empty_of (Alt r s) (inr d) = inr (empty_of s d)
empty_of (Plus r) d = null-times (Generates r) (MayBeEmpty r) (empty_of r) d.0 d.1

-- the first letters
pub first : {A : Type 0} (r : Re A) (x : A) → FirstOf r x → First (Generates r) x
first Eps x f = elim f [ ]
first (Sym a) x f = ([], ap (λ k. k ∷ []) f)
first (Cat r s) x (inl f) =
    let t = first r x f in
    (t.0 ++ (word s).0, (x ∷ t.0, (word s).0, refl, t.1, (word s).1))
first (Cat r s) x (inr f) =
    let t = first s x f.1 in
    (t.0, ([], x ∷ t.0, refl, empty r f.0, t.1))
first (Alt r s) x (inl f) = let t = first r x f in (t.0, inl t.1)
first (Alt r s) x (inr f) = let t = first s x f in (t.0, inr t.1)
first (Plus r) x f = let t = first r x f in (t.0, (zero, t.1))

first-times : {A : Type 0} (P : List A → Type 0) (Q : Type 0) (x : A) → ((v : List A) → P (x ∷ v) → Q)
    → (n : ℕ) (v : List A) → Times P n (x ∷ v) → Q
first-times P Q x f zero v d = f v d
first-times P Q x f (suc n) v d =
    elim (split d.0 d.1 [] v x (sym d.2)) [
      | inl t ↦ f t.0 (subst P t.1 d.3)
      | inr t ↦ first-times P Q x f n v (subst (Times P n) (t.1 ∙ ap (λ k. k ++ x ∷ v) (back-nil d.0 t.0 t.2)) d.4)
    ]

pub first_of : {A : Type 0} (r : Re A) (x : A) (v : List A) → Generates r (x ∷ v) → FirstOf r x
first_of Eps x v d = let e : x ∷ v ≡ [] = d in cc
first_of (Sym a) x v d = let e : x ∷ v ≡ a ∷ [] = d in cc
first_of (Cat r s) x v d =
    elim (split d.0 d.1 [] v x (sym d.2)) [
      | inl t ↦ inl (first_of r x t.0 (subst (Generates r) t.1 d.3))
      | inr t ↦ inr (
        empty_of r (subst (Generates r) (front-nil d.0 t.0 t.2) d.3),
        first_of s x v (subst (Generates s) (t.1 ∙ ap (λ k. k ++ x ∷ v) (back-nil d.0 t.0 t.2)) d.4),
      )
    ]
first_of (Alt r s) x v (inl d) = inl (first_of r x v d)
first_of (Alt r s) x v (inr d) = inr (first_of s x v d)
first_of (Plus r) x v d = first-times (Generates r) (FirstOf r x) x (first_of r x) d.0 v d.1

-- the last letters
pub last : {A : Type 0} (r : Re A) (x : A) → LastOf r x → Last (Generates r) x
last Eps x f = elim f [ ]
last (Sym a) x f = ([], ap (λ k. k ∷ []) f)
last (Cat r s) x (inl f) =
    let t = last s x f in
    ((word r).0 ++ t.0, ((word r).0, t.0 ++ x ∷ [], append_assoc (word r).0 t.0 (x ∷ []), (word r).1, t.1))
last (Cat r s) x (inr f) =
    let t = last r x f.1 in
    (t.0, (t.0 ++ x ∷ [], [], sym (append-nil (t.0 ++ x ∷ [])), t.1, empty s f.0))
last (Alt r s) x (inl f) = let t = last r x f in (t.0, inl t.1)
last (Alt r s) x (inr f) = let t = last s x f in (t.0, inr t.1)
last (Plus r) x f = let t = last r x f in (t.0, (zero, t.1))

last-times : {A : Type 0} (P : List A → Type 0) (Q : Type 0) (x : A) → ((u : List A) → P (u ++ x ∷ []) → Q)
    → (n : ℕ) (u : List A) → Times P n (u ++ x ∷ []) → Q
last-times P Q x f zero u d = f u d
last-times P Q x f (suc n) u d =
    elim (split d.0 d.1 u [] x (sym d.2)) [
      | inl t ↦ f u (subst P (t.1 ∙ ap (λ k. u ++ x ∷ k) (front-nil t.0 d.1 t.2)) d.3)
      | inr t ↦ last-times P Q x f n t.0 (subst (Times P n) t.1 d.4)
    ]

pub last_of : {A : Type 0} (r : Re A) (x : A) (u : List A) → Generates r (u ++ x ∷ []) → LastOf r x
last_of Eps x [] d = let e : x ∷ [] ≡ [] = d in cc
last_of Eps x (y ∷ u) d = let e : y ∷ (u ++ x ∷ []) ≡ [] = d in cc
last_of (Sym a) x [] d = let e : x ∷ [] ≡ a ∷ [] = d in cc
last_of (Sym a) x (y ∷ []) d = let e : y ∷ x ∷ [] ≡ a ∷ [] = d in cc
last_of (Sym a) x (y ∷ z ∷ u) d = let e : y ∷ z ∷ (u ++ x ∷ []) ≡ a ∷ [] = d in cc
last_of (Cat r s) x u d =
    elim (split d.0 d.1 u [] x (sym d.2)) [
      | inl t ↦ inr (
        empty_of s (subst (Generates s) (back-nil t.0 d.1 t.2) d.4),
        last_of r x u (subst (Generates r) (t.1 ∙ ap (λ k. u ++ x ∷ k) (front-nil t.0 d.1 t.2)) d.3),
      )
      | inr t ↦ inl (last_of s x t.0 (subst (Generates s) t.1 d.4))
    ]
last_of (Alt r s) x u (inl d) = inl (last_of r x u d)
last_of (Alt r s) x u (inr d) = inr (last_of s x u d)
last_of (Plus r) x u d = last-times (Generates r) (LastOf r x) x (last_of r x) d.0 u d.1

-- two letters side by side
pub next : {A : Type 0} (r : Re A) (x y : A) → NextOf r x y → Next (Generates r) x y
next Eps x y f = elim f [ ]
next (Sym a) x y f = elim f [ ]
next (Cat r s) x y (inl f) =
    let t = next r x y f in (
      t.0,
      t.1 ++ (word s).0,
      (t.0 ++ x ∷ y ∷ t.1, (word s).0, sym (append_assoc t.0 (x ∷ y ∷ t.1) (word s).0), t.2, (word s).1),
    )
next (Cat r s) x y (inr (inl f)) =
    let t = next s x y f in (
      (word r).0 ++ t.0,
      t.1,
      ((word r).0, t.0 ++ x ∷ y ∷ t.1, append_assoc (word r).0 t.0 (x ∷ y ∷ t.1), (word r).1, t.2),
    )
next (Cat r s) x y (inr (inr f)) =
    let t = last r x f.0 in
    let k = first s y f.1 in
    (t.0, k.0, (t.0 ++ x ∷ [], y ∷ k.0, sym (append_assoc t.0 (x ∷ []) (y ∷ k.0)), t.1, k.1))
next (Alt r s) x y (inl f) = let t = next r x y f in (t.0, t.1, inl t.2)
next (Alt r s) x y (inr f) = let t = next s x y f in (t.0, t.1, inr t.2)
next (Plus r) x y (inl f) = let t = next r x y f in (t.0, t.1, (zero, t.2))
next (Plus r) x y (inr f) =
    let t = last r x f.0 in
    let k = first r y f.1 in
    (t.0, k.0, (1, (t.0 ++ x ∷ [], y ∷ k.0, sym (append_assoc t.0 (x ∷ []) (y ∷ k.0)), t.1, k.1)))

abbrev Split2 : {A : Type 0} → (p q u v : List A) → A → A → Type 0
Split2 {A} p q u v x y =
    ((v' : List A) × (p ≡ u ++ x ∷ y ∷ v')) ⊎ (((u' : List A) × (q ≡ u' ++ x ∷ y ∷ v))
    ⊎ ((p ≡ u ++ x ∷ []) × (q ≡ y ∷ v)))

split2-go : {A : Type 0} (p q u v t : List A) (x y : A) → p ≡ u ++ x ∷ t → y ∷ v ≡ t ++ q → Split2 p q u v x y
split2-go p q u v [] x y e f = inr (inr (e, sym f))
split2-go p q u v (z ∷ t) x y e f =
    let h : y ≡ z = cc in
    inl (t, e ∙ ap (λ k. u ++ x ∷ k ∷ t) (sym h))

split2 : {A : Type 0} (p q u v : List A) (x y : A) → p ++ q ≡ u ++ x ∷ y ∷ v → Split2 p q u v x y
split2 p q u v x y e =
    elim (split p q u (y ∷ v) x e) [
      | inl t ↦ split2-go p q u v t.0 x y t.1 t.2
      | inr t ↦ inr (inl (t.0, t.1))
    ]

next-times : {A : Type 0} (P : List A → Type 0) (Q : Type 0) (x y : A)
    → ((u v : List A) → P (u ++ x ∷ y ∷ v) → Q)
    → ((u : List A) → P (u ++ x ∷ []) → (n : ℕ) (v : List A) → Times P n (y ∷ v) → Q)
    → (n : ℕ) (u v : List A) → Times P n (u ++ x ∷ y ∷ v) → Q
next-times P Q x y f g zero u v d = f u v d
next-times P Q x y f g (suc n) u v d =
    elim (split2 d.0 d.1 u v x y (sym d.2)) [
      | inl t ↦ f u t.0 (subst P t.1 d.3)
      | inr (inl t) ↦ next-times P Q x y f g n t.0 v (subst (Times P n) t.1 d.4)
      | inr (inr t) ↦ g u (subst P t.0 d.3) n v (subst (Times P n) t.1 d.4)
    ]

pub next_of : {A : Type 0} (r : Re A) (x y : A) (u v : List A) → Generates r (u ++ x ∷ y ∷ v) → NextOf r x y
next_of Eps x y [] v d = let e : x ∷ y ∷ v ≡ [] = d in cc
next_of Eps x y (z ∷ u) v d = let e : z ∷ (u ++ x ∷ y ∷ v) ≡ [] = d in cc
next_of (Sym a) x y [] v d = let e : x ∷ y ∷ v ≡ a ∷ [] = d in cc
next_of (Sym a) x y (z ∷ []) v d = let e : z ∷ x ∷ y ∷ v ≡ a ∷ [] = d in cc
next_of (Sym a) x y (z ∷ w ∷ u) v d = let e : z ∷ w ∷ (u ++ x ∷ y ∷ v) ≡ a ∷ [] = d in cc
next_of (Cat r s) x y u v d =
    elim (split2 d.0 d.1 u v x y (sym d.2)) [
      | inl t ↦ inl (next_of r x y u t.0 (subst (Generates r) t.1 d.3))
      | inr (inl t) ↦ inr (inl (next_of s x y t.0 v (subst (Generates s) t.1 d.4)))
      | inr (inr t) ↦ inr (inr (last_of r x u (subst (Generates r) t.0 d.3), first_of s y v (subst (Generates s) t.1 d.4)))
    ]
next_of (Alt r s) x y u v (inl d) = inl (next_of r x y u v d)
next_of (Alt r s) x y u v (inr d) = inr (next_of s x y u v d)
next_of (Plus r) x y u v d =
    next-times (Generates r) (NextOf (Plus r) x y) x y
    (λ p q e. inl (next_of r x y p q e))
    (λ p e n q f. inr (last_of r x p e, first-times (Generates r) (FirstOf r y) y (first_of r y) n q f))
    d.0 u v d.1
