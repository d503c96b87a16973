-- Letters of a model, and what may begin, end and stand side by side in the lists of a language.
use Rattle.std.proofs.Common.{◌≡◌, List, [], ◌∷◌, ◌++◌, ◌⊎◌, map, inl, inr, refl, ap}
use Rattle.content_models.specs.Re.{Re, Eps, Sym, Cat, Alt, Plus}

abbrev pub First : {A : Type 0} → (List A → Type 0) → A → Type 0
First {A} L x = (v : List A) × L (x ∷ v)

abbrev pub Last : {A : Type 0} → (List A → Type 0) → A → Type 0
Last {A} L x = (u : List A) × L (u ++ x ∷ [])

abbrev pub Next : {A : Type 0} → (List A → Type 0) → A → A → Type 0
Next {A} L x y = (u : List A) × (v : List A) × L (u ++ x ∷ y ∷ v)

-- a letter decides what may come after it
abbrev pub Local : {A : Type 0} → (List A → Type 0) → Type 0
Local {A} L = (x : A) (u v u' v' : List A) → L (u ++ x ∷ v) → L (u' ++ x ∷ v') → L (u ++ x ∷ v')

abbrev pub Holds : {A : Type 0} → Re A → A → Type 0
Holds Eps x = ⊥
Holds (Sym a) x = x ≡ a
Holds (Cat r s) x = Holds r x ⊎ Holds s x
Holds (Alt r s) x = Holds r x ⊎ Holds s x
Holds (Plus r) x = Holds r x

-- each letter stands once
abbrev pub Linear : {A : Type 0} → Re A → Type 0
Linear Eps = Unit {0}
Linear (Sym a) = Unit {0}
Linear {A} (Cat r s) = Linear r × Linear s × ((x : A) → Holds r x → Holds s x → ⊥)
Linear {A} (Alt r s) = Linear r × Linear s × ((x : A) → Holds r x → Holds s x → ⊥)
Linear (Plus r) = Linear r

abbrev pub Member : {A : Type 0} → A → List A → Type 0
Member x [] = ⊥
Member x (y ∷ ys) = (x ≡ y) ⊎ Member x ys

-- members of an image
pub mapped : {A B : Type 0} (f : A → B) (xs : List A) (x : A) → Member x xs → Member (f x) (map f xs)
mapped f [] x m = elim m [ ]
mapped f (y ∷ xs) x (inl e) = inl (ap f e)
mapped f (y ∷ xs) x (inr m) = inr (mapped f xs x m)

pub unmapped : {A B : Type 0} (f : A → B) (xs : List A) (y : B) → Member y (map f xs) → (x : A) × Member x xs × (y ≡ f x)
unmapped f [] y m = elim m [ ]
unmapped f (x ∷ xs) y (inl e) = (x, inl refl, e)
unmapped f (x ∷ xs) y (inr m) = let t = unmapped f xs y m in (t.0, inr t.1, t.2)
