-- The lists of positions hold exactly the first, last and next letters.
use Rattle.std.proofs.Common.{◌≡◌, List, [], ◌∷◌, ◌++◌, ℕ, ◌+◌, Bool, true, false, ◌&&◌, ◌||◌, ◌⊎◌, inl, inr, refl, sym, ap, ◌∙◌, subst, true≢false}
use Rattle.std.specs.Prelude.{if◌then◌else◌}
use Rattle.content_models.specs.Re.{Re, Eps, Sym, Cat, Alt, Plus}
use Rattle.position_automata.specs.Marked.{count, numbered}
use Rattle.position_automata.specs.Ends.{MayBeEmpty, FirstOf, LastOf, NextOf}
use Rattle.position_automata.proofs.Words.{Member}
use Rattle.position_automata.specs.Places.{nullable, firsts, lasts, beside, product, edges}

pub member-left : {A : Type 0} (x : A) (xs ys : List A) → Member x xs → Member x (xs ++ ys)
member-left x [] ys m = elim m [ ]
member-left x (y ∷ xs) ys (inl e) = inl e
member-left x (y ∷ xs) ys (inr m) = inr (member-left x xs ys m)

pub member-right : {A : Type 0} (x : A) (xs ys : List A) → Member x ys → Member x (xs ++ ys)
member-right x [] ys m = m
member-right x (y ∷ xs) ys m = inr (member-right x xs ys m)

pub member-cases : {A : Type 0} (x : A) (xs ys : List A) → Member x (xs ++ ys) → Member x xs ⊎ Member x ys
member-cases x [] ys m = inr m
member-cases x (y ∷ xs) ys (inl e) = inl (inl e)
member-cases x (y ∷ xs) ys (inr m) = elim (member-cases x xs ys m) [ inl k ↦ inl (inr k) | inr k ↦ inr k ]

and-both : (a b : Bool) → (a && b) ≡ true → (a ≡ true) × (b ≡ true)
and-both true b h = (refl, h)
and-both false b h = absurd (true≢false (sym h))

both-and : (a b : Bool) → a ≡ true → b ≡ true → (a && b) ≡ true
both-and a b e f = ap (λ k. k && b) e ∙ f

or-cases : (a b : Bool) → (a || b) ≡ true → (a ≡ true) ⊎ (b ≡ true)
or-cases true b h = inl refl
or-cases false b h = inr h

or-left : (a b : Bool) → a ≡ true → (a || b) ≡ true
or-left a b e = ap (λ k. k || b) e

or-right : (a b : Bool) → b ≡ true → (a || b) ≡ true
or-right true b e = refl
or-right false b e = e

pub nullable-to : {A : Type 0} (k : ℕ) (r : Re A) → nullable r ≡ true → MayBeEmpty (numbered k r)
nullable-to k Eps h = tt
nullable-to k (Sym a) h = absurd (true≢false (sym h))
nullable-to k (Cat r s) h =
    (nullable-to k r (and-both (nullable r) (nullable s) h).0, nullable-to (k + count r) s (and-both (nullable r) (nullable s) h).1)
nullable-to k (Alt r s) h = elim (or-cases (nullable r) (nullable s) h) [ inl e ↦ inl (nullable-to k r e) | inr e ↦ inr (nullable-to (k + count r) s e) ]
nullable-to k (Plus r) h = nullable-to k r h

pub nullable-from : {A : Type 0} (k : ℕ) (r : Re A) → MayBeEmpty (numbered k r) → nullable r ≡ true
nullable-from k Eps h = refl
nullable-from k (Sym a) h = elim h [ ]
nullable-from k (Cat r s) h = both-and (nullable r) (nullable s) (nullable-from k r h.0) (nullable-from (k + count r) s h.1)
nullable-from k (Alt r s) (inl h) = or-left (nullable r) (nullable s) (nullable-from k r h)
nullable-from k (Alt r s) (inr h) = or-right (nullable r) (nullable s) (nullable-from (k + count r) s h)
nullable-from k (Plus r) h = nullable-from k r h

-- a member of a list that stands under a test
under : {A : Type 0} (x : A) (b : Bool) (xs : List A) → Member x (if b then xs else []) → (b ≡ true) × Member x xs
under x true xs m = (refl, m)
under x false xs m = elim m [ ]

in-under : {A : Type 0} (x : A) (b : Bool) (xs : List A) → b ≡ true → Member x xs → Member x (if b then xs else [])
in-under x b xs e m = subst (λ c. Member x (if c then xs else [])) (sym e) m

pub firsts-to : {A : Type 0} (k : ℕ) (r : Re A) (j : ℕ) → Member j (firsts k r) → (a : A) × FirstOf (numbered k r) (j, a)
firsts-to k Eps j m = elim m [ ]
firsts-to k (Sym a) j (inl e) = (a, ap (λ x. (x, a)) e)
firsts-to k (Sym a) j (inr m) = elim m [ ]
firsts-to k (Cat r s) j m = elim (member-cases j (firsts k r) (if nullable r then firsts (k + count r) s else []) m) [
  | inl x ↦ (let t = firsts-to k r j x in (t.0, inl t.1))
  | inr x ↦
      let u = under j (nullable r) (firsts (k + count r) s) x in
      let t = firsts-to (k + count r) s j u.1 in
      (t.0, inr (nullable-to k r u.0, t.1))
]
firsts-to k (Alt r s) j m = elim (member-cases j (firsts k r) (firsts (k + count r) s) m) [
  | inl x ↦ (let t = firsts-to k r j x in (t.0, inl t.1))
  | inr x ↦ (let t = firsts-to (k + count r) s j x in (t.0, inr t.1))
]
firsts-to k (Plus r) j m = firsts-to k r j m

pub firsts-from : {A : Type 0} (k : ℕ) (r : Re A) (j : ℕ) (a : A) → FirstOf (numbered k r) (j, a) → Member j (firsts k r)
firsts-from k Eps j a f = elim f [ ]
firsts-from k (Sym b) j a f = inl (ap (λ p. p.0) f)
firsts-from k (Cat r s) j a (inl f) = member-left j (firsts k r) (if nullable r then firsts (k + count r) s else []) (firsts-from k r j a f)
firsts-from k (Cat r s) j a (inr f) =
    member-right j (firsts k r) (if nullable r then firsts (k + count r) s else [])
    (in-under j (nullable r) (firsts (k + count r) s) (nullable-from k r f.0) (firsts-from (k + count r) s j a f.1))
firsts-from k (Alt r s) j a (inl f) = member-left j (firsts k r) (firsts (k + count r) s) (firsts-from k r j a f)
firsts-from k (Alt r s) j a (inr f) = member-right j (firsts k r) (firsts (k + count r) s) (firsts-from (k + count r) s j a f)
firsts-from k (Plus r) j a f = firsts-from k r j a f

pub lasts-to : {A : Type 0} (k : ℕ) (r : Re A) (j : ℕ) → Member j (lasts k r) → (a : A) × LastOf (numbered k r) (j, a)
lasts-to k Eps j m = elim m [ ]
lasts-to k (Sym a) j (inl e) = (a, ap (λ x. (x, a)) e)
lasts-to k (Sym a) j (inr m) = elim m [ ]
lasts-to k (Cat r s) j m = elim (member-cases j (lasts (k + count r) s) (if nullable s then lasts k r else []) m) [
  | inl x ↦ (let t = lasts-to (k + count r) s j x in (t.0, inl t.1))
  | inr x ↦
      let u = under j (nullable s) (lasts k r) x in
      let t = lasts-to k r j u.1 in
      (t.0, inr (nullable-to (k + count r) s u.0, t.1))
]
lasts-to k (Alt r s) j m = elim (member-cases j (lasts k r) (lasts (k + count r) s) m) [
  | inl x ↦ (let t = lasts-to k r j x in (t.0, inl t.1))
  | inr x ↦ (let t = lasts-to (k + count r) s j x in (t.0, inr t.1))
]
lasts-to k (Plus r) j m = lasts-to k r j m

pub beside-to : (x : ℕ) (ys : List ℕ) (i j : ℕ) → Member (i, j) (beside x ys) → (i ≡ x) × Member j ys
beside-to x [] i j m = elim m [ ]
beside-to x (y ∷ ys) i j (inl e) = (ap (λ p. p.0) e, inl (ap (λ p. p.1) e))
beside-to x (y ∷ ys) i j (inr m) = let t = beside-to x ys i j m in (t.0, inr t.1)

pub product-to : (xs ys : List ℕ) (i j : ℕ) → Member (i, j) (product xs ys) → Member i xs × Member j ys
product-to [] ys i j m = elim m [ ]
product-to (x ∷ xs) ys i j m = elim (member-cases (i, j) (beside x ys) (product xs ys) m) [
  | inl k ↦ (let t = beside-to x ys i j k in (inl t.0, t.1))
  | inr k ↦ (let t = product-to xs ys i j k in (inr t.0, t.1))
]

abbrev pub NextAt : {A : Type 0} → ℕ → Re A → ℕ → ℕ → Type 0
NextAt {A} k r i j = (a : A) × (b : A) × NextOf (numbered k r) (i, a) (j, b)

pub edges-to : {A : Type 0} (k : ℕ) (r : Re A) (i j : ℕ) → Member (i, j) (edges k r) → NextAt k r i j
edges-to k Eps i j m = elim m [ ]
edges-to k (Sym a) i j m = elim m [ ]
edges-to k (Cat r s) i j m = elim (member-cases (i, j) (edges k r ++ edges (k + count r) s) (product (lasts k r) (firsts (k + count r) s)) m) [
  | inl n ↦ elim (member-cases (i, j) (edges k r) (edges (k + count r) s) n) [
    | inl x ↦ (let t = edges-to k r i j x in (t.0, t.1, inl t.2))
    | inr x ↦ (let t = edges-to (k + count r) s i j x in (t.0, t.1, inr (inl t.2)))
  ]
  | inr n ↦
      let p = product-to (lasts k r) (firsts (k + count r) s) i j n in
      let a = lasts-to k r i p.0 in
      let b = firsts-to (k + count r) s j p.1 in
      (a.0, b.0, inr (inr (a.1, b.1)))
]
edges-to k (Alt r s) i j m = elim (member-cases (i, j) (edges k r) (edges (k + count r) s) m) [
  | inl x ↦ (let t = edges-to k r i j x in (t.0, t.1, inl t.2))
  | inr x ↦ (let t = edges-to (k + count r) s i j x in (t.0, t.1, inr t.2))
]
edges-to k (Plus r) i j m = elim (member-cases (i, j) (edges k r) (product (lasts k r) (firsts k r)) m) [
  | inl x ↦ (let t = edges-to k r i j x in (t.0, t.1, inl t.2))
  | inr n ↦
      let p = product-to (lasts k r) (firsts k r) i j n in
      let a = lasts-to k r i p.0 in
      let b = firsts-to k r j p.1 in
      (a.0, b.0, inr (a.1, b.1))
]

pub lasts-from : {A : Type 0} (k : ℕ) (r : Re A) (j : ℕ) (a : A) → LastOf (numbered k r) (j, a) → Member j (lasts k r)
lasts-from k Eps j a f = elim f [ ]
lasts-from k (Sym b) j a f = inl (ap (λ x. x.0) f)
lasts-from k (Cat r s) j a (inl f) =
    member-left j (lasts (k + count r) s) (if nullable s then lasts k r else []) (lasts-from (k + count r) s j a f)
lasts-from k (Cat r s) j a (inr f) =
    member-right j (lasts (k + count r) s) (if nullable s then lasts k r else [])
    (in-under j (nullable s) (lasts k r) (nullable-from (k + count r) s f.0) (lasts-from k r j a f.1))
lasts-from k (Alt r s) j a (inl f) = member-left j (lasts k r) (lasts (k + count r) s) (lasts-from k r j a f)
lasts-from k (Alt r s) j a (inr f) = member-right j (lasts k r) (lasts (k + count r) s) (lasts-from (k + count r) s j a f)
lasts-from k (Plus r) j a f = lasts-from k r j a f

pub beside-from : (x : ℕ) (ys : List ℕ) (j : ℕ) → Member j ys → Member (x, j) (beside x ys)
beside-from x [] j m = elim m [ ]
beside-from x (y ∷ ys) j (inl e) = inl (ap (λ z. (x, z)) e)
beside-from x (y ∷ ys) j (inr m) = inr (beside-from x ys j m)

pub product-from : (xs ys : List ℕ) (i j : ℕ) → Member i xs → Member j ys → Member (i, j) (product xs ys)
product-from [] ys i j m n = elim m [ ]
product-from (x ∷ xs) ys i j (inl e) n =
    member-left (i, j) (beside x ys) (product xs ys) (subst (λ (z : ℕ). Member (i, j) (beside z ys)) e (beside-from i ys j n))
product-from (x ∷ xs) ys i j (inr m) n = member-right (i, j) (beside x ys) (product xs ys) (product-from xs ys i j m n)

pub edges-from : {A : Type 0} (k : ℕ) (r : Re A) (i j : ℕ) (a b : A) → NextOf (numbered k r) (i, a) (j, b) → Member (i, j) (edges k r)
edges-from k Eps i j a b f = elim f [ ]
edges-from k (Sym c) i j a b f = elim f [ ]
edges-from k (Cat r s) i j a b (inl f) =
    member-left (i, j) (edges k r ++ edges (k + count r) s) (product (lasts k r) (firsts (k + count r) s))
    (member-left (i, j) (edges k r) (edges (k + count r) s) (edges-from k r i j a b f))
edges-from k (Cat r s) i j a b (inr (inl f)) =
    member-left (i, j) (edges k r ++ edges (k + count r) s) (product (lasts k r) (firsts (k + count r) s))
    (member-right (i, j) (edges k r) (edges (k + count r) s) (edges-from (k + count r) s i j a b f))
edges-from k (Cat r s) i j a b (inr (inr f)) =
    member-right (i, j) (edges k r ++ edges (k + count r) s) (product (lasts k r) (firsts (k + count r) s))
    (product-from (lasts k r) (firsts (k + count r) s) i j (lasts-from k r i a f.0) (firsts-from (k + count r) s j b f.1))
edges-from k (Alt r s) i j a b (inl f) = member-left (i, j) (edges k r) (edges (k + count r) s) (edges-from k r i j a b f)
edges-from k (Alt r s) i j a b (inr f) = member-right (i, j) (edges k r) (edges (k + count r) s) (edges-from (k + count r) s i j a b f)
edges-from k (Plus r) i j a b (inl f) = member-left (i, j) (edges k r) (product (lasts k r) (firsts k r)) (edges-from k r i j a b f)
edges-from k (Plus r) i j a b (inr f) =
    member-right (i, j) (edges k r) (product (lasts k r) (firsts k r))
    (product-from (lasts k r) (firsts k r) i j (lasts-from k r i a f.0) (firsts-from k r j b f.1))
