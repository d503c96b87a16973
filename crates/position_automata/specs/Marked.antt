-- Numbered names, marked words and the states that they give (XML 1.0, 3.2.1 and Appendix E).
use Rattle.std.specs.Prelude.{◌≡◌, List, [], ◌∷◌, ◌++◌, ℕ, ◌+◌, map}
use Rattle.content_models.specs.Re.{Re, Eps, Sym, Cat, Alt, Plus, Generates}

-- how many names occur in a model
abbrev pub count : {A : Type 0} → Re A → ℕ
count Eps = 0
count (Sym a) = 1
count (Cat r s) = count r + count s
count (Alt r s) = count r + count s
count (Plus r) = count r

-- the model over numbered names: each occurrence with its number, counted from k
abbrev pub numbered : {A : Type 0} → ℕ → Re A → Re (ℕ × A)
numbered k Eps = Eps
numbered k (Sym a) = Sym (k, a)
numbered k (Cat r s) = Cat (numbered k r) (numbered (k + count r) s)
numbered k (Alt r s) = Alt (numbered k r) (numbered (k + count r) s)
numbered k (Plus r) = Plus (numbered k r)

-- a list without its numbers
abbrev pub names : {A : Type 0} → List (ℕ × A) → List A
names u = map (λ p. p.1) u

-- the last number of a list, and 0 for the empty one
abbrev pub end : {A : Type 0} → List (ℕ × A) → ℕ
end [] = 0
end (x ∷ []) = x.0
end (x ∷ y ∷ u) = end (y ∷ u)

-- a marked word: what the model over numbered names derives, counted from 1
abbrev pub IsMarked : {A : Type 0} → Re A → List (ℕ × A) → Type 0
IsMarked r m = Generates (numbered 1 r) m

-- no two marked words that begin alike go on with two occurrences of one name
abbrev pub Deterministic : {A : Type 0} → Re A → Type 0
Deterministic {A} r = (u v w : List (ℕ × A)) (i j : ℕ) (a : A) → IsMarked r (u ++ (i, a) ∷ v) → IsMarked r (u ++ (j, a) ∷ w) → i ≡ j

-- some marked word begins with these names, the last of them numbered i
abbrev pub LeadsTo : {A : Type 0} → Re A → List A → ℕ → Type 0
LeadsTo {A} r w i = (u : List (ℕ × A)) × (v : List (ℕ × A)) × IsMarked r (u ++ v) × (w ≡ names u) × (i ≡ end u)

-- some marked word has j, whose name is a, right after i, or at its beginning where i is 0
abbrev pub Follows : {A : Type 0} → Re A → ℕ → A → ℕ → Type 0
Follows {A} r i a j = (u : List (ℕ × A)) × (v : List (ℕ × A)) × IsMarked r (u ++ (j, a) ∷ v) × (i ≡ end u)

-- some marked word ends with i, or is empty where i is 0
abbrev pub AcceptsAt : {A : Type 0} → Re A → ℕ → Type 0
AcceptsAt {A} r i = (u : List (ℕ × A)) × IsMarked r u × (i ≡ end u)

-- a way through the states along these names
abbrev pub Path : {A : Type 0} → Re A → ℕ → List A → ℕ → Type 0
Path r i [] j = i ≡ j
Path r i (a ∷ w) j = (k : ℕ) × Follows r i a k × Path r k w j
