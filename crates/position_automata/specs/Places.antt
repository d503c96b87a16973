-- The places of a model's names: which may come first, last and side by side, as lists.
use Rattle.std.specs.Prelude.{◌≡◌, List, [], ◌∷◌, ◌++◌, ℕ, ◌+◌, Bool, true, false, ◌&&◌, ◌||◌, if◌then◌else◌, map}
use Rattle.content_models.specs.declared.content.Occurs.{Occurs}
use Rattle.content_models.specs.declared.content.Occurs.TheVariants.{Opt, Star}
use Rattle.content_models.specs.declared.content.Particle.{Particle}
use Rattle.content_models.specs.Model.{Chars, model}
use Rattle.content_models.specs.Re.{Re, Eps, Sym, Cat, Alt, Plus}
use Rattle.position_automata.specs.Marked.{count}
use Rattle.position_automata.specs.declared.walk.Ends.{Ends}

-- whether the model derives the empty list
abbrev pub nullable : {A : Type 0} → Re A → Bool
nullable Eps = true
nullable (Sym a) = false
nullable (Cat r s) = nullable r && nullable s
nullable (Alt r s) = nullable r || nullable s
nullable (Plus r) = nullable r

-- the numbers that may come first, counted from k
abbrev pub firsts : {A : Type 0} → ℕ → Re A → List ℕ
firsts k Eps = []
firsts k (Sym a) = k ∷ []
firsts k (Cat r s) = firsts k r ++ (if nullable r then firsts (k + count r) s else [])
firsts k (Alt r s) = firsts k r ++ firsts (k + count r) s
firsts k (Plus r) = firsts k r

-- the numbers that may come last
abbrev pub lasts : {A : Type 0} → ℕ → Re A → List ℕ
lasts k Eps = []
lasts k (Sym a) = k ∷ []
lasts k (Cat r s) = lasts (k + count r) s ++ (if nullable s then lasts k r else [])
lasts k (Alt r s) = lasts k r ++ lasts (k + count r) s
lasts k (Plus r) = lasts k r

abbrev pub beside : ℕ → List ℕ → List (ℕ × ℕ)
beside x [] = []
beside x (y ∷ ys) = (x, y) ∷ beside x ys

abbrev pub product : List ℕ → List ℕ → List (ℕ × ℕ)
product [] ys = []
product (x ∷ xs) ys = beside x ys ++ product xs ys

-- the pairs of numbers that may stand side by side
abbrev pub edges : {A : Type 0} → ℕ → Re A → List (ℕ × ℕ)
edges k Eps = []
edges k (Sym a) = []
edges k (Cat r s) = (edges k r ++ edges (k + count r) s) ++ product (lasts k r) (firsts (k + count r) s)
edges k (Alt r s) = edges k r ++ edges (k + count r) s
edges k (Plus r) = edges k r ++ product (lasts k r) (firsts k r)

-- the names in order
abbrev pub letters : {A : Type 0} → Re A → List A
letters Eps = []
letters (Sym a) = a ∷ []
letters (Cat r s) = letters r ++ letters s
letters (Alt r s) = letters r ++ letters s
letters (Plus r) = letters r

-- what the walk gives for a model whose names are numbered from k
pub record IsEnds (k : ℕ) (r : Re Chars) (e : Ends) : Type 0 where
  pub nullable_is : e.nullable ≡ nullable r
  pub first_is : e.first.items ≡ firsts k r
  pub last_is : e.last.items ≡ lasts k r

-- the models of these parts
abbrev pub models : List Particle → List (Re Chars)
models parts = map model parts

-- whether the sign allows none
abbrev pub allows_none : Occurs → Bool
allows_none Opt = true
allows_none Star = true
allows_none _ = false

-- the names of these models in order
abbrev pub all_letters : List (Re Chars) → List Chars
all_letters [] = []
all_letters (r ∷ rs) = letters r ++ all_letters rs

-- the pairs of a state and a position that may come next
abbrev pub pairs : {A : Type 0} → Re A → List (ℕ × ℕ)
pairs r = edges 1 r ++ beside 0 (firsts 1 r)
