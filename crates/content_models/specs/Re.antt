-- Regular models over letters, each of which has a word.
use Rattle.std.specs.Prelude.{◌≡◌, List, [], ◌∷◌, ◌++◌, ℕ, zero, suc, ◌⊎◌}

pub data Re (A : Type 0) : Type 0 where
  Eps : Re A
  Sym : A → Re A
  Cat : Re A → Re A → Re A
  Alt : Re A → Re A → Re A
  Plus : Re A → Re A

-- one list of L, and n further ones, joined in order
abbrev pub Times : {A : Type 0} → (List A → Type 0) → ℕ → List A → Type 0
Times L zero w = L w
Times {A} L (suc n) w = (u : List A) × (v : List A) × (w ≡ u ++ v) × L u × Times L n v

-- the model derives this list
abbrev pub Generates : {A : Type 0} → Re A → List A → Type 0
Generates Eps w = w ≡ []
Generates (Sym a) w = w ≡ a ∷ []
Generates {A} (Cat r s) w = (u : List A) × (v : List A) × (w ≡ u ++ v) × Generates r u × Generates s v
Generates (Alt r s) w = Generates r w ⊎ Generates s w
Generates (Plus r) w = (n : ℕ) × Times (Generates r) n w
