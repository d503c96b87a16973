-- The attributes of a tag with a set of their names.
use Rattle.std.specs.Prelude.{◌≡◌, ◌<◌, ℕ, Bool, List, length, bytes_eq}
use Rattle.std.specs.Borrow.{Bor}
use Rattle.std.specs.List.{list_any}
use Rattle.document_trees.specs.Trees.{Attribute, has_attribute}

-- whether a name is in the set
abbrev pub is_in : List (Bor (List ℕ)) → List ℕ → Bool
is_in keys name = list_any (λ k. bytes_eq name k.now) keys

-- the names in the set are those of the attributes
abbrev pub HaveNames : List (Bor (List ℕ)) → List Attribute → Type 0
HaveNames keys atts = (name : List ℕ) → is_in keys name ≡ has_attribute atts name

-- so many are looked through one by one
abbrev pub few : ℕ
few = 8

-- the names of more than a few are in the set
abbrev pub AreKnown : List (Bor (List ℕ)) → List Attribute → Type 0
AreKnown keys atts = few < length atts → HaveNames keys atts
