-- What the definition of listed pairs says.
use Rattle.std.specs.Prelude.{◌≡◌, ℕ, List, IsTrue, ◌↔◌}
use Rattle.content_models.specs.declared.content.Content.{Content}
use Rattle.content_models.specs.Model.{Chars, among}
use Rattle.position_automata.specs.Automata.{FollowsOn}
use Rattle.model_inclusion.specs.Listed.{IsListed, ArePairs}

-- what common steps on live names reach from the pair of the starts
pub data Reached (live : List Chars) (a b : Content) : ℕ → ℕ → Type 0 where
  Starts : Reached live a b 0 0
  Steps : (i j k l : ℕ) (name : Chars) → Reached live a b i j → IsTrue (among live name) → FollowsOn a i name k → FollowsOn b j name l → Reached live a b k l

-- a pair is listed exactly where common steps reach it
abbrev pub ListedByClosure : Type 0
ListedByClosure = (live : List Chars) (a b : Content) (i j : ℕ) → IsListed live a b i j ↔ Reached live a b i j

-- the pairs are one list
abbrev pub OneList : Type 0
OneList = (live : List Chars) (a b : Content) (ps qs : List (ℕ × ℕ)) → ArePairs live a b ps → ArePairs live a b qs → ps ≡ qs
