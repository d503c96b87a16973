-- Pairs of places that are listed, and products of places whose pairs are still owed.
use Rattle.std.specs.Prelude.{List, [], ◌∷◌, ◌++◌, ℕ, Bool, true, false, ◌&&◌, Contains, ◌↔◌, if◌then◌else◌}
use Rattle.content_models.specs.declared.content.Occurs.{Occurs}
use Rattle.content_models.specs.declared.content.Occurs.TheVariants.{Star}
use Rattle.content_models.specs.declared.content.Occurs.TheVariants as sign
use Rattle.position_automata.specs.Places.{product}
use Rattle.position_automata.specs.declared.walk.Ends.{Ends}

-- the pairs of these products
abbrev pub spread : List (List ℕ × List ℕ) → List (ℕ × ℕ)
spread [] = []
spread (p ∷ ps) = product p.0 p.1 ++ spread ps

-- what is owed of a part with its sign: the way back of a loop holds all that was owed inside it
abbrev pub owing : Occurs → List ℕ → List ℕ → List (List ℕ × List ℕ) → List (List ℕ × List ℕ)
owing Star last first owed = (last, first) ∷ []
owing sign.Plus last first owed = (last, first) ∷ []
owing _ last first owed = owed

-- the product of the places between two parts, where it stays owed
abbrev pub between : Bool → List ℕ → List ℕ → List (List ℕ × List ℕ)
between false last first = []
between true [] first = []
between true (x ∷ xs) first = (x ∷ xs, first) ∷ []

-- what stays owed of two parts in order: that of either where the other may be empty, and what is between them where both may
abbrev pub kept : Ends → Ends → List (List ℕ × List ℕ)
kept a b =
    ((if b.nullable then a.owed.items else []) ++ (if a.nullable then b.owed.items else []))
    ++ between (a.nullable && b.nullable) a.last.items b.first.items

-- what is listed when two parts are joined: all else
abbrev pub settled : Ends → Ends → List (ℕ × ℕ)
settled a b =
    ((if b.nullable then [] else spread a.owed.items) ++ (if a.nullable then [] else spread b.owed.items))
    ++ (if a.nullable && b.nullable then [] else product a.last.items b.first.items)

-- two lists have the same pairs
abbrev pub SamePairs : List (ℕ × ℕ) → List (ℕ × ℕ) → Type 0
SamePairs xs ys = (p : ℕ × ℕ) → Contains xs p ↔ Contains ys p

-- the pairs listed and those owed are those listed before and these ones; each that is owed leads from a last place to a first one
pub record IsListed (pairs old new : List (ℕ × ℕ)) (e : Ends) : Type 0 where
  pub all : SamePairs (new ++ spread e.owed.items) (old ++ pairs)
  pub back : (p : ℕ × ℕ) → Contains (spread e.owed.items) p → Contains (product e.last.items e.first.items) p
