-- The content that a text spells, read from left to right.
use Rattle.std.specs.Prelude.{ℕ, zero, suc, ◌+◌, List, [], ◌∷◌, ◌++◌, length, take, drop, ◌==◌, ◌&&◌, ◌||◌, if◌then◌else◌, Option, Some, None, option_and_then, option_map, codes, nat_eq, bytes_eq}
use Rattle.std.specs.List.{starts_with}
use Rattle.jats_chars.specs.Classes.{is_space, is_name_char}
use Rattle.jats_chars.specs.Names.{is_name}
use Rattle.content_models.specs.declared.content.Occurs.{Occurs}
use Rattle.content_models.specs.declared.content.Occurs.TheVariants.{Once, Opt, Star}
use Rattle.content_models.specs.declared.content.Occurs.TheVariants as sign
use Rattle.content_models.specs.declared.content.Particle.{Particle}
use Rattle.content_models.specs.declared.content.Particle.TheVariants.{One, Seq, Choice}
use Rattle.content_models.specs.declared.content.Content.{Content}
use Rattle.content_models.specs.declared.content.Content.TheVariants.{Empty, Any, Mixed, Children}
use Rattle.content_models.specs.Model.{Chars}

-- the text after the white space at its front
unfoldable pub skip : Chars → Chars
skip [] = []
skip (c ∷ t) = if is_space c then skip t else c ∷ t

-- how many name characters stand at the front
unfoldable pub name_length : Chars → ℕ
name_length [] = 0
name_length (c ∷ t) = if is_name_char c then 1 + name_length t else 0

abbrev pub occurs_at : ℕ → Chars → Occurs × Chars
occurs_at c t = if c == 63 then (Opt, t) else (if c == 42 then (Star, t) else (if c == 43 then (sign.Plus, t) else (Once, c ∷ t)))

-- the sign at the front, and what follows
abbrev pub occurs_of : Chars → Occurs × Chars
occurs_of [] = (Once, [])
occurs_of (c ∷ t) = occurs_at c t

-- what stands at the front, and what follows
abbrev pub Read : Type 0 → Type 0
Read X = Option (X × Chars)

-- the name at the front
unfoldable pub bare : Chars → Read Chars
bare t = if is_name (take (name_length t) t) then Some (take (name_length t) t, drop (name_length t) t) else None

abbrev pub marked : Chars × Chars → Particle × Chars
marked x = (One x.0 (occurs_of x.1).0, (occurs_of x.1).1)

-- the name at the front, and its sign
abbrev pub named : Chars → Read Particle
named t = option_map marked (bare t)

abbrev pub closed : (List Particle → Occurs → Particle) → List Particle × Chars → Particle × Chars
closed make x = (make x.0 (occurs_of x.1).0, (occurs_of x.1).1)

-- items after those that are read: `)` ends them, and a separator goes on; the first number bounds how many are read
module _ {X : Type 0} (one : Chars → Read X) where
  unfoldable pub more : ℕ → ℕ → List X → Chars → Read (List X)
  more n separator xs [] = None
  more zero separator xs (c ∷ t) = if c == 41 then Some (xs, t) else None
  more (suc n) separator xs (c ∷ t) =
      if c == 41 then Some (xs, t)
      else (if c == separator then option_and_then (λ x. more n separator (xs ++ x.0 ∷ []) (skip x.1)) (one (skip t)) else None)

module _ (one : Chars → Read Particle) where
  -- the group, after its first part
  unfoldable pub grouped_by : ℕ → Particle → Chars → Read Particle
  grouped_by n p [] = None
  grouped_by n p (c ∷ t) =
      if c == 124 then option_map (closed Choice) (more one n 124 (p ∷ []) (c ∷ t)) else option_map (closed Seq) (more one n 44 (p ∷ []) (c ∷ t))

  -- the group, after `(`
  unfoldable pub grouped : ℕ → Chars → Read Particle
  grouped n t = option_and_then (λ x. grouped_by n x.0 (skip x.1)) (one (skip t))

-- the part at the front; the second number is how many groups may still open
unfoldable pub read : ℕ → ℕ → Chars → Read Particle
read n d [] = None
read n zero (c ∷ t) = named (c ∷ t)
read n (suc d) (c ∷ t) = if c == 40 then grouped (read n d) n t else named (c ∷ t)

-- after `)`: a star, or nothing where there are no names
abbrev pub mixed_end : List Chars × Chars → Option Content
mixed_end x = if bytes_eq x.1 (codes "*") || (length x.1 == 0 && length x.0 == 0) then Some (Mixed x.0) else None

-- nothing follows
abbrev pub whole : Particle × Chars → Option Content
whole x = if length x.1 == 0 then Some (Children x.0) else None

-- the rest after `(#PCDATA`
unfoldable pub mixed_of : ℕ → Chars → Option Content
mixed_of n t = option_and_then mixed_end (more bare n 124 [] (skip t))

-- the rest after `(` of a model
abbrev pub children_of : ℕ → Chars → Option Content
children_of n t = option_and_then whole (grouped (read n 63) n t)

-- the rest after `(`
unfoldable pub group_of : ℕ → Chars → Option Content
group_of n t = if starts_with nat_eq (skip t) (codes "#PCDATA") then mixed_of n (drop 7 (skip t)) else children_of n t

-- the content that a text spells, with at most 64 groups inside one another
unfoldable pub content_of : Chars → Option Content
content_of t =
    if bytes_eq t (codes "EMPTY") then Some Empty
    else (if bytes_eq t (codes "ANY") then Some Any else (if starts_with nat_eq t (codes "(") then group_of (length t) (drop 1 t) else None))
