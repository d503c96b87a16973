-- Which contents are proper: those that can be spelled within the limits.
use Rattle.std.specs.Prelude.{ℕ, ◌+◌, ◌-◌, nat_lt, max, Bool, true, false, ◌&&◌, nat_le, List, [], ◌∷◌, ◌++◌, length, IsTrue, Option, Some, None, is_none, if◌then◌else◌}
use Rattle.std.specs.List.{list_all}
use Rattle.jats_chars.specs.Names.{is_name}
use Rattle.content_models.specs.declared.content.Particle.{Particle, fold-Particle}
use Rattle.content_models.specs.declared.content.Particle.TheOpen.{Particle-F}
use Rattle.content_models.specs.declared.content.Content.{Content}
use Rattle.content_models.specs.declared.content.Content.TheVariants.{Empty, Any, Mixed, Children}
use Rattle.content_models.specs.Model.{Chars, among}

abbrev pub total : List ℕ → ℕ
total [] = 0
total (n ∷ ns) = n + total ns

abbrev pub greatest : List ℕ → ℕ
greatest [] = 0
greatest (n ∷ ns) = max n (greatest ns)

abbrev pub all_of : List Bool → Bool
all_of [] = true
all_of (b ∷ bs) = b && all_of bs

abbrev pub names_layer : Particle-F ℕ → ℕ
names_layer (Particle-F.One name occurs) = 1
names_layer (Particle-F.Seq parts occurs) = total parts
names_layer (Particle-F.Choice parts occurs) = total parts

-- how many names occur in a part
unfoldable pub names_in : Particle → ℕ
names_in = fold-Particle ℕ names_layer

-- what is left of n after m, if anything
abbrev pub checked_less : ℕ → ℕ → Option ℕ
checked_less n m = if nat_lt n m then None else Some (n - m)

abbrev pub depth_layer : Particle-F ℕ → ℕ
depth_layer (Particle-F.One name occurs) = 0
depth_layer (Particle-F.Seq parts occurs) = 1 + greatest parts
depth_layer (Particle-F.Choice parts occurs) = 1 + greatest parts

-- how many groups stand inside one another at most
unfoldable pub depth : Particle → ℕ
depth = fold-Particle ℕ depth_layer

abbrev pub shape_layer : Particle-F Bool → Bool
shape_layer (Particle-F.One name occurs) = is_name name
shape_layer (Particle-F.Seq [] occurs) = false
shape_layer (Particle-F.Seq (part ∷ parts) occurs) = all_of (part ∷ parts)
shape_layer (Particle-F.Choice [] occurs) = false
shape_layer (Particle-F.Choice (part ∷ []) occurs) = false
shape_layer (Particle-F.Choice (part ∷ next ∷ parts) occurs) = all_of (part ∷ next ∷ parts)

-- whether names are Names, no group is empty, and each choice has at least two parts
unfoldable pub has_shape : Particle → Bool
has_shape = fold-Particle Bool shape_layer

abbrev pub group_layer : Particle-F Bool → Bool
group_layer (Particle-F.One name occurs) = false
group_layer (Particle-F.Seq parts occurs) = true
group_layer (Particle-F.Choice parts occurs) = true

-- whether a part is a group
unfoldable pub is_group : Particle → Bool
is_group = fold-Particle Bool group_layer

-- the first of these names, in the order in which they stand, that stands among those before it
abbrev pub repeated_after : List Chars → List Chars → Option Chars
repeated_after before [] = None
repeated_after before (name ∷ names) = if among before name then Some name else repeated_after (before ++ name ∷ []) names

-- the first name of a list that equals an earlier one
abbrev pub repeated : List Chars → Option Chars
repeated names = repeated_after [] names

-- whether a content is proper
unfoldable pub is_proper : Content → Bool
is_proper Empty = true
is_proper Any = true
is_proper (Mixed names) = list_all is_name names && (is_none (repeated names) && nat_le (length names) 1024)
is_proper (Children part) = is_group part && (has_shape part && (nat_le (depth part) 64 && nat_le (names_in part) 1024))

-- the content is proper: mixed names differ; a model is a group, no group is empty, a choice has at least two parts;
-- at most 64 groups stand inside one another, and at most 1,024 names occur
abbrev pub IsProper : Content → Type 0
IsProper content = IsTrue (is_proper content)
