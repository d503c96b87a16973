-- The copy of an element: its states by their numbers, which of them accept, and their steps. A step is the place of its
-- child, or that of the child's copy, with the number of the state that it leads to.
use Rattle.std.specs.Prelude.{ℕ, suc, ◌+◌, Bool, false, not, ◌&&◌, ◌||◌, List, [], ◌∷◌, length, map, Option, Some, None, if◌then◌else◌}
use Rattle.std.specs.List.{flat_map}
use Rattle.std.specs.Option.{option_map}
use Rattle.content_models.specs.declared.content.Content.{Content}
use Rattle.content_models.specs.Model.{Chars}
use Rattle.position_automata.specs.Automata.{states}
use Rattle.position_automata.specs.Stepping.{does_accept, step_on}
use Rattle.decl_set.specs.Children.{child_step}
use Rattle.decl_set.specs.Declarations.{Declarations}
use Rattle.decl_set.specs.Steps.{steps_in}
use Rattle.least_trees.specs.Plans.{Step}
use Rattle.comparison_tables.specs.declared.kinds.Kind.{Kind}
use Rattle.comparison_tables.specs.declared.kinds.Kind.TheVariants.{Start, Go, Wrong, Pair, Beyond}
use Rattle.comparison_tables.specs.Kinds.{kind_of, go_number, wrong_number, pair_number}
use Rattle.comparison_tables.specs.Sides.{Known, pair_place}

-- how many states it has
abbrev pub copy_states : Known → ℕ
copy_states k = suc (states k.content + (states k.content + length k.pairs))

-- what a state is for
abbrev pub kind_in : Known → ℕ → Kind
kind_in k t = kind_of (states k.content) k.pairs t

-- ---- acceptance

-- the first accepts, and the second, where it declares the element, does not
abbrev pub accepts_alone : Content → Option Content → ℕ → ℕ → Bool
accepts_alone a None i j = false
accepts_alone a (Some b) i j = does_accept a i && not (does_accept b j)

abbrev pub kind_accepts : Known → Kind → Bool
kind_accepts k Start = accepts_alone k.content k.other 0 0 || (k.odd && does_accept k.content 0)
kind_accepts k (Go i) = does_accept k.content i
kind_accepts k (Wrong i) = false
kind_accepts k (Pair i j) = accepts_alone k.content k.other i j
kind_accepts k Beyond = false

abbrev pub copy_accepts : Known → ℕ → Bool
copy_accepts k t = kind_accepts k (kind_in k t)

-- ---- steps

abbrev pub no_step : Step
no_step = (None, 0)

-- the child, then P
abbrev pub to_go : Step → Step
to_go s = (s.0, go_number s.1)

-- the child's copy, then P
abbrev pub to_copy : ℕ → Step → Step
to_copy count s = (option_map (λ x. count + x) s.0, go_number s.1)

-- the child, then F
abbrev pub to_wrong : ℕ → Step → Step
to_wrong n s = (s.0, wrong_number n s.1)

-- the child, then the pair at a place, where it is listed
abbrev pub to_listed : ℕ → Step → Option ℕ → Step
to_listed n s None = no_step
to_listed n s (Some at) = (s.0, pair_number n at)

-- the child, then the pair where the second steps, and P where it does not
abbrev pub to_either : Known → Step → Option ℕ → Step
to_either k s None = to_go s
to_either k s (Some l) = to_listed (states k.content) s (pair_place k.pairs s.1 l)

-- by the second's step from state j on the name; none where the second does not declare the element
abbrev pub to_other : Known → Option Content → ℕ → Chars → Step → Step
to_other k None j name s = no_step
to_other k (Some b) j name s = to_either k s (step_on b j name)

-- the child, then P, where the element is odd
abbrev pub to_odd : Bool → Step → Step
to_odd odd s = if odd then to_go s else no_step

module _ (first : Declarations) (k : Known) where
  abbrev pub pair_step : ℕ → Chars × ℕ → Step
  pair_step j s = to_other k k.other j s.0 (child_step first s)

  -- the steps for F that a step gives
  abbrev pub wrong_steps : ℕ → Chars × ℕ → List Step
  wrong_steps count s = to_copy count (child_step first s) ∷ to_wrong (states k.content) (child_step first s) ∷ []

  -- and those of the start: for F, for the pair of starts, and for P where the element is odd
  abbrev pub start_steps : ℕ → Chars × ℕ → List Step
  start_steps count s =
      to_copy count (child_step first s) ∷ to_wrong (states k.content) (child_step first s) ∷ pair_step 0 s ∷ to_odd k.odd (child_step first s) ∷ []

  -- count is the number of elements of the first
  abbrev pub kind_steps : ℕ → Kind → List Step
  kind_steps count Start = flat_map (start_steps count) (steps_in first k.content 0)
  kind_steps count (Go i) = map (λ s. to_go (child_step first s)) (steps_in first k.content i)
  kind_steps count (Wrong i) = flat_map (wrong_steps count) (steps_in first k.content i)
  kind_steps count (Pair i j) = map (pair_step j) (steps_in first k.content i)
  kind_steps count Beyond = []

  abbrev pub copy_steps : ℕ → ℕ → List Step
  copy_steps count t = kind_steps count (kind_in k t)
