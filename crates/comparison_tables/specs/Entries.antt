-- What is found once of each element of the first set, in order of declaration.
use Rattle.std.specs.Prelude.{◌≡◌, ℕ, Bool, List, Option, Some, None, slice_get}
use Rattle.std.specs.Coded.{Coded, Coded-set, coded_ℕ, coded_list, coded×, coded_option, code_by, Π_prop, codes}
use Rattle.std.specs.Option.{option_map, option_copied}
use Rattle.std.proofs.Common.{refl}
use Rattle.content_models.specs.declared.content.Content.{Content}
use Rattle.content_models.specs.contracts.content.Particle as parts
use Rattle.content_models.specs.Model.{Chars}
use Rattle.decl_set.specs.Declarations.{Declarations, Element}
use Rattle.comparison_tables.specs.declared.entries.Entry.{Entry}
use Rattle.comparison_tables.specs.declared.sides.Side.{Side}
use Rattle.comparison_tables.specs.Sides.{Known, known}

-- the name of an element, with what is known of it
abbrev pub Named : Type 0
Named = Chars × Known

abbrev pub named_in : Entry → Named
named_in entry =
    (entry.name.now, record { content = entry.automaton.now; other = option_copied entry.other; odd = entry.side.now.odd; pairs = entry.side.now.pairs })

abbrev pub named_by : Declarations → Option Element → Option Side → Option Named
named_by second None side = None
named_by second (Some e) None = None
named_by second (Some e) (Some side) = Some (e.0, known second e side)

-- those of the element at a place
abbrev pub named_at : Declarations → Declarations → List Side → ℕ → Option Named
named_at first second sides x = named_by second (slice_get first.elements x) (slice_get sides x)

-- the entry at each place is that of the element there
abbrev pub AreEntries : Declarations → Declarations → List Side → List Entry → Type 0
AreEntries first second sides entries = (x : ℕ) → option_map named_in (slice_get entries x) ≡ named_at first second sides x

-- ---- in one way, so that a graph may keep it

abbrev Parts : Type 0
Parts = Content × Option Content × Bool × List (ℕ × ℕ)

coded_parts : Coded Parts
coded_parts = Prim.hlevel (codes, parts.the_row.coded)

coded_known : Coded Known
coded_known =
    code_by Parts coded_parts
    (λ k. (k.content, k.other, k.odd, k.pairs)) (λ p. record { content = p.0; other = p.1; odd = p.2; pairs = p.3 }) (λ k. refl)

pub are_entries_prop : (first second : Declarations) (sides : List Side) (entries : List Entry) → IsProp (AreEntries first second sides entries)
are_entries_prop first second sides entries =
    Π_prop (λ x. Coded-set (coded_option (coded× (coded_list coded_ℕ) coded_known)) (option_map named_in (slice_get entries x)) (named_at first second sides x))
