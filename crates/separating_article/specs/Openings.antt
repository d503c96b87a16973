-- How a chosen tree begins: its attributes, a run in front, and the path of its items.
use Rattle.std.specs.Prelude.{ℕ, Bool, true, false, ◌&&◌, List, [], ◌∷◌, Option, Some, None, is_some, bytes_eq, option_map, if◌then◌else◌}
use Rattle.std.specs.List.{flat_map}
use Rattle.content_models.specs.declared.content.Content.{Content}
use Rattle.content_models.specs.declared.content.TextKind.{TextKind}
use Rattle.content_models.specs.declared.content.TextKind.TheVariants.{NoItems, White}
use Rattle.content_models.specs.Kinds.{text_kind}
use Rattle.content_models.specs.Model.{Chars}
use Rattle.document_trees.specs.Trees.{Attribute}
use Rattle.attlist_merge.specs.Lists.{Definitions}
use Rattle.attlist_merge.specs.Oddness.{chosen, odd_at}
use Rattle.attlist_merge.specs.declared.odd.OddAtt.{OddAtt}
use Rattle.decl_set.specs.Declarations.{attributes_in, content_in}
use Rattle.decl_set.specs.Oddness.{odd_in}
use Rattle.decl_set.specs.declared.breaks.Odd.{Odd}
use Rattle.decl_set.specs.declared.breaks.Odd.TheVariants as odd
use Rattle.tree_costs.specs.Beside.{Front}
use Rattle.tree_costs.specs.Costs.{sum}
use Rattle.tree_costs.specs.declared.cost.Cost.TheVariants.{Fin}
use Rattle.separating_article.specs.declared.choosing.Path.{Path}
use Rattle.separating_article.specs.declared.choosing.Path.TheVariants.{Own, Wrong, Pair}
use Rattle.separating_article.specs.declared.opening.Way.{Way}
use Rattle.separating_article.specs.declared.opening.Way.TheVariants as way
use Rattle.separating_article.specs.declared.guide.Guide.{Guide}
use Rattle.separating_article.specs.Choosing.{is_same}
use Rattle.separating_article.specs.Guides.{m_at, v_at, g_at}

-- ---- which way a tree is chosen

-- v is that of what is odd beside the elements
abbrev pub is_by_odd : Guide → ℕ → Chars → Bool
is_by_odd guide e name = is_some (odd_in guide.first.now guide.second.now name) && is_same (v_at guide.book (Some e)) (m_at guide.book (Some e))

-- v is that of the names of the children
abbrev pub is_by_names : Guide → ℕ → Chars → Bool
is_by_names guide e name =
    is_some (content_in guide.second.now name) && is_same (v_at guide.book (Some e)) (sum guide.cap (Fin 1) (g_at guide.book e 0 0))

abbrev pub way_of : Guide → ℕ → Chars → Bool → Way
way_of guide e name false = way.Least
way_of guide e name true = if is_by_odd guide e name then way.Odd else if is_by_names guide e name then way.Names else way.Below

abbrev pub path_of : Way → Path
path_of way.Least = Own 0
path_of way.Odd = Own 0
path_of way.Names = Pair 0 0
path_of way.Below = Wrong 0

-- ---- what stands beside the elements

-- what is odd of the element, where its tree shows it
abbrev pub shown : Guide → Chars → Way → Option Odd
shown guide name way.Least = None
shown guide name way.Odd = odd_in guide.first.now guide.second.now name
shown guide name way.Names = None
shown guide name way.Below = None

-- the attribute that is odd
abbrev pub att_of : Option Odd → Option OddAtt
att_of None = None
att_of (Some odd.Undeclared) = None
att_of (Some odd.Text) = None
att_of (Some (odd.Attribute o)) = Some o

abbrev pub value_if : Chars → Chars → Chars → Option Chars
value_if name odd value = if bytes_eq name odd then Some value else None

-- the value that shows it, at its name
abbrev pub value_at : Option OddAtt → Chars → Option Chars
value_at None name = None
value_at (Some o) name = odd_at o name

-- the required attributes with their samples, and the value that shows what is odd in the place of its name
abbrev pub values_by : Option OddAtt → Definitions → List Attribute
values_by o list = flat_map (λ e. chosen (value_at o e.0) e) list

-- the run that a content of the second kind does not allow and one of the first does, by whether it is plain
abbrev pub is_plain_front : TextKind → TextKind → Bool
is_plain_front White NoItems = true
is_plain_front k l = false

abbrev pub run_of : Bool → List ℕ × Bool
run_of true = (0x20 ∷ [], true)
run_of false = (0x78 ∷ [], false)

abbrev pub front_by : Option Content → Option Content → Option Bool
front_by (Some a) (Some b) = Some (is_plain_front (text_kind a) (text_kind b))
front_by a b = None

abbrev pub front_in : Guide → Chars → Option Bool
front_in guide name = front_by (content_in guide.first.now name) (content_in guide.second.now name)

-- whether a run stands in front, and whether it is plain
abbrev pub plain_front : Guide → Chars → Option Odd → Option Bool
plain_front guide name None = None
plain_front guide name (Some odd.Undeclared) = None
plain_front guide name (Some odd.Text) = front_in guide name
plain_front guide name (Some (odd.Attribute o)) = None

abbrev pub front_of : Guide → Chars → Way → Front
front_of guide name way = option_map run_of (plain_front guide name (shown guide name way))

abbrev pub atts_of : Guide → Chars → Way → List Attribute
atts_of guide name way = values_by (att_of (shown guide name way)) (attributes_in guide.first.now name)
