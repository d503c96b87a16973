-- The elements that allow, whatever names stand in them, what another set does not.
use Rattle.std.specs.Prelude.{Bool, true, false, ℕ, List, Option, Some, None, option_map, if◌then◌else◌}
use Rattle.content_models.specs.declared.content.Content.{Content}
use Rattle.content_models.specs.declared.content.TextKind.{TextKind}
use Rattle.content_models.specs.declared.content.TextKind.TheVariants.{NoItems, White, All}
use Rattle.content_models.specs.Kinds.{text_kind}
use Rattle.attlist_merge.specs.Lists.{Definitions}
use Rattle.attlist_merge.specs.Oddness.{odd_of}
use Rattle.decl_set.specs.Declarations.{Declarations, content_in, attributes_in}
use Rattle.decl_set.specs.declared.breaks.Odd.{Odd}
use Rattle.decl_set.specs.declared.breaks.Odd.TheVariants.{Undeclared, Text, Attribute}

-- whether the one kind of text allows items that the other does not: none, plain runs, all
abbrev pub more_text : TextKind → TextKind → Bool
more_text NoItems kind = false
more_text White NoItems = true
more_text White White = false
more_text White All = false
more_text All NoItems = true
more_text All White = true
more_text All All = false

-- why an element with these contents and lists is odd: undeclared in the second, more text, or an attribute
abbrev pub odd_by : Option Content → Option Content → Definitions → Definitions → Option Odd
odd_by None b list other = None
odd_by (Some a) None list other = Some Undeclared
odd_by (Some a) (Some b) list other = if more_text (text_kind a) (text_kind b) then Some Text else option_map Attribute (odd_of list other)

-- why an element of the first is odd in the second
abbrev pub odd_in : Declarations → Declarations → List ℕ → Option Odd
odd_in first second e = odd_by (content_in first e) (content_in second e) (attributes_in first e) (attributes_in second e)
