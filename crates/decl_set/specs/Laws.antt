-- What the definitions of breaking say together.
use Rattle.std.specs.Prelude.{Option, Some, None, IsTrue}
use Rattle.content_models.specs.declared.content.Content.{Content}
use Rattle.content_models.specs.Kinds.{text_kind}
use Rattle.attlist_merge.specs.Lists.{Definitions}
use Rattle.decl_set.specs.Declarations.{Declarations}
use Rattle.decl_set.specs.Oddness.{more_text}
use Rattle.decl_set.specs.Breaks.{Cause, ContentBreaks, IsOdd, BreaksBy}
use Rattle.decl_set.specs.declared.breaks.Cause.TheVariants as cause

-- the one content allows more text
abbrev pub HasMoreText : Content → Content → Type 0
HasMoreText a b = IsTrue (more_text (text_kind a) (text_kind b))

-- the cause test by test: the second does not declare the element; else its content breaks; else it allows more text; else
-- an attribute is odd
abbrev pub BreaksInTurn : Declarations → Option Content → Option Content → Definitions → Definitions → Cause → Type 0
BreaksInTurn first None b list other k = ⊥
BreaksInTurn first (Some a) None list other cause.Undeclared = Unit {0}
BreaksInTurn first (Some a) None list other cause.Content = ⊥
BreaksInTurn first (Some a) None list other cause.Text = ⊥
BreaksInTurn first (Some a) None list other (cause.Attribute name) = ⊥
BreaksInTurn first (Some a) (Some b) list other cause.Undeclared = ⊥
BreaksInTurn first (Some a) (Some b) list other cause.Content = ContentBreaks first a b
BreaksInTurn first (Some a) (Some b) list other cause.Text = (ContentBreaks first a b → ⊥) × HasMoreText a b
BreaksInTurn first (Some a) (Some b) list other (cause.Attribute name) = (ContentBreaks first a b → ⊥) × (HasMoreText a b → ⊥) × IsOdd list other name

-- an element breaks by a cause exactly where the tests in turn say so
abbrev pub TurnByTurn : Type 0
TurnByTurn =
    (first : Declarations) (a b : Option Content) (list other : Definitions) (k : Cause)
    → (BreaksBy first a b list other k → BreaksInTurn first a b list other k) × (BreaksInTurn first a b list other k → BreaksBy first a b list other k)
