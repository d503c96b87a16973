-- Why a set is not within another: useful elements that break.
use Rattle.std.specs.Prelude.{◌≡◌, ℕ, List, ◌∷◌, ◌++◌, Option, Some, None, option_map}
use Rattle.std.specs.List.{AllByRecursion}
use Rattle.content_models.specs.declared.content.Content.{Content}
use Rattle.content_models.specs.Model.{Derives}
use Rattle.attlist_merge.specs.Lists.{Definitions}
use Rattle.attlist_merge.specs.Oddness.{odd_of}
use Rattle.attlist_merge.specs.declared.odd.OddAtt.{OddAtt}
use Rattle.attlist_merge.specs.declared.odd.OddAtt.TheVariants as att
use Rattle.decl_set.specs.Declarations.{Declarations, Element, content_in, attributes_in}
use Rattle.decl_set.specs.Validity.{HasDocument, IsUseful}
use Rattle.decl_set.specs.Oddness.{odd_by}
pub use Rattle.decl_set.specs.declared.breaks.Cause.{Cause}
use Rattle.decl_set.specs.declared.breaks.Cause.TheVariants as cause
use Rattle.decl_set.specs.declared.breaks.Odd.{Odd}
use Rattle.decl_set.specs.declared.breaks.Odd.TheVariants as odd

-- some list of names, each with a document of the first, is derived by the one content and not by the other
abbrev pub ContentBreaks : Declarations → Content → Content → Type 0
ContentBreaks first a b = (names : List (List ℕ)) × AllByRecursion (HasDocument first) names × Derives a names × (Derives b names → ⊥)

-- the same where both sets declare the element
abbrev pub BothBreak : Declarations → Option Content → Option Content → Type 0
BothBreak first None b = ⊥
BothBreak first (Some a) None = ⊥
BothBreak first (Some a) (Some b) = ContentBreaks first a b

-- the attribute that is odd
abbrev pub odd_name : OddAtt → List ℕ
odd_name (att.Undeclared name value) = name
odd_name (att.Value name value) = name
odd_name (att.Missing name) = name

-- this is the first attribute by which the one list allows what the other does not
abbrev pub IsOdd : Definitions → Definitions → List ℕ → Type 0
IsOdd list other name = (o : OddAtt) × (odd_of list other ≡ Some o) × (name ≡ odd_name o)

-- what is odd, as a cause
abbrev pub cause_of : Odd → Cause
cause_of odd.Undeclared = cause.Undeclared
cause_of odd.Text = cause.Text
cause_of (odd.Attribute o) = cause.Attribute (odd_name o)

-- it is what is odd of an element with these contents and lists, and the content does not break
abbrev pub OddBreaks : Declarations → Option Content → Option Content → Definitions → Definitions → Cause → Type 0
OddBreaks first a b list other k = (BothBreak first a b → ⊥) × (option_map cause_of (odd_by a b list other) ≡ Some k)

-- The element with these contents and lists breaks by this cause, the first that holds: it is undeclared, its content
-- breaks, it allows more text, or an attribute is odd.
abbrev pub BreaksBy : Declarations → Option Content → Option Content → Definitions → Definitions → Cause → Type 0
BreaksBy first a b list other cause.Undeclared = OddBreaks first a b list other cause.Undeclared
BreaksBy first a b list other cause.Content = BothBreak first a b
BreaksBy first a b list other cause.Text = OddBreaks first a b list other cause.Text
BreaksBy first a b list other (cause.Attribute name) = OddBreaks first a b list other (cause.Attribute name)

-- the element of the first breaks in the second by this cause
abbrev pub Breaks : Declarations → Declarations → List ℕ → Cause → Type 0
Breaks first second e k = BreaksBy first (content_in first e) (content_in second e) (attributes_in first e) (attributes_in second e) k

-- no cause breaks the element, or no document has it
abbrev pub IsKept : Declarations → Declarations → List ℕ → Element → Type 0
IsKept first second root e = IsUseful first root e.0 → (k : Cause) → Breaks first second e.0 k → ⊥

-- the first useful element that breaks, in order of declaration
pub record IsFirstBroken (first second : Declarations) (root name : List ℕ) (cause : Cause) : Type 0 where
  pub before : List Element
  pub declared : Content
  pub after : List Element
  pub place : first.elements ≡ before ++ (name, declared) ∷ after
  pub kept : AllByRecursion (IsKept first second root) before
  pub useful : IsUseful first root name
  pub breaks : Breaks first second name cause
