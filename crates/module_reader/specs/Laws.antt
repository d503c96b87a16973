-- Laws of reading.
use Rattle.std.specs.Prelude.{◌≡◌, ◌↔◌, ℕ, List, None, Some, Ok}
use Rattle.content_models.specs.declared.content.Content.{Content}
use Rattle.content_models.specs.Grammar.{Spells}
use Rattle.content_models.specs.Parses.{IsTooDeep}
use Rattle.content_models.specs.Reading.{content_of}
use Rattle.decl_set.specs.Asked.{IsKept}
use Rattle.decl_set.specs.Declarations.{Declarations}
use Rattle.decl_set.specs.Declaring.{end_fault}
use Rattle.module_reader.specs.Sets.{set_from}
use Rattle.module_reader.specs.Sources.{Source}

-- a set that an entry stands for keeps what a set keeps at every moment, and has no fault after its last declaration
abbrev pub SetsAreKept : Type 0
SetsAreKept = (source : Source) (entry : List ℕ) (set : Declarations) → set_from source entry ≡ Ok set → IsKept set × (end_fault set ≡ None)

-- a content is read from a text, in which no more than 64 parentheses are open, exactly where the text spells it
abbrev pub ContentsRead : Type 0
ContentsRead = (text : List ℕ) (content : Content) → (IsTooDeep text → ⊥) → (content_of text ≡ Some content) ↔ Spells text content
