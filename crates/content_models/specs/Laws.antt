-- Laws of parsing and printing.
use Rattle.std.specs.Prelude.{◌≡◌, ◌⊎◌, Result, Ok, Err}
use Rattle.content_models.specs.declared.content.Content.{Content}
use Rattle.content_models.specs.declared.parsing.ContentFault.{ContentFault}
use Rattle.content_models.specs.declared.parsing.ContentFault.TheVariants as fault
use Rattle.content_models.specs.Model.{Chars}
use Rattle.content_models.specs.Proper.{IsProper}
use Rattle.content_models.specs.Parses.{Parses, IsTooDeep}
use Rattle.content_models.specs.Grammar.{Spells}
use Rattle.content_models.specs.Spelling.{flat}

-- the answer is this content, unless memory ran out
abbrev pub IsAnswer : Result Content ContentFault → Content → Type 0
IsAnswer answer content = (answer ≡ Ok content) ⊎ (answer ≡ Err fault.NoMemory)

-- a text spells one content at most, where no more than 64 parentheses are open
abbrev pub OneContent : Type 0
OneContent = (text : Chars) (content other : Content) → (¬ IsTooDeep text) → Spells text content → Spells text other → content ≡ other

-- a text has one answer, but for want of memory
abbrev pub OneAnswer : Type 0
OneAnswer =
    (text : Chars) (answer other : Result Content ContentFault) → Parses text answer → Parses text other
    → (answer ≡ other) ⊎ ((answer ≡ Err fault.NoMemory) ⊎ (other ≡ Err fault.NoMemory))

-- where a text spells a proper content, that content is the answer
abbrev pub ParsesSpelled : Type 0
ParsesSpelled = (text : Chars) (content : Content) (answer : Result Content ContentFault) → IsProper content → Spells text content → Parses text answer → IsAnswer answer content

-- the flat spelling spells its content
abbrev pub FlatSpells : Type 0
FlatSpells = (content : Content) → IsProper content → Spells (flat content) content

-- what is printed parses back
abbrev pub ParsesBack : Type 0
ParsesBack = (content : Content) (answer : Result Content ContentFault) → IsProper content → Parses (flat content) answer → IsAnswer answer content
