-- What reading the content of an element answers.
use Rattle.std.specs.Prelude.{◌≡◌, ℕ, List, [], ◌∷◌, true, false, nat_lt, Some, None, Result, Ok, Err}
use Rattle.content_models.specs.declared.content.Content.{Content}
use Rattle.content_models.specs.declared.parsing.ContentFault.{ContentFault}
use Rattle.content_models.specs.declared.parsing.ContentFault.TheVariants as fault
use Rattle.content_models.specs.Parses.{occurrences, repeated_in}
use Rattle.content_models.specs.Proper.{IsProper}
use Rattle.content_models.specs.Reading.{content_of}
use Rattle.module_reader.specs.declared.refusals.Stop.{Stop}
use Rattle.module_reader.specs.declared.refusals.Stop.TheVariants.{NoMemory as memory}
use Rattle.module_reader.specs.declared.standing.Standing.{Standing}
use Rattle.module_reader.specs.Endings.{Refuses}
use Rattle.module_reader.specs.Stops.{refused}
use Rattle.jats_fault.specs.declared.numbers.TheConstants as number

-- the text spells a content with so many names
abbrev pub IsOver : List ℕ → Type 0
IsOver text = (content : Content) × (content_of text ≡ Some content) × (nat_lt 1024 (occurrences content) ≡ true)

-- the text spells a content that names this one twice
abbrev pub IsRepeated : List ℕ → List ℕ → Type 0
IsRepeated text name = (content : Content) × (content_of text ≡ Some content) × (nat_lt 1024 (occurrences content) ≡ false) × (repeated_in content ≡ Some name)

-- the content that is spelled, or why it is none that may be declared
abbrev pub ReadsContent : List ℕ → Result Content ContentFault → Type 0
ReadsContent text (Ok content) = (content_of text ≡ Some content) × (nat_lt 1024 (occurrences content) ≡ false) × (repeated_in content ≡ None) × IsProper content
ReadsContent text (Err fault.GroupTooDeep) = ⊥
ReadsContent text (Err fault.Malformed) = content_of text ≡ None
ReadsContent text (Err fault.PositionsOver) = IsOver text
ReadsContent text (Err (fault.DuplicateMixedName name)) = IsRepeated text name
ReadsContent text (Err fault.NoMemory) = Unit {0}

-- the refusal of an element whose content has this fault
abbrev pub ContentStops : Standing → ℕ → List ℕ → ContentFault → Stop → Type 0
ContentStops c at name fault.GroupTooDeep stop = Refuses (refused c at number.GROUP_TOO_DEEP []) stop
ContentStops c at name fault.Malformed stop = Refuses (refused c at number.MALFORMED []) stop
ContentStops c at name fault.PositionsOver stop = Refuses (refused c at number.POSITIONS_OVER (name ∷ [])) stop
ContentStops c at name (fault.DuplicateMixedName again) stop = Refuses (refused c at number.DUPLICATE_MIXED_NAME (name ∷ again ∷ [])) stop
ContentStops c at name fault.NoMemory stop = stop ≡ memory
