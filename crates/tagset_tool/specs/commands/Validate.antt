-- validate: all that is wrong in an article.
use Rattle.std.specs.Prelude.{ℕ, List, [], ◌∷◌, ◌++◌, codes, encode_utf8_all}
use Rattle.std.specs.Fmt.{decimal}
use Rattle.std.specs.List.{flat_map}
use Rattle.article_files.specs.Bytes.{article_in}
use Rattle.article_validator.specs.Faults.{fault_list}
use Rattle.article_validator.specs.declared.fault.Invalid.{Invalid}
use Rattle.article_validator.specs.declared.fault.InvalidCause.{InvalidCause}
use Rattle.article_validator.specs.declared.fault.InvalidCause.TheVariants as cause
use Rattle.decl_set.specs.Declarations.{Declarations}
use Rattle.module_reader.specs.Sources.{Files}
use Rattle.tagset_tool.specs.Outcomes.{Outcome, after, answering, fitting}
use Rattle.tagset_tool.specs.Words.{SetWords, set_by}

-- the word of a cause at an attribute, and its name
abbrev pub at_attribute : List ℕ → List ℕ → List ℕ
at_attribute word name = word ++ encode_utf8_all name

-- and a name in its value
abbrev pub at_value : List ℕ → List ℕ → List ℕ → List ℕ
at_value word name value = word ++ (encode_utf8_all name ++ (codes " " ++ encode_utf8_all value))

abbrev pub cause_words : InvalidCause → List ℕ
cause_words cause.Root = codes "root"
cause_words cause.Undeclared = codes "undeclared"
cause_words cause.Content = codes "content"
cause_words cause.Text = codes "text"
cause_words (cause.AttUndeclared name) = at_attribute (codes "attribute ") name
cause_words (cause.Value name) = at_attribute (codes "value ") name
cause_words (cause.Missing name) = at_attribute (codes "missing ") name
cause_words (cause.RepeatedId name value) = at_value (codes "id ") name value
cause_words (cause.NoTarget name value) = at_value (codes "idref ") name value
cause_words (cause.NoEntity name value) = at_value (codes "entity ") name value

-- what is wrong: the node's number, its element and the cause
abbrev pub fault_line : Invalid → List ℕ
fault_line fault = codes "invalid " ++ (decimal fault.node ++ (codes " " ++ (encode_utf8_all fault.element ++ (codes " " ++ (cause_words fault.cause ++ 10 ∷ [])))))

abbrev pub fault_lines : List Invalid → List ℕ
fault_lines faults = flat_map fault_line faults

-- the line for an article where nothing is wrong
abbrev pub valid_line : List ℕ
valid_line = codes "valid" ++ 10 ∷ []

abbrev pub judged : List Invalid → Outcome
judged [] = answering 0 valid_line
judged (fault ∷ faults) = fitting 1 (fault_lines (fault ∷ faults))

-- over a set
abbrev pub validates_by : Files → List ℕ → List ℕ → Declarations → Outcome
validates_by files root article set = after (article_in files set.entities article) (λ node. judged (fault_list set root node))

abbrev pub validates : Files → SetWords → List ℕ → List ℕ → Outcome
validates files words root article = after (set_by files words) (validates_by files root article)
