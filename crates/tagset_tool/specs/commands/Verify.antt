-- verify: whether the bounds of a certificate hold for two sets.
use Rattle.std.specs.Prelude.{ℕ, ◌&&◌, List, [], ◌∷◌, ◌++◌, Option, Some, None, Result, Ok, Err, codes, encode_utf8_all, if◌then◌else◌, nat_le, option_map, slice_get}
use Rattle.jats_chars.specs.declared.limits.TheConstants as limit
use Rattle.std.specs.Fmt.{decimal}
use Rattle.std.specs.Option.{option_map_or}
use Rattle.jats_fault.specs.declared.fault.Fault.{Fault}
use Rattle.decl_set.specs.Declarations.{Declarations, name_of}
use Rattle.decl_set.specs.Steps.{steps_at}
use Rattle.tree_costs.specs.declared.cost.Cost.{Cost}
use Rattle.tree_costs.specs.declared.cost.Cost.TheVariants.{Fin, Inf}
use Rattle.bound_checker.specs.Certificates.{cost_text, read_lines}
use Rattle.bound_checker.specs.Lines.{lines_of}
use Rattle.bound_checker.specs.Tabled.{costs_of}
use Rattle.bound_checker.specs.Tests.{first_broken}
use Rattle.bound_checker.specs.declared.check.Broken.{Broken}
use Rattle.bound_checker.specs.declared.tables.Tables.{Tables}
use Rattle.module_reader.specs.Sources.{Files, file_text}
use Rattle.tagset_tool.specs.Outcomes.{Outcome, after, answering, refusing}
use Rattle.tagset_tool.specs.Refusals.{cert_malformed}
use Rattle.tagset_tool.specs.Words.{SetWords, both_by}

-- what v of the root says of all documents that separate
abbrev pub claim : Cost → List ℕ
claim Inf = codes "certified subset" ++ 10 ∷ []
claim (Fin n) = codes "certified at least " ++ (decimal n ++ 10 ∷ [])

-- the state of an inequality, where it has one, behind a space
abbrev pub state_word : Broken → List ℕ
state_word broken = if nat_le broken.kind 7 then codes " " ++ decimal broken.i else []

-- the state of the second, where it has one
abbrev pub other_word : Broken → List ℕ
other_word broken = if nat_le 5 broken.kind && nat_le broken.kind 7 then codes " " ++ decimal broken.j else []

abbrev pub element_name : Declarations → Broken → List ℕ
element_name first broken = option_map_or (λ name. name) (option_map name_of (slice_get first.elements broken.element)) []

abbrev pub step_name : Declarations → Broken → List ℕ
step_name first broken = option_map_or (λ s. s.0) (slice_get (steps_at first (slice_get first.elements broken.element) broken.i) broken.step) []

-- the name of the step, where it has one: kinds 2 to 4, 6 and 7
abbrev pub step_word : Declarations → Broken → List ℕ
step_word first broken =
    if nat_le broken.kind 1 then []
    else if nat_le 5 broken.kind && nat_le broken.kind 5 then []
    else if nat_le broken.kind 7 then codes " " ++ encode_utf8_all (step_name first broken)
    else []

-- the first inequality that fails, with both costs
abbrev pub broken_words : Declarations → Broken → List ℕ
broken_words first broken =
    codes "not certified " ++ (decimal broken.kind ++ (codes " " ++ (encode_utf8_all (element_name first broken)
    ++ (state_word broken ++ (other_word broken ++ (step_word first broken
    ++ (codes " " ++ (cost_text broken.left ++ (codes " " ++ (cost_text broken.right ++ 10 ∷ []))))))))))

abbrev pub checked : Declarations → Tables → Option Broken → Outcome
checked first tables None = answering 0 (claim ((costs_of first tables).v tables.root))
checked first tables (Some broken) = answering 1 (broken_words first broken)

-- the tables of the certificate, or the line that is not as needed
abbrev pub certified : Declarations → Declarations → List ℕ → Result Tables ℕ → Outcome
certified first second name (Err line) = refusing (cert_malformed name line)
certified first second name (Ok tables) = checked first tables (first_broken first second tables)

-- how many bytes a certificate has at most
abbrev pub most_certified : ℕ
most_certified = limit.CERTIFICATE_BYTES

-- over two sets
abbrev pub verifies_by : Files → List ℕ → Declarations → Declarations → Outcome
verifies_by files name first second = after (file_text most_certified files name) (λ text. certified first second name (read_lines first second (lines_of text)))

abbrev pub verifies : Files → List ℕ → SetWords → SetWords → Outcome
verifies files name one other = after (both_by files one other) (λ sets. verifies_by files name sets.0 sets.1)
