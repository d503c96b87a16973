-- What words ask for.
use Rattle.std.specs.Prelude.{ℕ, ◌+◌, Bool, ◌==◌, ◌&&◌, List, [], length, Option, Some, None, Result, Ok, bytes_eq, codes, is_some, nat_le, option_and_then, slice_index_or, if◌then◌else◌}
use Rattle.jats_chars.specs.declared.limits.TheConstants as limit
use Rattle.std.specs.Option.{option_map_or}
use Rattle.dtd_scanner.specs.Walk.{◌>>=◌}
use Rattle.jats_fault.specs.declared.fault.Fault.{Fault}
use Rattle.bound_checker.specs.Spelled.{short_number_in}
use Rattle.decl_set.specs.Declarations.{Declarations}
use Rattle.module_reader.specs.Sets.{set_of}
use Rattle.module_reader.specs.Sources.{Files}

-- what names a set: the file of a catalog, where there is one, and the entry
pub record SetWords : Type 0 where
  pub catalog : Option (List ℕ)
  pub entry : List ℕ

-- what words ask for
pub data Asked : Type 0 where
  check : SetWords → Asked
  flatten : SetWords → Asked
  validate : SetWords → (root article : List ℕ) → Asked
  fill : SetWords → (article : List ℕ) → Asked
  compare : (first second : SetWords) (root : List ℕ) (cap : ℕ) → Asked
  report : (first second : SetWords) (root : List ℕ) → Asked
  least : SetWords → (root : List ℕ) (cap : ℕ) → Asked
  verify : (certificate : List ℕ) (first second : SetWords) → Asked
  work : (count : ℕ) → Asked

abbrev pub word : List (List ℕ) → ℕ → List ℕ
word words k = slice_index_or words k []

-- `-` names no catalog
abbrev pub catalog_word : List ℕ → Option (List ℕ)
catalog_word word = if bytes_eq word (codes "-") then None else Some word

-- the catalog at a place of the words, and the entry behind it
abbrev pub set_words : List (List ℕ) → ℕ → SetWords
set_words words k = record { catalog = catalog_word (word words k); entry = word words (k + 1) }

-- a cap: a number without leading zeros, of at most 100,000
abbrev pub cap_in : List ℕ → Option ℕ
cap_in word = option_and_then (λ n. if nat_le n limit.CAP then Some n else None) (short_number_in word)

abbrev pub cap_or_0 : List ℕ → ℕ
cap_or_0 word = option_map_or (λ n. n) (cap_in word) 0

-- check CATALOG ENTRY
abbrev pub is_check : List (List ℕ) → Bool
is_check words = length words == 3 && bytes_eq (word words 0) (codes "check")

-- flatten CATALOG ENTRY
abbrev pub is_flatten : List (List ℕ) → Bool
is_flatten words = length words == 3 && bytes_eq (word words 0) (codes "flatten")

-- validate CATALOG ENTRY ROOT ARTICLE
abbrev pub is_validate : List (List ℕ) → Bool
is_validate words = length words == 5 && bytes_eq (word words 0) (codes "validate")

-- fill CATALOG ENTRY ARTICLE
abbrev pub is_fill : List (List ℕ) → Bool
is_fill words = length words == 4 && bytes_eq (word words 0) (codes "fill")

-- compare CATALOG1 FIRST CATALOG2 SECOND ROOT CAP
abbrev pub is_compare : List (List ℕ) → Bool
is_compare words = length words == 7 && (bytes_eq (word words 0) (codes "compare") && is_some (cap_in (word words 6)))

-- report CATALOG1 FIRST CATALOG2 SECOND ROOT
abbrev pub is_report : List (List ℕ) → Bool
is_report words = length words == 6 && bytes_eq (word words 0) (codes "report")

-- least CATALOG ENTRY ROOT CAP
abbrev pub is_least : List (List ℕ) → Bool
is_least words = length words == 5 && (bytes_eq (word words 0) (codes "least") && is_some (cap_in (word words 4)))

-- verify CERT CATALOG1 FIRST CATALOG2 SECOND
abbrev pub is_verify : List (List ℕ) → Bool
is_verify words = length words == 6 && bytes_eq (word words 0) (codes "verify")

-- a number of elements: without leading zeros, from 1 to 1,000
abbrev pub count_in : List ℕ → Option ℕ
count_in word = option_and_then (λ n. if nat_le 1 n && nat_le n 1000 then Some n else None) (short_number_in word)

abbrev pub count_or_1 : List ℕ → ℕ
count_or_1 word = option_map_or (λ n. n) (count_in word) 1

-- work N
abbrev pub is_work : List (List ℕ) → Bool
is_work words = length words == 2 && (bytes_eq (word words 0) (codes "work") && is_some (count_in (word words 1)))

abbrev pub asked : List (List ℕ) → Option Asked
asked words =
    if is_check words then Some (check (set_words words 1))
    else if is_flatten words then Some (flatten (set_words words 1))
    else if is_validate words then Some (validate (set_words words 1) (word words 3) (word words 4))
    else if is_fill words then Some (fill (set_words words 1) (word words 3))
    else if is_compare words then Some (compare (set_words words 1) (set_words words 3) (word words 5) (cap_or_0 (word words 6)))
    else if is_report words then Some (report (set_words words 1) (set_words words 3) (word words 5))
    else if is_least words then Some (least (set_words words 1) (word words 3) (cap_or_0 (word words 4)))
    else if is_verify words then Some (verify (word words 1) (set_words words 2) (set_words words 4))
    else if is_work words then Some (work (count_or_1 (word words 1)))
    else None

-- the set that words name, or the first refusal
abbrev pub set_by : Files → SetWords → Result Declarations Fault
set_by files words = set_of files words.catalog words.entry

-- two sets, the one after the other
abbrev pub both_by : Files → SetWords → SetWords → Result (Declarations × Declarations) Fault
both_by files one other = set_by files one >>= λ first. set_by files other >>= λ second. Ok (first, second)
