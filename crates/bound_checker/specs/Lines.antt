-- Texts as lines that LF ends.
use Rattle.std.specs.Prelude.{◌≡◌, ℕ, ◌==◌, true, not, List, [], ◌∷◌, ◌++◌, Option, Some, None, Ok, if◌then◌else◌}
use Rattle.std.specs.List.{AllByRecursion, list_all}
use Rattle.decl_set.specs.Asked.{IsKept}
use Rattle.decl_set.specs.Declarations.{Declarations, Element}
use Rattle.bound_checker.specs.declared.tables.Row.{Row}
use Rattle.bound_checker.specs.declared.tables.Tables.{Tables}
use Rattle.bound_checker.specs.Tabled.{Fits}
use Rattle.bound_checker.specs.Certificates.{element_head, costs_text, state_lines, pair_lines, cert_lines, read_lines, AreShort, IsBeside}

-- the lines one after the other, each with LF
abbrev pub joined : List (List ℕ) → List ℕ
joined [] = []
joined (x ∷ xs) = x ++ (0xA ∷ joined xs)

-- a character in front of the first line
abbrev pub onto : ℕ → List (List ℕ) → List (List ℕ)
onto c [] = (c ∷ []) ∷ []
onto c (x ∷ xs) = (c ∷ x) ∷ xs

-- the lines of a text; what stands behind the last LF is one where it is not empty
abbrev pub lines_of : List ℕ → List (List ℕ)
lines_of [] = []
lines_of (c ∷ cs) = if c == 0xA then [] ∷ lines_of cs else onto c (lines_of cs)

-- the line holds no LF
abbrev pub IsInline : List ℕ → Type 0
IsInline line = list_all (λ c. not (c == 0xA)) line ≡ true

-- the line was appended, with LF
abbrev pub PutsLine : List ℕ → List ℕ → List ℕ → Type 0
PutsLine old new line = new ≡ old ++ (line ++ 0xA ∷ [])

-- so were these lines, which stand in front of any others
abbrev pub PutsLines : List ℕ → List ℕ → (List (List ℕ) → List (List ℕ)) → Type 0
PutsLines old new lines = (rest : List (List ℕ)) → new ++ joined rest ≡ old ++ joined (lines rest)

-- the lines of a row, where there are an element and a row, in front of others
abbrev pub row_lines_at : Option Element → Option Row → List (List ℕ) → List (List ℕ)
row_lines_at None row rest = rest
row_lines_at (Some e) None rest = rest
row_lines_at (Some e) (Some row) rest =
    (element_head e.0 ++ costs_text row.m row.v) ∷ state_lines 0 row.states (pair_lines row.pairs rest)

-- the text of a certificate reads back
abbrev pub TextReadsBack : Type 0
TextReadsBack =
    (first second : Declarations) (tables : Tables) → IsKept first → Fits first second tables → AllByRecursion AreShort tables.rows
    → read_lines first second (lines_of (joined (cert_lines first tables))) ≡ Ok tables

-- so does the text of one that stands between lines before it and any text behind it
abbrev pub TextIsFound : Type 0
TextIsFound =
    (first second : Declarations) (tables : Tables) (before : List (List ℕ)) (behind : List ℕ) → IsKept first → Fits first second tables → AllByRecursion AreShort tables.rows
    → AllByRecursion IsInline before → AllByRecursion IsBeside before
    → read_lines first second (lines_of (joined before ++ (joined (cert_lines first tables) ++ behind))) ≡ Ok tables
