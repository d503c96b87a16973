-- The lines of refusals.
use Rattle.std.specs.Prelude.{ℕ, List, [], ◌∷◌, ◌++◌, codes, unwrap_or, encode_utf8_all}
use Rattle.std.specs.Fmt.{decimal}
use Rattle.jats_fault.specs.Table.{head, name_of}
use Rattle.jats_fault.specs.declared.fault.Fault.{Fault}

-- a text behind a space, in UTF-8
abbrev pub spaced : List ℕ → List ℕ
spaced text = codes " " ++ encode_utf8_all text

abbrev pub spaced_all : List (List ℕ) → List ℕ
spaced_all [] = []
spaced_all (text ∷ texts) = spaced text ++ spaced_all texts

-- the number, the name, the module, the offset and each detail, parted by spaces, and LF
abbrev pub line_of : Fault → List ℕ
line_of fault =
    head fault.number ++ (unwrap_or (name_of fault.number) [] ++ (spaced fault.place.module ++ (codes " " ++ (decimal fault.place.offset ++ (spaced_all fault.details ++ 0xA ∷ [])))))
