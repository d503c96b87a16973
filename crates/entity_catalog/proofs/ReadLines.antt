-- The lines of a catalog, one more at a time.
use Rattle.std.proofs.Common.{◌≡◌, ◌∙◌, ℕ, ◌+◌, Bool, true, false, cond, not, List, [], ◌∷◌, ◌++◌, length, filter, Some, None, Ok, Err, bytes_eq, is_some, if◌then◌else◌, refl, ap, sym, append-nil, append_assoc, arith}
use Rattle.std.specs.Prelude.{Option, Result}
use Rattle.std.specs.Option.{option_or}
use Rattle.std.specs.List.{filter_map, cons_option}
use Rattle.std.specs.Cmp.Lexicographic.{nat_list_eq_equiv}
use Rattle.std.proofs.lemmas.List.Elements.{filter-append, filter_map-append}
use Rattle.std.proofs.lemmas.Map.Entries.{lookup-filter-keys}
use Rattle.entity_catalog.specs.Lines.{Line}
use Rattle.entity_catalog.specs.Named.{Named, Files, file_of}
use Rattle.entity_catalog.specs.Catalogs.{system_in, public_in, fault_of, first_fault, firsts, named_in, read_lines}
use Rattle.entity_catalog.specs.Steps.{with_first, with_each, with_line, ReadsLine}
use Rattle.entity_catalog.specs.declared.faults.CatalogFault.{CatalogFault}
use Rattle.entity_catalog.specs.declared.faults.CatalogFault.TheVariants.{Malformed, PathEscapes, NoMemory}
use Rattle.entity_catalog.specs.Outcomes.{Reads}
use Rattle.entity_catalog.proofs.Yielded.{StandsAt}

or_assoc : {A : Type 0} (a b c : Option A) → option_or (option_or a b) c ≡ option_or a (option_or b c)
or_assoc None b c = refl
or_assoc (Some x) b c = refl

first_fault-append : (place : List ℕ) (n : ℕ) (lines more : List Line) → first_fault place n (lines ++ more) ≡ option_or (first_fault place n lines) (first_fault place (n + length lines) more)
first_fault-append place n [] more = ap (λ m. first_fault place m more) (omega arith)
first_fault-append place n (line ∷ lines) more =
    let counted : n + 1 + length lines ≡ n + length (line ∷ lines) = omega arith in
    ap (option_or (fault_of place n line)) (first_fault-append place (n + 1) lines more ∙ ap (λ m. option_or (first_fault place (n + 1) lines) (first_fault place m more)) counted)
    ∙ sym (or_assoc (fault_of place n line) (first_fault place (n + 1) lines) (first_fault place (n + length (line ∷ lines)) more))

swapped : (a b : List ℕ) → bytes_eq a b ≡ bytes_eq b a
swapped a b = nat_list_eq_equiv.symm a b

abbrev later_than : List ℕ → (List ℕ × List ℕ) → Bool
later_than first later = not (bytes_eq first later.0)

-- what is found without the files of another identifier
file_of-filter : (identifier first : List ℕ) (files : Files) → bytes_eq identifier first ≡ false → file_of (filter (later_than first) files) identifier ≡ file_of files identifier
file_of-filter identifier first files other =
    lookup-filter-keys (bytes_eq identifier) (λ k. not (bytes_eq first k)) true
    (λ k is. ap not (swapped first k ∙ sym (nat_list_eq_equiv.congr identifier k first is) ∙ other)) files

-- the files of first lines name what all lines name
pub file_of-firsts : (identifier : List ℕ) (files : Files) → file_of (firsts files) identifier ≡ file_of files identifier
file_of-firsts identifier [] = refl
file_of-firsts identifier (file ∷ files) = by (bytes_eq identifier file.0) refl (file_of-firsts identifier files)
  where
    by : (b : Bool) → bytes_eq identifier file.0 ≡ b → file_of (firsts files) identifier ≡ file_of files identifier → cond b (Some file.1) (file_of (filter (later_than file.0) (firsts files)) identifier) ≡ cond b (Some file.1) (file_of files identifier)
    by true e rest = refl
    by false e rest = file_of-filter identifier file.0 (firsts files) e ∙ rest

abbrev chosen : Bool → Files → (List ℕ × List ℕ) → Files
chosen known files file = if known then files else files ++ file ∷ []

without_late : (first file : List ℕ × List ℕ) (files : Files) (b s : Bool) → bytes_eq file.0 first.0 ≡ b → is_some (file_of files file.0) ≡ s
    → first ∷ filter (later_than first.0) (chosen s files file) ≡ chosen (is_some (cond b (Some first.1) (file_of (filter (later_than first.0) files) file.0))) (first ∷ filter (later_than first.0) files) file
without_late first file files true true e known = refl
without_late first file files true false e known = ap (λ more. first ∷ more) (filter-append (later_than first.0) files (file ∷ []) ∙ rw (swapped first.0 file.0, e) (append-nil _))
without_late first file files false true e known = rw (file_of-filter file.0 first.0 files e, known) refl
without_late first file files false false e known =
    ap (λ more. first ∷ more) (filter-append (later_than first.0) files (file ∷ []))
    ∙ rw (file_of-filter file.0 first.0 files e, known, swapped first.0 file.0, e) refl

-- one file more
pub firsts-push : (files : Files) (file : List ℕ × List ℕ) → firsts (files ++ file ∷ []) ≡ with_first (firsts files) file
firsts-push [] file = refl
firsts-push (first ∷ files) file =
    ap (λ more. first ∷ filter (later_than first.0) more) (firsts-push files file)
    ∙ without_late first file (firsts files) (bytes_eq file.0 first.0) (is_some (file_of (firsts files) file.0)) refl refl

module _ (h : Line → Option (List ℕ × List ℕ)) where
  -- first lines, one line more
  firsts-line : (lines : List Line) (line : Line) → firsts (filter_map h (lines ++ line ∷ [])) ≡ with_each (firsts (filter_map h lines)) (h line)
  firsts-line lines line = ap firsts (filter_map-append h lines (line ∷ [])) ∙ by (h line)
    where
      by : (o : Option (List ℕ × List ℕ)) → firsts (filter_map h lines ++ cons_option o []) ≡ with_each (firsts (filter_map h lines)) o
      by None = ap firsts (append-nil (filter_map h lines))
      by (Some file) = firsts-push (filter_map h lines) file

-- what is named, one line more
pub named_in-push : (place : List ℕ) (lines : List Line) (line : Line) → named_in place (lines ++ line ∷ []) ≡ with_line place (named_in place lines) line
named_in-push place lines line = λ i. record { systems = firsts-line (system_in place) lines line i; publics = firsts-line (public_in place) lines line i }

-- no fault, one line more
pub first_fault-push : (place : List ℕ) (lines : List Line) (n : ℕ) (line : Line) → n ≡ length lines → first_fault place 1 lines ≡ None → fault_of place (n + 1) line ≡ None → first_fault place 1 (lines ++ line ∷ []) ≡ None
first_fault-push place lines n line counted before here =
    let at : 1 + length lines ≡ n + 1 = omega arith in
    first_fault-append place 1 lines (line ∷ []) ∙ rw (before, at, here) refl

-- the first fault
pub first_fault-at : (place : List ℕ) {all before : List Line} {line : Line} {fault : CatalogFault} (n : ℕ) → StandsAt all before line → n ≡ length before → first_fault place 1 before ≡ None → fault_of place (n + 1) line ≡ Some fault → read_lines place all ≡ Err fault
first_fault-at place {all} {before} {line} {fault} n stands counted none here =
    let at : 1 + length before ≡ n + 1 = omega arith in
    let whole : before ++ line ∷ stands.rest ≡ all = sym (append_assoc before (line ∷ []) stands.rest) ∙ stands.whole in
    ap (read_lines place) (sym whole) ∙ rw (first_fault-append place 1 before (line ∷ stands.rest), none, at, here) refl

-- no fault at all
pub read_lines-named : (place : List ℕ) (lines : List Line) → first_fault place 1 lines ≡ None → read_lines place lines ≡ Ok (named_in place lines)
read_lines-named place lines none = rw none refl

-- a fault of a line is the catalog's, except for want of memory
pub Reads-line : (told : Result Named CatalogFault) (fault : Option CatalogFault) (line_told named : Named) (e : CatalogFault) → ((f : CatalogFault) → fault ≡ Some f → told ≡ Err f) → ReadsLine fault line_told named (Err e) → Reads told (Err e)
Reads-line told fault line_told named (Malformed n) is h = is (Malformed n) h
Reads-line told fault line_told named (PathEscapes n) is h = is (PathEscapes n) h
Reads-line told fault line_told named NoMemory is h = tt
