-- The refusals that the commands make themselves; those without a file are of no module.
use Rattle.std.specs.Prelude.{ℕ, List, [], ◌∷◌, codes}
use Rattle.jats_fault.specs.declared.fault.Fault.{Fault}
use Rattle.module_reader.specs.Stops.{refusal}
use Rattle.jats_fault.specs.declared.numbers.TheConstants as number

-- the first of two sets does not declare the root
abbrev pub root_undeclared : List ℕ → Fault
root_undeclared root = refusal number.ROOT_UNDECLARED (codes "-") 0 (root ∷ [])

-- the listed pairs of two sets are too many at this element
abbrev pub pairs_over : List ℕ → Fault
pairs_over name = refusal number.PAIRS_OVER (codes "-") 0 (name ∷ [])

-- a line of a certificate is not as needed; its number stands for the place
abbrev pub cert_malformed : List ℕ → ℕ → Fault
cert_malformed name line = refusal number.CERT_MALFORMED name line []

-- the output is longer than an output may be
abbrev pub output_over : Fault
output_over = refusal number.OUTPUT_OVER (codes "-") 0 []
