-- The names in references.
use Rattle.std.proofs.Common.{◌≡◌, ℕ, ◌+◌, ◌-◌, ◌<◌, List, drop, true, arith}
use Rattle.jats_chars.specs.Names.{is_name}
use Rattle.dtd_scanner.specs.Scanning.{name_len}
use Rattle.dtd_scanner.specs.References.{named}
use Rattle.dtd_scanner.proofs.Targets.{name_found}

pub reference_name : (text : List ℕ) (n : ℕ) → n ≡ name_len (drop 1 text) → 0 < n → is_name (named (n + 2) text) ≡ true
reference_name text n is some =
    let e : n + 2 - 2 ≡ n = omega arith in
    rw (e, is) (name_found (drop 1 text) (rw is at some))
