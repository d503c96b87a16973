-- What a run leaves where a write fails.
use Rattle.std.proofs.Common.{◌≡◌, ℕ, List, [], Some, None, take, sym}
use Rattle.std.specs.Prelude.{Option}
use Rattle.jats_io.specs.Writes.{Appended}
use Rattle.tagset_tool.specs.Runs.{Leaves}

pub leaves_cut : (before now : Option (List ℕ)) (bytes : List ℕ) (count : ℕ) → Appended count before now bytes → Leaves before now 5
leaves_cut None now bytes count appended = record { bytes = []; appended = appended; says = record { refusal = λ e. absurd (let off : 5 ≡ 2 = e in cc); usage = λ e. absurd (let off : 5 ≡ 3 = e in cc) } }
leaves_cut (Some b) now bytes count appended = record { bytes = take count bytes; appended = appended; says = record { refusal = λ e. absurd (let off : 5 ≡ 2 = e in cc); usage = λ e. absurd (let off : 5 ≡ 3 = e in cc) } }
