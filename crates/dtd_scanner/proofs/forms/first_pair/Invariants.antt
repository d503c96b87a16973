use Rattle.std.proofs.Common.{◌≡◌, ◌+◌, ◌-◌, drop}
use Rattle.std.specs.Option.{option_map}
use Rattle.dtd_scanner.specs.Scanning.{first_pair}
use Rattle.dtd_scanner.proofs.forms.first_pair.Given as goal

-- the first place is the first one from here on
abbrev pub invariant-loop-at : goal.invariant-loop-at
invariant-loop-at l = first_pair l.first l.second l.text ≡ option_map (λ k. k + (l.at - 1)) (first_pair l.first l.second (drop (l.at - 1) l.text))
