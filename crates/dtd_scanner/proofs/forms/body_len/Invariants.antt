use Rattle.std.proofs.Common.{◌≡◌, ◌+◌, drop, None}
use Rattle.std.specs.Option.{option_map}
use Rattle.dtd_scanner.specs.Scanning.{body_len}
use Rattle.dtd_scanner.proofs.forms.body_len.Given as goal

-- the place is the first one from here on, with this quote open
abbrev pub invariant-loop-at : goal.invariant-loop-at
invariant-loop-at l = body_len None l.text ≡ option_map (λ k. k + l.at) (body_len l.quote (drop l.at l.text))
