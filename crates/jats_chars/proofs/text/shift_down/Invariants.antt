use Rattle.std.proofs.Common.{◌≡◌, ◌+◌, ◌<◌, ◌≤◌, ℕ, get_or, vec_len}
use Rattle.jats_chars.proofs.text.shift_down.Given as goal

-- what is behind stands in front, up to k
abbrev pub invariant-loop-k : goal.invariant-loop-k
invariant-loop-k l = record {
  len : vec_len l.chars ≡ vec_len l.fn.chars;
  moved : (j d : ℕ) → j < l.k → get_or l.chars.items j d ≡ get_or l.fn.chars.items (l.dropped + j) d;
  kept : (j d : ℕ) → l.k ≤ j → get_or l.chars.items j d ≡ get_or l.fn.chars.items j d;
}
