use Rattle.std.proofs.Common.{◌≡◌, ◌+◌, ◌-◌, ◌≤◌, length, drop, vec_len, vec_capacity}
use Rattle.bstr.specs.Utf8.{pieces}
use Rattle.jats_chars.specs.Decoded.{lined, chars_of}
use Rattle.jats_chars.proofs.Ends.{ended, behind}
use Rattle.jats_chars.proofs.decoding.read_chars.Given as goal

abbrev pub invariant-loop-at : goal.invariant-loop-at
invariant-loop-at l = record {
  within : l.at ≤ length l.bytes;
  len : vec_len l.chars ≤ l.at;
  room : vec_capacity l.chars ≡ length l.bytes;
  so_far : lined (chars_of l.fn.start (pieces l.bytes)) ≡ behind l.chars.items (ended l.after_cr (chars_of (l.fn.start + l.at) (pieces (drop l.at l.bytes))));
}

abbrev pub decreases-loop-at : goal.decreases-loop-at
decreases-loop-at l = length l.initial.bytes - l.at
