use Rattle.std.proofs.Common.{◌≡◌, ◌+◌, ◌++◌, take, vec_len, vec_capacity}
use Rattle.jats_chars.proofs.decoding.put_plain.Given as goal

abbrev pub invariant-loop-byte : goal.invariant-loop-byte
invariant-loop-byte l = record {
  items : l.chars.items ≡ l.initial.chars.items ++ take l.byte-index l.run;
  len : vec_len l.chars ≡ vec_len l.initial.chars + l.byte-index;
  room : vec_capacity l.chars ≡ vec_capacity l.initial.chars;
}
