use Rattle.std.proofs.Common.{◌≡◌, ◌++◌, take, encode_utf8_all}
use Rattle.std.specs.Prelude.{string_bytes}
use Rattle.dtd_flattener.proofs.writing.put_chars.Given as goal

abbrev pub invariant-loop-c : goal.invariant-loop-c
invariant-loop-c l = string_bytes l.out ≡ string_bytes l.initial.out ++ encode_utf8_all (take l.c-index l.text)
