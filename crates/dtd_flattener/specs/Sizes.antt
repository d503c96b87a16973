-- How many bytes a text takes.
use Rattle.std.specs.Prelude.{ℕ, ◌-◌, ◌^◌, List, length, min, encode_utf8_all}

-- the number of bytes in UTF-8
unfoldable pub size_of : List ℕ → ℕ
size_of text = length (encode_utf8_all text)

-- the number, or the last value of a counter where it is greater
abbrev pub capped : ℕ → ℕ
capped n = min n (2 ^ 64 - 1)
