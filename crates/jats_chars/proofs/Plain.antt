-- Bytes of ASCII that are no control characters.
use Rattle.std.proofs.Common.{◌≡◌, ℕ, ◌<◌, ◌≤◌, true, List, length, Some, refl, arith}
use Rattle.std.specs.Prelude.{slice_index}
use Rattle.bstr.specs.Utf8.{good, decoded}
use Rattle.bstr.proofs.lemmas.PieceLemmas.{value-1}
use Rattle.std.proofs.lemmas.Bool.Decides.{nat_tests}
use Rattle.jats_chars.specs.Classes.{is_char}

plain : (bs : List ℕ) → 0 < length bs → slice_index bs 0 < 0x80 → decoded bs ≡ good (slice_index bs 0) 1
plain bs some low = value-1 (length bs) (slice_index bs 0) (slice_index bs 1) (slice_index bs 2) (slice_index bs 3) (some, low)

pub plain_char : (bs : List ℕ) → 0 < length bs → slice_index bs 0 < 0x80 → (decoded bs).char ≡ Some (slice_index bs 0)
plain_char bs some low = rw (plain bs some low)

pub plain_size : (bs : List ℕ) → 0 < length bs → slice_index bs 0 < 0x80 → (decoded bs).size ≡ 1
plain_size bs some low = rw (plain bs some low)

pub plain_is_char : (b : ℕ) → 0x20 ≤ b → b < 0x80 → is_char b ≡ true
unfolding is_char
plain_is_char b low high = grind (arith, nat_tests)

pub line_feed_is_char : is_char 0xA ≡ true
unfolding is_char
line_feed_is_char = refl
