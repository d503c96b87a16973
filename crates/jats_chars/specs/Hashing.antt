-- What texts feed a hasher.
use Rattle.std.specs.Prelude.{ℕ, List, length, if◌then◌else◌, nat_le}
use Rattle.std.specs.List.{fold}
use Rattle.std.specs.Hash as fed
use Rattle.std.specs.Hash.{HashWrites}
use Rattle.std.specs.Hash.DefaultHasher as sip

-- the number that SipHash-1-3, with both keys 0, gives for these characters
abbrev pub digest : List ℕ → ℕ
digest cs = sip.finish (fold sip.write sip.initial (fed.slice fed.char cs))

-- these characters where they are few, else their number
abbrev pub fed_text : List ℕ → HashWrites
fed_text cs = if nat_le (length cs) 16 then fed.slice fed.char cs else fed.u64 (digest cs)
