-- The declaration that is read is the one that is written.
use Rattle.std.specs.Prelude.{◌≡◌, ℕ, List, Some}
use Rattle.attlist_merge.specs.declared.raw.RawAttList.{RawAttList}
use Rattle.attlist_merge.specs.Grammar.{IsAttlist}
use Rattle.attlist_merge.specs.Reading.{raw_list_of}

-- what is read from a body is written by it
abbrev pub ReadIsWritten : Type 0
ReadIsWritten = (body : List ℕ) (raw : RawAttList) → raw_list_of body ≡ Some raw → IsAttlist body raw

-- what a body writes is read from it
abbrev pub WrittenIsRead : Type 0
WrittenIsRead = (body : List ℕ) (raw : RawAttList) → IsAttlist body raw → raw_list_of body ≡ Some raw
