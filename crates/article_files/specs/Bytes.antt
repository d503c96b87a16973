-- The bytes of a file of a store, and the article that they are.
use Rattle.std.specs.Prelude.{ℕ, List, [], length, nat_lt, Option, Some, None, Result, Ok, Err, if◌then◌else◌}
use Rattle.jats_chars.specs.declared.limits.TheConstants as limit
use Rattle.dtd_scanner.specs.Walk.{◌>>=◌}
use Rattle.jats_fault.specs.declared.fault.Fault.{Fault}
use Rattle.jats_fault.specs.declared.numbers.TheConstants as number
use Rattle.jats_io.specs.Loads.{held}
use Rattle.document_trees.specs.Trees.{Node}
use Rattle.decl_set.specs.Declarations.{Entity}
use Rattle.module_reader.specs.Sources.{Files}
use Rattle.module_reader.specs.Stops.{refusal}
use Rattle.article_tree.specs.Decoding.{article_from}

-- what is held of a file, which may be no more bytes than this
abbrev pub bytes_held : ℕ → List ℕ → Option (List ℕ) → Result (List ℕ) Fault
bytes_held limit name None = Err (refusal number.MODULE_ABSENT name 0 [])
bytes_held limit name (Some bytes) = if nat_lt limit (length bytes) then Err (refusal number.MODULE_LONG name 0 []) else Ok bytes

-- the bytes of a file, or why there are none
unfoldable pub file_bytes : ℕ → Files → List ℕ → Result (List ℕ) Fault
file_bytes limit files name = bytes_held limit name (held files name)

-- how many bytes an article has at most
abbrev pub most_bytes : ℕ
most_bytes = limit.ARTICLE_BYTES

-- the node of the article of a file, with these general entities, or the first fault
abbrev pub article_in : Files → List Entity → List ℕ → Result Node Fault
article_in files entities name = file_bytes most_bytes files name >>= article_from entities name
