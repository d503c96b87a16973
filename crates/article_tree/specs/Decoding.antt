-- The node of an article from its bytes.
use Rattle.std.specs.Prelude.{◌≡◌, ℕ, List, [], Result, Ok, Err, IsTrue}
use Rattle.jats_chars.specs.Decoded.{text_of}
use Rattle.jats_chars.specs.declared.decoding.DecodeFault.{DecodeFault}
use Rattle.jats_chars.specs.declared.decoding.DecodeFault.TheVariants as decoding
use Rattle.jats_fault.specs.declared.fault.Fault.{Fault}
use Rattle.jats_fault.specs.Table.{table, has_number}
use Rattle.document_trees.specs.Trees.{Node}
use Rattle.decl_set.specs.Declarations.{Entity}
use Rattle.article_tree.specs.Faults.{is_article_number}
use Rattle.article_tree.specs.Outcomes.{Refuses}
use Rattle.article_tree.specs.Reading.{article_of}
use Rattle.article_tree.specs.declared.stops.ArticleFault.{ArticleFault}
use Rattle.article_tree.specs.declared.stops.ArticleFault.TheVariants.{Refused, NoMemory}

-- a refusal of the bytes, at a place in bytes
abbrev pub undecoded : List ℕ → ℕ → ℕ → Fault
undecoded article number byte = record { number = number; place = record { «module» = article; offset = byte }; details = [] }

-- why bytes are no text
abbrev pub decode_stop : List ℕ → DecodeFault → Fault
decode_stop article (decoding.NotUtf8 byte) = undecoded article 13 byte
decode_stop article (decoding.NotChar byte) = undecoded article 14 byte
decode_stop article decoding.BadTextDecl = undecoded article 15 0
decode_stop article decoding.EncodingOther = undecoded article 16 0
decode_stop article decoding.NoMemory = undecoded article 15 0

abbrev pub decoded_article : List Entity → List ℕ → Result (List ℕ) DecodeFault → Result Node Fault
decoded_article entities article (Ok text) = article_of entities article text
decoded_article entities article (Err fault) = Err (decode_stop article fault)

-- the node of an article with this name and these bytes, or the first fault
abbrev pub article_from : List Entity → List ℕ → List ℕ → Result Node Fault
article_from entities article bytes = decoded_article entities article (text_of bytes)

-- the refusal for what stops decoding
abbrev pub StopsDecoding : List ℕ → DecodeFault → ArticleFault → Type 0
StopsDecoding article decoding.NoMemory answer = answer ≡ NoMemory
StopsDecoding article fault answer = Refuses (decode_stop article fault) answer

-- a refusal has a number of the table, which is one of an article
abbrev pub HasRow : {X : Type 0} → Result X ArticleFault → Type 0
HasRow (Ok x) = Unit {0}
HasRow (Err (Refused refusal)) = IsTrue (has_number table refusal.number) × IsTrue (is_article_number refusal.number)
HasRow (Err NoMemory) = Unit {0}
