-- The node of an article, or the first fault, computed.
use Rattle.std.specs.Prelude.{ℕ, zero, suc, ◌+◌, ◌-◌, Bool, true, false, List, [], ◌∷◌, ◌++◌, length, drop, bytes_eq, Option, Some, None, option_map, option_and_then, Result, Ok, Err, nat_lt, nat_eq, codes, if◌then◌else◌}
use Rattle.std.specs.List.{starts_with}
use Rattle.jats_chars.specs.Classes.{is_space}
use Rattle.dtd_scanner.specs.Walk.{◌>>=◌, over}
use Rattle.text_fronts.specs.Fronts.{skipped, read_space, spaced_name}
use Rattle.declaration_bodies.specs.Identifiers.{read_ids}
use Rattle.entity_catalog.specs.declared.ids.Ids.{Ids}
use Rattle.jats_fault.specs.declared.fault.Fault.{Fault}
use Rattle.document_trees.specs.Trees.{Attribute, Items, Node}
use Rattle.document_trees.specs.Trees as tree
use Rattle.decl_set.specs.Declarations.{Entity}
use Rattle.decl_set.specs.Values.{value_of, predefined, opening}
use Rattle.pe_expansion.specs.Expansion.{Written}
use Rattle.article_tree.specs.Content.{joined, filled}
use Rattle.article_tree.specs.Tokens.{Raw, Tag, Token, letter, section, coded, named, remark, instruction, start, stop}
use Rattle.article_tree.specs.Words.{Names, most_elements, repeated, is_misc}
use Rattle.article_tree.specs.Taking.{first_token}
use Rattle.article_tree.specs.Stops.{Standing, standing_in, refused, malformed, stopped}
use Rattle.jats_fault.specs.declared.numbers.TheConstants as number

-- an open element, and what stands before it in the one around it
pub record Open : Type 0 where
  pub name : List ℕ
  pub atts : List Attribute
  pub before : Items

-- the elements of this text that are open, the innermost first; the items so far in the innermost, or of the text; and
-- the count of included characters
pub record State : Type 0 where
  pub opens : List Open
  pub items : Items
  pub spent : ℕ

abbrev pub put : State → Items → State
put s items = record { opens = s.opens; items = joined s.items items; spent = s.spent }

-- what a text gives, with these names open and so many elements, standing there, behind so many included characters
abbrev pub Deeper : Type 0
Deeper = Names → ℕ → Standing → ℕ → List ℕ → Result (Items × ℕ) Fault

-- ---- tags

-- the values of attributes, in order, with the new count
abbrev pub with_first : List ℕ → Written → List Attribute × ℕ → List Attribute × ℕ
with_first name w r = ((name, w.text) ∷ r.0, r.1)

abbrev pub values : List Entity → Names → Standing → ℕ → ℕ → List Raw → Result (List Attribute × ℕ) Fault
values entities names c at spent [] = Ok ([], spent)
values entities names c at spent (raw ∷ raws) =
    stopped c at raw.0 (value_of entities names spent raw.1) >>= λ w. values entities names c at w.spent raws >>= λ r. Ok (with_first raw.0 w r)

-- an empty element is put, and another is open
abbrev pub entered : State → List ℕ → List Attribute → ℕ → Bool → State
entered s name atts spent true = put (record s { spent = spent }) (tree.element name atts tree.nothing tree.nothing)
entered s name atts spent false = record { opens = record { name = name; atts = atts; before = s.items } ∷ s.opens; items = tree.nothing; spent = spent }

abbrev pub unrepeated : ℕ → Standing → ℕ → State → Tag → List Attribute → ℕ → Option (List ℕ) → Result State Fault
unrepeated depth c at s tag atts spent (Some again) = Err (refused c at number.REPEATED_ATTRIBUTE (tag.name ∷ again ∷ []))
unrepeated depth c at s tag atts spent None =
    if nat_lt (depth + length s.opens) most_elements then Ok (entered s tag.name atts spent tag.closed) else Err (refused c at number.ELEMENT_TOO_DEEP (tag.name ∷ []))

abbrev pub started : List Entity → Names → ℕ → Standing → ℕ → State → Tag → Result State Fault
started entities names depth c at s tag =
    values entities names c at s.spent tag.atts >>= λ r. unrepeated depth c at s tag r.0 r.1 (repeated [] r.0)

-- the state behind the end of this element, with these around it
abbrev pub popped : State → Open → List Open → State
popped s o opens = record { opens = opens; items = joined o.before (tree.element o.name o.atts s.items tree.nothing); spent = s.spent }

-- an end tag ends the innermost element of this text
abbrev pub ended : Standing → ℕ → State → List ℕ → List Open → Result State Fault
ended c at s name [] = Err (malformed c at)
ended c at s name (o ∷ opens) =
    if bytes_eq o.name name then Ok (popped s o opens)
    else Err (refused c at number.TAG_MISMATCH (o.name ∷ name ∷ []))

-- ---- references to general entities

-- a predefined one, or another, whose text is content by itself
abbrev pub referred : List Entity → Deeper → Names → ℕ → Standing → ℕ → State → List ℕ → Option ℕ → Result State Fault
referred entities deeper names depth c at s name (Some char) = Ok (put s (tree.chars (char ∷ []) false tree.nothing))
referred entities deeper names depth c at s name None =
    stopped c at name (opening entities names s.spent name)
    >>= λ t. deeper (names ++ name ∷ []) (depth + length s.opens) (standing_in c at name) t.1 t.0
    >>= λ r. Ok (put (record s { spent = r.1 }) (filled r.0))

-- ---- content

abbrev pub done : List Entity → Deeper → Names → ℕ → Standing → ℕ → State → Token → Result State Fault
done entities deeper names depth c at s (letter char) = Ok (put s (tree.chars (char ∷ []) (is_space char) tree.nothing))
done entities deeper names depth c at s (section text) = Ok (put s (tree.chars text false tree.nothing))
done entities deeper names depth c at s (coded char) = Ok (put s (tree.chars (char ∷ []) false tree.nothing))
done entities deeper names depth c at s (named name) = referred entities deeper names depth c at s name (predefined name)
done entities deeper names depth c at s (remark text) = Ok (put s (tree.comment text tree.nothing))
done entities deeper names depth c at s (instruction target body) = Ok (put s (tree.pi target body tree.nothing))
done entities deeper names depth c at s (start tag) = started entities names depth c at s tag
done entities deeper names depth c at s (stop name) = ended c at s name s.opens

abbrev pub by_token : List Entity → Deeper → Names → ℕ → Standing → ℕ → State → List ℕ → Option (Token × List ℕ) → Result (State × ℕ) Fault
by_token entities deeper names depth c at s text None = Err (malformed c at)
by_token entities deeper names depth c at s text (Some x) = done entities deeper names depth c at s x.0 >>= λ v. Ok (v, length text - length x.1)

-- one token
abbrev pub content_step : List Entity → Deeper → Names → ℕ → Standing → ℕ → State → List ℕ → Result (State × ℕ) Fault
content_step entities deeper names depth c at s text = by_token entities deeper names depth c at s text (first_token text)

abbrev pub closed_by : Standing → ℕ → State → List Open → Result (Items × ℕ) Fault
closed_by c end s [] = Ok (s.items, s.spent)
closed_by c end s (o ∷ opens) = Err (malformed c end)

-- no element is open at the end of a text
abbrev pub closed : Standing → ℕ → State → Result (Items × ℕ) Fault
closed c end s = closed_by c end s s.opens

abbrev pub begun : ℕ → State
begun spent = record { opens = []; items = tree.nothing; spent = spent }

-- What a text gives, token by token, each text that it includes being one level deeper. A text at the last level includes
-- none, since 32 names are open there.
abbrev pub content : ℕ → List Entity → Deeper
content zero entities names depth c spent text = Err (malformed c 0)
content (suc levels) entities names depth c spent text =
    over (content_step entities (content levels entities) names depth c) 0 (begun spent) text >>= closed c (length text)

-- ---- the article

-- what was read of an article, and whether a DOCTYPE may still come
pub record Article : Type 0 where
  pub state : State
  pub typed : Bool

abbrev pub has_root : Items → Bool
has_root tree.nothing = false
has_root items = true

abbrev pub holding : Article → Result (State × ℕ) Fault → Result (Article × ℕ) Fault
holding a (Ok x) = Ok (record { state = x.0; typed = true }, x.1)
holding a (Err fault) = Err fault

-- what is no Misc behind the element, or begins nothing before it
abbrev pub misplaced : Standing → ℕ → Article → Fault
misplaced c at a = if has_root a.state.items then refused c at number.REST_AFTER_ROOT [] else refused c at number.ARTICLE_MALFORMED []

-- S Name, and S and an external identifier: the rest, behind S?
abbrev pub identified : List ℕ → Option (Ids × List ℕ) → List ℕ
identified text None = skipped text
identified text (Some x) = skipped x.1

abbrev pub type_end : List ℕ → Option (List ℕ)
type_end text = option_map (λ x. identified x.1 (option_and_then read_ids (read_space x.1))) (spaced_name text)

abbrev pub type_by : Standing → ℕ → Article → List ℕ → Option (List ℕ) → Result (Article × ℕ) Fault
type_by c at a text None = Err (refused c at number.ARTICLE_MALFORMED [])
type_by c at a text (Some rest) =
    if starts_with nat_eq rest (codes ">") then Ok (record a { typed = true }, length text - length (drop 1 rest))
    else if starts_with nat_eq rest (codes "[") then Err (refused c at number.INTERNAL_SUBSET [])
    else Err (refused c at number.ARTICLE_MALFORMED [])

-- a step over content
abbrev pub Stepping : Type 0
Stepping = ℕ → State → List ℕ → Result (State × ℕ) Fault

-- Misc before the element and behind it, and the start of the element
abbrev pub outside : Stepping → Standing → ℕ → Article → List ℕ → Option (Token × List ℕ) → Result (Article × ℕ) Fault
outside step c at a text None = Err (misplaced c at a)
outside step c at a text (Some (start tag, rest)) = if has_root a.state.items then Err (misplaced c at a) else holding a (step at a.state text)
outside step c at a text (Some (token, rest)) = if is_misc token then Ok (a, length text - length rest) else Err (misplaced c at a)

abbrev pub article_by : Stepping → Standing → ℕ → Article → List ℕ → List Open → Result (Article × ℕ) Fault
article_by step c at a text [] =
    if a.typed then outside step c at a text (first_token text)
    else if starts_with nat_eq text (codes "<!DOCTYPE") then type_by c at a text (type_end (drop 9 text))
    else outside step c at a text (first_token text)
article_by step c at a text (o ∷ opens) = holding a (step at a.state text)

abbrev pub article_step : Stepping → Standing → ℕ → Article → List ℕ → Result (Article × ℕ) Fault
article_step step c at a text = article_by step c at a text a.state.opens

-- the node is the element that was read
abbrev pub whole : Standing → ℕ → Items → List Open → Result Node Fault
whole c end (tree.element name atts inside later) [] = Ok (record { name = name; atts = atts; items = inside })
whole c end items opens = Err (refused c end 60 [])

abbrev pub unread : Article
unread = record { state = begun 0; typed = false }

-- the text of an article with this name
abbrev pub outermost : List ℕ → Standing
outermost article = record { article = article; inner = None }

-- what going over an article by such steps gives
abbrev pub article_with : Stepping → Standing → List ℕ → Result Node Fault
article_with step c text = over (article_step step c) 0 unread text >>= λ a. whole c (length text) a.state.items a.state.opens

-- the node of an article with this name and text, or the first fault
unfoldable pub article_of : List Entity → List ℕ → List ℕ → Result Node Fault
article_of entities article text = article_with (content_step entities (content 32 entities) [] 0 (outermost article)) (outermost article) text
