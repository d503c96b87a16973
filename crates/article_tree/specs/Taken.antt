-- Tokens as the program holds them, lent from the text.
use Rattle.std.specs.Prelude.{◌≡◌, ◌<◌, ◌≤◌, ◌+◌, ◌-◌, ℕ, Bool, List, length, drop, map, Option, Some, None}
use Rattle.article_tree.specs.Taking.{first_token}
use Rattle.article_tree.specs.Tokens.{Raw, Tag, Token, letter, section, coded, named, remark, instruction, start, stop}
use Rattle.article_tree.specs.declared.token.TagAtt.{TagAtt}
use Rattle.article_tree.specs.declared.token.Attributes.{Attributes}
use Rattle.article_tree.specs.declared.token.StartTag.{StartTag}
use Rattle.article_tree.specs.declared.token.Lent.{Lent}
use Rattle.article_tree.specs.declared.token.Lent.TheVariants as lent

abbrev pub raw_of : TagAtt → Raw
raw_of a = (a.name.now, a.value.now)

abbrev pub attributes_of : Attributes → List Raw × Bool
attributes_of a = (map raw_of a.atts.items, a.closed)

abbrev pub tag_of : StartTag → Tag
tag_of tag = record { name = tag.name.now; atts = map raw_of tag.atts.items; closed = tag.closed }

abbrev pub token_of : Lent → Token
token_of (lent.Letter c) = letter c
token_of (lent.Section inside) = section inside.now
token_of (lent.Coded c) = coded c
token_of (lent.Named name) = named name.now
token_of (lent.Remark inside) = remark inside.now
token_of (lent.Instruction target body) = instruction target.now body.now
token_of (lent.Start tag) = start (tag_of tag)
token_of (lent.Stop name) = stop name.now

-- a token stands at a place of a text, and this is the place behind it
pub record StandsAt (text : List ℕ) (at : ℕ) (token : Token) (next : ℕ) : Type 0 where
  pub rest : List ℕ
  pub is : first_token (drop at text) ≡ Some (token, rest)
  pub some : at < next
  pub within : next ≤ length text
  pub far : next ≡ at + (length (drop at text) - length rest)

abbrev pub with_end : Lent × ℕ → Token × ℕ
with_end x = (token_of x.0, x.1)

-- the token at a place, and the place behind it
abbrev pub NextToken : List ℕ → ℕ → Option (Token × ℕ) → Type 0
NextToken text at None = first_token (drop at text) ≡ None
NextToken text at (Some x) = StandsAt text at x.0 x.1
