-- Tokens at places.
use Rattle.std.proofs.Common.{◌≡◌, ◌∙◌, ℕ, ◌-◌, ◌<◌, ◌≤◌, List, [], ◌∷◌, length, drop, Some, ap, sym, arith, length-drop}
use Rattle.std.specs.List.{AllByRecursion}
use Rattle.std.specs.Prelude.{IsTrue}
use Rattle.jats_chars.specs.Names.{is_name}
use Rattle.article_tree.specs.Tokens.{Raw, Tag, Token, instruction, named, start, AreAttributes, IsInstruction, IsTag}
use Rattle.article_tree.specs.Taking.{first_token}
use Rattle.article_tree.specs.Taken.{StandsAt}
use Rattle.article_tree.specs.Outcomes.{IsRaw}
use Rattle.article_tree.proofs.Seams.{goes}
use Rattle.article_tree.proofs.TokensFound.{taken}

pub stands : (text : List ℕ) (at : ℕ) (token : Token) (rest : List ℕ) (next : ℕ) → at < length text → first_token (drop at text) ≡ Some (token, rest) → next ≡ length text - length rest → StandsAt text at token next
stands text at token rest next within is far =
    let h = goes token (drop at text) rest (taken token (drop at text) rest is) in
    let size = length-drop at text in
    record { rest = rest; is = is; some = omega (arith, h.0, h.1, size, far, within); within = omega (arith, far); far = omega (arith, h.0, h.1, size, far, within) }

-- attributes of a tag are written as they are to be
attributes_raw : (written : List ℕ) (raws : List Raw) → AreAttributes written raws → AllByRecursion IsRaw raws
attributes_raw written [] are = tt
attributes_raw written (raw ∷ raws) (first, rest, is, are, split) = ((is.is_named, is.is_quoted.references), attributes_raw rest raws are)

pub start_raw : (text : List ℕ) (at next : ℕ) (tag : Tag) → StandsAt text at (start tag) next → IsTrue (is_name tag.name) × AllByRecursion IsRaw tag.atts
start_raw text at next tag h =
    let b = taken (start tag) (drop at text) h.rest h.is in
    let t : IsTag b.0 tag = b.1 in
    (t.is_named, attributes_raw t.written tag.atts t.are_attributes)

pub named_name : (text : List ℕ) (at next : ℕ) (name : List ℕ) → StandsAt text at (named name) next → IsTrue (is_name name)
named_name text at next name h = (taken (named name) (drop at text) h.rest h.is).1.0

pub target_name : (text : List ℕ) (at next : ℕ) (target body : List ℕ) → StandsAt text at (instruction target body) next → IsTrue (is_name target)
target_name text at next target body h =
    let b = taken (instruction target body) (drop at text) h.rest h.is in
    let i : IsInstruction b.0 target body = b.1 in
    i.is_named

pub shorter : (text : List ℕ) (at : ℕ) (behind : List ℕ) (token : Token) (rest : List ℕ) → at < length text → behind ≡ drop at text → Some (token, rest) ≡ first_token behind → length rest ≤ length text
shorter text at behind token rest within same is =
    let h = goes token behind rest (taken token behind rest (sym is)) in
    let size : length behind ≡ length text - at = ap length same ∙ length-drop at text in
    omega (arith, h.1, size)

pub stands_so : (text : List ℕ) (at : ℕ) (behind : List ℕ) (token : Token) (rest : List ℕ) (next : ℕ) → at < length text → behind ≡ drop at text → Some (token, rest) ≡ first_token behind → next ≡ length text - length rest → StandsAt text at token next
stands_so text at behind token rest next within same is far = stands text at token rest next within (ap first_token (sym same) ∙ sym is) far
