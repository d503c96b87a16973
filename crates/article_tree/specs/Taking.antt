-- The first token of a text, computed with the rest of the text; None where no token begins it.
use Rattle.std.specs.Prelude.{ℕ, zero, suc, Bool, true, false, not, ◌==◌, List, [], ◌∷◌, length, drop, Option, Some, None, option_map, option_and_then, nat_eq, codes, if◌then◌else◌}
use Rattle.std.specs.List.{list_all, starts_with}
use Rattle.dtd_scanner.specs.Items.{is_xml}
use Rattle.dtd_scanner.specs.References.{char_reference}
use Rattle.text_fronts.specs.Fronts.{Read, skipped, read_space, read_name, spaced_name}
use Rattle.attlist_merge.specs.Reading.{read_quoted}
use Rattle.article_tree.specs.Tokens.{Raw, Token, letter, section, coded, named, remark, instruction, start, stop}

-- what stands behind this mark, with which the text begins
abbrev pub behind : List ℕ → List ℕ → Option (List ℕ)
behind mark text = if starts_with nat_eq text mark then Some (drop (length mark) text) else None

-- what stands before the first such mark, and the rest behind it
abbrev pub up_to : List ℕ → List ℕ → Read (List ℕ)
up_to mark [] = None
up_to mark (c ∷ cs) =
    if starts_with nat_eq (c ∷ cs) mark then Some ([], drop (length mark) (c ∷ cs)) else option_map (λ x. (c ∷ x.0, x.1)) (up_to mark cs)

-- ---- references

-- behind `&`: a Name and `;`
abbrev pub take_named : List ℕ → Read Token
take_named text = option_and_then (λ x. option_map (λ rest. (named x.0, rest)) (behind (codes ";") x.1)) (read_name text)

-- a text that begins with `&`
abbrev pub take_reference : List ℕ → Read Token
take_reference text =
    if starts_with nat_eq text (codes "&#") then option_map (λ r. (coded r.0, drop r.1 text)) (char_reference text) else take_named (drop 1 text)

-- ---- tags

-- S? `=` S? and a value in quotes, without `<`
abbrev pub equals : List ℕ → Option (List ℕ)
equals text = option_map skipped (behind (codes "=") (skipped text))

abbrev pub direct : List ℕ × List ℕ → Read (List ℕ)
direct x = if list_all (λ c. not (c == 60)) x.0 then Some x else None

abbrev pub with_value : List ℕ × List ℕ → Read Raw
with_value x = option_map (λ v. ((x.0, v.0), v.1)) (option_and_then direct (option_and_then read_quoted (equals x.1)))

abbrev pub take_attribute : List ℕ → Read Raw
take_attribute text = option_and_then with_value (spaced_name text)

-- S? and `>` or `/>`: whether the element is closed
abbrev pub take_end : List ℕ → Read Bool
take_end text =
    if starts_with nat_eq text (codes ">") then Some (false, drop 1 text)
    else if starts_with nat_eq text (codes "/>") then Some (true, drop 2 text)
    else None

-- attributes, at most this many, and the end of the tag
abbrev pub ended_or : (List ℕ → Read (List Raw × Bool)) → List ℕ → Read Bool → Read (List Raw × Bool)
ended_or more text (Some x) = Some (([], x.0), x.1)
ended_or more text None = more text

abbrev pub in_front : Raw → (List Raw × Bool) × List ℕ → (List Raw × Bool) × List ℕ
in_front raw x = ((raw ∷ x.0.0, x.0.1), x.1)

unfoldable pub take_attributes : ℕ → List ℕ → Read (List Raw × Bool)
take_attributes zero text = None
take_attributes (suc n) text =
    ended_or (λ text. option_and_then (λ a. option_map (in_front a.0) (take_attributes n a.1)) (take_attribute text)) text (take_end (skipped text))

abbrev pub tag_of : List ℕ → (List Raw × Bool) × List ℕ → Token × List ℕ
tag_of name x = (start (record { name = name; atts = x.0.0; closed = x.0.1 }), x.1)

-- behind `<`
abbrev pub take_tag : List ℕ → Read Token
take_tag text = option_and_then (λ x. option_map (tag_of x.0) (take_attributes (suc (length x.1)) x.1)) (read_name text)

-- behind `</`
abbrev pub take_stop : List ℕ → Read Token
take_stop text = option_and_then (λ x. option_map (λ rest. (stop x.0, rest)) (behind (codes ">") (skipped x.1))) (read_name text)

-- ---- comments, processing instructions and sections

-- behind `<!--`: up to the first `--`, and then `>`
abbrev pub take_remark : List ℕ → Read Token
take_remark text = option_and_then (λ x. option_map (λ rest. (remark x.0, rest)) (behind (codes ">") x.1)) (up_to (codes "--") text)

abbrev pub instructed : List ℕ → List ℕ × List ℕ → Token × List ℕ
instructed target x = (instruction target x.0, x.1)

-- behind the target: `?>`, or S and a body up to the first `?>`
abbrev pub closed_or : List ℕ → List ℕ → Option (List ℕ) → Read Token
closed_or target text (Some rest) = Some (instruction target [], rest)
closed_or target text None = option_and_then (λ t. option_map (instructed target) (up_to (codes "?>") t)) (read_space text)

abbrev pub with_body : List ℕ × List ℕ → Read Token
with_body x = if is_xml x.0 then None else closed_or x.0 x.1 (behind (codes "?>") x.1)

-- behind `<?`
abbrev pub take_instruction : List ℕ → Read Token
take_instruction text = option_and_then with_body (read_name text)

-- behind `<![CDATA[`
abbrev pub take_section : List ℕ → Read Token
take_section text = option_map (λ x. (section x.0, x.1)) (up_to (codes "]]>") text)

-- behind `<`
abbrev pub take_markup : List ℕ → Read Token
take_markup text =
    if starts_with nat_eq text (codes "/") then take_stop (drop 1 text)
    else if starts_with nat_eq text (codes "!--") then take_remark (drop 3 text)
    else if starts_with nat_eq text (codes "?") then take_instruction (drop 1 text)
    else if starts_with nat_eq text (codes "![CDATA[") then take_section (drop 8 text)
    else take_tag text

-- ---- the first token

unfoldable pub first_token : List ℕ → Read Token
first_token [] = None
first_token (c ∷ cs) =
    if c == 38 then take_reference (c ∷ cs)
    else if c == 60 then take_markup cs
    else if starts_with nat_eq (c ∷ cs) (codes "]]>") then None
    else Some (letter c, cs)
