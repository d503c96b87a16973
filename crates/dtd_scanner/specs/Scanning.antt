-- The first item of a text, computed.
use Rattle.std.specs.Prelude.{ℕ, suc, ◌+◌, List, [], ◌∷◌, take, drop, Bool, not, ◌==◌, ◌||◌, ◌&&◌, Option, Some, None, Result, Ok, Err, position, nat_lt, nat_eq, codes, if◌then◌else◌}
use Rattle.std.specs.List.{starts_with, prefix_len}
use Rattle.std.specs.Option.{option_map, is_none}
use Rattle.jats_chars.specs.Classes.{is_space, is_name_start, is_name_char}
use Rattle.dtd_scanner.specs.Items.{first_is, is_quote, is_xml}
use Rattle.dtd_scanner.specs.declared.item.Item.{Item}
use Rattle.dtd_scanner.specs.declared.item.ItemKind.{ItemKind}
use Rattle.dtd_scanner.specs.declared.item.ItemKind.TheVariants.{Blank, Comment, Pi, Reference, SectionStart, ElementDecl, AttlistDecl, EntityDecl, NotationDecl}
use Rattle.dtd_scanner.specs.declared.item.ScanFault.{ScanFault}
use Rattle.dtd_scanner.specs.declared.item.ScanFault.TheVariants.{Malformed, Unclosed}

-- where these two characters first stand side by side
abbrev pub first_pair : ℕ → ℕ → List ℕ → Option ℕ
first_pair a b [] = None
first_pair a b (x ∷ []) = None
first_pair a b (x ∷ y ∷ cs) = if x == a && y == b then Some 0 else option_map suc (first_pair a b (y ∷ cs))

-- the quote that is open behind a character
abbrev pub quote_after : Option ℕ → ℕ → Option ℕ
quote_after None c = if is_quote c then Some c else None
quote_after (Some quote) c = if c == quote then None else Some quote

-- where the first `>` stands outside quotes, if this quote is open before the text
abbrev pub body_len : Option ℕ → List ℕ → Option ℕ
body_len quote [] = None
body_len quote (c ∷ cs) = if is_none quote && c == 62 then Some 0 else option_map suc (body_len (quote_after quote c) cs)

-- how many characters of a Name the text begins with
abbrev pub name_len : List ℕ → ℕ
name_len text = if first_is is_name_start text then prefix_len is_name_char text else 0

-- The lengths of items, each for a text that begins with the opening of its kind.
abbrev pub comment_end : List ℕ → Option ℕ → Option ℕ
comment_end inside None = None
comment_end inside (Some k) = if starts_with nat_eq (drop k inside) (codes "-->") then Some (k + 7) else None

abbrev pub comment_len : List ℕ → Option ℕ
comment_len text = comment_end (drop 4 text) (first_pair 45 45 (drop 4 text))

-- a name of this length has the right form, and may end there
abbrev pub leaves_target : ℕ → List ℕ → Bool
leaves_target n rest = nat_lt 0 n && (not (is_xml (take n rest)) && (first_is is_space (drop n rest) || starts_with nat_eq (drop n rest) (codes "?>")))

abbrev pub pi_end : ℕ → List ℕ → Option ℕ
pi_end n rest = if leaves_target n rest then option_map (λ k. n + k + 4) (first_pair 63 62 (drop n rest)) else None

abbrev pub pi_len : List ℕ → Option ℕ
pi_len text = pi_end (name_len (drop 2 text)) (drop 2 text)

abbrev pub reference_end : ℕ → List ℕ → Option ℕ
reference_end n rest = if nat_lt 0 n && starts_with nat_eq (drop n rest) (codes ";") then Some (n + 2) else None

abbrev pub reference_len : List ℕ → Option ℕ
reference_len text = reference_end (name_len (drop 1 text)) (drop 1 text)

abbrev pub section_start_len : List ℕ → Option ℕ
section_start_len text = option_map (λ k. k + 4) (position (λ c. c == 91) (drop 3 text))

-- whether a word may end before this text: white space, `%` or `>` stands there
abbrev pub ends_word : List ℕ → Bool
ends_word rest = first_is (λ c. is_space c || (c == 37 || c == 62)) rest

abbrev pub declaration_len : ℕ → List ℕ → Option ℕ
declaration_len word text = if ends_word (drop word text) then option_map (λ k. word + k + 1) (body_len None (drop word text)) else None

-- the item of this kind and length
abbrev pub item_of_length : ItemKind → Option ℕ → Result Item ScanFault
item_of_length kind None = Err Unclosed
item_of_length kind (Some n) = Ok (record { kind = kind; end = n })

-- the declaration that a text begins with
abbrev pub first_declaration : List ℕ → Result Item ScanFault
first_declaration text =
    if starts_with nat_eq text (codes "<!ELEMENT") then item_of_length ElementDecl (declaration_len 9 text)
    else if starts_with nat_eq text (codes "<!ATTLIST") then item_of_length AttlistDecl (declaration_len 9 text)
    else if starts_with nat_eq text (codes "<!ENTITY") then item_of_length EntityDecl (declaration_len 8 text)
    else if starts_with nat_eq text (codes "<!NOTATION") then item_of_length NotationDecl (declaration_len 10 text)
    else Err Malformed

-- The first item of a text, whose end is its length.
unfoldable pub first_item : List ℕ → Result Item ScanFault
first_item text =
    if first_is is_space text then Ok (record { kind = Blank; end = prefix_len is_space text })
    else if starts_with nat_eq text (codes "%") then item_of_length Reference (reference_len text)
    else if starts_with nat_eq text (codes "<!--") then item_of_length Comment (comment_len text)
    else if starts_with nat_eq text (codes "<?") then item_of_length Pi (pi_len text)
    else if starts_with nat_eq text (codes "<![") then item_of_length SectionStart (section_start_len text)
    else first_declaration text

-- an item that many characters further on
abbrev pub answer_at : ℕ → Result Item ScanFault → Result Item ScanFault
answer_at at (Ok item) = Ok (record { kind = item.kind; end = at + item.end })
answer_at at (Err fault) = Err fault

-- the item at a place of a text
abbrev pub item_at : List ℕ → ℕ → Result Item ScanFault
item_at text at = answer_at at (first_item (drop at text))
