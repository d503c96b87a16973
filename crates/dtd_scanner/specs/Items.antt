-- The items of a DTD text (XML 1.0, 2.3, 2.5, 2.6, 3.2 to 3.4, 4.1, 4.2 and 4.7).
use Rattle.std.specs.Prelude.{◌≡◌, ◌≢◌, ◌≤◌, ◌⊎◌, ℕ, List, [], ◌∷◌, ◌++◌, drop, length, Bool, true, false, ◌==◌, ◌||◌, ◌&&◌, IsTrue, Result, Ok, Err, slice_range, nat_eq, codes, All}
use Rattle.std.specs.List.{starts_with, list_any, list_all, concat}
use Rattle.jats_chars.specs.Classes.{is_space}
use Rattle.jats_chars.specs.Names.{is_name}
use Rattle.dtd_scanner.specs.declared.item.Item.{Item}
use Rattle.dtd_scanner.specs.declared.item.ItemKind.{ItemKind}
use Rattle.dtd_scanner.specs.declared.item.ItemKind.TheVariants.{Blank, Comment, Pi, Reference, SectionStart, ElementDecl, AttlistDecl, EntityDecl, NotationDecl}
use Rattle.dtd_scanner.specs.declared.item.ScanFault.{ScanFault}
use Rattle.dtd_scanner.specs.declared.item.ScanFault.TheVariants.{Malformed, Unclosed}

-- the part stands somewhere in the text
abbrev pub Holds : List ℕ → List ℕ → Type 0
Holds text part = (before : List ℕ) × (after : List ℕ) × (text ≡ before ++ (part ++ after))

-- the part stands at the end of the text
abbrev pub EndsIn : List ℕ → List ℕ → Type 0
EndsIn text part = (before : List ℕ) × (text ≡ before ++ part)

-- whether the first character passes the test
abbrev pub first_is : (ℕ → Bool) → List ℕ → Bool
first_is test [] = false
first_is test (c ∷ cs) = test c

-- white space (production 3)
abbrev pub IsBlank : List ℕ → Type 0
IsBlank text = (text ≢ []) × IsTrue (list_all is_space text)

-- a comment: between its marks no `--` stands, and no `-` at the end (production 15)
abbrev pub IsComment : List ℕ → Type 0
IsComment text = (inside : List ℕ) × (¬ Holds inside (codes "--")) × (¬ EndsIn inside (codes "-")) × (text ≡ codes "<!--" ++ (inside ++ codes "-->"))

-- `xml` in any case of letters (production 17)
abbrev pub is_xml : List ℕ → Bool
is_xml (x ∷ m ∷ l ∷ []) = (x == 88 || x == 120) && (m == 77 || m == 109) && (l == 76 || l == 108)
is_xml name = false

-- what follows the name of a processing instruction: its end, or white space and anything up to the first end
abbrev pub EndsPi : List ℕ → Type 0
EndsPi text = (text ≡ codes "?>") ⊎ ((space : ℕ) × (inside : List ℕ) × IsTrue (is_space space) × (¬ Holds inside (codes "?>")) × (text ≡ space ∷ inside ++ codes "?>"))

-- a processing instruction (productions 16 and 17)
abbrev pub IsPi : List ℕ → Type 0
IsPi text = (name : List ℕ) × (rest : List ℕ) × IsTrue (is_name name) × (is_xml name ≡ false) × EndsPi rest × (text ≡ codes "<?" ++ (name ++ rest))

-- a reference to a parameter entity (production 69)
abbrev pub IsReference : List ℕ → Type 0
IsReference text = (name : List ℕ) × IsTrue (is_name name) × (text ≡ codes "%" ++ (name ++ codes ";"))

-- the start of a conditional section, with a keyword part up to the next `[` (productions 62 and 63)
abbrev pub IsSectionStart : List ℕ → Type 0
IsSectionStart text = (keyword : List ℕ) × (¬ Holds keyword (codes "[")) × (text ≡ codes "<![" ++ (keyword ++ codes "["))

-- `"` or `'`
abbrev pub is_quote : ℕ → Bool
is_quote c = c == 34 || c == 39

-- a part of a body: a character that is no quote and no `>`, or a text between two quotes of a kind
abbrev pub IsPart : List ℕ → Type 0
IsPart part = ((c : ℕ) × (is_quote c ≡ false) × (c ≢ 62) × (part ≡ c ∷ []))
    ⊎ ((quote : ℕ) × (inside : List ℕ) × IsTrue (is_quote quote) × (¬ Holds inside (quote ∷ [])) × (part ≡ quote ∷ inside ++ quote ∷ []))

-- a body that may stand in a declaration: a list of such parts
abbrev pub IsBody : List ℕ → Type 0
IsBody body = (parts : List (List ℕ)) × All IsPart parts × (body ≡ concat parts)

-- whether a body is empty or begins with white space or `%`, so that the word before it ends there
abbrev pub leaves_word : List ℕ → Bool
leaves_word [] = true
leaves_word (c ∷ cs) = is_space c || c == 37

-- a declaration that begins with this word, up to its first `>` outside quotes
abbrev pub IsDeclaration : List ℕ → List ℕ → Type 0
IsDeclaration word text = (body : List ℕ) × IsTrue (leaves_word body) × IsBody body × (text ≡ word ++ (body ++ codes ">"))

-- the text is an item of this kind
abbrev pub IsItem : ItemKind → List ℕ → Type 0
IsItem Blank text = IsBlank text
IsItem Comment text = IsComment text
IsItem Pi text = IsPi text
IsItem Reference text = IsReference text
IsItem SectionStart text = IsSectionStart text
IsItem ElementDecl text = IsDeclaration (codes "<!ELEMENT") text
IsItem AttlistDecl text = IsDeclaration (codes "<!ATTLIST") text
IsItem EntityDecl text = IsDeclaration (codes "<!ENTITY") text
IsItem NotationDecl text = IsDeclaration (codes "<!NOTATION") text

-- an item of this kind may end before this text: white space is the longest run of it, and other items end by themselves
abbrev pub EndsBefore : ItemKind → List ℕ → Type 0
EndsBefore Blank rest = first_is is_space rest ≡ false
EndsBefore kind rest = Unit {0}

-- the item at a place of a text, which ends at the place behind it
pub record IsItemAt (text : List ℕ) (at : ℕ) (kind : ItemKind) (end : ℕ) : Type 0 where
  pub after : at ≤ end
  pub within : end ≤ length text
  pub is : IsItem kind (slice_range text at end)
  pub ends : EndsBefore kind (drop end text)

-- how many characters an item of a kind has at least
abbrev pub shortest : ItemKind → ℕ
shortest Blank = 1
shortest Comment = 7
shortest Pi = 5
shortest Reference = 3
shortest SectionStart = 4
shortest ElementDecl = 10
shortest AttlistDecl = 10
shortest EntityDecl = 9
shortest NotationDecl = 11

-- what items other than white space begin with
abbrev pub openings : List (List ℕ)
openings = codes "<!--" ∷ codes "<?" ∷ codes "%" ∷ codes "<![" ∷ codes "<!ELEMENT" ∷ codes "<!ATTLIST" ∷ codes "<!ENTITY" ∷ codes "<!NOTATION" ∷ []

-- whether an item begins where this text begins
unfoldable pub begins_item : List ℕ → Bool
begins_item text = first_is is_space text || list_any (λ opening. starts_with nat_eq text opening) openings

-- What scanning at a place of a text answers: the item there; that no item begins there; that one begins and none ends in the text.
abbrev pub Scans : List ℕ → ℕ → Result Item ScanFault → Type 0
Scans text at (Ok item) = IsItemAt text at item.kind item.end
Scans text at (Err Malformed) = begins_item (drop at text) ≡ false
Scans text at (Err Unclosed) = (begins_item (drop at text) ≡ true) × ((kind : ItemKind) (end : ℕ) → ¬ IsItemAt text at kind end)
