-- The tokens of a content (XML 1.0, 2.4 to 2.7, 3.1 and 4.1).
use Rattle.std.specs.Prelude.{◌≡◌, ◌≢◌, ◌⊎◌, ◌<◌, ℕ, Bool, true, false, not, ◌==◌, List, [], ◌∷◌, ◌++◌, length, IsTrue, codes, nat_eq}
use Rattle.std.specs.List.{list_all, starts_with}
use Rattle.jats_chars.specs.Classes.{is_char, is_space}
use Rattle.jats_chars.specs.Names.{is_name}
use Rattle.dtd_scanner.specs.Items.{Holds, EndsIn, first_is, is_xml}
use Rattle.dtd_scanner.specs.References.{is_digit, is_hex_digit, number}
use Rattle.text_fronts.specs.Grammar.{IsBlank, IsSpace}
use Rattle.attlist_merge.specs.Grammar.{IsQuoted}

-- an attribute as it is written: its name, and the text between its quotes
abbrev pub Raw : Type 0
Raw = List ℕ × List ℕ

-- a start tag, or the tag of an empty element, which closes the element
pub record Tag : Type 0 where
  pub name : List ℕ
  pub atts : List Raw
  pub closed : Bool

pub data Token : Type 0 where
  letter : (c : ℕ) → Token
  section : (inside : List ℕ) → Token
  coded : (c : ℕ) → Token
  named : (name : List ℕ) → Token
  remark : (inside : List ℕ) → Token
  instruction : (target body : List ℕ) → Token
  start : (tag : Tag) → Token
  stop : (name : List ℕ) → Token

-- S Name Eq AttValue (productions 41, 25 and 10), where no `<` stands in the value
pub record IsAttribute (text : List ℕ) (raw : Raw) : Type 0 where
  pub space : List ℕ
  pub before : List ℕ
  pub after : List ℕ
  pub value : List ℕ
  pub form : text ≡ space ++ (raw.0 ++ (before ++ (61 ∷ (after ++ value))))
  pub is_space : IsSpace space
  pub is_named : IsTrue (is_name raw.0)
  pub is_before : IsBlank before
  pub is_after : IsBlank after
  pub is_quoted : IsQuoted value raw.1
  pub is_direct : IsTrue (list_all (λ c. not (c == 60)) raw.1)

-- such attributes, one behind the other
abbrev pub AreAttributes : List ℕ → List Raw → Type 0
AreAttributes text [] = text ≡ []
AreAttributes text (raw ∷ raws) = (first : List ℕ) × (rest : List ℕ) × IsAttribute first raw × AreAttributes rest raws × (text ≡ first ++ rest)

abbrev pub tag_end : Bool → List ℕ
tag_end true = codes "/>"
tag_end false = codes ">"

-- a start tag or the tag of an empty element (productions 40 and 44)
pub record IsTag (text : List ℕ) (tag : Tag) : Type 0 where
  pub written : List ℕ
  pub space : List ℕ
  pub form : text ≡ 60 ∷ (tag.name ++ (written ++ (space ++ tag_end tag.closed)))
  pub is_named : IsTrue (is_name tag.name)
  pub are_attributes : AreAttributes written tag.atts
  pub is_blank : IsBlank space

-- a character reference in decimal or hexadecimal digits, which names a Char (production 66)
abbrev pub IsCoded : List ℕ → ℕ → Type 0
IsCoded text c = (digits : List ℕ) × (0 < length digits) × IsTrue (is_char c)
    × (IsTrue (list_all is_digit digits) × (number 10 digits ≡ c) × (text ≡ codes "&#" ++ (digits ++ codes ";"))
    ⊎ IsTrue (list_all is_hex_digit digits) × (number 16 digits ≡ c) × (text ≡ codes "&#x" ++ (digits ++ codes ";")))

-- a processing instruction (productions 16 and 17): the body begins behind the white space
pub record IsInstruction (text target body : List ℕ) : Type 0 where
  pub is_named : IsTrue (is_name target)
  pub is_other : is_xml target ≡ false
  pub is_behind : first_is is_space body ≡ false
  pub is_inside : ¬ Holds body (codes "?>")
  pub form : ((body ≡ []) × (text ≡ codes "<?" ++ (target ++ codes "?>"))) ⊎ ((space : List ℕ) × IsSpace space × (text ≡ codes "<?" ++ (target ++ (space ++ (body ++ codes "?>")))))

-- the text is a token: character data (14), a CDATA section (18 to 21), a character reference (66), a reference to a general
-- entity (68), a comment (15), a processing instruction (16), a tag (40, 44), an end tag (42)
abbrev pub IsToken : Token → List ℕ → Type 0
IsToken (letter c) text = (c ≢ 60) × (c ≢ 38) × (text ≡ c ∷ [])
IsToken (section inside) text = (¬ Holds inside (codes "]]>")) × (text ≡ codes "<![CDATA[" ++ (inside ++ codes "]]>"))
IsToken (coded c) text = IsCoded text c
IsToken (named name) text = IsTrue (is_name name) × (text ≡ 38 ∷ (name ++ codes ";"))
IsToken (remark inside) text = (¬ Holds inside (codes "--")) × (¬ EndsIn inside (codes "-")) × (text ≡ codes "<!--" ++ (inside ++ codes "-->"))
IsToken (instruction target body) text = IsInstruction text target body
IsToken (start tag) text = IsTag text tag
IsToken (stop name) text = (space : List ℕ) × IsTrue (is_name name) × IsBlank space × (text ≡ codes "</" ++ (name ++ (space ++ codes ">")))

-- `]]>` does not begin with a character that stands for itself
abbrev pub Allows : Token → List ℕ → Type 0
Allows (letter c) rest = starts_with nat_eq (c ∷ rest) (codes "]]>") ≡ false
Allows token rest = Unit {0}

-- the text begins with the token, and this is the rest
abbrev pub Begins : Token → List ℕ → List ℕ → Type 0
Begins token text rest = (front : List ℕ) × IsToken token front × Allows token rest × (text ≡ front ++ rest)
