-- The grammar of an article, as a relation on whole texts (XML 1.0, 2.1, 2.8, 3, 3.1, 4.3.2 and 4.4.2).
use Rattle.std.specs.Prelude.{◌≡◌, ◌⊎◌, ◌<◌, ◌≤◌, ◌+◌, ℕ, suc, length, bytes_eq, Bool, true, false, List, [], ◌∷◌, ◌++◌, IsTrue, codes, Option, Some, None, Ok}
use Rattle.std.specs.List.{list_all}
use Rattle.std.specs.Map.{lookup}
use Rattle.jats_chars.specs.Classes.{is_space, is_pubid_char}
use Rattle.jats_chars.specs.Names.{is_name}
use Rattle.dtd_scanner.specs.Items.{Holds, is_quote}
use Rattle.text_fronts.specs.Grammar.{IsBlank, IsSpace}
use Rattle.document_trees.specs.Trees.{Attribute, Node}
use Rattle.decl_set.specs.Declarations.{Entity}
use Rattle.decl_set.specs.Values.{value_of, predefined}
use Rattle.decl_set.specs.declared.entity.EntityDef.TheVariants.{Internal}
use Rattle.pe_expansion.specs.Opening.{is_open, most_open, most_included}
use Rattle.article_tree.specs.Content.{Pieces, nothing, element, chars, comment, pi, included, items_of}
use Rattle.article_tree.specs.Tokens.{Raw, Token, letter, section, coded, named, remark, instruction, start, stop, Begins}
use Rattle.article_tree.specs.Words.{Names, most_elements, repeated, is_misc}

-- the character of a reference to a predefined entity
abbrev pub predefined_characters : Option ℕ → Option (List ℕ × Bool)
predefined_characters (Some c) = Some (c ∷ [], false)
predefined_characters None = None

-- the characters for which a token stands, and whether they are plain
abbrev pub characters : Token → Option (List ℕ × Bool)
characters (letter c) = Some (c ∷ [], is_space c)
characters (section inside) = Some (inside, false)
characters (coded c) = Some (c ∷ [], false)
characters (named name) = predefined_characters (predefined name)
characters token = None

-- the attributes have the names that are written, and the values that are written stand for theirs; so many characters
-- were included before them, and so many with them
abbrev pub AreValues : List Entity → Names → ℕ → List Raw → List Attribute → ℕ → Type 0
AreValues entities names before [] [] after = before ≡ after
AreValues entities names before (raw ∷ raws) (att ∷ atts) after =
    (mid : ℕ) × (raw.0 ≡ att.0) × (value_of entities names before raw.1 ≡ Ok (record { text = att.1; spent = mid })) × AreValues entities names mid raws atts after
AreValues entities names before raws atts after = ⊥

-- The entity is declared with this text, it is not open and fewer than 32 are, and not too many characters are included with
-- it (4.1, 4.4.2 and 4.5).
pub record Opens (entities : List Entity) (names : Names) (before : ℕ) (name text : List ℕ) (after : ℕ) : Type 0 where
  pub declared : lookup (bytes_eq name) entities ≡ Some (Internal text)
  pub closed : is_open names name ≡ false
  pub few : length names < most_open
  pub counted : after ≡ before + length text
  pub within : after ≤ most_included

-- The text is a content of these pieces (production 43), where these names are open and so many elements around it; so many
-- characters were included before it, and so many with it.
abbrev pub IsContent : List Entity → Names → ℕ → Pieces → ℕ → List ℕ → ℕ → Type 0
IsContent entities names depth nothing before text after = (text ≡ []) × (before ≡ after)
IsContent entities names depth (chars some plain later) before text after =
    (token : Token) × (rest : List ℕ) × Begins token text rest × (characters token ≡ Some (some, plain)) × IsContent entities names depth later before rest after
IsContent entities names depth (comment inside later) before text after =
    (rest : List ℕ) × Begins (remark inside) text rest × IsContent entities names depth later before rest after
IsContent entities names depth (pi target body later) before text after =
    (rest : List ℕ) × Begins (instruction target body) text rest × IsContent entities names depth later before rest after
-- an element: the tag of an empty one, or a start tag, content and an end tag of the same name (productions 39, 40, 42 and 44)
IsContent entities names depth (element name atts inside later) before text after =
    (raws : List Raw) × (closed : Bool) × (behind : List ℕ) × (mid : ℕ)
    × Begins (start (record { name = name; atts = raws; closed = closed })) text behind
    × AreValues entities names before raws atts mid × (repeated [] atts ≡ None) × (depth < most_elements)
    × ((closed ≡ true) × (inside ≡ nothing) × IsContent entities names depth later mid behind after
    ⊎ ((text_inside : List ℕ) × (from_end : List ℕ) × (rest : List ℕ) × (spent : ℕ) × (closed ≡ false)
    × IsContent entities names (suc depth) inside mid text_inside spent
    × (behind ≡ text_inside ++ from_end) × Begins (stop name) from_end rest × IsContent entities names depth later spent rest after))
-- a reference to an entity that is not predefined, whose text is content by itself (4.3.2 and 4.4.2)
IsContent entities names depth (included name inside later) before text after =
    (rest : List ℕ) × (replacement : List ℕ) × (opened : ℕ) × (mid : ℕ)
    × Begins (named name) text rest × (predefined name ≡ None) × Opens entities names before name replacement opened
    × IsContent entities (names ++ name ∷ []) depth inside opened replacement mid × IsContent entities names depth later mid rest after

-- ---- what stands around the element

-- white space, comments and processing instructions (production 27)
abbrev pub AreMisc : List Token → List ℕ → Type 0
AreMisc [] text = text ≡ []
AreMisc (token ∷ tokens) text = (rest : List ℕ) × IsTrue (is_misc token) × Begins token text rest × AreMisc tokens rest

abbrev pub IsMisc : List ℕ → Type 0
IsMisc text = (tokens : List Token) × AreMisc tokens text

-- any characters between two quotes of a kind (production 11)
abbrev pub IsLiteral : List ℕ → List ℕ → Type 0
IsLiteral text inside = (quote : ℕ) × IsTrue (is_quote quote) × (¬ Holds inside (quote ∷ [])) × (text ≡ quote ∷ inside ++ quote ∷ [])

-- an external identifier (production 75)
abbrev pub IsExternal : List ℕ → Type 0
IsExternal text =
    ((space : List ℕ) × (system : List ℕ) × (inside : List ℕ) × IsSpace space × IsLiteral system inside × (text ≡ codes "SYSTEM" ++ (space ++ system)))
    ⊎ ((space : List ℕ) × (public : List ℕ) × (gap : List ℕ) × (system : List ℕ) × (name : List ℕ) × (inside : List ℕ)
    × IsSpace space × IsLiteral public name × IsTrue (list_all is_pubid_char name) × IsSpace gap × IsLiteral system inside
    × (text ≡ codes "PUBLIC" ++ (space ++ (public ++ (gap ++ system)))))

-- a document type declaration without an internal subset (production 28)
pub record IsDoctype (text : List ℕ) : Type 0 where
  pub space : List ℕ
  pub name : List ℕ
  pub external : List ℕ
  pub blank : List ℕ
  pub form : text ≡ codes "<!DOCTYPE" ++ (space ++ (name ++ (external ++ (blank ++ codes ">"))))
  pub is_space : IsSpace space
  pub is_named : IsTrue (is_name name)
  pub is_external : (external ≡ []) ⊎ ((gap : List ℕ) × (ids : List ℕ) × IsSpace gap × IsExternal ids × (external ≡ gap ++ ids))
  pub is_blank : IsBlank blank

-- Misc, and maybe a document type declaration and Misc (production 22)
abbrev pub IsProlog : List ℕ → Type 0
IsProlog text =
    IsMisc text ⊎ ((before : List ℕ) × (doctype : List ℕ) × (after : List ℕ) × IsMisc before × IsDoctype doctype × IsMisc after × (text ≡ before ++ (doctype ++ after)))

-- The text is an article of this node (production 1): what stands before the element, the element, and Misc.
pub record IsArticle (entities : List Entity) (text : List ℕ) (node : Node) : Type 0 where
  pub prolog : List ℕ
  pub root : List ℕ
  pub epilog : List ℕ
  pub inside : Pieces
  pub spent : ℕ
  pub form : text ≡ prolog ++ (root ++ epilog)
  pub is_prolog : IsProlog prolog
  pub is_root : IsContent entities [] 0 (element node.name node.atts inside nothing) 0 root spent
  pub is_epilog : IsMisc epilog
  pub items : node.items ≡ items_of inside
