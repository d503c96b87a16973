-- The text of a node, and which nodes are writable.
use Rattle.std.specs.Prelude.{◌≢◌, ◌<◌, ◌≡◌, ℕ, suc, ◌==◌, not, Bool, true, false, List, [], ◌∷◌, ◌++◌, map, IsTrue, codes, if◌then◌else◌}
use Rattle.std.specs.List.{list_all, flat_map}
use Rattle.jats_chars.specs.Classes.{is_space}
use Rattle.dtd_scanner.specs.Items.{Holds, EndsIn, first_is, is_xml}
use Rattle.decl_set.specs.ValueEscaped.{decimal_reference}
use Rattle.document_trees.specs.Trees.{Attribute, Items, Node, IsDocument, is_white}
use Rattle.document_trees.specs.Trees as tree
use Rattle.article_tree.specs.Words.{most_elements}

-- ---- the text

-- a character of a value
abbrev pub value_char : ℕ → List ℕ
value_char c =
    if c == 38 then codes "&amp;"
    else if c == 60 then codes "&lt;"
    else if c == 34 then codes "&quot;"
    else if c == 9 then codes "&#9;"
    else if c == 10 then codes "&#10;"
    else if c == 13 then codes "&#13;"
    else c ∷ []

-- a character of a run that is not plain
abbrev pub run_char : ℕ → List ℕ
run_char c =
    if c == 38 then codes "&amp;"
    else if c == 60 then codes "&lt;"
    else if c == 62 then codes "&gt;"
    else if c == 13 then codes "&#13;"
    else c ∷ []

abbrev pub line_end : ℕ → ℕ
line_end c = if c == 13 then 10 else c

-- a run that is not plain: the first character is a decimal reference where all are white, and the empty run is a section
abbrev pub marked_run : List ℕ → List ℕ
marked_run [] = codes "<![CDATA[]]>"
marked_run (c ∷ cs) = if is_white (c ∷ cs) then decimal_reference c ++ flat_map run_char cs else flat_map run_char (c ∷ cs)

-- a plain run stands as it is, with CR as LF
abbrev pub written_run : List ℕ → Bool → List ℕ
written_run text true = map line_end text
written_run text false = marked_run text

abbrev pub written_attribute : Attribute → List ℕ
written_attribute a = codes " " ++ (a.0 ++ (codes "=\"" ++ (flat_map value_char a.1 ++ codes "\"")))

abbrev pub tag_front : List ℕ → List Attribute → List ℕ
tag_front name atts = codes "<" ++ (name ++ flat_map written_attribute atts)

abbrev pub end_tag : List ℕ → List ℕ
end_tag name = codes "</" ++ (name ++ codes ">")

-- an empty element has one tag
abbrev pub enclosed : List ℕ → Items → List ℕ → List ℕ
enclosed name tree.nothing text = codes "/>"
enclosed name items text = codes ">" ++ (text ++ (codes "</" ++ (name ++ codes ">")))

abbrev pub written_body : List ℕ → List ℕ
written_body [] = []
written_body (c ∷ cs) = codes " " ++ (c ∷ cs)

abbrev pub written_comment : List ℕ → List ℕ
written_comment text = codes "<!--" ++ (text ++ codes "-->")

abbrev pub written_pi : List ℕ → List ℕ → List ℕ
written_pi target body = codes "<?" ++ (target ++ (written_body body ++ codes "?>"))

abbrev pub written : Items → List ℕ
written tree.nothing = []
written (tree.element name atts inside later) = codes "<" ++ (name ++ (flat_map written_attribute atts ++ enclosed name inside (written inside))) ++ written later
written (tree.chars text plain later) = written_run text plain ++ written later
written (tree.comment text later) = written_comment text ++ written later
written (tree.pi target body later) = written_pi target body ++ written later

-- the text of a node
abbrev pub write : Node → List ℕ
write node = written (tree.element node.name node.atts node.items tree.nothing)

-- ---- writable nodes

abbrev pub has_no_return : List ℕ → Bool
has_no_return text = list_all (λ c. not (c == 13)) text

-- no run is the first item
abbrev pub IsApart : Items → Type 0
IsApart (tree.chars text plain later) = ⊥
IsApart items = Unit {0}

-- where so many elements are open around: no two runs stand side by side, plain runs are not empty, nothing holds CR that is
-- written as it stands, comments and processing instructions end where they do, and not too many elements are open
abbrev pub AreWritable : ℕ → Items → Type 0
AreWritable depth tree.nothing = Unit {0}
AreWritable depth (tree.element name atts inside later) = (depth < most_elements) × AreWritable (suc depth) inside × AreWritable depth later
AreWritable depth (tree.chars text true later) = (text ≢ []) × IsTrue (has_no_return text) × IsApart later × AreWritable depth later
AreWritable depth (tree.chars text false later) = IsApart later × AreWritable depth later
AreWritable depth (tree.comment text later) = IsTrue (has_no_return text) × (¬ Holds text (codes "--")) × (¬ EndsIn text (codes "-")) × AreWritable depth later
AreWritable depth (tree.pi target body later) =
    IsTrue (has_no_return body) × (¬ Holds body (codes "?>")) × (first_is is_space body ≡ false) × (is_xml target ≡ false) × AreWritable depth later

abbrev pub IsWritable : Node → Type 0
IsWritable node = IsDocument node × AreWritable 1 node.items
