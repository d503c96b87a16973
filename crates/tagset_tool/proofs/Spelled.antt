-- The texts of comparisons: lines, a certificate, and what stands behind it.
use Rattle.std.proofs.Common.{◌≡◌, ◌∙◌, ◌<◌, ◌^◌, ℕ, Bool, true, false, List, [], ◌∷◌, ◌++◌, refl, sym, ap, codes, append_assoc, append-nil}
use Rattle.std.specs.Prelude.{encode_utf8_all}
use Rattle.std.specs.Char.{encode_utf8}
use Rattle.std.specs.Fmt.{decimal}
use Rattle.std.specs.List.{AllByRecursion, list_all}
use Rattle.std.proofs.lemmas.Fmt.{IsAscii-decimal}
use Rattle.std.proofs.lemmas.Str.{encodes-IsAscii}
use Rattle.std.proofs.lemmas.List.Folds.{list_all-append}
use Rattle.std.proofs.lemmas.Bool.{and_from}
use Rattle.jats_chars.specs.Classes.{is_char}
use Rattle.jats_chars.specs.Names.{is_name}
use Rattle.document_trees.specs.Trees.{Node, size}
use Rattle.decl_set.specs.Declarations.{Declarations}
use Rattle.decl_set.specs.declared.breaks.BrokenDecl.{BrokenDecl}
use Rattle.decl_set.specs.declared.breaks.Cause.{Cause}
use Rattle.decl_set.specs.declared.breaks.Cause.TheVariants as cause
use Rattle.bound_checker.specs.Certificates.{IsBeside, cert_lines}
use Rattle.bound_checker.specs.Lines.{IsInline, joined}
use Rattle.bound_checker.specs.Tabled.{costs_of}
use Rattle.bound_checker.proofs.Lined.{decimal_passes, inline_passed, is_inline, name_passes}
use Rattle.article_tree.specs.Writing.{IsWritable, write}
use Rattle.tagset_compare.specs.Verdicts.{tables_in}
use Rattle.tagset_compare.specs.declared.outcome.Verdict.{Verdict}
use Rattle.tagset_compare.specs.declared.outcome.Verdict.TheVariants.{Subset, Not, Over}
use Rattle.dtd_flattener.proofs.Sized.{encoded_append}
use Rattle.dtd_flattener.proofs.TextChars.{is_text_char, text_joined}
use Rattle.tagset_tool.specs.commands.Compare.{article_text, broken_line, cause_name, documents_line, has_size, not_subset_line, subset_line, verdict_lines}
use Rattle.tagset_tool.specs.commands.Least.{above_line, least_line}
use Rattle.tagset_tool.proofs.Characters.{article_is_text, text_passed}
use Rattle.tagset_tool.proofs.Named.{HasName, IsNamed}

-- ---- lines in characters

abbrev cause_text : Cause → List ℕ
cause_text cause.Undeclared = codes "undeclared"
cause_text cause.Content = codes "content"
cause_text cause.Text = codes "text"
cause_text (cause.Attribute name) = codes "attribute " ++ name

abbrev broken_text : BrokenDecl → List ℕ
broken_text broken = codes "broken " ++ (broken.element ++ (codes " " ++ cause_text broken.cause))

abbrev documents_text : Bool → List ℕ
documents_text true = codes "documents some"
documents_text false = codes "documents none"

-- the lines in front of the certificate
abbrev pub head_lines : Declarations → ℕ → Verdict → List (List ℕ)
head_lines first cap (Subset tables) = codes "subset" ∷ documents_text (has_size ((costs_of first tables).m tables.root)) ∷ []
head_lines first cap (Not article broken tables) = codes "not subset" ∷ (codes "least " ++ decimal (size article)) ∷ broken_text broken ∷ []
head_lines first cap (Over broken tables) = codes "not subset" ∷ (codes "above " ++ decimal cap) ∷ broken_text broken ∷ []

-- what stands behind it
abbrev pub behind : Verdict → List ℕ
behind (Subset tables) = []
behind (Not article broken tables) = codes "article" ++ (10 ∷ (write article ++ 10 ∷ []))
behind (Over broken tables) = []

abbrev pub verdict_text : Declarations → ℕ → Verdict → List ℕ
verdict_text first cap v = joined (head_lines first cap v) ++ (joined (cert_lines first (tables_in v)) ++ behind v)

-- the names of the verdict are Names, its article is writable, and its numbers are of 64 bits
abbrev pub IsPlain : ℕ → Verdict → Type 0
IsPlain cap (Subset tables) = Unit {0}
IsPlain cap (Not article broken tables) = IsNamed broken × IsWritable article × (size article < 2 ^ 64)
IsPlain cap (Over broken tables) = IsNamed broken × (cap < 2 ^ 64)

-- ---- their bytes

abbrev enc : List ℕ → List ℕ
enc = encode_utf8_all

decimal_bytes : (n : ℕ) → n < 2 ^ 64 → enc (decimal n) ≡ decimal n
decimal_bytes n small = encodes-IsAscii (decimal n) (IsAscii-decimal n small)

cause_bytes : (k : Cause) → enc (cause_text k) ≡ cause_name k
unfolding encode_utf8
cause_bytes cause.Undeclared = refl
cause_bytes cause.Content = refl
cause_bytes cause.Text = refl
cause_bytes (cause.Attribute name) = encoded_append (codes "attribute ") name

-- a word before a text, and LF behind it
worded : (word : List ℕ) (text bytes : List ℕ) → enc word ≡ word → enc text ≡ bytes → enc (word ++ text) ≡ word ++ bytes
worded word text bytes plain is = encoded_append word text ∙ ap (λ w. w ++ enc text) plain ∙ ap (λ b. word ++ b) is

line_bytes : (line : List ℕ) (rest : List (List ℕ)) → enc (joined (line ∷ rest)) ≡ enc line ++ (10 ∷ enc (joined rest))
unfolding encode_utf8
line_bytes line rest = encoded_append line (10 ∷ joined rest)

literal_broken : enc (codes "broken ") ≡ codes "broken "
unfolding encode_utf8
literal_broken = refl

literal_space : enc (codes " ") ≡ codes " "
unfolding encode_utf8
literal_space = refl

literal_least : enc (codes "least ") ≡ codes "least "
unfolding encode_utf8
literal_least = refl

literal_above : enc (codes "above ") ≡ codes "above "
unfolding encode_utf8
literal_above = refl

literal_not : enc (codes "not subset") ≡ codes "not subset"
unfolding encode_utf8
literal_not = refl

broken_bytes : (broken : BrokenDecl) → enc (broken_text broken) ++ 10 ∷ [] ≡ broken_line broken
broken_bytes broken =
    ap (λ b. b ++ 10 ∷ []) (worded (codes "broken ") (broken.element ++ (codes " " ++ cause_text broken.cause)) (enc broken.element ++ (codes " " ++ cause_name broken.cause)) literal_broken
    (encoded_append broken.element (codes " " ++ cause_text broken.cause) ∙ ap (λ b. enc broken.element ++ b) (worded (codes " ") (cause_text broken.cause) (cause_name broken.cause) literal_space (cause_bytes broken.cause))))
    ∙ simp append_assoc

-- three lines
three_bytes : (a b c x y z : List ℕ) → enc a ++ 10 ∷ [] ≡ x → enc b ++ 10 ∷ [] ≡ y → enc c ++ 10 ∷ [] ≡ z → (rest : List ℕ) → enc (joined (a ∷ b ∷ c ∷ [])) ++ rest ≡ x ++ (y ++ (z ++ rest))
three_bytes a b c x y z one two three rest =
    ap (λ t. t ++ rest) (line_bytes a (b ∷ c ∷ []) ∙ ap (λ t. enc a ++ (10 ∷ t)) (line_bytes b (c ∷ []) ∙ ap (λ t. enc b ++ (10 ∷ t)) (line_bytes c [])))
    ∙ regroup (enc a) (enc b) (enc c) rest
    ∙ ap (λ t. t ++ ((enc b ++ 10 ∷ []) ++ ((enc c ++ 10 ∷ []) ++ rest))) one ∙ ap (λ t. x ++ (t ++ ((enc c ++ 10 ∷ []) ++ rest))) two ∙ ap (λ t. x ++ (y ++ (t ++ rest))) three
  where
    regroup : (p q r rest : List ℕ) → (p ++ (10 ∷ (q ++ (10 ∷ (r ++ (10 ∷ [])))))) ++ rest ≡ (p ++ 10 ∷ []) ++ ((q ++ 10 ∷ []) ++ ((r ++ 10 ∷ []) ++ rest))
    regroup p q r rest = simp append_assoc

number_bytes : (word : List ℕ) (n : ℕ) → n < 2 ^ 64 → enc word ≡ word → enc (word ++ decimal n) ++ 10 ∷ [] ≡ word ++ (decimal n ++ 10 ∷ [])
number_bytes word n small plain = ap (λ t. t ++ 10 ∷ []) (worded word (decimal n) (decimal n) plain (decimal_bytes n small)) ∙ append_assoc word (decimal n) (10 ∷ [])

subset_bytes : (some : Bool) (rest : List ℕ) → enc (joined (codes "subset" ∷ documents_text some ∷ [])) ++ rest ≡ subset_line ++ (documents_line some ++ rest)
unfolding encode_utf8
subset_bytes true rest = refl
subset_bytes false rest = refl

behind_bytes : (article : Node) → enc (codes "article" ++ (10 ∷ (write article ++ 10 ∷ []))) ≡ article_text article
unfolding encode_utf8
behind_bytes article = ap (λ t. codes "article" ++ (10 ∷ t)) (encoded_append (write article) (10 ∷ []))

-- the output is the text of the verdict in UTF-8
pub verdict_bytes : (first : Declarations) (cap : ℕ) (v : Verdict) → IsPlain cap v → verdict_lines first cap v ≡ encode_utf8_all (verdict_text first cap v)
verdict_bytes first cap (Subset tables) plain =
    let heads = joined (head_lines first cap (Subset tables)) in
    let cert = joined (cert_lines first tables) in
    sym (encoded_append heads (cert ++ []) ∙ subset_bytes (has_size ((costs_of first tables).m tables.root)) (enc (cert ++ []))
    ∙ ap (λ (t : List ℕ). subset_line ++ (documents_line (has_size ((costs_of first tables).m tables.root)) ++ enc t)) (append-nil cert))
verdict_bytes first cap (Not article broken tables) plain =
    let heads = joined (head_lines first cap (Not article broken tables)) in
    let cert = joined (cert_lines first tables) in
    let more = behind (Not article broken tables) in
    sym (encoded_append heads (cert ++ more)
    ∙ three_bytes (codes "not subset") (codes "least " ++ decimal (size article)) (broken_text broken) not_subset_line (least_line (size article)) (broken_line broken)
    (ap (λ t. t ++ 10 ∷ []) literal_not) (number_bytes (codes "least ") (size article) plain.2 literal_least) (broken_bytes broken) (enc (cert ++ more))
    ∙ ap (λ t. not_subset_line ++ (least_line (size article) ++ (broken_line broken ++ t))) (encoded_append cert more ∙ ap (λ t. enc cert ++ t) (behind_bytes article)))
verdict_bytes first cap (Over broken tables) plain =
    let heads = joined (head_lines first cap (Over broken tables)) in
    let cert = joined (cert_lines first tables) in
    sym (encoded_append heads (cert ++ [])
    ∙ three_bytes (codes "not subset") (codes "above " ++ decimal cap) (broken_text broken) not_subset_line (above_line cap) (broken_line broken)
    (ap (λ t. t ++ 10 ∷ []) literal_not) (number_bytes (codes "above ") cap plain.1 literal_above) (broken_bytes broken) (enc (cert ++ []))
    ∙ ap (λ (t : List ℕ). not_subset_line ++ (above_line cap ++ (broken_line broken ++ enc t))) (append-nil cert))

-- ---- the lines in front

inline_both : (a b : List ℕ) → IsInline a → IsInline b → IsInline (a ++ b)
inline_both a b one other = list_all-append is_inline a b ∙ and_from (list_all is_inline a) (list_all is_inline b) one other

name_inline : (name : List ℕ) → is_name name ≡ true → IsInline name
name_inline = name_passes is_inline inline_passed

cause_inline : (k : Cause) → HasName k → IsInline (cause_text k)
cause_inline cause.Undeclared named = refl
cause_inline cause.Content named = refl
cause_inline cause.Text named = refl
cause_inline (cause.Attribute name) named = inline_both (codes "attribute ") name refl (name_inline name named)

broken_inline : (broken : BrokenDecl) → IsNamed broken → IsInline (broken_text broken)
broken_inline broken named =
    inline_both (codes "broken ") (broken.element ++ (codes " " ++ cause_text broken.cause)) refl
    (inline_both broken.element (codes " " ++ cause_text broken.cause) (name_inline broken.element named.element) (inline_both (codes " ") (cause_text broken.cause) refl (cause_inline broken.cause named.cause)))

number_inline : (word : List ℕ) (n : ℕ) → n < 2 ^ 64 → IsInline word → IsInline (word ++ decimal n)
number_inline word n small is = inline_both word (decimal n) is (decimal_passes is_inline inline_passed n small)

documents_inline : (some : Bool) → IsInline (documents_text some)
documents_inline true = refl
documents_inline false = refl

pub heads_inline : (first : Declarations) (cap : ℕ) (v : Verdict) → IsPlain cap v → AllByRecursion IsInline (head_lines first cap v)
heads_inline first cap (Subset tables) plain = (refl, (documents_inline (has_size ((costs_of first tables).m tables.root)), tt))
heads_inline first cap (Not article broken tables) plain = (refl, (number_inline (codes "least ") (size article) plain.2 refl, (broken_inline broken plain.0, tt)))
heads_inline first cap (Over broken tables) plain = (refl, (number_inline (codes "above ") cap plain.1 refl, (broken_inline broken plain.0, tt)))

documents_beside : (some : Bool) → IsBeside (documents_text some)
documents_beside true = refl
documents_beside false = refl

broken_beside : (broken : BrokenDecl) → IsBeside (broken_text broken)
broken_beside broken = refl

-- none begins as a certificate does
pub heads_beside : (first : Declarations) (cap : ℕ) (v : Verdict) → AllByRecursion IsBeside (head_lines first cap v)
heads_beside first cap (Subset tables) = (refl, (documents_beside (has_size ((costs_of first tables).m tables.root)), tt))
heads_beside first cap (Not article broken tables) = (refl, (refl, (broken_beside broken, tt)))
heads_beside first cap (Over broken tables) = (refl, (refl, (broken_beside broken, tt)))

-- ---- characters

abbrev IsText : List ℕ → Type 0
IsText text = list_all is_text_char text ≡ true

cause_chars : (k : Cause) → HasName k → IsText (cause_text k)
unfolding is_char
cause_chars cause.Undeclared named = refl
cause_chars cause.Content named = refl
cause_chars cause.Text named = refl
cause_chars (cause.Attribute name) named = text_joined (codes "attribute ") name refl (name_passes is_text_char text_passed name named)

broken_chars : (broken : BrokenDecl) → IsNamed broken → IsText (broken_text broken)
unfolding is_char
broken_chars broken named =
    text_joined (codes "broken ") (broken.element ++ (codes " " ++ cause_text broken.cause)) refl
    (text_joined broken.element (codes " " ++ cause_text broken.cause) (name_passes is_text_char text_passed broken.element named.element)
    (text_joined (codes " ") (cause_text broken.cause) refl (cause_chars broken.cause named.cause)))

number_chars : (word : List ℕ) (n : ℕ) → n < 2 ^ 64 → IsText word → IsText (word ++ decimal n)
number_chars word n small is = text_joined word (decimal n) is (decimal_passes is_text_char text_passed n small)

documents_chars : (some : Bool) → IsText (documents_text some)
unfolding is_char
documents_chars true = refl
documents_chars false = refl

heads_chars : (first : Declarations) (cap : ℕ) (v : Verdict) → IsPlain cap v → AllByRecursion IsText (head_lines first cap v)
unfolding is_char
heads_chars first cap (Subset tables) plain = (refl, (documents_chars (has_size ((costs_of first tables).m tables.root)), tt))
heads_chars first cap (Not article broken tables) plain = (refl, (number_chars (codes "least ") (size article) plain.2 refl, (broken_chars broken plain.0, tt)))
heads_chars first cap (Over broken tables) plain = (refl, (number_chars (codes "above ") cap plain.1 refl, (broken_chars broken plain.0, tt)))

behind_chars : (cap : ℕ) (v : Verdict) → IsPlain cap v → IsText (behind v)
unfolding is_char
behind_chars cap (Subset tables) plain = refl
behind_chars cap (Not article broken tables) plain =
    text_joined (codes "article") (10 ∷ (write article ++ 10 ∷ [])) refl (text_joined (10 ∷ []) (write article ++ 10 ∷ []) refl (text_joined (write article) (10 ∷ []) (article_is_text article plain.1) refl))
behind_chars cap (Over broken tables) plain = refl

joined_chars : (lines : List (List ℕ)) → AllByRecursion IsText lines → IsText (joined lines)
unfolding is_char
joined_chars [] all = refl
joined_chars (x ∷ xs) all = text_joined x (10 ∷ joined xs) all.0 (text_joined (10 ∷ []) (joined xs) refl (joined_chars xs all.1))

-- all characters of the text are Chars other than CR
pub verdict_chars : (first : Declarations) (cap : ℕ) (v : Verdict) → IsPlain cap v → AllByRecursion IsText (cert_lines first (tables_in v)) → list_all is_text_char (verdict_text first cap v) ≡ true
verdict_chars first cap v plain cert =
    text_joined (joined (head_lines first cap v)) (joined (cert_lines first (tables_in v)) ++ behind v) (joined_chars (head_lines first cap v) (heads_chars first cap v plain))
    (text_joined (joined (cert_lines first (tables_in v))) (behind v) (joined_chars (cert_lines first (tables_in v)) cert) (behind_chars cap v plain))
