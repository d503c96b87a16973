-- What is written is read.
use Rattle.std.proofs.Common.{◌≡◌, List, [], ◌∷◌, ◌++◌, ℕ, suc, ◌+◌, ◌-◌, ◌<◌, ◌≤◌, length, length-append, refl, sym, ap, ◌∙◌, subst, arith, true, false, Some, None}
use Rattle.std.specs.Prelude.{option_and_then, option_map, if◌then◌else◌, ◌==◌, codes, nat_eq}
use Rattle.std.specs.List.{list_all, starts_with}
use Rattle.std.proofs.lemmas.List.{append_assoc, append-nil}
use Rattle.jats_chars.specs.Classes.{is_space, is_name_char}
use Rattle.jats_chars.specs.Names.{is_nmtoken}
use Rattle.attribute_types.specs.declared.types.AttType.{AttType}
use Rattle.attribute_types.specs.declared.types.AttType.TheVariants as kind
use Rattle.attlist_merge.specs.declared.raw.RawPreset.{RawPreset}
use Rattle.attlist_merge.specs.declared.raw.RawPreset.TheVariants as preset
use Rattle.attlist_merge.specs.declared.raw.RawAtt.{RawAtt}
use Rattle.attlist_merge.specs.declared.raw.RawAttList.{RawAttList}
use Rattle.text_fronts.specs.Fronts.{skipped, word, after_word}
use Rattle.text_fronts.specs.Grammar.{IsBlank, IsSpace, IsLiteral}
use Rattle.text_fronts.proofs.Fronts.{is-not, nmtoken_chars, stops, word_plain, blank_ends, skipped_over, word_at, after_at, name_not_blank}
use Rattle.text_fronts.proofs.Complete.{space_back, space_stop, blank_stop, spaced_name_back, quote_cases, literal_form, literal_back, literal_plain}
use Rattle.attlist_merge.specs.Grammar.{AreTokens, IsGroup, IsNotation, IsType, IsQuoted, IsFixed, IsPreset, IsDefinition, AreDefinitions, IsAttlist}
use Rattle.attlist_merge.specs.Reading.{group, read_group, keyword, as_notation, as_enumeration, read_notation, named_type, read_type, with_references, read_quoted, as_fixed, as_value, named_preset, read_preset, with_preset, with_type, read_definition, definitions, of_element, raw_list_of}
use Rattle.attlist_merge.proofs.Tokens.{group_closes, group_next, definitions_end, definitions-goes}

-- ---- tokens

module _ (a w b : List ℕ) (c : ℕ) (cs : List ℕ) (la : IsBlank a) (lw : is_nmtoken w ≡ true) (lb : IsBlank b) (ends : is_name_char c ≡ false) (plain : is_space c ≡ false) where
  front-is : skipped (a ++ (w ++ (b ++ (c ∷ cs)))) ≡ w ++ (b ++ (c ∷ cs))
  front-is = skipped_over a (w ++ (b ++ (c ∷ cs))) la (word_plain w (b ++ (c ∷ cs)) lw)

  ends-there : stops is_name_char (b ++ (c ∷ cs)) ≡ true
  ends-there = blank_ends b (c ∷ cs) lb (is-not (is_name_char c) ends)

  token-is : word (skipped (a ++ (w ++ (b ++ (c ∷ cs))))) ≡ w
  token-is = ap word front-is ∙ word_at w (b ++ (c ∷ cs)) (nmtoken_chars w lw) ends-there

  token-passes : is_nmtoken (word (skipped (a ++ (w ++ (b ++ (c ∷ cs)))))) ≡ true
  token-passes = ap is_nmtoken token-is ∙ lw

  behind-is : skipped (after_word (skipped (a ++ (w ++ (b ++ (c ∷ cs)))))) ≡ c ∷ cs
  behind-is =
      ap skipped (ap after_word front-is ∙ after_at w (b ++ (c ∷ cs)) (nmtoken_chars w lw) ends-there)
      ∙ skipped_over b (c ∷ cs) lb (is-not (is_space c) plain)

close_ends : is_name_char 0x29 ≡ false
unfolding is_name_char
close_ends = refl

close_plain : is_space 0x29 ≡ false
unfolding is_space
close_plain = refl

bar_ends : is_name_char 0x7C ≡ false
unfolding is_name_char
bar_ends = refl

bar_plain : is_space 0x7C ≡ false
unfolding is_space
bar_plain = refl

with : (a w b rest r s : List ℕ) → s ≡ a ++ (w ++ (b ++ rest)) → s ++ r ≡ a ++ (w ++ (b ++ (rest ++ r)))
with a w b rest r s e = ap (λ k. k ++ r) e ∙ simp append_assoc

group_back : (ts : List (List ℕ)) (n : ℕ) (done : List (List ℕ)) (s r : List ℕ) → AreTokens s ts → length ts ≤ n → group n done (s ++ r) ≡ Some (done ++ ts, r)
group_back [] n done s r h l = absurd h
group_back (w ∷ []) n done s r h l =
    let t = h.before ++ (w ++ (h.after ++ (0x29 ∷ r))) in
    ap (group n done) (with h.before w h.after (0x29 ∷ []) r s h.form)
    ∙ group_closes n done t (omega (arith, l)) (token-passes h.before w h.after 0x29 r h.left h.is_token h.right close_ends close_plain) 0x29 r
    (behind-is h.before w h.after 0x29 r h.left h.is_token h.right close_ends close_plain) refl
    ∙ ap (λ k. Some (done ++ k ∷ [], r)) (token-is h.before w h.after 0x29 r h.left h.is_token h.right close_ends close_plain)
group_back (w ∷ u ∷ ts) n done s r (rest, h, i) l =
    let t = h.before ++ (w ++ (h.after ++ (0x7C ∷ (rest ++ r)))) in
    ap (group n done) (with h.before w h.after (0x7C ∷ rest) r s h.form)
    ∙ group_next n done t (omega (arith, l)) (token-passes h.before w h.after 0x7C (rest ++ r) h.left h.is_token h.right bar_ends bar_plain) 0x7C (rest ++ r)
    (behind-is h.before w h.after 0x7C (rest ++ r) h.left h.is_token h.right bar_ends bar_plain) (λ e. omega (arith, e)) refl
    ∙ ap (λ k. group (n - 1) (done ++ k ∷ []) (rest ++ r)) (token-is h.before w h.after 0x7C (rest ++ r) h.left h.is_token h.right bar_ends bar_plain)
    ∙ group_back (u ∷ ts) (n - 1) (done ++ w ∷ []) rest r i (omega (arith, l))
    ∙ ap (λ k. Some (k, r)) (append_assoc done (w ∷ []) (u ∷ ts))

tokens_length : (ts : List (List ℕ)) (s : List ℕ) → AreTokens s ts → length ts ≤ length s
tokens_length [] s h = absurd h
tokens_length (w ∷ []) s h =
    let e : length s ≡ length h.before + (length w + (length h.after + 1)) = ap length h.form ∙ simp length-append in omega (arith, e)
tokens_length (w ∷ u ∷ ts) s (rest, h, i) =
    let e : length s ≡ length h.before + (length w + (length h.after + suc (length rest))) = ap length h.form ∙ simp length-append in
    let j = tokens_length (u ∷ ts) rest i in
    omega (arith, e, j)

read_group_back : (s r : List ℕ) (ts : List (List ℕ)) → IsGroup s ts → read_group (s ++ r) ≡ Some (ts, r)
unfolding read_group
read_group_back s r ts h =
    let l : length (h.inside ++ r) ≡ length h.inside + length r = length-append h.inside r in
    ap (λ k. read_group (k ++ r)) h.form
    ∙ group_back ts (length (h.inside ++ r)) [] h.inside r h.are_tokens (omega (arith, l, tokens_length ts h.inside h.are_tokens))

-- ---- types

open_plain : is_space 0x28 ≡ false
unfolding is_space
open_plain = refl

group_plain : (s r : List ℕ) (ts : List (List ℕ)) → IsGroup s ts → stops is_space (s ++ r) ≡ true
group_plain s r ts h = ap (λ k. stops is_space (k ++ r)) h.form ∙ is-not (is_space 0x28) open_plain

word_type : (w r : List ℕ) (k : AttType) → list_all is_name_char w ≡ true → stops is_name_char r ≡ true → starts_with nat_eq (w ++ r) (codes "(") ≡ false → keyword w ≡ Some k
    → read_type (w ++ r) ≡ Some (k, r)
unfolding read_type
word_type w r k h s o e =
    let t = w ++ r in
    ap (λ b. if b then option_map as_enumeration (read_group t) else named_type (keyword (word t)) (word t) (after_word t)) o
    ∙ ap (λ x. named_type (keyword x) x (after_word t)) (word_at w r h s)
    ∙ ap (λ x. named_type x w (after_word t)) e
    ∙ ap (λ x. Some (k, x)) (after_at w r h s)

notation_chars : list_all is_name_char (codes "NOTATION") ≡ true
unfolding is_name_char
notation_chars = refl

notation_none : keyword (codes "NOTATION") ≡ None
unfolding keyword
notation_none = refl

notation_back : (s r : List ℕ) (names : List (List ℕ)) → IsNotation s names → read_type (s ++ r) ≡ Some (kind.Notation names, r)
unfolding read_type read_notation
notation_back s r names h =
    let behind = h.space ++ (h.group ++ r) in
    let t = codes "NOTATION" ++ behind in
    let form : s ++ r ≡ t = ap (λ k. k ++ r) h.form ∙ simp append_assoc in
    let stop = space_stop h.space (h.group ++ r) h.is_space in
    ap read_type form
    ∙ ap (λ x. named_type (keyword x) x (after_word t)) (word_at (codes "NOTATION") behind notation_chars stop)
    ∙ ap (λ x. named_type x (codes "NOTATION") (after_word t)) notation_none
    ∙ ap read_notation (after_at (codes "NOTATION") behind notation_chars stop)
    ∙ ap (λ o. option_and_then as_notation (option_and_then read_group o)) (space_back h.space (h.group ++ r) h.is_space (group_plain h.group r names h.is_group))
    ∙ ap (option_and_then as_notation) (read_group_back h.group r names h.is_group)
    ∙ ap (λ b. option_map (λ names. (kind.Notation names, r)) (if b then Some names else None)) h.are_names

type_back : (k : AttType) (s r : List ℕ) → IsType s k → stops is_name_char r ≡ true → read_type (s ++ r) ≡ Some (k, r)
unfolding read_type keyword is_name_char
type_back kind.Cdata s r h e = ap (λ x. read_type (x ++ r)) h ∙ word_type (codes "CDATA") r kind.Cdata refl e refl refl
type_back kind.Id s r h e = ap (λ x. read_type (x ++ r)) h ∙ word_type (codes "ID") r kind.Id refl e refl refl
type_back kind.Idref s r h e = ap (λ x. read_type (x ++ r)) h ∙ word_type (codes "IDREF") r kind.Idref refl e refl refl
type_back kind.Idrefs s r h e = ap (λ x. read_type (x ++ r)) h ∙ word_type (codes "IDREFS") r kind.Idrefs refl e refl refl
type_back kind.Entity s r h e = ap (λ x. read_type (x ++ r)) h ∙ word_type (codes "ENTITY") r kind.Entity refl e refl refl
type_back kind.Entities s r h e = ap (λ x. read_type (x ++ r)) h ∙ word_type (codes "ENTITIES") r kind.Entities refl e refl refl
type_back kind.Nmtoken s r h e = ap (λ x. read_type (x ++ r)) h ∙ word_type (codes "NMTOKEN") r kind.Nmtoken refl e refl refl
type_back kind.Nmtokens s r h e = ap (λ x. read_type (x ++ r)) h ∙ word_type (codes "NMTOKENS") r kind.Nmtokens refl e refl refl
type_back (kind.Notation names) s r h e = notation_back s r names h
type_back (kind.Enumeration tokens) s r h e =
    let front : read_type (s ++ r) ≡ option_map as_enumeration (read_group (s ++ r)) =
    subst (λ k. read_type (k ++ r) ≡ option_map as_enumeration (read_group (k ++ r))) (sym h.form) refl in
    front ∙ ap (option_map as_enumeration) (read_group_back s r tokens h)

-- a type begins without white space
type_plain : (k : AttType) (s r : List ℕ) → IsType s k → stops is_space (s ++ r) ≡ true
unfolding is_space
type_plain kind.Cdata s r h = ap (λ x. stops is_space (x ++ r)) h
type_plain kind.Id s r h = ap (λ x. stops is_space (x ++ r)) h
type_plain kind.Idref s r h = ap (λ x. stops is_space (x ++ r)) h
type_plain kind.Idrefs s r h = ap (λ x. stops is_space (x ++ r)) h
type_plain kind.Entity s r h = ap (λ x. stops is_space (x ++ r)) h
type_plain kind.Entities s r h = ap (λ x. stops is_space (x ++ r)) h
type_plain kind.Nmtoken s r h = ap (λ x. stops is_space (x ++ r)) h
type_plain kind.Nmtokens s r h = ap (λ x. stops is_space (x ++ r)) h
type_plain (kind.Notation names) s r h = ap (λ x. stops is_space (x ++ r)) h.form
type_plain (kind.Enumeration tokens) s r h = group_plain s r tokens h

-- ---- presets

abbrev literal_of : (s value : List ℕ) → IsQuoted s value → IsLiteral s value
literal_of s value h = record { quote = h.quote; is_quote = h.is_quote; form = h.form; within = h.within }

quoted_form : (s r value : List ℕ) → (h : IsQuoted s value) → s ++ r ≡ h.quote ∷ (value ++ (h.quote ∷ r))
quoted_form s r value h = literal_form s r value (literal_of s value h)

pub quoted_back : (s r value : List ℕ) → IsQuoted s value → read_quoted (s ++ r) ≡ Some (value, r)
unfolding read_quoted
quoted_back s r value h =
    ap (option_and_then with_references) (literal_back s r value (literal_of s value h)) ∙ ap (λ b. if b then Some (value, r) else None) h.references

quoted_plain : (s r value : List ℕ) → IsQuoted s value → stops is_space (s ++ r) ≡ true
quoted_plain s r value h = literal_plain s r value (literal_of s value h)

value_back : (s r value : List ℕ) → IsQuoted s value → read_preset (s ++ r) ≡ Some (preset.Value value, r)
unfolding read_preset
value_back s r value h =
    let cs = value ++ (h.quote ∷ r) in
    let plain : (h.quote == 0x23) ≡ false = quote_cases (λ q. (q == 0x23) ≡ false) refl refl h.quote h.is_quote in
    ap read_preset (quoted_form s r value h)
    ∙ ap (λ b. if b then named_preset (word cs) (after_word cs) else option_map as_value (read_quoted (h.quote ∷ cs))) plain
    ∙ ap (λ k. option_map as_value (read_quoted k)) (sym (quoted_form s r value h))
    ∙ ap (option_map as_value) (quoted_back s r value h)

-- a preset that a word names
word_preset : (w r : List ℕ) → list_all is_name_char w ≡ true → stops is_name_char r ≡ true → read_preset (0x23 ∷ (w ++ r)) ≡ named_preset w r
unfolding read_preset
word_preset w r h s =
    ap (λ x. named_preset x (after_word (w ++ r))) (word_at w r h s) ∙ ap (named_preset w) (after_at w r h s)

fixed_chars : list_all is_name_char (codes "FIXED") ≡ true
unfolding is_name_char
fixed_chars = refl

fixed_back : (s r value : List ℕ) → IsFixed s value → read_preset (s ++ r) ≡ Some (preset.Fixed value, r)
fixed_back s r value h =
    let behind = h.space ++ (h.quoted ++ r) in
    let form : s ++ r ≡ 0x23 ∷ (codes "FIXED" ++ behind) = ap (λ k. k ++ r) h.form ∙ simp append_assoc in
    ap read_preset form
    ∙ word_preset (codes "FIXED") behind fixed_chars (space_stop h.space (h.quoted ++ r) h.is_space)
    ∙ ap (λ o. option_map as_fixed (option_and_then read_quoted o)) (space_back h.space (h.quoted ++ r) h.is_space (quoted_plain h.quoted r value h.is_quoted))
    ∙ ap (option_map as_fixed) (quoted_back h.quoted r value h.is_quoted)

preset_back : (p : RawPreset) (s r : List ℕ) → IsPreset s p → stops is_name_char r ≡ true → read_preset (s ++ r) ≡ Some (p, r)
unfolding is_name_char
preset_back preset.Required s r h e = ap (λ x. read_preset (x ++ r)) h ∙ word_preset (codes "REQUIRED") r refl e
preset_back preset.Implied s r h e = ap (λ x. read_preset (x ++ r)) h ∙ word_preset (codes "IMPLIED") r refl e
preset_back (preset.Value value) s r h e = value_back s r value h
preset_back (preset.Fixed value) s r h e = fixed_back s r value h

-- a preset begins without white space
preset_plain : (p : RawPreset) (s r : List ℕ) → IsPreset s p → stops is_space (s ++ r) ≡ true
unfolding is_space
preset_plain preset.Required s r h = ap (λ x. stops is_space (x ++ r)) h
preset_plain preset.Implied s r h = ap (λ x. stops is_space (x ++ r)) h
preset_plain (preset.Value value) s r h = quoted_plain s r value h
preset_plain (preset.Fixed value) s r h = ap (λ x. stops is_space (x ++ r)) h.form

-- ---- definitions

definition_form : (s r : List ℕ) (att : RawAtt) → (h : IsDefinition s att)
    → s ++ r ≡ h.before ++ (att.name ++ (h.middle ++ (h.kind ++ (h.after ++ (h.preset ++ r)))))
definition_form s r att h = ap (λ k. k ++ r) h.form ∙ simp append_assoc

definition_back : (s r : List ℕ) (att : RawAtt) → IsDefinition s att → stops is_name_char r ≡ true → read_definition (s ++ r) ≡ Some (att, r)
unfolding read_definition
definition_back s r att h e =
    let t3 = h.preset ++ r in
    let t2 = h.kind ++ (h.after ++ t3) in
    let t1 = h.middle ++ t2 in
    ap read_definition (definition_form s r att h)
    ∙ ap (option_and_then with_type) (spaced_name_back h.before att.name t1 h.is_before h.is_name (space_stop h.middle t2 h.is_middle))
    ∙ ap (λ o. option_and_then (with_preset att.name) (option_and_then read_type o)) (space_back h.middle t2 h.is_middle (type_plain att.kind h.kind (h.after ++ t3) h.is_kind))
    ∙ ap (option_and_then (with_preset att.name)) (type_back att.kind h.kind (h.after ++ t3) h.is_kind (space_stop h.after t3 h.is_after))
    ∙ ap (λ o. option_map (λ y. (record { name = att.name; kind = att.kind; preset = y.0 }, y.1)) (option_and_then read_preset o)) (space_back h.after t3 h.is_after (preset_plain att.preset h.preset r h.is_preset))
    ∙ ap (option_map (λ y. (record { name = att.name; kind = att.kind; preset = y.0 }, y.1))) (preset_back att.preset h.preset r h.is_preset e)

definitions_stop : (atts : List RawAtt) (t : List ℕ) → AreDefinitions t atts → stops is_name_char t ≡ true
definitions_stop [] t h = blank_stop t h
definitions_stop (att ∷ atts) t (front, rest, form, d, i) =
    ap (stops is_name_char) (form ∙ definition_form front rest att d)
    ∙ space_stop d.before (att.name ++ (d.middle ++ (d.kind ++ (d.after ++ (d.preset ++ rest))))) d.is_before

definition_shorter : (s r : List ℕ) (att : RawAtt) → IsDefinition s att → length r < length (s ++ r)
definition_shorter s r att h = go h.before h.form h.is_before
  where
    go : (b : List ℕ) → s ≡ b ++ (att.name ++ (h.middle ++ (h.kind ++ (h.after ++ h.preset)))) → IsSpace b → length r < length (s ++ r)
    go [] f i = absurd i
    go (c ∷ b) f i =
        let e : length s ≡ suc (length (b ++ (att.name ++ (h.middle ++ (h.kind ++ (h.after ++ h.preset)))))) = ap length f in
        let l : length (s ++ r) ≡ length s + length r = length-append s r in
        omega (arith, e, l)

definitions_length : (atts : List RawAtt) (t : List ℕ) → AreDefinitions t atts → length atts ≤ length t
definitions_length [] t h = omega arith
definitions_length (att ∷ atts) t (front, rest, form, d, i) =
    let e : length t ≡ length (front ++ rest) = ap length form in
    omega (arith, e, definition_shorter front rest att d, definitions_length atts rest i)

definitions_back : (atts : List RawAtt) (n : ℕ) (done : List RawAtt) (t : List ℕ) → AreDefinitions t atts → length atts ≤ n → definitions n done t ≡ Some (done ++ atts)
definitions_back [] n done t h l = definitions_end n done t h ∙ ap Some (sym (append-nil done))
definitions_back (att ∷ atts) n done t (front, rest, form, d, i) l =
    let filled : list_all is_space t ≡ false =
    ap (list_all is_space) (form ∙ definition_form front rest att d)
    ∙ name_not_blank d.before att.name (d.middle ++ (d.kind ++ (d.after ++ (d.preset ++ rest)))) d.is_name in
    definitions-goes n done t (omega (arith, l)) filled
    ∙ ap (option_and_then (λ x. definitions (n - 1) (done ++ x.0 ∷ []) x.1)) (ap read_definition form ∙ definition_back front rest att d (definitions_stop atts rest i))
    ∙ definitions_back atts (n - 1) (done ++ att ∷ []) rest i (omega (arith, l))
    ∙ ap Some (append_assoc done (att ∷ []) atts)

pub attlist_complete : (body : List ℕ) (raw : RawAttList) → IsAttlist body raw → raw_list_of body ≡ Some raw
unfolding raw_list_of
attlist_complete body raw h =
    ap raw_list_of h.form
    ∙ ap (option_and_then of_element) (spaced_name_back h.before raw.element h.rest h.is_before h.is_name (definitions_stop raw.atts h.rest h.definitions))
    ∙ ap (option_map (λ atts. record { element = raw.element; atts = atts }))
    (definitions_back raw.atts (length h.rest) [] h.rest h.definitions (definitions_length raw.atts h.rest h.definitions))
