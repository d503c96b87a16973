-- Names, attributes and tags at the front of texts.
use Rattle.std.proofs.Common.{◌≡◌, ◌∙◌, ℕ, zero, suc, ◌+◌, ◌<◌, ◌≤◌, List, [], ◌∷◌, ◌++◌, length, drop, Bool, true, false, not, eqb, ◌&&◌, Option, Some, None, refl, ap, sym, subst, arith, append_assoc, length-append, codes}
use Rattle.std.specs.Prelude.{nat_eq, option_map, option_and_then, ◌==◌}
use Rattle.std.specs.List.{list_all, starts_with}
use Rattle.std.proofs.lemmas.Bool.{cond-true, cond-false, and_parts, eqb-true, false≢true, false_from_ne_true}
use Rattle.jats_chars.specs.Classes.{is_space, is_name_start, is_name_char}
use Rattle.jats_chars.specs.Names.{is_name}
use Rattle.text_fronts.specs.Grammar.{IsBlank, IsSpace}
use Rattle.attlist_merge.specs.Grammar.{IsQuoted}
use Rattle.text_fronts.specs.Fronts.{Read, skipped, read_space, read_name, spaced_name}
use Rattle.attlist_merge.specs.Reading.{read_quoted}
use Rattle.text_fronts.proofs.Fronts.{and_then_some, map_some, if_some, choose, stops, name_plain, blank_ends, skipped_over, skipped_split}
use Rattle.text_fronts.proofs.Complete.{space_back, space_blank, space_stop, name_back, literal_plain}
use Rattle.attlist_merge.proofs.Complete.{quoted_back}
use Rattle.text_fronts.proofs.Sound.{space_sound, name_sound}
use Rattle.attlist_merge.proofs.Sound.{quoted_sound}
use Rattle.article_tree.specs.Tokens.{Raw, Tag, Token, start, IsAttribute, AreAttributes, tag_end, IsTag}
use Rattle.article_tree.specs.Taking.{behind, equals, direct, with_value, take_attribute, take_end, ended_or, in_front, take_attributes, tag_of, take_tag}
use Rattle.article_tree.proofs.Marks.{behind_found, behind_here}

-- ---- names and spaces

pub name_found : (text : List ℕ) (x : List ℕ × List ℕ) → read_name text ≡ Some x → (text ≡ x.0 ++ x.1) × (is_name x.0 ≡ true)
name_found text x e = let h = name_sound text x e in (h.1 ∙ ap (λ t. t ++ x.1) h.2.0, h.2.1)

-- what begins a Name is no other sign
pub starts_apart : (d : ℕ) → is_name_start d ≡ false → (c : ℕ) → is_name_start c ≡ true → eqb d c ≡ false
starts_apart d none c is = false_from_ne_true (eqb d c) (λ same. false≢true (sym none ∙ ap is_name_start (eqb-true d c same) ∙ is))

pub sign_ends : (c : ℕ) (rest : List ℕ) → is_name_char c ≡ false → stops is_name_char (c ∷ rest) ≡ true
sign_ends c rest is = ap not is

-- ---- attributes

pub attribute_found : (text : List ℕ) (x : Raw × List ℕ) → take_attribute text ≡ Some x → (first : List ℕ) × IsAttribute first x.0 × (text ≡ first ++ x.1)
attribute_found text x e =
    let named = and_then_some with_value (spaced_name text) x e in
    let spaced = and_then_some read_name (read_space text) named.0 named.1 in
    let space = space_sound text spaced.0 spaced.1 in
    let name = name_found spaced.0 named.0 spaced.2 in
    let valued = map_some (λ (v : List ℕ × List ℕ). ((named.0.0, v.0), v.1)) (option_and_then direct (option_and_then read_quoted (equals named.0.1))) x named.2 in
    let directed = and_then_some direct (option_and_then read_quoted (equals named.0.1)) valued.0 valued.1 in
    let quoted = and_then_some read_quoted (equals named.0.1) directed.0 directed.1 in
    let kept = if_some (list_all (λ c. not (c == 60)) directed.0.0) (Some directed.0) valued.0 directed.2 in
    let value : directed.0 ≡ valued.0 = (let f = kept.1 in cc) in
    let equal = map_some skipped (behind (codes "=") (skipped named.0.1)) quoted.0 quoted.1 in
    let before = skipped_split named.0.1 in
    let sign = behind_found (codes "=") (skipped named.0.1) equal.0 equal.1 in
    let after = skipped_split equal.0 in
    let q = quoted_sound quoted.0 directed.0 quoted.2 in
    let whole : text ≡ space.0 ++ (named.0.0 ++ (before.0 ++ (61 ∷ (after.0 ++ (q.0 ++ directed.0.1))))) =
    space.1 ∙ ap (λ t. space.0 ++ t) (name.0 ∙ ap (λ t. named.0.0 ++ t) (before.2 ∙ ap (λ t. before.0 ++ t) (sign ∙ ap (λ (t : List ℕ). 61 ∷ t) (after.2 ∙ ap (λ t. after.0 ++ t) (equal.2 ∙ q.1))))) in
    let first = space.0 ++ (named.0.0 ++ (before.0 ++ (61 ∷ (after.0 ++ q.0)))) in
    let regrouped : space.0 ++ (named.0.0 ++ (before.0 ++ (61 ∷ (after.0 ++ (q.0 ++ directed.0.1))))) ≡ first ++ directed.0.1 = sym (simp append_assoc) in
    let is : IsAttribute first (named.0.0, directed.0.0) = record { space = space.0; before = before.0; after = after.0; value = q.0; form = refl; is_space = space.2; is_named = name.1; is_before = before.1; is_after = after.1; is_quoted = q.2; is_direct = kept.0 } in
    let found : (first : List ℕ) × IsAttribute first (named.0.0, directed.0.0) × (text ≡ first ++ directed.0.1) = (first, is, whole ∙ regrouped) in
    subst (λ (x : Raw × List ℕ). (first : List ℕ) × IsAttribute first x.0 × (text ≡ first ++ x.1)) (ap (λ (v : List ℕ × List ℕ). ((named.0.0, v.0), v.1)) value ∙ valued.2) found

quoted_plain : (s r value : List ℕ) → IsQuoted s value → stops is_space (s ++ r) ≡ true
quoted_plain s r value h = literal_plain s r value (record { quote = h.quote; is_quote = h.is_quote; form = h.form; within = h.within })

pub attribute_back : (first rest : List ℕ) (raw : Raw) → IsAttribute first raw → take_attribute (first ++ rest) ≡ Some (raw, rest)
unfolding is_space is_name_char
attribute_back first rest raw h =
    let behind_after = h.value ++ rest in
    let behind_before = 61 ∷ (h.after ++ behind_after) in
    let behind_name = h.before ++ behind_before in
    let whole : first ++ rest ≡ h.space ++ (raw.0 ++ behind_name) = ap (λ t. t ++ rest) h.form ∙ simp append_assoc in
    let sign : equals behind_name ≡ Some behind_after =
    ap (λ (t : List ℕ). option_map skipped (behind (codes "=") t)) (skipped_over h.before behind_before h.is_before refl)
    ∙ ap (option_map skipped) (behind_here (codes "=") (h.after ++ behind_after))
    ∙ ap Some (skipped_over h.after behind_after h.is_after (quoted_plain h.value rest raw.1 h.is_quoted)) in
    let valued : with_value (raw.0, behind_name) ≡ Some (raw, rest) =
    ap (λ (o : Option (List ℕ)). option_map (λ (v : List ℕ × List ℕ). ((raw.0, v.0), v.1)) (option_and_then direct (option_and_then read_quoted o))) sign
    ∙ ap (λ (o : Option (List ℕ × List ℕ)). option_map (λ (v : List ℕ × List ℕ). ((raw.0, v.0), v.1)) (option_and_then direct o)) (quoted_back h.value rest raw.1 h.is_quoted)
    ∙ ap (option_map (λ (v : List ℕ × List ℕ). ((raw.0, v.0), v.1))) (cond-true (list_all (λ c. not (c == 60)) raw.1) (Some (raw.1, rest)) None h.is_direct) in
    ap take_attribute whole
    ∙ ap (λ (o : Option (List ℕ)). option_and_then with_value (option_and_then read_name o)) (space_back h.space (raw.0 ++ behind_name) h.is_space (name_plain raw.0 behind_name h.is_named))
    ∙ ap (option_and_then with_value) (name_back raw.0 behind_name h.is_named (blank_ends h.before behind_before h.is_before refl))
    ∙ valued

-- ---- the end of a tag

end_found : (text : List ℕ) (x : Bool × List ℕ) → take_end text ≡ Some x → text ≡ tag_end x.0 ++ x.1
end_found text x e =
    choose (text ≡ tag_end x.0 ++ x.1) (starts_with nat_eq text (codes ">")) (Some (false, drop 1 text)) _ x e
    (λ begins f. let same : (false, drop 1 text) ≡ x = cc in subst (λ (x : Bool × List ℕ). text ≡ tag_end x.0 ++ x.1) same (behind_found (codes ">") text (drop 1 text) (cond-true (starts_with nat_eq text (codes ">")) (Some (drop 1 text)) None begins)))
    (λ none f. choose (text ≡ tag_end x.0 ++ x.1) (starts_with nat_eq text (codes "/>")) (Some (true, drop 2 text)) None x f
    (λ begins g. let same : (true, drop 2 text) ≡ x = cc in subst (λ (x : Bool × List ℕ). text ≡ tag_end x.0 ++ x.1) same (behind_found (codes "/>") text (drop 2 text) (cond-true (starts_with nat_eq text (codes "/>")) (Some (drop 2 text)) None begins)))
    (λ no g. cc))

end_back : (b : Bool) (rest : List ℕ) → take_end (tag_end b ++ rest) ≡ Some (b, rest)
end_back true rest = refl
end_back false rest = refl

end_plain : (p : ℕ → Bool) (b : Bool) (rest : List ℕ) → p 62 ≡ false → p 47 ≡ false → stops p (tag_end b ++ rest) ≡ true
end_plain p true rest a c = ap not c
end_plain p false rest a c = ap not a

no_end : (name rest : List ℕ) → is_name name ≡ true → take_end (name ++ rest) ≡ None
unfolding is_name_start
no_end [] rest is = absurd (false≢true is)
no_end (c ∷ name) rest is =
    let first = (and_parts (is_name_start c) (list_all is_name_char name) is).0 in
    cond-false (starts_with nat_eq (c ∷ (name ++ rest)) (codes ">")) _ _ (ap (λ (b : Bool). b && true) (starts_apart 62 refl c first))
    ∙ cond-false (starts_with nat_eq (c ∷ (name ++ rest)) (codes "/>")) _ _ (ap (λ (b : Bool). b && starts_with nat_eq (name ++ rest) (codes ">")) (starts_apart 47 refl c first))

-- ---- the attributes of a tag

-- attributes, white space and the end of a tag
abbrev pub Tails : List ℕ → (List Raw × Bool) × List ℕ → Type 0
Tails text x = (written : List ℕ) × (space : List ℕ) × AreAttributes written x.0.0 × IsBlank space × (text ≡ written ++ (space ++ (tag_end x.0.1 ++ x.1)))

pub attributes_found : (n : ℕ) (text : List ℕ) (x : (List Raw × Bool) × List ℕ) → take_attributes n text ≡ Some x → Tails text x
unfolding take_attributes
attributes_found zero text x e = (let f : None ≡ Some x = e in cc)
attributes_found (suc n) text x e = by (λ t y. attributes_found n t y) (take_end (skipped text)) refl e
  where
    more : List ℕ → Read (List Raw × Bool)
    more t = option_and_then (λ a. option_map (in_front a.0) (take_attributes n a.1)) (take_attribute t)

    by : ((t : List ℕ) (y : (List Raw × Bool) × List ℕ) → take_attributes n t ≡ Some y → Tails t y) → (o : Option (Bool × List ℕ)) → take_end (skipped text) ≡ o
        → ended_or (λ t. option_and_then (λ a. option_map (in_front a.0) (take_attributes n a.1)) (take_attribute t)) text o ≡ Some x → Tails text x
    by later (Some y) is e =
        let same : (([], y.0), y.1) ≡ x = cc in
        let s = skipped_split text in
        subst (Tails text) same ([], s.0, refl, s.1, s.2 ∙ ap (λ t. s.0 ++ t) (end_found (skipped text) y is))
    by later None is e =
        let h = and_then_some (λ (a : Raw × List ℕ). option_map (in_front a.0) (take_attributes n a.1)) (take_attribute text) x e in
        let m = map_some (in_front h.0.0) (take_attributes n h.0.1) x h.2 in
        let a = attribute_found text h.0 h.1 in
        let l = later h.0.1 m.0 m.1 in
        subst (Tails text) m.2 (a.0 ++ l.0, l.1, (a.0, l.0, a.1, l.2, refl), l.3, a.2 ∙ ap (λ t. a.0 ++ t) l.4 ∙ sym (append_assoc a.0 l.0 (l.1 ++ (tag_end m.0.0.1 ++ m.0.1))))

pub attributes_back : (n : ℕ) (raws : List Raw) (written space : List ℕ) (b : Bool) (rest : List ℕ) → length raws < n → AreAttributes written raws → IsBlank space
    → take_attributes n (written ++ (space ++ (tag_end b ++ rest))) ≡ Some ((raws, b), rest)
unfolding take_attributes is_space
attributes_back zero raws written space b rest few are blank = absurd (omega arith)
attributes_back (suc n) [] written space b rest few are blank =
    let more = λ (t : List ℕ). option_and_then (λ (a : Raw × List ℕ). option_map (in_front a.0) (take_attributes n a.1)) (take_attribute t) in
    ap (λ (t : List ℕ). take_attributes (suc n) (t ++ (space ++ (tag_end b ++ rest)))) are
    ∙ ap (λ (t : List ℕ). ended_or more (space ++ (tag_end b ++ rest)) (take_end t)) (skipped_over space (tag_end b ++ rest) blank (end_plain is_space b rest refl refl))
    ∙ ap (ended_or more (space ++ (tag_end b ++ rest))) (end_back b rest)
attributes_back (suc n) (raw ∷ raws) written space b rest few (first, others, is, are, split) blank =
    let more = λ (t : List ℕ). option_and_then (λ (a : Raw × List ℕ). option_map (in_front a.0) (take_attributes n a.1)) (take_attribute t) in
    let tail = others ++ (space ++ (tag_end b ++ rest)) in
    let whole : written ++ (space ++ (tag_end b ++ rest)) ≡ first ++ tail = ap (λ t. t ++ (space ++ (tag_end b ++ rest))) split ∙ append_assoc first others (space ++ (tag_end b ++ rest)) in
    let behind_space = raw.0 ++ (is.before ++ (61 ∷ (is.after ++ (is.value ++ tail)))) in
    let spelled : first ++ tail ≡ is.space ++ behind_space = ap (λ t. t ++ tail) is.form ∙ simp append_assoc in
    let none : take_end (skipped (first ++ tail)) ≡ None =
    ap (λ (t : List ℕ). take_end (skipped t)) spelled
    ∙ ap take_end (skipped_over is.space behind_space (space_blank is.space is.is_space) (name_plain raw.0 (is.before ++ (61 ∷ (is.after ++ (is.value ++ tail)))) is.is_named))
    ∙ no_end raw.0 (is.before ++ (61 ∷ (is.after ++ (is.value ++ tail)))) is.is_named in
    ap (take_attributes (suc n)) whole
    ∙ ap (ended_or more (first ++ tail)) none
    ∙ ap (option_and_then (λ (a : Raw × List ℕ). option_map (in_front a.0) (take_attributes n a.1))) (attribute_back first tail raw is)
    ∙ ap (option_map (in_front raw)) (attributes_back n raws others space b rest (omega (arith, few)) are blank)

-- there are no more attributes than characters
pub attribute_filled : (first : List ℕ) (raw : Raw) → IsAttribute first raw → 0 < length first
attribute_filled first raw is = by is.space is.is_space is.form
  where
    by : (space : List ℕ) → IsSpace space → first ≡ space ++ (raw.0 ++ (is.before ++ (61 ∷ (is.after ++ is.value)))) → 0 < length first
    by [] none form = absurd none
    by (c ∷ space) some form = let e : length first ≡ suc (length (space ++ (raw.0 ++ (is.before ++ (61 ∷ (is.after ++ is.value)))))) = ap length form in omega (arith, e)

attributes_few : (written : List ℕ) (raws : List Raw) → AreAttributes written raws → length raws ≤ length written
attributes_few written [] are = omega arith
attributes_few written (raw ∷ raws) (first, rest, is, are, split) =
    let size : length written ≡ length first + length rest = ap length split ∙ length-append first rest in
    omega (arith, size, attribute_filled first raw is, attributes_few rest raws are)

-- ---- tags

pub tag_found : (text : List ℕ) (x : Token × List ℕ) → take_tag text ≡ Some x → (tag : Tag) × (front : List ℕ) × (x.0 ≡ start tag) × IsTag front tag × (60 ∷ text ≡ front ++ x.1)
tag_found text x e =
    let h = and_then_some (λ (x : List ℕ × List ℕ). option_map (tag_of x.0) (take_attributes (suc (length x.1)) x.1)) (read_name text) x e in
    let name = name_found text h.0 h.1 in
    let m = map_some (tag_of h.0.0) (take_attributes (suc (length h.0.1)) h.0.1) x h.2 in
    let a = attributes_found (suc (length h.0.1)) h.0.1 m.0 m.1 in
    let tag : Tag = record { name = h.0.0; atts = m.0.0.0; closed = m.0.0.1 } in
    let front = 60 ∷ (h.0.0 ++ (a.0 ++ (a.1 ++ tag_end m.0.0.1))) in
    let is : IsTag front tag = record { written = a.0; space = a.1; form = refl; is_named = name.1; are_attributes = a.2; is_blank = a.3 } in
    let whole : 60 ∷ text ≡ 60 ∷ (h.0.0 ++ (a.0 ++ (a.1 ++ (tag_end m.0.0.1 ++ m.0.1)))) = ap (λ (t : List ℕ). 60 ∷ t) (name.0 ∙ ap (λ t. h.0.0 ++ t) a.4) in
    let regrouped : 60 ∷ (h.0.0 ++ (a.0 ++ (a.1 ++ (tag_end m.0.0.1 ++ m.0.1)))) ≡ front ++ m.0.1 = sym (simp append_assoc) in
    subst (λ (x : Token × List ℕ). (tag : Tag) × (front : List ℕ) × (x.0 ≡ start tag) × IsTag front tag × (60 ∷ text ≡ front ++ x.1)) m.2 (tag, front, refl, is, whole ∙ regrouped)

written_ends : (written : List ℕ) (raws : List Raw) (behind : List ℕ) → AreAttributes written raws → stops is_name_char behind ≡ true → stops is_name_char (written ++ behind) ≡ true
written_ends written [] behind are ends = ap (λ t. stops is_name_char (t ++ behind)) are ∙ ends
written_ends written (raw ∷ raws) behind (first, rest, is, are, split) ends =
    ap (λ t. stops is_name_char (t ++ behind)) (split ∙ ap (λ t. t ++ rest) is.form) ∙ ap (stops is_name_char) (simp append_assoc)
    ∙ space_stop is.space (raw.0 ++ (is.before ++ (61 ∷ (is.after ++ (is.value ++ (rest ++ behind)))))) is.is_space

pub tag_back : (tag : Tag) (front rest : List ℕ) → IsTag front tag → (text : List ℕ) × (front ++ rest ≡ 60 ∷ (tag.name ++ text)) × (take_tag (tag.name ++ text) ≡ Some (start tag, rest))
unfolding is_name_char
tag_back tag front rest is =
    let text = is.written ++ (is.space ++ (tag_end tag.closed ++ rest)) in
    let ends : stops is_name_char text ≡ true = written_ends is.written tag.atts (is.space ++ (tag_end tag.closed ++ rest)) is.are_attributes (blank_ends is.space (tag_end tag.closed ++ rest) is.is_blank (end_plain is_name_char tag.closed rest refl refl)) in
    let size : length text ≡ length is.written + length (is.space ++ (tag_end tag.closed ++ rest)) = length-append is.written (is.space ++ (tag_end tag.closed ++ rest)) in (
      text,
      ap (λ t. t ++ rest) is.form ∙ ap (λ (t : List ℕ). 60 ∷ t) (simp append_assoc),
      ap (option_and_then (λ (x : List ℕ × List ℕ). option_map (tag_of x.0) (take_attributes (suc (length x.1)) x.1))) (name_back tag.name text is.is_named ends)
          ∙ ap (option_map (tag_of tag.name)) (attributes_back (suc (length text)) tag.atts is.written is.space tag.closed rest (omega (arith, size, attributes_few is.written tag.atts is.are_attributes)) is.are_attributes is.is_blank),
    )
