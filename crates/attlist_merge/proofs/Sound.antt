-- What is read is written so.
use Rattle.std.proofs.Common.{◌≡◌, List, [], ◌∷◌, ◌++◌, ℕ, zero, suc, refl, sym, ap, ◌∙◌, subst, true, Option, Some, None, ◌⊎◌, inl, inr, length, bytes_eq}
use Rattle.std.specs.Prelude.{option_and_then, option_map, if◌then◌else◌, ◌==◌, codes, nat_eq}
use Rattle.std.specs.List.{list_all, starts_with}
use Rattle.std.proofs.lemmas.List.{append_assoc, append-nil}
use Rattle.jats_chars.specs.Classes.{is_space}
use Rattle.jats_chars.specs.Names.{is_name, is_nmtoken}
use Rattle.attribute_types.specs.declared.types.AttType.{AttType}
use Rattle.attribute_types.specs.declared.types.AttType.TheVariants as kind
use Rattle.text_fronts.specs.Fronts.{Read, skipped, word, after_word, read_space, read_name, spaced_name, read_literal}
use Rattle.text_fronts.specs.Grammar.{IsSpace}
use Rattle.text_fronts.proofs.Fronts.{and_then_some, map_some, if_some, choose, same-list, word_split, skipped_split}
use Rattle.text_fronts.proofs.Sound.{same, Front, space_sound, name_sound, literal_sound}
use Rattle.attlist_merge.specs.Grammar.{IsToken, AreTokens, IsGroup, IsType, is_value, IsQuoted, IsPreset, IsDefinition, AreDefinitions, IsAttlist}
use Rattle.attlist_merge.specs.Reading.{closes, group, read_group, keyword, names_of, as_notation, as_enumeration, read_notation, named_type, read_type, with_references, read_quoted, as_fixed, as_value, read_fixed, named_preset, read_preset, spaced_type, spaced_preset, with_preset, with_type, read_definition, definitions, of_element, raw_list_of}
use Rattle.attlist_merge.specs.declared.raw.RawPreset.{RawPreset}
use Rattle.attlist_merge.specs.declared.raw.RawPreset.TheVariants as preset
use Rattle.attlist_merge.specs.declared.raw.RawAtt.{RawAtt}
use Rattle.attlist_merge.specs.declared.raw.RawAttList.{RawAttList}

-- the tokens that were read after others
abbrev pub Went : List (List ℕ) → List ℕ → List (List ℕ) × List ℕ → Type 0
Went done t y = (new : List (List ℕ)) × (s : List ℕ) × (y.0 ≡ done ++ new) × (t ≡ s ++ y.1) × AreTokens s new

regroup : (a w b r k : List ℕ) → a ++ (w ++ (b ++ (r ++ k))) ≡ (a ++ (w ++ (b ++ r))) ++ k
regroup a w b r k = sym (simp append_assoc)

-- `)` or `|` stands behind a token
closes_sound : (go : List (List ℕ) → List ℕ → Read (List (List ℕ))) (done : List (List ℕ)) (k : List ℕ) (y : List (List ℕ) × List ℕ) → closes go done k ≡ Some y
    → ((cs : List ℕ) × (k ≡ 0x29 ∷ cs) × ((done, cs) ≡ y)) ⊎ ((cs : List ℕ) × (k ≡ 0x7C ∷ cs) × (go done cs ≡ Some y))
unfolding closes
closes_sound go done [] y e = (let f : None ≡ Some y = e in cc)
closes_sound go done (c ∷ cs) y e =
    choose (((ds : List ℕ) × (c ∷ cs ≡ 0x29 ∷ ds) × ((done, ds) ≡ y)) ⊎ ((ds : List ℕ) × (c ∷ cs ≡ 0x7C ∷ ds) × (go done ds ≡ Some y)))
    (c == 0x29) (Some (done, cs)) (if c == 0x7C then go done cs else None) y e
    (λ q f. inl (cs, ap (λ k. k ∷ cs) (same c 0x29 q), (cc)))
    (λ q f. let g = if_some (c == 0x7C) (go done cs) y f in inr (cs, ap (λ k. k ∷ cs) (same c 0x7C g.0), g.1))

module _ (done : List (List ℕ)) (t a w b : List ℕ) (la : list_all is_space a ≡ true) (lw : is_nmtoken w ≡ true) (lb : list_all is_space b ≡ true) where
  went-last : (cs : List ℕ) (y : List (List ℕ) × List ℕ) → t ≡ a ++ (w ++ (b ++ (0x29 ∷ cs))) → (done ++ w ∷ [], cs) ≡ y → Went done t y
  went-last cs y whole p =
      let token : IsToken (a ++ (w ++ (b ++ (0x29 ∷ [])))) w (0x29 ∷ []) = record { before = a; after = b; form = refl; left = la; right = lb; is_token = lw } in
      let went : Went done t (done ++ w ∷ [], cs) = (w ∷ [], a ++ (w ++ (b ++ (0x29 ∷ []))), refl, whole ∙ regroup a w b (0x29 ∷ []) cs, token) in
      subst (Went done t) p went

  went-next : (cs : List ℕ) (y : List (List ℕ) × List ℕ) → t ≡ a ++ (w ++ (b ++ (0x7C ∷ cs))) → Went (done ++ w ∷ []) cs y → Went done t y
  went-next cs y whole ([], s, l, text, i) = absurd i
  went-next cs y whole (u ∷ new, s, l, text, i) =
      let token : IsToken (a ++ (w ++ (b ++ (0x7C ∷ s)))) w (0x7C ∷ s) = record { before = a; after = b; form = refl; left = la; right = lb; is_token = lw } in (
        w ∷ u ∷ new,
        a ++ (w ++ (b ++ (0x7C ∷ s))),
        l ∙ append_assoc done (w ∷ []) (u ∷ new),
        whole ∙ ap (λ k. a ++ (w ++ (b ++ (0x7C ∷ k)))) text ∙ regroup a w b (0x7C ∷ s) y.1,
        (s, token, i),
      )

pub group_sound : (n : ℕ) (done : List (List ℕ)) (t : List ℕ) (y : List (List ℕ) × List ℕ) → group n done t ≡ Some y → Went done t y
unfolding group
group_sound zero done t y e = (let f : None ≡ Some y = e in cc)
group_sound (suc n) done t y e =
    let w = word (skipped t) in
    let k = skipped (after_word (skipped t)) in
    let h = if_some (is_nmtoken w) (closes (group n) (done ++ w ∷ []) k) y e in
    let a = skipped_split t in
    let b = skipped_split (after_word (skipped t)) in
    let whole : t ≡ a.0 ++ (w ++ (b.0 ++ k)) = a.2 ∙ ap (λ k. a.0 ++ k) (word_split (skipped t) ∙ ap (λ k. w ++ k) b.2) in
    elim (closes_sound (group n) (done ++ w ∷ []) k y h.1) [
      | inl q ↦ went-last done t a.0 w b.0 a.1 h.0 b.1 q.0 y (whole ∙ ap (λ k. a.0 ++ (w ++ (b.0 ++ k))) q.1) q.2
      | inr q ↦ went-next done t a.0 w b.0 a.1 h.0 b.1 q.0 y (whole ∙ ap (λ k. a.0 ++ (w ++ (b.0 ++ k))) q.1) (group_sound n (done ++ w ∷ []) q.0 y q.2)
    ]

pub read_group_sound : (t : List ℕ) (y : List (List ℕ) × List ℕ) → read_group t ≡ Some y → Front IsGroup t y
unfolding read_group
read_group_sound [] y e = (let f : None ≡ Some y = e in cc)
read_group_sound (c ∷ cs) y e =
    let h = if_some (c == 0x28) (group (length cs) [] cs) y e in
    let g = group_sound (length cs) [] cs y h.1 in
    let tokens : AreTokens g.1 y.0 = subst (AreTokens g.1) (sym g.2) g.4 in
    (0x28 ∷ g.1, ap (λ k. k ∷ cs) (same c 0x28 h.0) ∙ ap (λ k. 0x28 ∷ k) g.3, record { inside = g.1; form = refl; are_tokens = tokens })

-- ---- types

pub keyword_sound : (w : List ℕ) (k : AttType) → keyword w ≡ Some k → IsType w k
unfolding keyword
keyword_sound w k e =
    let P = IsType w k in
    let is : (j : AttType) (name : List ℕ) → (w ≡ name → IsType w j) → bytes_eq w name ≡ true → Some j ≡ Some k → P =
    (λ j name f q s. subst (IsType w) (let p : j ≡ k = cc in p) (f (same-list w name q))) in
    choose P (bytes_eq w (codes "CDATA")) (Some kind.Cdata) _ k e (is kind.Cdata (codes "CDATA") (λ x. x)) (λ q e.
    choose P (bytes_eq w (codes "ID")) (Some kind.Id) _ k e (is kind.Id (codes "ID") (λ x. x)) (λ q e.
    choose P (bytes_eq w (codes "IDREF")) (Some kind.Idref) _ k e (is kind.Idref (codes "IDREF") (λ x. x)) (λ q e.
    choose P (bytes_eq w (codes "IDREFS")) (Some kind.Idrefs) _ k e (is kind.Idrefs (codes "IDREFS") (λ x. x)) (λ q e.
    choose P (bytes_eq w (codes "ENTITY")) (Some kind.Entity) _ k e (is kind.Entity (codes "ENTITY") (λ x. x)) (λ q e.
    choose P (bytes_eq w (codes "ENTITIES")) (Some kind.Entities) _ k e (is kind.Entities (codes "ENTITIES") (λ x. x)) (λ q e.
    choose P (bytes_eq w (codes "NMTOKEN")) (Some kind.Nmtoken) _ k e (is kind.Nmtoken (codes "NMTOKEN") (λ x. x)) (λ q e.
    choose P (bytes_eq w (codes "NMTOKENS")) (Some kind.Nmtokens) None k e (is kind.Nmtokens (codes "NMTOKENS") (λ x. x)) (λ q e. cc))))))))

pub notation_sound : (t : List ℕ) (y : AttType × List ℕ) → read_notation t ≡ Some y → (s : List ℕ) × (t ≡ s ++ y.1) × IsType (codes "NOTATION" ++ s) y.0
unfolding read_notation
notation_sound t y e =
    let h = and_then_some as_notation (option_and_then read_group (read_space t)) y e in
    let g = and_then_some read_group (read_space t) h.0 h.1 in
    let s = space_sound t g.0 g.1 in
    let r = read_group_sound g.0 h.0 g.2 in
    let m = map_some (λ names. (kind.Notation names, h.0.1)) (names_of h.0.0) y h.2 in
    let n = if_some (list_all is_name h.0.0) (Some h.0.0) m.0 m.1 in
    let names : m.0 ≡ h.0.0 = (let f = n.1 in cc) in
    let is : (kind.Notation h.0.0, h.0.1) ≡ y = ap (λ k. (kind.Notation k, h.0.1)) (sym names) ∙ m.2 in
    let type : IsType (codes "NOTATION" ++ (s.0 ++ r.0)) (kind.Notation h.0.0) = record { space = s.0; group = r.0; form = refl; is_space = s.2; is_group = r.2; are_names = n.0 } in
    subst (λ y. (s : List ℕ) × (t ≡ s ++ y.1) × IsType (codes "NOTATION" ++ s) y.0) is
    (s.0 ++ r.0, s.1 ∙ ap (λ k. s.0 ++ k) r.1 ∙ sym (append_assoc s.0 r.0 h.0.1), type)

named_sound : (o : Option AttType) (w r : List ℕ) (y : AttType × List ℕ) → keyword w ≡ o → named_type o w r ≡ Some y → (s : List ℕ) × (r ≡ s ++ y.1) × IsType (w ++ s) y.0
named_sound (Some k) w r y is e =
    let p : (k, r) ≡ y = cc in
    subst (λ y. (s : List ℕ) × (r ≡ s ++ y.1) × IsType (w ++ s) y.0) p ([], refl, subst (λ x. IsType x k) (sym (append-nil w)) (keyword_sound w k is))
named_sound None w r y is e =
    let h = if_some (bytes_eq w (codes "NOTATION")) (read_notation r) y e in
    let n = notation_sound r y h.1 in
    (n.0, n.1, subst (λ x. IsType (x ++ n.0) y.0) (sym (same-list w (codes "NOTATION") h.0)) n.2)

pub type_sound : (t : List ℕ) (y : AttType × List ℕ) → read_type t ≡ Some y → Front IsType t y
unfolding read_type
type_sound t y e =
    choose (Front IsType t y) (starts_with nat_eq t (codes "(")) (option_map as_enumeration (read_group t)) (named_type (keyword (word t)) (word t) (after_word t)) y e
    (λ q f.
    let m = map_some as_enumeration (read_group t) y f in
    let g = read_group_sound t m.0 m.1 in
    subst (Front IsType t) m.2 (g.0, g.1, g.2))
    (λ q f.
    let n = named_sound (keyword (word t)) (word t) (after_word t) y refl f in
    (word t ++ n.0, word_split t ∙ ap (λ k. word t ++ k) n.1 ∙ sym (append_assoc (word t) n.0 y.1), n.2))

-- ---- presets

pub quoted_sound : (t : List ℕ) (y : List ℕ × List ℕ) → read_quoted t ≡ Some y → Front IsQuoted t y
unfolding read_quoted
quoted_sound t y e =
    let h = and_then_some with_references (read_literal t) y e in
    let m = if_some (is_value h.0.0) (Some h.0) y h.2 in
    let l = literal_sound t h.0 h.1 in
    let form : IsQuoted l.0 h.0.0 = record { quote = l.2.quote; is_quote = l.2.is_quote; form = l.2.form; within = l.2.within; references = m.0 } in
    let front : Front IsQuoted t h.0 = (l.0, l.1, form) in
    subst (Front IsQuoted t) (let f = m.1 in cc) front

fixed_sound : (t : List ℕ) (y : RawPreset × List ℕ) → read_fixed t ≡ Some y → (s : List ℕ) × (t ≡ s ++ y.1) × IsPreset (codes "#FIXED" ++ s) y.0
fixed_sound t y e =
    let m = map_some as_fixed (option_and_then read_quoted (read_space t)) y e in
    let g = and_then_some read_quoted (read_space t) m.0 m.1 in
    let s = space_sound t g.0 g.1 in
    let q = quoted_sound g.0 m.0 g.2 in
    let form : IsPreset (codes "#FIXED" ++ (s.0 ++ q.0)) (preset.Fixed m.0.0) = record { space = s.0; quoted = q.0; form = refl; is_space = s.2; is_quoted = q.2 } in
    subst (λ y. (s : List ℕ) × (t ≡ s ++ y.1) × IsPreset (codes "#FIXED" ++ s) y.0) m.2
    (s.0 ++ q.0, s.1 ∙ ap (λ k. s.0 ++ k) q.1 ∙ sym (append_assoc s.0 q.0 m.0.1), form)

named_preset_sound : (w r : List ℕ) (y : RawPreset × List ℕ) → named_preset w r ≡ Some y → (s : List ℕ) × (r ≡ s ++ y.1) × IsPreset (0x23 ∷ (w ++ s)) y.0
named_preset_sound w r y e =
    let P : RawPreset × List ℕ → Type 0 = λ y. (s : List ℕ) × (r ≡ s ++ y.1) × IsPreset (0x23 ∷ (w ++ s)) y.0 in
    choose (P y) (bytes_eq w (codes "REQUIRED")) (Some (preset.Required, r)) _ y e
    (λ q f. subst P (let p : (preset.Required, r) ≡ y = cc in p) ([], refl, ap (λ k. 0x23 ∷ k) (append-nil w ∙ same-list w (codes "REQUIRED") q))) (λ q e.
    choose (P y) (bytes_eq w (codes "IMPLIED")) (Some (preset.Implied, r)) _ y e
    (λ q f. subst P (let p : (preset.Implied, r) ≡ y = cc in p) ([], refl, ap (λ k. 0x23 ∷ k) (append-nil w ∙ same-list w (codes "IMPLIED") q))) (λ q e.
    let h = if_some (bytes_eq w (codes "FIXED")) (read_fixed r) y e in
    let n = fixed_sound r y h.1 in
    (n.0, n.1, subst (λ x. IsPreset (0x23 ∷ (x ++ n.0)) y.0) (sym (same-list w (codes "FIXED") h.0)) n.2)))

pub preset_sound : (t : List ℕ) (y : RawPreset × List ℕ) → read_preset t ≡ Some y → Front IsPreset t y
unfolding read_preset
preset_sound [] y e = (let f : None ≡ Some y = e in cc)
preset_sound (c ∷ cs) y e =
    choose (Front IsPreset (c ∷ cs) y) (c == 0x23) (named_preset (word cs) (after_word cs)) (option_map as_value (read_quoted (c ∷ cs))) y e
    (λ q f.
    let n = named_preset_sound (word cs) (after_word cs) y f in
    (0x23 ∷ (word cs ++ n.0), ap (λ k. k ∷ cs) (same c 0x23 q) ∙ ap (λ k. 0x23 ∷ k) (word_split cs ∙ ap (λ k. word cs ++ k) n.1 ∙ sym (append_assoc (word cs) n.0 y.1)), n.2))
    (λ q f.
    let m = map_some as_value (read_quoted (c ∷ cs)) y f in
    let g = quoted_sound (c ∷ cs) m.0 m.1 in
    subst (Front IsPreset (c ∷ cs)) m.2 (g.0, g.1, g.2))

-- ---- definitions

regroup_definition : (a n b k d p r : List ℕ) → a ++ (n ++ (b ++ (k ++ (d ++ (p ++ r))))) ≡ (a ++ (n ++ (b ++ (k ++ (d ++ p))))) ++ r
regroup_definition a n b k d p r = sym (simp append_assoc)

pub definition_sound : (t : List ℕ) (y : RawAtt × List ℕ) → read_definition t ≡ Some y → Front IsDefinition t y
unfolding read_definition
definition_sound t y e =
    let h1 = and_then_some with_type (spaced_name t) y e in
    let g1 = and_then_some read_name (read_space t) h1.0 h1.1 in
    let s1 = space_sound t g1.0 g1.1 in
    let n = name_sound g1.0 h1.0 g1.2 in
    let h2 = and_then_some (with_preset h1.0.0) (spaced_type h1.0.1) y h1.2 in
    let g2 = and_then_some read_type (read_space h1.0.1) h2.0 h2.1 in
    let s2 = space_sound h1.0.1 g2.0 g2.1 in
    let k = type_sound g2.0 h2.0 g2.2 in
    let m = map_some (λ y. (record { name = h1.0.0; kind = h2.0.0; preset = y.0 }, y.1)) (spaced_preset h2.0.1) y h2.2 in
    let g3 = and_then_some read_preset (read_space h2.0.1) m.0 m.1 in
    let s3 = space_sound h2.0.1 g3.0 g3.1 in
    let p = preset_sound g3.0 m.0 g3.2 in
    made t y h1.0.0 h2.0.0 m.0.0 m.0.1 s1.0 s2.0 k.0 s3.0 p.0 s1.2 n.2.1 s2.2 k.2 s3.2 p.2
    (s1.1 ∙ ap (λ z. s1.0 ++ z) (n.1 ∙ ap (λ z. z ++ h1.0.1) n.2.0 ∙ ap (λ z. h1.0.0 ++ z) (s2.1 ∙ ap (λ z. s2.0 ++ z) (k.1 ∙ ap (λ z. k.0 ++ z) (s3.1 ∙ ap (λ z. s3.0 ++ z) p.1))))) m.2
  where
    made : (t : List ℕ) (y : RawAtt × List ℕ) (name : List ℕ) (kind : AttType) (preset : RawPreset) (r before middle k after p : List ℕ)
        → IsSpace before → is_name name ≡ true → IsSpace middle → IsType k kind → IsSpace after → IsPreset p preset
        → t ≡ before ++ (name ++ (middle ++ (k ++ (after ++ (p ++ r))))) → (record { name = name; kind = kind; preset = preset }, r) ≡ y → Front IsDefinition t y
    made t y name kind preset r before middle k after p x1 x2 x3 x4 x5 x6 text is =
        let att : RawAtt = record { name = name; kind = kind; preset = preset } in
        let form : IsDefinition (before ++ (name ++ (middle ++ (k ++ (after ++ p))))) att = record {
          before = before;
          middle = middle;
          kind = k;
          after = after;
          preset = p;
          form = refl;
          is_before = x1;
          is_name = x2;
          is_middle = x3;
          is_kind = x4;
          is_after = x5;
          is_preset = x6;
        } in
        let front : Front IsDefinition t (att, r) = (before ++ (name ++ (middle ++ (k ++ (after ++ p)))), text ∙ regroup_definition before name middle k after p r, form) in
        subst (Front IsDefinition t) is front

pub definitions_sound : (n : ℕ) (done : List RawAtt) (t : List ℕ) (y : List RawAtt) → definitions n done t ≡ Some y → (new : List RawAtt) × (y ≡ done ++ new) × AreDefinitions t new
unfolding definitions
definitions_sound zero done t y e =
    let h = if_some (list_all is_space t) (Some done) y e in
    ([], sym (let f = h.1 in cc) ∙ sym (append-nil done), h.0)
definitions_sound (suc n) done t y e =
    let go : RawAtt × List ℕ → Option (List RawAtt) = λ x. definitions n (done ++ x.0 ∷ []) x.1 in
    choose ((new : List RawAtt) × (y ≡ done ++ new) × AreDefinitions t new) (list_all is_space t) (Some done) (option_and_then go (read_definition t)) y e
    (λ q f. ([], (let p : done ≡ y = cc in sym p) ∙ sym (append-nil done), q))
    (λ q f.
    let h = and_then_some go (read_definition t) y f in
    let d = definition_sound t h.0 h.1 in
    let i = definitions_sound n (done ++ h.0.0 ∷ []) h.0.1 y h.2 in
    (h.0.0 ∷ i.0, i.1 ∙ append_assoc done (h.0.0 ∷ []) i.0, (d.0, h.0.1, d.1, d.2, i.2)))

pub attlist_sound : (body : List ℕ) (raw : RawAttList) → raw_list_of body ≡ Some raw → IsAttlist body raw
unfolding raw_list_of
attlist_sound body raw e =
    let h = and_then_some of_element (spaced_name body) raw e in
    let g = and_then_some read_name (read_space body) h.0 h.1 in
    let s = space_sound body g.0 g.1 in
    let n = name_sound g.0 h.0 g.2 in
    let m = map_some (λ atts. record { element = h.0.0; atts = atts }) (definitions (length h.0.1) [] h.0.1) raw h.2 in
    let d = definitions_sound (length h.0.1) [] h.0.1 m.0 m.1 in
    let form : IsAttlist body (record { element = h.0.0; atts = m.0 }) = record {
      before = s.0;
      rest = h.0.1;
      form = s.1 ∙ ap (λ z. s.0 ++ z) (n.1 ∙ ap (λ z. z ++ h.0.1) n.2.0);
      is_before = s.2;
      is_name = n.2.1;
      definitions = subst (AreDefinitions h.0.1) (sym d.1) d.2;
    } in
    subst (IsAttlist body) m.2 form
