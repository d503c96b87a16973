-- What is read is written so.
use Rattle.std.proofs.Common.{◌≡◌, ◌∙◌, ℕ, Bool, true, false, List, [], ◌∷◌, ◌++◌, drop, refl, sym, ap, subst, Some, None, bytes_eq, true≢false}
use Rattle.std.specs.Prelude.{option_and_then, if◌then◌else◌, ◌&&◌, codes, nat_eq}
use Rattle.std.specs.List.{list_all, starts_with}
use Rattle.std.proofs.lemmas.List.{append_assoc}
use Rattle.jats_chars.specs.Classes.{is_space, is_pubid_char}
use Rattle.jats_chars.specs.Names.{is_name}
use Rattle.dtd_scanner.specs.Items.{first_is, is_quote}
use Rattle.text_fronts.specs.Fronts.{is_blank, skipped, trimmed_end, word, after_word, read_space, read_name, spaced_name, read_literal, spaced_literal}
use Rattle.text_fronts.specs.Grammar.{IsBlank, IsSpace}
use Rattle.text_fronts.proofs.Fronts.{and-left, and-right, and_then_some, map_some, if_some, choose, same-list, word_split, stops}
use Rattle.text_fronts.proofs.Ends.{skipped_stops, trimmed_split, trimmed_front}
use Rattle.text_fronts.proofs.Sound.{same, Front, space_sound, name_sound, spaced_name_sound, literal_sound, spaced_literal_sound}
use Rattle.entity_catalog.specs.Collapse.{collapse_public}
use Rattle.entity_catalog.specs.declared.ids.Ids.{Ids}
use Rattle.entity_catalog.specs.declared.ids.Ids.TheVariants.{System, Public, PublicOnly}
use Rattle.declaration_bodies.specs.declared.entities.RawDef.{RawDef}
use Rattle.declaration_bodies.specs.declared.entities.RawDef.TheVariants.{Value, External, Unparsed}
use Rattle.declaration_bodies.specs.declared.entities.RawEntity.{RawEntity}
use Rattle.declaration_bodies.specs.Elements.{with_content, element_of}
use Rattle.declaration_bodies.specs.Identifiers.{as_system, as_public, spaced_public, with_system, read_system, read_ids}
use Rattle.declaration_bodies.specs.Entities.{is_entity_value, as_value, notation_named, read_ndata, as_external, read_def, with_def, entity_behind, entity_of}
use Rattle.declaration_bodies.specs.Notations.{if_blank, public_ids, notation_ids, with_ids, notation_of}
use Rattle.declaration_bodies.specs.Grammar.{IsElement, IsSystem, IsPublic, IsPublicId, IsExternal, IsNotationId, IsEntityValue, IsUnparsed, IsDef, IsMark, IsEntity, IsNotation}

-- what is read behind white space begins without it
space_ends : (t r : List ℕ) → read_space t ≡ Some r → stops is_space r ≡ true
space_ends [] r e = cc
space_ends (c ∷ cs) r e =
    let h = if_some (is_space c) (Some (skipped cs)) r e in
    let is : skipped cs ≡ r = (let f = h.1 in cc) in
    ap (stops is_space) (sym is) ∙ skipped_stops cs

-- ---- elements

pub element_sound : (body : List ℕ) (x : List ℕ × List ℕ) → element_of body ≡ Some x → IsElement body x.0 x.1
unfolding element_of
element_sound body x e =
    let h = and_then_some with_content (spaced_name body) x e in
    let n = spaced_name_sound body h.0 h.1 in
    let m = map_some (λ content. (h.0.0, trimmed_end content)) (read_space h.0.1) x h.2 in
    let s = space_sound h.0.1 m.0 m.1 in
    let b = trimmed_split m.0 in
    let form : IsElement body h.0.0 (trimmed_end m.0) = record {
      before = n.0;
      middle = s.0;
      after = b.0;
      form = n.1 ∙ ap (λ k. n.0 ++ (h.0.0 ++ k)) (s.1 ∙ ap (λ k. s.0 ++ k) b.2);
      is_before = n.2;
      is_named = n.3;
      is_middle = s.2;
      is_content = trimmed_front m.0 (space_ends h.0.1 m.0 m.1);
      is_after = b.1;
    } in
    let P : List ℕ × List ℕ → Type 0 = λ x. IsElement body x.0 x.1 in
    subst P m.2 form

-- ---- identifiers

-- white space and a form in front of what follows
abbrev Spaced : {X : Type 0} → (List ℕ → X → Type 0) → List ℕ → X × List ℕ → Type 0
Spaced Form t x = (s : List ℕ) × (l : List ℕ) × (t ≡ s ++ (l ++ x.1)) × IsSpace s × Form l x.0

public_sound : (t : List ℕ) (x : List ℕ × List ℕ) → spaced_public t ≡ Some x → Spaced IsPublic t x
public_sound t x e =
    let h = and_then_some as_public (spaced_literal t) x e in
    let l = spaced_literal_sound t h.0 h.1 in
    let f = if_some (list_all is_pubid_char h.0.0) (Some (collapse_public h.0.0, h.0.1)) x h.2 in
    let form : Spaced IsPublic t (collapse_public h.0.0, h.0.1) = (l.0, l.1, l.2, l.3, record { inside = h.0.0; literal = l.4; chars = f.0; same = refl }) in
    subst (Spaced IsPublic t) (let g = f.1 in let is : (collapse_public h.0.0, h.0.1) ≡ x = cc in is) form

literal_system : (t : List ℕ) (x : List ℕ × List ℕ) → spaced_literal t ≡ Some x → Spaced IsSystem t (as_system x.0, x.1)
literal_system t x e = let l = spaced_literal_sound t x e in (l.0, l.1, l.2, l.3, record { inside = x.0; literal = l.4; same = refl })

module _ (t : List ℕ) where
  -- behind `SYSTEM`
  system_sound : (x : Ids × List ℕ) → word t ≡ codes "SYSTEM" → read_system (after_word t) ≡ Some x → Front IsExternal t x
  system_sound x w e =
      let m = map_some (λ y. (System (as_system y.0), y.1)) (spaced_literal (after_word t)) x e in
      let l = literal_system (after_word t) m.0 m.1 in
      let text = codes "SYSTEM" ++ (l.0 ++ l.1) in
      let is : IsExternal text (System (as_system m.0.0)) = record { space = l.0; literal = l.1; form = refl; is_space = l.3; is_system = l.4 } in
      let front : Front IsExternal t (System (as_system m.0.0), m.0.1) = (text, word_split t ∙ ap (λ k. k ++ after_word t) w ∙ ap (λ k. codes "SYSTEM" ++ k) (l.2 ∙ sym (append_assoc l.0 l.1 m.0.1)), is) in
      subst (Front IsExternal t) m.2 front

  -- behind `PUBLIC`, a public literal
  public_front : (x : List ℕ × List ℕ) → word t ≡ codes "PUBLIC" → spaced_public (after_word t) ≡ Some x → Front IsPublicId t x
  public_front x w e =
      let l = public_sound (after_word t) x e in
      (codes "PUBLIC" ++ (l.0 ++ l.1), word_split t ∙ ap (λ k. k ++ after_word t) w ∙ ap (λ k. codes "PUBLIC" ++ k) (l.2 ∙ sym (append_assoc l.0 l.1 x.1)), record { space = l.0; literal = l.1; form = refl; is_space = l.3; is_public = l.4 })

  -- and a system literal behind it
  both_sound : (y : List ℕ × List ℕ) (x : Ids × List ℕ) → Front IsPublicId t y → with_system y ≡ Some x → Front IsExternal t x
  both_sound y x p e =
      let m = map_some (λ z. (Public y.0 (as_system z.0), z.1)) (spaced_literal y.1) x e in
      let l = literal_system y.1 m.0 m.1 in
      let text = p.0 ++ (l.0 ++ l.1) in
      let is : IsExternal text (Public y.0 (as_system m.0.0)) = record { front = p.0; space = l.0; literal = l.1; form = refl; is_front = p.2; is_space = l.3; is_system = l.4 } in
      let front : Front IsExternal t (Public y.0 (as_system m.0.0), m.0.1) = (text, p.1 ∙ ap (λ k. p.0 ++ k) l.2 ∙ sym (simp append_assoc), is) in
      subst (Front IsExternal t) m.2 front

pub ids_sound : (t : List ℕ) (x : Ids × List ℕ) → read_ids t ≡ Some x → Front IsExternal t x
unfolding read_ids
ids_sound t x e =
    choose (Front IsExternal t x) (bytes_eq (word t) (codes "SYSTEM")) (read_system (after_word t)) (if bytes_eq (word t) (codes "PUBLIC") then option_and_then with_system (spaced_public (after_word t)) else None) x e
    (λ q f. system_sound t x (same-list (word t) (codes "SYSTEM") q) f)
    (λ q f.
    let h = if_some (bytes_eq (word t) (codes "PUBLIC")) (option_and_then with_system (spaced_public (after_word t))) x f in
    let g = and_then_some with_system (spaced_public (after_word t)) x h.1 in
    both_sound t g.0 x (public_front t g.0 (same-list (word t) (codes "PUBLIC") h.0) g.1) g.2)

-- ---- notations

-- a form with white space behind it
abbrev Ended : {X : Type 0} → (List ℕ → X → Type 0) → List ℕ → X → Type 0
Ended Form t x = (s : List ℕ) × (b : List ℕ) × (t ≡ s ++ b) × Form s x × IsBlank b

external_notation : (t : List ℕ) (ids : Ids) → IsExternal t ids → IsNotationId t ids
external_notation t (System system) is = is
external_notation t (Public public system) is = is
external_notation t (PublicOnly public) is = absurd is

ended_by : (t : List ℕ) (x : Ids × List ℕ) (ids : Ids) → Front IsExternal t x → if_blank x ≡ Some ids → Ended IsNotationId t ids
ended_by t x ids front e =
    let h = if_some (is_blank x.1) (Some x.0) ids e in
    let form : Ended IsNotationId t x.0 = (front.0, x.1, front.1, external_notation front.0 x.0 front.2, h.0) in
    subst (Ended IsNotationId t) (let f = h.1 in let is : x.0 ≡ ids = cc in is) form

public_ended : (t : List ℕ) (y : List ℕ × List ℕ) (ids : Ids) → Front IsPublicId t y → public_ids y ≡ Some ids → Ended IsNotationId t ids
public_ended t y ids front e =
    choose (Ended IsNotationId t ids) (is_blank y.1) (Some (PublicOnly y.0)) (option_and_then if_blank (with_system y)) ids e
    (λ q f.
    let form : Ended IsNotationId t (PublicOnly y.0) = (front.0, y.1, front.1, front.2, q) in
    subst (Ended IsNotationId t) (let is : PublicOnly y.0 ≡ ids = cc in is) form)
    (λ q f. let g = and_then_some if_blank (with_system y) ids f in ended_by t g.0 ids (both_sound t y g.0 front g.1) g.2)

notation_ids_sound : (t : List ℕ) (ids : Ids) → notation_ids t ≡ Some ids → Ended IsNotationId t ids
notation_ids_sound t ids e =
    choose (Ended IsNotationId t ids) (bytes_eq (word t) (codes "SYSTEM")) (option_and_then if_blank (read_system (after_word t))) (if bytes_eq (word t) (codes "PUBLIC") then option_and_then public_ids (spaced_public (after_word t)) else None) ids e
    (λ q f. let g = and_then_some if_blank (read_system (after_word t)) ids f in ended_by t g.0 ids (system_sound t g.0 (same-list (word t) (codes "SYSTEM") q) g.1) g.2)
    (λ q f.
    let h = if_some (bytes_eq (word t) (codes "PUBLIC")) (option_and_then public_ids (spaced_public (after_word t))) ids f in
    let g = and_then_some public_ids (spaced_public (after_word t)) ids h.1 in
    public_ended t g.0 ids (public_front t g.0 (same-list (word t) (codes "PUBLIC") h.0) g.1) g.2)

pub notation_sound : (body : List ℕ) (x : List ℕ × Ids) → notation_of body ≡ Some x → IsNotation body x.0 x.1
unfolding notation_of
notation_sound body x e =
    let h = and_then_some with_ids (spaced_name body) x e in
    let n = spaced_name_sound body h.0 h.1 in
    let m = map_some (λ ids. (h.0.0, ids)) (option_and_then notation_ids (read_space h.0.1)) x h.2 in
    let g = and_then_some notation_ids (read_space h.0.1) m.0 m.1 in
    let s = space_sound h.0.1 g.0 g.1 in
    let i = notation_ids_sound g.0 m.0 g.2 in
    let form : IsNotation body h.0.0 m.0 = record {
      before = n.0;
      middle = s.0;
      text = i.0;
      after = i.1;
      form = n.1 ∙ ap (λ k. n.0 ++ (h.0.0 ++ k)) (s.1 ∙ ap (λ k. s.0 ++ k) i.2);
      is_before = n.2;
      is_named = n.3;
      is_middle = s.2;
      is_ids = i.3;
      is_after = i.4;
    } in
    let P : List ℕ × Ids → Type 0 = λ x. IsNotation body x.0 x.1 in
    subst P m.2 form

-- ---- entities

value_sound : (parameter : Bool) (t : List ℕ) (x : List ℕ × List ℕ) (d : RawDef) → read_literal t ≡ Some x → as_value x ≡ Some d → Ended (IsDef parameter) t d
value_sound parameter t x d l e =
    let h = if_some (is_entity_value x.0 && is_blank x.1) (Some (Value x.0)) d e in
    let f = literal_sound t x l in
    let value : IsEntityValue f.0 x.0 = record { literal = f.2; references = and-left (is_entity_value x.0) (is_blank x.1) h.0 } in
    let form : Ended (IsDef parameter) t (Value x.0) = (f.0, x.1, f.1, value, and-right (is_entity_value x.0) (is_blank x.1) h.0) in
    subst (Ended (IsDef parameter) t) (let g = h.1 in let is : Value x.0 ≡ d = cc in is) form

ndata_sound : (t : List ℕ) (ids : Ids) (front rest u : List ℕ) (d : RawDef) → t ≡ front ++ rest → IsExternal front ids → read_space rest ≡ Some u → read_ndata ids u ≡ Some d → Ended (IsDef false) t d
ndata_sound t ids front rest u d form is r e =
    let h = if_some (bytes_eq (word u) (codes "NDATA")) (option_and_then (notation_named ids) (spaced_name (after_word u))) d e in
    let g = and_then_some (notation_named ids) (spaced_name (after_word u)) d h.1 in
    let k = if_some (is_blank g.0.1) (Some (Unparsed ids g.0.0)) d g.2 in
    let s = space_sound rest u r in
    let n = spaced_name_sound (after_word u) g.0 g.1 in
    let behind : u ≡ codes "NDATA" ++ (n.0 ++ (g.0.0 ++ g.0.1)) = word_split u ∙ ap (λ z. z ++ after_word u) (same-list (word u) (codes "NDATA") h.0) ∙ ap (λ z. codes "NDATA" ++ z) n.1 in
    let text = front ++ (s.0 ++ (codes "NDATA" ++ (n.0 ++ g.0.0))) in
    let unparsed : IsUnparsed text ids g.0.0 = record { external = front; before = s.0; middle = n.0; form = refl; is_external = is; is_before = s.2; is_middle = n.2; is_named = n.3 } in
    let whole : t ≡ text ++ g.0.1 = form ∙ ap (λ z. front ++ z) (s.1 ∙ ap (λ z. s.0 ++ z) behind) ∙ grouped front s.0 (codes "NDATA") n.0 g.0.0 g.0.1 in
    let ended : Ended (IsDef false) t (Unparsed ids g.0.0) = (text, g.0.1, whole, unparsed, k.0) in
    subst (Ended (IsDef false) t) (let f = k.1 in let is : Unparsed ids g.0.0 ≡ d = cc in is) ended
  where
    grouped : (a b c d e f : List ℕ) → a ++ (b ++ (c ++ (d ++ (e ++ f)))) ≡ (a ++ (b ++ (c ++ (d ++ e)))) ++ f
    grouped a b c d e f = sym (simp append_assoc)

external_sound : (parameter : Bool) (t : List ℕ) (x : Ids × List ℕ) (d : RawDef) → Front IsExternal t x → as_external parameter x ≡ Some d → Ended (IsDef parameter) t d
external_sound parameter t x d front e =
    choose (Ended (IsDef parameter) t d) (is_blank x.1) (Some (External x.0)) (if parameter then None else option_and_then (read_ndata x.0) (read_space x.1)) d e
    (λ q f.
    let form : Ended (IsDef parameter) t (External x.0) = (front.0, x.1, front.1, front.2, q) in
    subst (Ended (IsDef parameter) t) (let is : External x.0 ≡ d = cc in is) form)
    (λ q f. general parameter f)
  where
    general : (parameter : Bool) → (if parameter then None else option_and_then (read_ndata x.0) (read_space x.1)) ≡ Some d → Ended (IsDef parameter) t d
    general true f = cc
    general false f = let g = and_then_some (read_ndata x.0) (read_space x.1) d f in ndata_sound t x.0 front.0 x.1 g.0 d front.1 front.2 g.1 g.2

def_sound : (parameter : Bool) (t : List ℕ) (d : RawDef) → read_def parameter t ≡ Some d → Ended (IsDef parameter) t d
def_sound parameter t d e =
    choose (Ended (IsDef parameter) t d) (first_is is_quote t) (option_and_then as_value (read_literal t)) (option_and_then (as_external parameter) (read_ids t)) d e
    (λ q f. let g = and_then_some as_value (read_literal t) d f in value_sound parameter t g.0 d g.1 g.2)
    (λ q f. let g = and_then_some (as_external parameter) (read_ids t) d f in external_sound parameter t g.0 d (ids_sound t g.0 g.1) g.2)

module _ (body before mark : List ℕ) (parameter : Bool) (s : IsSpace before) (m : IsMark parameter mark) where
  -- what stands behind the name
  with_def_sound : (x : List ℕ × List ℕ) (e : RawEntity) → body ≡ before ++ (mark ++ (x.0 ++ x.1)) → is_name x.0 ≡ true → with_def parameter x ≡ Some e → IsEntity body e
  with_def_sound x e form named is =
      let h = map_some (λ def. record { parameter = parameter; name = x.0; def = def }) (option_and_then (read_def parameter) (read_space x.1)) e is in
      let g = and_then_some (read_def parameter) (read_space x.1) h.0 h.1 in
      let b = space_sound x.1 g.0 g.1 in
      let d = def_sound parameter g.0 h.0 g.2 in
      let entity : IsEntity body (record { parameter = parameter; name = x.0; def = h.0 }) = record {
        before = before;
        mark = mark;
        middle = b.0;
        def = d.0;
        after = d.1;
        form = form ∙ ap (λ k. before ++ (mark ++ (x.0 ++ k))) (b.1 ∙ ap (λ k. b.0 ++ k) d.2);
        is_before = s;
        is_mark = m;
        is_named = named;
        is_middle = b.2;
        is_def = d.3;
        is_after = d.4;
      } in
      subst (IsEntity body) h.2 entity

-- a text that begins with `%`
percent : (t : List ℕ) → starts_with nat_eq t (codes "%") ≡ true → t ≡ codes "%" ++ drop 1 t
percent [] e = absurd (true≢false (sym e))
percent (c ∷ cs) e = ap (λ k. k ∷ cs) (sym (same 37 c (and-left (nat_eq 37 c) true e)))

pub entity_sound : (body : List ℕ) (e : RawEntity) → entity_of body ≡ Some e → IsEntity body e
unfolding entity_of
entity_sound body e is =
    let h = and_then_some entity_behind (read_space body) e is in
    let s = space_sound body h.0 h.1 in
    choose (IsEntity body e) (starts_with nat_eq h.0 (codes "%")) (option_and_then (with_def true) (spaced_name (drop 1 h.0))) (option_and_then (with_def false) (read_name h.0)) e h.2
    (λ q f.
    let g = and_then_some (with_def true) (spaced_name (drop 1 h.0)) e f in
    let n = spaced_name_sound (drop 1 h.0) g.0 g.1 in
    with_def_sound body s.0 (codes "%" ++ n.0) true s.2 (n.0, refl, n.2) g.0 e (s.1 ∙ ap (λ k. s.0 ++ k) (percent h.0 q ∙ ap (λ k. codes "%" ++ k) n.1)) n.3 g.2)
    (λ q f.
    let g = and_then_some (with_def false) (read_name h.0) e f in
    let n = name_sound h.0 g.0 g.1 in
    with_def_sound body s.0 [] false s.2 refl g.0 e (s.1 ∙ ap (λ k. s.0 ++ k) (n.1 ∙ ap (λ k. k ++ g.0.1) n.2.0)) n.2.1 g.2)
