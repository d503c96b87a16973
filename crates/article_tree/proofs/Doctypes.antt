-- Document type declarations at the front of texts.
use Rattle.std.proofs.Common.{◌≡◌, ◌∙◌, ◌⊎◌, ℕ, ◌+◌, List, [], ◌∷◌, ◌++◌, length, take, drop, Bool, true, false, not, eqb, ◌||◌, Option, Some, None, refl, ap, sym, subst, append_assoc, codes, inl, inr, bytes_eq}
use Rattle.std.specs.Prelude.{nat_eq, option_map, option_and_then, position}
use Rattle.std.specs.List.{list_all, starts_with}
use Rattle.std.proofs.lemmas.Bool.{cond-true, cond-false, and_parts, eq-eqb, eqb-true}
use Rattle.jats_chars.specs.Classes.{is_space, is_name_char, is_pubid_char}
use Rattle.jats_chars.specs.Names.{is_name}
use Rattle.dtd_scanner.specs.Items.{is_quote}
use Rattle.dtd_scanner.proofs.Runs.{starts_found, none_holds, none_passes}
use Rattle.entity_catalog.specs.declared.ids.Ids.{Ids}
use Rattle.entity_catalog.specs.declared.ids.Ids.TheVariants.{System, Public}
use Rattle.entity_catalog.specs.Collapse.{collapse_public}
use Rattle.text_fronts.specs.Grammar.{IsBlank, IsSpace}
use Rattle.text_fronts.specs.Fronts.{skipped, word, after_word, read_space, read_name, spaced_name, literal_end, read_literal, spaced_literal}
use Rattle.text_fronts.proofs.Fronts.{and_then_some, map_some, if_some, choose, same-list, stops, name_plain, skipped_over, skipped_split, blank_ends, word_at, after_at, word_split, position_sound, position_at, take_front, drop_behind}
use Rattle.text_fronts.proofs.Sound.{space_sound}
use Rattle.declaration_bodies.specs.Identifiers.{as_system, as_public, spaced_public, with_system, read_system, read_ids}
use Rattle.article_tree.specs.Grammar.{IsLiteral, IsExternal, IsDoctype}
use Rattle.article_tree.specs.Reading.{identified, type_end}
use Rattle.article_tree.proofs.Tags.{name_found}
use Rattle.text_fronts.proofs.Complete.{name_back, space_back, space_stop}

-- ---- literals

literal_found : (text : List ℕ) (x : List ℕ × List ℕ) → read_literal text ≡ Some x → (front : List ℕ) × IsLiteral front x.0 × (text ≡ front ++ x.1)
unfolding read_literal
literal_found [] x e = (let f : None ≡ Some x = e in cc)
literal_found (q ∷ text) x e =
    let h = if_some (is_quote q) (option_map (literal_end text) (position (λ c. eqb c q) text)) x e in
    let m = map_some (literal_end text) (position (λ c. eqb c q) text) x h.1 in
    let p = position_sound (λ c. eqb c q) text m.0 m.1 in
    let inside = take m.0 text in
    let form : q ∷ text ≡ (q ∷ inside ++ q ∷ []) ++ drop (m.0 + 1) text =
    ap (λ (t : List ℕ). q ∷ t) (p.0.2 ∙ ap (λ (d : ℕ). inside ++ (d ∷ drop (m.0 + 1) text)) (same p.0.0 q p.0.1)) ∙ ap (λ (t : List ℕ). q ∷ t) (sym (append_assoc inside (q ∷ []) (drop (m.0 + 1) text))) in
    let found : (front : List ℕ) × IsLiteral front inside × (q ∷ text ≡ front ++ drop (m.0 + 1) text) = (q ∷ inside ++ q ∷ [], (q, h.0, none_holds q inside p.1, refl), form) in
    subst (λ (x : List ℕ × List ℕ). (front : List ℕ) × IsLiteral front x.0 × (q ∷ text ≡ front ++ x.1)) m.2 found
  where
    same : (c d : ℕ) → eqb c d ≡ true → c ≡ d
    same c d is = eqb-true c d is

literal_form : (front inside rest : List ℕ) (q : ℕ) → front ≡ q ∷ inside ++ q ∷ [] → front ++ rest ≡ q ∷ (inside ++ (q ∷ rest))
literal_form front inside rest q form = ap (λ t. t ++ rest) form ∙ ap (λ (t : List ℕ). q ∷ t) (append_assoc inside (q ∷ []) rest)

literal_back : (front inside rest : List ℕ) → IsLiteral front inside → read_literal (front ++ rest) ≡ Some (inside, rest)
unfolding read_literal
literal_back front inside rest (q, is, none, form) =
    let text = inside ++ (q ∷ rest) in
    ap read_literal (literal_form front inside rest q form)
    ∙ cond-true (is_quote q) (option_map (literal_end text) (position (λ c. eqb c q) text)) None is
    ∙ ap (option_map (literal_end text)) (position_at (λ c. eqb c q) inside q rest (none_passes q inside none) (eq-eqb q q refl))
    ∙ ap (λ (t : List ℕ). Some (t, drop (length inside + 1) text)) (take_front inside (q ∷ rest)) ∙ ap (λ (t : List ℕ). Some (inside, t)) (drop_behind inside q rest)

quote_plain : (q : ℕ) → is_quote q ≡ true → is_space q ≡ false
unfolding is_space
quote_plain q is = by (eqb q 34) refl is
  where
    by : (b : Bool) → eqb q 34 ≡ b → (b || eqb q 39) ≡ true → is_space q ≡ false
    by true e h = ap is_space (eqb-true q 34 e)
    by false e h = ap is_space (eqb-true q 39 h)

literal_plain : (front inside rest : List ℕ) → IsLiteral front inside → stops is_space (front ++ rest) ≡ true
literal_plain front inside rest (q, is, none, form) = ap (stops is_space) (literal_form front inside rest q form) ∙ ap not (quote_plain q is)

spaced_literal_back : (space front inside rest : List ℕ) → IsSpace space → IsLiteral front inside → spaced_literal (space ++ (front ++ rest)) ≡ Some (inside, rest)
spaced_literal_back space front inside rest spaced is =
    ap (option_and_then read_literal) (space_back space (front ++ rest) spaced (literal_plain front inside rest is)) ∙ literal_back front inside rest is

spaced_literal_found : (text : List ℕ) (x : List ℕ × List ℕ) → spaced_literal text ≡ Some x → (space : List ℕ) × (front : List ℕ) × IsSpace space × IsLiteral front x.0 × (text ≡ space ++ (front ++ x.1))
spaced_literal_found text x e =
    let h = and_then_some read_literal (read_space text) x e in
    let s = space_sound text h.0 h.1 in
    let l = literal_found h.0 x h.2 in
    (s.0, l.0, s.2, l.1, s.1 ∙ ap (λ t. s.0 ++ t) l.2)

-- ---- external identifiers

word_found : (text name : List ℕ) → bytes_eq (word text) name ≡ true → text ≡ name ++ after_word text
word_found text name is = word_split text ∙ ap (λ t. t ++ after_word text) (same-list (word text) name is)

ids_found : (text : List ℕ) (x : Ids × List ℕ) → read_ids text ≡ Some x → (front : List ℕ) × IsExternal front × (text ≡ front ++ x.1)
unfolding read_ids
ids_found text x e =
    let P = (front : List ℕ) × IsExternal front × (text ≡ front ++ x.1) in
    choose P (bytes_eq (word text) (codes "SYSTEM")) (read_system (after_word text)) _ x e
    (λ is f.
    let m = map_some (λ (y : List ℕ × List ℕ). (System (as_system y.0), y.1)) (spaced_literal (after_word text)) x f in
    let l = spaced_literal_found (after_word text) m.0 m.1 in
    let front = codes "SYSTEM" ++ (l.0 ++ l.1) in
    let form : text ≡ front ++ m.0.1 = word_found text (codes "SYSTEM") is ∙ ap (λ t. codes "SYSTEM" ++ t) (l.4 ∙ sym (append_assoc l.0 l.1 m.0.1)) in
    let found : (front : List ℕ) × IsExternal front × (text ≡ front ++ m.0.1) = (front, inl (l.0, l.1, m.0.0, l.2, l.3, refl), form) in
    subst (λ (x : Ids × List ℕ). (front : List ℕ) × IsExternal front × (text ≡ front ++ x.1)) m.2 found)
    (λ other f. choose P (bytes_eq (word text) (codes "PUBLIC")) (option_and_then with_system (spaced_public (after_word text))) None x f
    (λ is g.
    let h = and_then_some with_system (spaced_public (after_word text)) x g in
    let k = and_then_some as_public (spaced_literal (after_word text)) h.0 h.1 in
    let p = if_some (list_all is_pubid_char k.0.0) (Some (collapse_public k.0.0, k.0.1)) h.0 k.2 in
    let left : k.0.1 ≡ h.0.1 = (let same : (collapse_public k.0.0, k.0.1) ≡ h.0 = (let q = p.1 in cc) in ap (λ (y : List ℕ × List ℕ). y.1) same) in
    let m = map_some (λ (y : List ℕ × List ℕ). (Public h.0.0 (as_system y.0), y.1)) (spaced_literal h.0.1) x h.2 in
    let l = spaced_literal_found (after_word text) k.0 k.1 in
    let s = spaced_literal_found h.0.1 m.0 m.1 in
    let front = codes "PUBLIC" ++ (l.0 ++ (l.1 ++ (s.0 ++ s.1))) in
    let form : text ≡ codes "PUBLIC" ++ (l.0 ++ (l.1 ++ (s.0 ++ (s.1 ++ m.0.1)))) = word_found text (codes "PUBLIC") is ∙ ap (λ t. codes "PUBLIC" ++ t) (l.4 ∙ ap (λ t. l.0 ++ (l.1 ++ t)) (left ∙ s.4)) in
    let same : codes "PUBLIC" ++ (l.0 ++ (l.1 ++ (s.0 ++ (s.1 ++ m.0.1)))) ≡ front ++ m.0.1 = sym (simp append_assoc) in
    let found : (front : List ℕ) × IsExternal front × (text ≡ front ++ m.0.1) = (front, inr (l.0, l.1, s.0, s.1, k.0.0, m.0.0, l.2, l.3, p.0, s.2, s.3, refl), form ∙ same) in
    subst (λ (x : Ids × List ℕ). (front : List ℕ) × IsExternal front × (text ≡ front ++ x.1)) m.2 found)
    (λ no g. cc))

system_chars : list_all is_name_char (codes "SYSTEM") ≡ true
unfolding is_name_char
system_chars = refl

public_chars : list_all is_name_char (codes "PUBLIC") ≡ true
unfolding is_name_char
public_chars = refl

spread_system : (space system rest : List ℕ) → (codes "SYSTEM" ++ (space ++ system)) ++ rest ≡ codes "SYSTEM" ++ (space ++ (system ++ rest))
spread_system space system rest = simp append_assoc

spread_public : (space public gap system rest : List ℕ) → (codes "PUBLIC" ++ (space ++ (public ++ (gap ++ system)))) ++ rest ≡ codes "PUBLIC" ++ (space ++ (public ++ (gap ++ (system ++ rest))))
spread_public space public gap system rest = simp append_assoc

pub ids_back : (front rest : List ℕ) → IsExternal front → (ids : Ids) × (read_ids (front ++ rest) ≡ Some (ids, rest))
unfolding read_ids
ids_back front rest (inl (space, system, inside, spaced, is, form)) =
    let behind = space ++ (system ++ rest) in
    let text = codes "SYSTEM" ++ behind in
    let w : word text ≡ codes "SYSTEM" = word_at (codes "SYSTEM") behind system_chars (space_stop space (system ++ rest) spaced) in
    let a : after_word text ≡ behind = after_at (codes "SYSTEM") behind system_chars (space_stop space (system ++ rest) spaced) in (
      System (as_system inside),
      ap read_ids (ap (λ t. t ++ rest) form ∙ spread_system space system rest)
          ∙ cond-true (bytes_eq (word text) (codes "SYSTEM")) _ _ (ap (λ (t : List ℕ). bytes_eq t (codes "SYSTEM")) w)
          ∙ ap (λ (t : List ℕ). read_system t) a
          ∙ ap (option_map (λ (y : List ℕ × List ℕ). (System (as_system y.0), y.1))) (spaced_literal_back space system inside rest spaced is),
    )
ids_back front rest (inr (space, public, gap, system, name, inside, spaced, is_public, are, gapped, is, form)) =
    let tail = gap ++ (system ++ rest) in
    let behind = space ++ (public ++ tail) in
    let text = codes "PUBLIC" ++ behind in
    let w : word text ≡ codes "PUBLIC" = word_at (codes "PUBLIC") behind public_chars (space_stop space (public ++ tail) spaced) in
    let a : after_word text ≡ behind = after_at (codes "PUBLIC") behind public_chars (space_stop space (public ++ tail) spaced) in (
      Public (collapse_public name) (as_system inside),
      ap read_ids (ap (λ t. t ++ rest) form ∙ spread_public space public gap system rest)
          ∙ cond-false (bytes_eq (word text) (codes "SYSTEM")) _ _ (ap (λ (t : List ℕ). bytes_eq t (codes "SYSTEM")) w)
          ∙ cond-true (bytes_eq (word text) (codes "PUBLIC")) _ _ (ap (λ (t : List ℕ). bytes_eq t (codes "PUBLIC")) w)
          ∙ ap (λ (t : List ℕ). option_and_then with_system (spaced_public t)) a
          ∙ ap (λ (o : Option (List ℕ × List ℕ)). option_and_then with_system (option_and_then as_public o)) (spaced_literal_back space public name tail spaced is_public)
          ∙ ap (option_and_then with_system) (cond-true (list_all is_pubid_char name) (Some (collapse_public name, tail)) None are)
          ∙ ap (option_map (λ (y : List ℕ × List ℕ). (Public (collapse_public name) (as_system y.0), y.1))) (spaced_literal_back gap system inside rest gapped is),
    )

ids_plain : (front rest : List ℕ) → IsExternal front → stops is_space (front ++ rest) ≡ true
unfolding is_space
ids_plain front rest (inl (space, system, inside, spaced, is, form)) = ap (λ t. stops is_space (t ++ rest)) form
ids_plain front rest (inr (space, public, gap, system, name, inside, spaced, is_public, are, gapped, is, form)) = ap (λ t. stops is_space (t ++ rest)) form

no_ids : (rest : List ℕ) → read_ids (codes ">" ++ rest) ≡ None
unfolding read_ids word is_name_char
no_ids rest = refl

-- ---- document type declarations

pub doctype_found : (text rest : List ℕ) → starts_with nat_eq text (codes "<!DOCTYPE") ≡ true → type_end (drop 9 text) ≡ Some (codes ">" ++ rest) → (front : List ℕ) × IsDoctype front × (text ≡ front ++ rest)
doctype_found text rest begins e =
    let m = map_some (λ (x : List ℕ × List ℕ). identified x.1 (option_and_then read_ids (read_space x.1))) (spaced_name (drop 9 text)) (codes ">" ++ rest) e in
    let h = and_then_some read_name (read_space (drop 9 text)) m.0 m.1 in
    let s = space_sound (drop 9 text) h.0 h.1 in
    let name = name_found h.0 m.0 h.2 in
    let form : text ≡ codes "<!DOCTYPE" ++ (s.0 ++ (m.0.0 ++ m.0.1)) = starts_found (codes "<!DOCTYPE") text begins ∙ ap (λ t. codes "<!DOCTYPE" ++ t) (s.1 ∙ ap (λ t. s.0 ++ t) name.0) in
    by s.0 m.0.0 m.0.1 s.2 name.1 form (option_and_then read_ids (read_space m.0.1)) refl m.2
  where
    by : (space name behind : List ℕ) → IsSpace space → is_name name ≡ true → text ≡ codes "<!DOCTYPE" ++ (space ++ (name ++ behind)) → (o : Option (Ids × List ℕ)) → option_and_then read_ids (read_space behind) ≡ o
        → identified behind o ≡ codes ">" ++ rest → (front : List ℕ) × IsDoctype front × (text ≡ front ++ rest)
    by space name behind spaced is form None none ends =
        let b = skipped_split behind in
        let front = codes "<!DOCTYPE" ++ (space ++ (name ++ ([] ++ (b.0 ++ codes ">")))) in
        let whole : text ≡ codes "<!DOCTYPE" ++ (space ++ (name ++ ([] ++ (b.0 ++ (codes ">" ++ rest))))) = form ∙ ap (λ t. codes "<!DOCTYPE" ++ (space ++ (name ++ t))) (b.2 ∙ ap (λ t. b.0 ++ t) ends) in
        let same : codes "<!DOCTYPE" ++ (space ++ (name ++ ([] ++ (b.0 ++ (codes ">" ++ rest))))) ≡ front ++ rest = sym (simp append_assoc) in
        (front, record { space = space; name = name; external = []; blank = b.0; form = refl; is_space = spaced; is_named = is; is_external = inl refl; is_blank = b.1 }, whole ∙ same)
    by space name behind spaced is form (Some x) reads ends =
        let h = and_then_some read_ids (read_space behind) x reads in
        let g = space_sound behind h.0 h.1 in
        let i = ids_found h.0 x h.2 in
        let b = skipped_split x.1 in
        let front = codes "<!DOCTYPE" ++ (space ++ (name ++ ((g.0 ++ i.0) ++ (b.0 ++ codes ">")))) in
        let whole : text ≡ codes "<!DOCTYPE" ++ (space ++ (name ++ (g.0 ++ (i.0 ++ (b.0 ++ (codes ">" ++ rest)))))) =
        form ∙ ap (λ t. codes "<!DOCTYPE" ++ (space ++ (name ++ t))) (g.1 ∙ ap (λ t. g.0 ++ t) (i.2 ∙ ap (λ t. i.0 ++ t) (b.2 ∙ ap (λ t. b.0 ++ t) ends))) in
        let same : codes "<!DOCTYPE" ++ (space ++ (name ++ (g.0 ++ (i.0 ++ (b.0 ++ (codes ">" ++ rest)))))) ≡ front ++ rest = sym (simp append_assoc) in
        (front, record { space = space; name = name; external = g.0 ++ i.0; blank = b.0; form = refl; is_space = spaced; is_named = is; is_external = inr (g.0, i.0, g.2, i.1, refl); is_blank = b.1 }, whole ∙ same)

spread_doctype : (space name external blank rest : List ℕ) → (codes "<!DOCTYPE" ++ (space ++ (name ++ (external ++ (blank ++ codes ">"))))) ++ rest ≡ codes "<!DOCTYPE" ++ (space ++ (name ++ (external ++ (blank ++ (codes ">" ++ rest)))))
spread_doctype space name external blank rest = simp append_assoc

pub record Typed (text rest : List ℕ) : Type 0 where
  pub begins : starts_with nat_eq text (codes "<!DOCTYPE") ≡ true
  pub ends : type_end (drop 9 text) ≡ Some (codes ">" ++ rest)

pub doctype_back : (front rest : List ℕ) → IsDoctype front → Typed (front ++ rest) rest
unfolding is_space is_name_char
doctype_back front rest is =
    let end = is.blank ++ (codes ">" ++ rest) in
    let behind = is.external ++ end in
    let whole : front ++ rest ≡ codes "<!DOCTYPE" ++ (is.space ++ (is.name ++ behind)) = ap (λ t. t ++ rest) is.form ∙ spread_doctype is.space is.name is.external is.blank rest in
    let skips : skipped end ≡ codes ">" ++ rest = skipped_over is.blank (codes ">" ++ rest) is.is_blank refl in
    record {
      begins = ap (λ (t : List ℕ). starts_with nat_eq t (codes "<!DOCTYPE")) whole;
      ends =
          ap (λ (t : List ℕ). type_end (drop 9 t)) whole
          ∙ ap (λ (o : Option (List ℕ)). option_map (λ (x : List ℕ × List ℕ). identified x.1 (option_and_then read_ids (read_space x.1))) (option_and_then read_name o)) (space_back is.space (is.name ++ behind) is.is_space (name_plain is.name behind is.is_named))
          ∙ ap (option_map (λ (x : List ℕ × List ℕ). identified x.1 (option_and_then read_ids (read_space x.1)))) (name_back is.name behind is.is_named (name_stops is.external end is.is_external (blank_ends is.blank (codes ">" ++ rest) is.is_blank refl)))
          ∙ ap Some (identified_back is.external is.blank is.is_external is.is_blank skips);
    }
  where
    name_stops : (external end : List ℕ) → (external ≡ []) ⊎ ((gap : List ℕ) × (ids : List ℕ) × IsSpace gap × IsExternal ids × (external ≡ gap ++ ids)) → stops is_name_char end ≡ true → stops is_name_char (external ++ end) ≡ true
    name_stops external end (inl none) stop = ap (λ t. stops is_name_char (t ++ end)) none ∙ stop
    name_stops external end (inr (gap, ids, gapped, exact, form)) stop = ap (λ t. stops is_name_char (t ++ end)) form ∙ ap (stops is_name_char) (append_assoc gap ids end) ∙ space_stop gap (ids ++ end) gapped

    blank_no_ids : (blank : List ℕ) → IsBlank blank → option_and_then read_ids (read_space (blank ++ (codes ">" ++ rest))) ≡ None
    blank_no_ids [] is = refl
    blank_no_ids (c ∷ blank) is =
        let p = and_parts (is_space c) (list_all is_space blank) is in
        ap (option_and_then read_ids) (cond-true (is_space c) (Some (skipped (blank ++ (codes ">" ++ rest)))) None p.0 ∙ ap Some (skipped_over blank (codes ">" ++ rest) p.1 refl)) ∙ no_ids rest

    identified_back : (external blank : List ℕ) → (external ≡ []) ⊎ ((gap : List ℕ) × (ids : List ℕ) × IsSpace gap × IsExternal ids × (external ≡ gap ++ ids)) → IsBlank blank → skipped (blank ++ (codes ">" ++ rest)) ≡ codes ">" ++ rest
        → identified (external ++ (blank ++ (codes ">" ++ rest))) (option_and_then read_ids (read_space (external ++ (blank ++ (codes ">" ++ rest))))) ≡ codes ">" ++ rest
    identified_back external blank (inl none) is skips =
        let end = blank ++ (codes ">" ++ rest) in
        ap (λ t. identified (t ++ end) (option_and_then read_ids (read_space (t ++ end)))) none ∙ ap (identified end) (blank_no_ids blank is) ∙ skips
    identified_back external blank (inr (gap, ids, gapped, exact, form)) is skips =
        let end = blank ++ (codes ">" ++ rest) in
        let whole : external ++ end ≡ gap ++ (ids ++ end) = ap (λ t. t ++ end) form ∙ append_assoc gap ids end in
        let h = ids_back ids end exact in
        ap (λ t. identified t (option_and_then read_ids (read_space t))) whole
        ∙ ap (λ (o : Option (List ℕ)). identified (gap ++ (ids ++ end)) (option_and_then read_ids o)) (space_back gap (ids ++ end) gapped (ids_plain ids end exact))
        ∙ ap (identified (gap ++ (ids ++ end))) h.1 ∙ skips
