-- What is read is written so.
use Rattle.std.proofs.Common.{◌≡◌, ◌∙◌, ℕ, ◌+◌, List, [], ◌∷◌, ◌++◌, take, drop, refl, sym, ap, subst, true, true≢false, Some, None, inl, inr}
use Rattle.std.specs.Prelude.{option_map, ◌==◌, ◌&&◌, position}
use Rattle.std.specs.List.{list_all}
use Rattle.std.proofs.lemmas.List.{append_assoc}
use Rattle.std.proofs.lemmas.Bool.Decides.{eqb_tells}
use Rattle.jats_chars.specs.Classes.{is_space}
use Rattle.jats_chars.specs.Names.{is_name}
use Rattle.dtd_scanner.specs.Items.{is_quote}
use Rattle.text_fronts.specs.Fronts.{skipped, word, after_word, read_space, read_name, spaced_name, literal_end, read_literal, spaced_literal}
use Rattle.text_fronts.specs.Grammar.{IsSpace, IsLiteral}
use Rattle.text_fronts.proofs.Fronts.{and_then_some, map_some, if_some, word_split, skipped_split, position_sound}

pub same : (c d : ℕ) → (c == d) ≡ true → c ≡ d
same c d q = elim (eqb_tells c d) [ inl r ↦ r.1 | inr r ↦ absurd (true≢false (sym q ∙ r.0)) ]

-- a form in front of what follows
abbrev pub Front : {X : Type 0} → (List ℕ → X → Type 0) → List ℕ → X × List ℕ → Type 0
Front Form t x = (s : List ℕ) × (t ≡ s ++ x.1) × Form s x.0

pub space_sound : (t r : List ℕ) → read_space t ≡ Some r → (s : List ℕ) × (t ≡ s ++ r) × IsSpace s
space_sound [] r e = cc
space_sound (c ∷ cs) r e =
    let h = if_some (is_space c) (Some (skipped cs)) r e in
    let is : skipped cs ≡ r = (let f = h.1 in cc) in
    let b = skipped_split cs in
    (c ∷ b.0, ap (λ k. c ∷ k) (b.2 ∙ ap (λ k. b.0 ++ k) is), ap (λ k. k && list_all is_space b.0) h.0 ∙ b.1)

abbrev pub IsName : List ℕ → List ℕ → Type 0
IsName s name = (s ≡ name) × (is_name name ≡ true)

pub name_sound : (t : List ℕ) (x : List ℕ × List ℕ) → read_name t ≡ Some x → Front IsName t x
name_sound t x e =
    let h = if_some (is_name (word t)) (Some (word t, after_word t)) x e in
    let p : (word t, after_word t) ≡ x = (let f = h.1 in cc) in
    let front : Front IsName t (word t, after_word t) = (word t, word_split t, (refl, h.0)) in
    subst (Front IsName t) p front

-- a Name behind white space
pub spaced_name_sound : (t : List ℕ) (x : List ℕ × List ℕ) → spaced_name t ≡ Some x → (s : List ℕ) × (t ≡ s ++ (x.0 ++ x.1)) × IsSpace s × (is_name x.0 ≡ true)
spaced_name_sound t x e =
    let h = and_then_some read_name (read_space t) x e in
    let s = space_sound t h.0 h.1 in
    let n = name_sound h.0 x h.2 in
    (s.0, s.1 ∙ ap (λ z. s.0 ++ z) (n.1 ∙ ap (λ z. z ++ x.1) n.2.0), s.2, n.2.1)

pub literal_sound : (t : List ℕ) (y : List ℕ × List ℕ) → read_literal t ≡ Some y → Front IsLiteral t y
unfolding read_literal
literal_sound [] y e = (let f : None ≡ Some y = e in cc)
literal_sound (q ∷ cs) y e =
    let h = if_some (is_quote q) (option_map (literal_end cs) (position (λ c. c == q) cs)) y e in
    let g = map_some (literal_end cs) (position (λ c. c == q) cs) y h.1 in
    let k = g.0 in
    let p = position_sound (λ c. c == q) cs k g.1 in
    let close : cs ≡ take k cs ++ (q ∷ drop (k + 1) cs) = p.0.2 ∙ ap (λ d. take k cs ++ (d ∷ drop (k + 1) cs)) (same p.0.0 q p.0.1) in
    let form : IsLiteral (q ∷ (take k cs ++ (q ∷ []))) (take k cs) = record { quote = q; is_quote = h.0; form = refl; within = p.1 } in
    let front : Front IsLiteral (q ∷ cs) (take k cs, drop (k + 1) cs) =
    (q ∷ (take k cs ++ (q ∷ [])), ap (λ k. q ∷ k) (close ∙ sym (append_assoc (take k cs) (q ∷ []) (drop (k + 1) cs))), form) in
    subst (Front IsLiteral (q ∷ cs)) g.2 front

-- a literal behind white space
pub spaced_literal_sound : (t : List ℕ) (y : List ℕ × List ℕ) → spaced_literal t ≡ Some y → (s : List ℕ) × (l : List ℕ) × (t ≡ s ++ (l ++ y.1)) × IsSpace s × IsLiteral l y.0
spaced_literal_sound t y e =
    let h = and_then_some read_literal (read_space t) y e in
    let s = space_sound t h.0 h.1 in
    let l = literal_sound h.0 y h.2 in
    (s.0, l.0, s.1 ∙ ap (λ z. s.0 ++ z) l.1, s.2, l.2)
