-- Contents: what is read is spelled, and what is spelled is read.
use Rattle.std.proofs.Common.{◌≡◌, List, [], ◌∷◌, ◌++◌, ℕ, suc, ◌+◌, ◌<◌, ◌≤◌, max, length, length-append, take, drop, refl, sym, ap, ◌∙◌, subst, arith, Bool, true, false, true≢false, Some, None, ◌⊎◌, inl, inr, bytes_eq}
use Rattle.std.specs.Prelude.{option_and_then, if◌then◌else◌, ◌==◌, ◌||◌, ◌&&◌, codes, nat_eq}
use Rattle.std.specs.List.{starts_with}
use Rattle.std.proofs.lemmas.List.{append-nil, take-append-drop}
use Rattle.std.proofs.lemmas.Slice.Eq.{bytes_eq-Decides}
use Rattle.std.proofs.Math.Dec.{eqb-suc-zero}
use Rattle.jats_chars.specs.Classes.{is_space}
use Rattle.jats_chars.specs.Names.{is_name}
use Rattle.content_models.specs.declared.content.Occurs.{Occurs}
use Rattle.content_models.specs.declared.content.Particle.{Particle}
use Rattle.content_models.specs.declared.content.Particle.TheVariants.{One, Seq, Choice}
use Rattle.content_models.specs.declared.content.Content.{Content}
use Rattle.content_models.specs.declared.content.Content.TheVariants.{Empty, Any, Mixed, Children}
use Rattle.content_models.specs.Model.{Chars}
use Rattle.content_models.specs.Proper.{depth, is_group, group_layer}
use Rattle.content_models.specs.Grammar.{IsSpaces, mark, SpellsPart, a_name, a_sequence, a_choice, SpellsNames, SpellsMixed, Spells}
use Rattle.content_models.specs.Reading.{skip, bare, more, grouped, read, mixed_end, whole, mixed_of, children_of, group_of, content_of}
use Rattle.content_models.specs.Parses.{most_open, IsTooDeep}
use Rattle.content_models.proofs.Layers.{fold-One}
use Rattle.content_models.proofs.Places.{skip-other, eq-false}
use Rattle.content_models.proofs.Letters.{name_hash, name_space, hash_plain, open_plain, bar_plain, bar_stops}
use Rattle.content_models.proofs.Rests.{Named, rest_names, names_rest, rest_length, rest_each}
use Rattle.content_models.proofs.Sound.{and_then_some, if_some, skip_sound, bare_sound, more_sound, grouped_sound, read_sound}
use Rattle.content_models.proofs.Complete.{Good, skip_spaces, bare_good, more_back, part_good}
use Rattle.content_models.proofs.Depths.{most-nil}
use Rattle.content_models.proofs.Peaks.{part_peak}

-- tests that are true
or-cases : (a b : Bool) → (a || b) ≡ true → (a ≡ true) ⊎ (b ≡ true)
or-cases true b h = inl refl
or-cases false b h = inr h

both : (a b : Bool) → (a && b) ≡ true → (a ≡ true) × (b ≡ true)
both true b h = (refl, h)
both false b h = absurd (true≢false (sym h))

nothing : {X : Type 0} (xs : List X) → (length xs == 0) ≡ true → xs ≡ []
nothing [] h = refl
nothing (x ∷ xs) h = absurd (true≢false (sym h ∙ eqb-suc-zero (length xs)))

same-list : (xs ys : Chars) → bytes_eq xs ys ≡ true → xs ≡ ys
same-list xs ys h = (bytes_eq-Decides xs ys).0 h

prefixed : (p t : Chars) → starts_with nat_eq t p ≡ true → t ≡ p ++ drop (length p) t
prefixed p t h = sym (take-append-drop (length p) t) ∙ ap (λ k. k ++ drop (length p) t) (sym (same-list p (take (length p) t) h))

-- ---- what is read is spelled
name_sound : (t : Chars) (x : Chars × Chars) → bare t ≡ Some x → (s : Chars) × (t ≡ s ++ x.1) × Named s x.0
name_sound t x e = let h = bare_sound t x e in (x.0, h.0, (refl, h.1))

mixed_sound : (n : ℕ) (a t : Chars) (c : Content) → IsSpaces a → mixed_of n t ≡ Some c → Spells (40 ∷ (a ++ (codes "#PCDATA" ++ t))) c
unfolding mixed_of
mixed_sound n a t c w e =
    let h = and_then_some mixed_end (more bare n 124 [] (skip t)) c e in
    let b = skip_sound t in
    let m = more_sound bare Named 124 name_sound n [] b.0 (skip t) h.0 b.1 h.1 in
    let f = if_some (bytes_eq h.0.1 (codes "*") || (length h.0.1 == 0 && length h.0.0 == 0)) (Some (Mixed h.0.0)) c h.2 in
    let is : Mixed h.0.0 ≡ c = (let g = f.1 in cc) in
    let names : SpellsNames m.1 h.0.0 = subst (SpellsNames m.1) (sym m.2) (rest_names m.0 m.1 m.4) in
    let text : t ≡ m.1 ++ (41 ∷ h.0.1) = b.2 ∙ m.3 in
    let close : ((41 ∷ h.0.1) ≡ codes ")*") ⊎ (((41 ∷ h.0.1) ≡ codes ")") × (h.0.0 ≡ [])) =
    elim (or-cases (bytes_eq h.0.1 (codes "*")) _ f.0) [
      | inl s ↦ inl (ap (λ k. 41 ∷ k) (same-list h.0.1 (codes "*") s))
      | inr s ↦ (let z = both (length h.0.1 == 0) (length h.0.0 == 0) s in inr (ap (λ k. 41 ∷ k) (nothing h.0.1 z.0), nothing h.0.0 z.1))
    ] in
    let spelled : SpellsMixed (40 ∷ (a ++ (codes "#PCDATA" ++ t))) h.0.0 =
    (a, m.1, 41 ∷ h.0.1, ap (λ k. 40 ∷ (a ++ (codes "#PCDATA" ++ k))) text, w, names, close) in
    subst (Spells (40 ∷ (a ++ (codes "#PCDATA" ++ t)))) is spelled

children_sound : (n : ℕ) (t : Chars) (c : Content) → children_of n t ≡ Some c → Spells (40 ∷ t) c
children_sound n t c e =
    let h = and_then_some whole (grouped (read n 63) n t) c e in
    let g = grouped_sound (read n 63) (read_sound n 63) n t h.0 h.1 in
    let f = if_some (length h.0.1 == 0) (Some (Children h.0.0)) c h.2 in
    let is : Children h.0.0 ≡ c = (let k = f.1 in cc) in
    let text : 40 ∷ t ≡ g.0 = g.1 ∙ ap (λ k. g.0 ++ k) (nothing h.0.1 f.0) ∙ append-nil g.0 in
    subst (Spells (40 ∷ t)) is (g.3, subst (λ k. SpellsPart k h.0.0) (sym text) g.2)

group_sound : (n : ℕ) (t : Chars) (c : Content) → group_of n t ≡ Some c → Spells (40 ∷ t) c
unfolding group_of
group_sound n t c e = go (starts_with nat_eq (skip t) (codes "#PCDATA")) refl e
  where
    go : (b : Bool) → starts_with nat_eq (skip t) (codes "#PCDATA") ≡ b → (if b then mixed_of n (drop 7 (skip t)) else children_of n t) ≡ Some c → Spells (40 ∷ t) c
    go true q e =
        let a = skip_sound t in
        let text : 40 ∷ t ≡ 40 ∷ (a.0 ++ (codes "#PCDATA" ++ drop 7 (skip t))) = ap (λ k. 40 ∷ k) (a.2 ∙ ap (λ k. a.0 ++ k) (prefixed (codes "#PCDATA") (skip t) q)) in
        subst (λ k. Spells k c) (sym text) (mixed_sound n a.0 (drop 7 (skip t)) c a.1 e)
    go false q e = children_sound n t c e

pub content_sound : (t : Chars) (c : Content) → content_of t ≡ Some c → Spells t c
unfolding content_of
content_sound t c e = go (bytes_eq t (codes "EMPTY")) (bytes_eq t (codes "ANY")) (starts_with nat_eq t (codes "(")) refl refl refl e
  where
    go : (x y z : Bool) → bytes_eq t (codes "EMPTY") ≡ x → bytes_eq t (codes "ANY") ≡ y → starts_with nat_eq t (codes "(") ≡ z
        → (if x then Some Empty else (if y then Some Any else (if z then group_of (length t) (drop 1 t) else None))) ≡ Some c → Spells t c
    go true y z p q r e = (let is : Empty ≡ c = (cc) in subst (Spells t) is (same-list t (codes "EMPTY") p))
    go false true z p q r e = (let is : Any ≡ c = (cc) in subst (Spells t) is (same-list t (codes "ANY") q))
    go false false true p q r e = subst (λ k. Spells k c) (sym (prefixed (codes "(") t r)) (group_sound (length t) (drop 1 t) c e)
    go false false false p q r e = cc

-- ---- what is spelled is read
mixed_complete : (n : ℕ) (rest m : Chars) (names : List Chars) → SpellsNames rest names → length rest ≤ n → mixed_end (names, m) ≡ Some (Mixed names)
    → mixed_of n (rest ++ (41 ∷ m)) ≡ Some (Mixed names)
unfolding mixed_of
mixed_complete n rest m names h l e =
    let named = names_rest names rest h in
    let good = rest_each Named (Good bare) bare_good 124 names rest named in
    let fits : length names ≤ n = omega (arith, rest_length Named 124 names rest named) in
    ap (option_and_then mixed_end) (more_back bare 124 (λ q. omega arith) bar_plain bar_stops n [] names rest m fits good) ∙ e

group_mixed : (n : ℕ) (a r : Chars) → IsSpaces a → group_of n (a ++ (codes "#PCDATA" ++ r)) ≡ mixed_of n r
unfolding group_of
group_mixed n a r w =
    let e : skip (a ++ (codes "#PCDATA" ++ r)) ≡ codes "#PCDATA" ++ r =
    skip_spaces a (codes "#PCDATA" ++ r) w ∙ skip-other 35 (80 ∷ 67 ∷ 68 ∷ 65 ∷ 84 ∷ 65 ∷ r) hash_plain in
    ap (λ k. if starts_with nat_eq k (codes "#PCDATA") then mixed_of n (drop 7 k) else children_of n (a ++ (codes "#PCDATA" ++ r))) e

opened : (x : Chars) → content_of (40 ∷ x) ≡ group_of (length (40 ∷ x)) x
unfolding content_of
opened x = refl

mixed_opened : (t a rest m : Chars) (names : List Chars) → t ≡ 40 ∷ (a ++ (codes "#PCDATA" ++ (rest ++ (41 ∷ m)))) → IsSpaces a → SpellsNames rest names
    → mixed_end (names, m) ≡ Some (Mixed names) → content_of t ≡ Some (Mixed names)
mixed_opened t a rest m names e w h q =
    let x = a ++ (codes "#PCDATA" ++ (rest ++ (41 ∷ m))) in
    let n = length (40 ∷ x) in
    let l : length x ≡ length a + (7 + (length rest + suc (length m))) =
    length-append a (codes "#PCDATA" ++ (rest ++ (41 ∷ m))) ∙ ap (λ k. length a + k) (ap (λ k. suc (suc (suc (suc (suc (suc (suc k))))))) (length-append rest (41 ∷ m)) ∙ (let z : suc (suc (suc (suc (suc (suc (suc (length rest + suc (length m)))))))) ≡ 7 + (length rest + suc (length m)) = omega arith in z)) in
    ap content_of e ∙ opened x ∙ group_mixed n a (rest ++ (41 ∷ m)) w ∙ mixed_complete n rest m names h (omega arith) q

mixed_spelled : (t : Chars) (names : List Chars) → SpellsMixed t names → content_of t ≡ Some (Mixed names)
mixed_spelled t names h = elim h.6 [
  | inl c ↦ mixed_opened t h.0 h.1 (codes "*") names (h.3 ∙ ap (λ k. 40 ∷ (h.0 ++ (codes "#PCDATA" ++ (h.1 ++ k)))) c) h.4 h.5 refl
  | inr c ↦ mixed_opened t h.0 h.1 [] names (h.3 ∙ ap (λ k. 40 ∷ (h.0 ++ (codes "#PCDATA" ++ (h.1 ++ k)))) c.0) h.4 h.5
      (subst (λ k. mixed_end (k, []) ≡ Some (Mixed k)) (sym c.1) refl)
]

-- the first character of a part
abbrev Head : Chars → Type 0
Head s = (c : ℕ) × (t : Chars) × (s ≡ c ∷ t) × (c ≡ 35 → ⊥) × (is_space c ≡ false)

word_head : (w m : Chars) → is_name w ≡ true → Head (w ++ m)
word_head [] m h = absurd (true≢false (sym h))
word_head (c ∷ w) m h = (c, w ++ m, refl, name_hash c w h, name_space c w h)

part_head : (s : Chars) (p : Particle) → SpellsPart s p → Head s
part_head s p (a_name w o h) = word_head w (mark o) h
part_head s p (a_sequence a f u q qs o w g t) = (40, a ++ (f ++ (u ++ (41 ∷ mark o))), refl, (λ e. omega arith), open_plain)
part_head s p (a_choice a f u q v qs o w g t) = (40, a ++ (f ++ (u ++ (41 ∷ mark o))), refl, (λ e. omega arith), open_plain)

pub depth_of : (t : Chars) (p : Particle) → SpellsPart t p → most_open 0 t ≡ depth p
depth_of t p h =
    ap (most_open 0) (sym (append-nil t)) ∙ part_peak t p h 0 [] ∙ ap (max (0 + depth p)) (most-nil 0) ∙ (let q : max (0 + depth p) 0 ≡ depth p = omega arith in q)

no_pcdata : (a s r : Chars) → IsSpaces a → Head s → starts_with nat_eq (skip (a ++ (s ++ r))) (codes "#PCDATA") ≡ false
no_pcdata a s r w h =
    let c = h.0 in
    let e : skip (a ++ (s ++ r)) ≡ c ∷ (h.1 ++ r) =
    skip_spaces a (s ++ r) w ∙ ap (λ k. skip (k ++ r)) h.2 ∙ skip-other c (h.1 ++ r) h.4 in
    let n : nat_eq 35 c ≡ false = eq-false 35 c (λ q. h.3 (sym q)) in
    ap (λ k. starts_with nat_eq k (codes "#PCDATA")) e ∙ ap (λ b. b && bytes_eq (codes "PCDATA") (take 6 (h.1 ++ r))) n

group_children : (n : ℕ) (x : Chars) → starts_with nat_eq (skip x) (codes "#PCDATA") ≡ false → group_of n x ≡ children_of n x
unfolding group_of
group_children n x e = ap (λ b. if b then mixed_of n (drop 7 (skip x)) else children_of n x) e

read-group : (n : ℕ) (x : Chars) → read n 64 (40 ∷ x) ≡ grouped (read n 63) n x
unfolding read
read-group n x = refl

group_spelled : (x : Chars) (p : Particle) → SpellsPart (40 ∷ x) p → (64 < most_open 0 (40 ∷ x) → ⊥) → starts_with nat_eq (skip x) (codes "#PCDATA") ≡ false
    → content_of (40 ∷ x) ≡ Some (Children p)
group_spelled x p h deep e =
    let n = length (40 ∷ x) in
    let d : depth p ≤ 64 = omega (arith, depth_of (40 ∷ x) p h, deep) in
    let g = part_good (40 ∷ x) p h n 64 (omega arith) d in
    let r : grouped (read n 63) n x ≡ Some (p, []) = sym (read-group n x) ∙ ap (λ k. read n 64 (40 ∷ k)) (sym (append-nil x)) ∙ g.0 [] refl in
    opened x ∙ group_children n x e ∙ ap (option_and_then whole) r

group-One : (w : Chars) (o : Occurs) → is_group (One w o) ≡ false
unfolding is_group
group-One w o = fold-One group_layer w o

children_spelled : (t : Chars) (p : Particle) → SpellsPart t p → is_group p ≡ true → (64 < most_open 0 t → ⊥) → content_of t ≡ Some (Children p)
children_spelled t p (a_name w o h) g deep = absurd (true≢false (sym g ∙ group-One w o))
children_spelled t p (a_sequence a s u q qs o w f r) g deep =
    group_spelled (a ++ (s ++ (u ++ (41 ∷ mark o)))) (Seq (q ∷ qs) o) (a_sequence a s u q qs o w f r) deep
    (no_pcdata a s (u ++ (41 ∷ mark o)) w (part_head s q f))
children_spelled t p (a_choice a s u q v qs o w f r) g deep =
    group_spelled (a ++ (s ++ (u ++ (41 ∷ mark o)))) (Choice (q ∷ v ∷ qs) o) (a_choice a s u q v qs o w f r) deep
    (no_pcdata a s (u ++ (41 ∷ mark o)) w (part_head s q f))

spelled_empty : content_of (codes "EMPTY") ≡ Some Empty
unfolding content_of
spelled_empty = refl

spelled_any : content_of (codes "ANY") ≡ Some Any
unfolding content_of
spelled_any = refl

-- a text with no more than 64 open parentheses spells what is read
pub content_complete : (t : Chars) (c : Content) → Spells t c → (IsTooDeep t → ⊥) → content_of t ≡ Some c
content_complete t Empty h deep = ap content_of h ∙ spelled_empty
content_complete t Any h deep = ap content_of h ∙ spelled_any
content_complete t (Mixed names) h deep = mixed_spelled t names h
content_complete t (Children p) h deep = children_spelled t p h.1 h.0 deep
