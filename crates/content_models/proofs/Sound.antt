-- What is read is spelled.
use Rattle.std.proofs.Common.{◌≡◌, List, [], ◌∷◌, ◌++◌, ℕ, zero, suc, take, drop, refl, sym, ap, ◌∙◌, subst, arith, Bool, true, false, true≢false, IsTrue, Option, Some, None, inl, inr}
use Rattle.std.specs.Prelude.{option_and_then, option_map, if◌then◌else◌, ◌==◌, ◌&&◌}
use Rattle.std.specs.List.{list_all}
use Rattle.std.proofs.lemmas.List.{append_assoc, append-nil, take-append-drop}
use Rattle.std.proofs.lemmas.Bool.Decides.{eqb_tells}
use Rattle.jats_chars.specs.Classes.{is_space}
use Rattle.jats_chars.specs.Names.{is_name}
use Rattle.content_models.specs.declared.content.Occurs.{Occurs}
use Rattle.content_models.specs.declared.content.Occurs.TheVariants.{Once, Opt, Star}
use Rattle.content_models.specs.declared.content.Occurs.TheVariants as sign
use Rattle.content_models.specs.declared.content.Particle.{Particle}
use Rattle.content_models.specs.declared.content.Particle.TheVariants.{Seq, Choice}
use Rattle.content_models.specs.Model.{Chars}
use Rattle.content_models.specs.Proper.{is_group, group_layer}
use Rattle.content_models.specs.Grammar.{IsSpaces, mark, SpellsPart, a_name, a_sequence, a_choice}
use Rattle.content_models.specs.Reading.{Read, skip, name_length, bare, marked, named, occurs_of, closed, more, grouped_by, grouped, read}
use Rattle.content_models.proofs.Layers.{fold-Seq, fold-Choice}
use Rattle.content_models.proofs.Rests.{RestOf, rest_parts}

-- inversions
pub and_then_some : {A B : Type 0} (f : A → Option B) (o : Option A) (y : B) → option_and_then f o ≡ Some y → (x : A) × (o ≡ Some x) × (f x ≡ Some y)
and_then_some f None y e = cc
and_then_some f (Some x) y e = (x, refl, e)

pub map_some : {A B : Type 0} (f : A → B) (o : Option A) (y : B) → option_map f o ≡ Some y → (x : A) × (o ≡ Some x) × (f x ≡ y)
map_some f None y e = cc
map_some f (Some x) y e = (x, refl, (cc))

pub if_some : {A : Type 0} (b : Bool) (o : Option A) (y : A) → (if b then o else None) ≡ Some y → (b ≡ true) × (o ≡ Some y)
if_some true o y e = (refl, e)
if_some false o y e = cc

-- white space at the front
pub skip_sound : (t : Chars) → (a : Chars) × IsSpaces a × (t ≡ a ++ skip t)
unfolding skip
skip_sound [] = ([], refl, refl)
skip_sound (c ∷ t) = go (skip_sound t) (is_space c) refl
  where
    go : (a : Chars) × IsSpaces a × (t ≡ a ++ skip t) → (b : Bool) → is_space c ≡ b → (a : Chars) × IsSpaces a × (c ∷ t ≡ a ++ (if b then skip t else c ∷ t))
    go h true q = (c ∷ h.0, ap (λ b. b && list_all is_space h.0) q ∙ h.1, ap (λ k. c ∷ k) h.2)
    go h false q = ([], refl, refl)

pub bare_sound : (t : Chars) (x : Chars × Chars) → bare t ≡ Some x → (t ≡ x.0 ++ x.1) × IsTrue (is_name x.0)
unfolding bare
bare_sound t x e =
    let k = name_length t in
    let h = if_some (is_name (take k t)) (Some (take k t, drop k t)) x e in
    let p : (take k t, drop k t) ≡ x = (let f = h.1 in cc) in
    subst (λ y. (t ≡ y.0 ++ y.1) × IsTrue (is_name y.0)) p (sym (take-append-drop k t), h.0)

pub sign_sound : (t : Chars) → t ≡ mark (occurs_of t).0 ++ (occurs_of t).1
sign_sound [] = refl
sign_sound (c ∷ t) =
    let P : Occurs × Chars → Type 0 = λ k. c ∷ t ≡ mark k.0 ++ k.1 in
    elim (eqb_tells c 63) [
      | inl q ↦ subst P (sym (ap (λ b. if b then (Opt, t) else (if c == 42 then (Star, t) else (if c == 43 then (sign.Plus, t) else (Once, c ∷ t)))) q.0)) (ap (λ d. d ∷ t) q.1)
      | inr q ↦ subst P (sym (ap (λ b. if b then (Opt, t) else (if c == 42 then (Star, t) else (if c == 43 then (sign.Plus, t) else (Once, c ∷ t)))) q.0))
          (elim (eqb_tells c 42) [
            | inl r ↦ subst P (sym (ap (λ b. if b then (Star, t) else (if c == 43 then (sign.Plus, t) else (Once, c ∷ t))) r.0)) (ap (λ d. d ∷ t) r.1)
            | inr r ↦ subst P (sym (ap (λ b. if b then (Star, t) else (if c == 43 then (sign.Plus, t) else (Once, c ∷ t))) r.0))
                (elim (eqb_tells c 43) [
                  | inl s ↦ subst P (sym (ap (λ b. if b then (sign.Plus, t) else (Once, c ∷ t)) s.0)) (ap (λ d. d ∷ t) s.1)
                  | inr s ↦ subst P (sym (ap (λ b. if b then (sign.Plus, t) else (Once, c ∷ t)) s.0)) refl
                ])
          ])
    ]

-- a part in front of what follows
abbrev pub Front : Chars → Particle × Chars → Type 0
Front t y = (s : Chars) × (t ≡ s ++ y.1) × SpellsPart s y.0

pub named_sound : (t : Chars) (y : Particle × Chars) → named t ≡ Some y → Front t y
named_sound t y e =
    let m = map_some marked (bare t) y e in
    let x = m.0 in
    let b = bare_sound t x m.1 in
    let o = (occurs_of x.1).0 in
    let r = (occurs_of x.1).1 in
    let front : Front t (marked x) = (
      x.0 ++ mark o,
      b.0 ∙ ap (λ k. x.0 ++ k) (sign_sound x.1) ∙ sym (append_assoc x.0 (mark o) r),
      a_name x.0 o b.1,
    ) in
    subst (Front t) m.2 front

-- items
module _ {X : Type 0} (one : Chars → Read X) (Item : Chars → X → Type 0) (sep : ℕ)
    (sound : (t : Chars) (x : X × Chars) → one t ≡ Some x → (s : Chars) × (t ≡ s ++ x.1) × Item s x.0) where
  -- the items that were read after xs
  abbrev Went : List X → Chars → Chars → List X × Chars → Type 0
  Went xs a t y = (new : List X) × (u : Chars) × (y.0 ≡ xs ++ new) × (a ++ t ≡ u ++ (41 ∷ y.1)) × RestOf Item sep u new × (new ≡ [] → t ≡ 41 ∷ y.1)

  closes : (xs : List X) (a : Chars) (c : ℕ) (t : Chars) (y : List X × Chars) → IsSpaces a → c ≡ 41 → (xs, t) ≡ y → Went xs a (c ∷ t) y
  closes xs a c t y w e is =
      let r : t ≡ y.1 = ap (λ k. k.1) is in
      let l : y.0 ≡ xs ++ [] = sym (ap (λ k. k.0) is) ∙ sym (append-nil xs) in
      let p : c ∷ t ≡ 41 ∷ y.1 = ap (λ d. d ∷ t) e ∙ ap (λ k. 41 ∷ k) r in
      ([], a, l, ap (λ k. a ++ k) p, w, (λ z. p))

  pub more_sound : (n : ℕ) (xs : List X) (a t : Chars) (y : List X × Chars) → IsSpaces a → more one n sep xs t ≡ Some y → Went xs a t y
  unfolding more
  more_sound n xs a [] y w e = (let f : None ≡ Some y = e in cc)
  more_sound zero xs a (c ∷ t) y w e = elim (eqb_tells c 41) [
    | inl q ↦ (let f : Some (xs, t) ≡ Some y = sym (ap (λ b. if b then Some (xs, t) else None) q.0) ∙ e in closes xs a c t y w q.1 (cc))
    | inr q ↦ (let f : None ≡ Some y = sym (ap (λ b. if b then Some (xs, t) else None) q.0) ∙ e in cc)
  ]
  more_sound (suc n) xs a (c ∷ t) y w e =
      let go : X × Chars → Option (List X × Chars) = λ x. more one n sep (xs ++ x.0 ∷ []) (skip x.1) in
      let on : Option (List X × Chars) = if c == sep then option_and_then go (one (skip t)) else None in
      elim (eqb_tells c 41) [
        | inl q ↦ (let f : Some (xs, t) ≡ Some y = sym (ap (λ b. if b then Some (xs, t) else on) q.0) ∙ e in closes xs a c t y w q.1 (cc))
        | inr q ↦
            (let f : on ≡ Some y = sym (ap (λ b. if b then Some (xs, t) else on) q.0) ∙ e in
            let g = if_some (c == sep) (option_and_then go (one (skip t))) y f in
            let h = and_then_some go (one (skip t)) y g.1 in
            let x = h.0 in
            let b = skip_sound t in
            let s = sound (skip t) x h.1 in
            let z = skip_sound x.1 in
            let i = more_sound n (xs ++ x.0 ∷ []) z.0 (skip x.1) y z.1 h.2 in
            goes xs a c t y w (same c sep g.0) x b s z i)
      ]
    where
      same : (c d : ℕ) → (c == d) ≡ true → c ≡ d
      same c d q = elim (eqb_tells c d) [ inl r ↦ r.1 | inr r ↦ absurd (true≢false (sym q ∙ r.0)) ]

      goes : (xs : List X) (a : Chars) (c : ℕ) (t : Chars) (y : List X × Chars) → IsSpaces a → c ≡ sep → (x : X × Chars)
          → (b : (b : Chars) × IsSpaces b × (t ≡ b ++ skip t)) → (s : (s : Chars) × (skip t ≡ s ++ x.1) × Item s x.0)
          → (z : (z : Chars) × IsSpaces z × (x.1 ≡ z ++ skip x.1)) → Went (xs ++ x.0 ∷ []) z.0 (skip x.1) y → Went xs a (c ∷ t) y
      goes xs a c t y w is x b s z i =
          let tail : x.1 ≡ i.1 ++ (41 ∷ y.1) = z.2 ∙ i.3 in
          let whole : t ≡ (b.0 ++ (s.0 ++ i.1)) ++ (41 ∷ y.1) =
          b.2 ∙ ap (λ k. b.0 ++ k) (s.1 ∙ ap (λ k. s.0 ++ k) tail ∙ sym (append_assoc s.0 i.1 (41 ∷ y.1)))
          ∙ sym (append_assoc b.0 (s.0 ++ i.1) (41 ∷ y.1)) in (
            x.0 ∷ i.0,
            a ++ (sep ∷ (b.0 ++ (s.0 ++ i.1))),
            i.2 ∙ append_assoc xs (x.0 ∷ []) i.0,
            ap (λ k. a ++ (k ∷ t)) is ∙ ap (λ k. a ++ (sep ∷ k)) whole ∙ sym (append_assoc a (sep ∷ (b.0 ++ (s.0 ++ i.1))) (41 ∷ y.1)),
            (a, b.0, s.0, i.1, refl, w, b.1, s.2, i.4),
            (λ k. (let f : x.0 ∷ i.0 ≡ [] = k in cc)),
          )

-- groups
group-Seq : (ps : List Particle) (o : Occurs) → IsTrue (is_group (Seq ps o))
unfolding is_group
group-Seq ps o = fold-Seq group_layer ps o

group-Choice : (ps : List Particle) (o : Occurs) → IsTrue (is_group (Choice ps o))
unfolding is_group
group-Choice ps o = fold-Choice group_layer ps o

-- a group in front of what follows
abbrev pub GroupFront : Chars → Particle × Chars → Type 0
GroupFront t y = (s : Chars) × (t ≡ s ++ y.1) × SpellsPart s y.0 × IsTrue (is_group y.0)

-- a group's text in front of what follows
regroup : (a s u m r : Chars) → 40 ∷ (a ++ (s ++ (u ++ (41 ∷ (m ++ r))))) ≡ (40 ∷ (a ++ (s ++ (u ++ (41 ∷ m))))) ++ r
regroup a s u m r = sym (simp append_assoc)

module _ (one : Chars → Read Particle) (sound : (t : Chars) (x : Particle × Chars) → one t ≡ Some x → Front t x) where
  seq_made : (a s u : Chars) (p : Particle) (x : List Particle × Chars) (new : List Particle) → IsSpaces a → SpellsPart s p → x.0 ≡ p ∷ new
      → RestOf SpellsPart 44 u new → (t : Chars) → t ≡ a ++ (s ++ (u ++ (41 ∷ x.1))) → GroupFront (40 ∷ t) (closed Seq x)
  seq_made a s u p x new w g l rest t e =
      let o = (occurs_of x.1).0 in
      let r = (occurs_of x.1).1 in (
        40 ∷ (a ++ (s ++ (u ++ (41 ∷ mark o)))),
        ap (λ k. 40 ∷ k) (e ∙ ap (λ k. a ++ (s ++ (u ++ (41 ∷ k)))) (sign_sound x.1)) ∙ regroup a s u (mark o) r,
        subst (λ ps. SpellsPart (40 ∷ (a ++ (s ++ (u ++ (41 ∷ mark o))))) (Seq ps o)) (sym l) (a_sequence a s u p new o w g (rest_parts 44 new u rest)),
        group-Seq x.0 o,
      )

  choice_made : (a s u : Chars) (p : Particle) (x : List Particle × Chars) (new : List Particle) → IsSpaces a → SpellsPart s p → x.0 ≡ p ∷ new
      → RestOf SpellsPart 124 u new → (new ≡ [] → ⊥) → (t : Chars) → t ≡ a ++ (s ++ (u ++ (41 ∷ x.1))) → GroupFront (40 ∷ t) (closed Choice x)
  choice_made a s u p x [] w g l rest z t e = absurd (z refl)
  choice_made a s u p x (q ∷ new) w g l rest z t e =
      let o = (occurs_of x.1).0 in
      let r = (occurs_of x.1).1 in (
        40 ∷ (a ++ (s ++ (u ++ (41 ∷ mark o)))),
        ap (λ k. 40 ∷ k) (e ∙ ap (λ k. a ++ (s ++ (u ++ (41 ∷ k)))) (sign_sound x.1)) ∙ regroup a s u (mark o) r,
        subst (λ ps. SpellsPart (40 ∷ (a ++ (s ++ (u ++ (41 ∷ mark o))))) (Choice ps o)) (sym l) (a_choice a s u p q new o w g (rest_parts 124 (q ∷ new) u rest)),
        group-Choice x.0 o,
      )

  by_sound : (n : ℕ) (p : Particle) (a s b t : Chars) (y : Particle × Chars) → IsSpaces a → SpellsPart s p → IsSpaces b → grouped_by one n p t ≡ Some y
      → GroupFront (40 ∷ (a ++ (s ++ (b ++ t)))) y
  unfolding grouped_by
  by_sound n p a s b [] y w g v e = (let f : None ≡ Some y = e in cc)
  by_sound n p a s b (c ∷ t) y w g v e =
      let l = option_map (closed Choice) (more one n 124 (p ∷ []) (c ∷ t)) in
      let r = option_map (closed Seq) (more one n 44 (p ∷ []) (c ∷ t)) in
      elim (eqb_tells c 124) [
        | inl q ↦
            (let f : l ≡ Some y = sym (ap (λ b. if b then l else r) q.0) ∙ e in
            let m = map_some (closed Choice) (more one n 124 (p ∷ []) (c ∷ t)) y f in
            let h = more_sound one SpellsPart 124 sound n (p ∷ []) b (c ∷ t) m.0 v m.1 in
            let no : h.0 ≡ [] → ⊥ = (λ z. (let k : c ∷ t ≡ 41 ∷ m.0.1 = h.5 z in let d : c ≡ 41 = cc in omega (arith, d, q.1))) in
            subst (GroupFront (40 ∷ (a ++ (s ++ (b ++ (c ∷ t)))))) m.2
            (choice_made a s h.1 p m.0 h.0 w g h.2 h.4 no (a ++ (s ++ (b ++ (c ∷ t)))) (ap (λ k. a ++ (s ++ k)) h.3)))
        | inr q ↦
            (let f : r ≡ Some y = sym (ap (λ b. if b then l else r) q.0) ∙ e in
            let m = map_some (closed Seq) (more one n 44 (p ∷ []) (c ∷ t)) y f in
            let h = more_sound one SpellsPart 44 sound n (p ∷ []) b (c ∷ t) m.0 v m.1 in
            subst (GroupFront (40 ∷ (a ++ (s ++ (b ++ (c ∷ t)))))) m.2
            (seq_made a s h.1 p m.0 h.0 w g h.2 h.4 (a ++ (s ++ (b ++ (c ∷ t)))) (ap (λ k. a ++ (s ++ k)) h.3)))
      ]

  pub grouped_sound : (n : ℕ) (t : Chars) (y : Particle × Chars) → grouped one n t ≡ Some y → GroupFront (40 ∷ t) y
  unfolding grouped
  grouped_sound n t y e =
      let h = and_then_some (λ x. grouped_by one n x.0 (skip x.1)) (one (skip t)) y e in
      let x = h.0 in
      let a = skip_sound t in
      let s = sound (skip t) x h.1 in
      let b = skip_sound x.1 in
      let whole : a.0 ++ (s.0 ++ (b.0 ++ skip x.1)) ≡ t = sym (a.2 ∙ ap (λ k. a.0 ++ k) (s.1 ∙ ap (λ k. s.0 ++ k) b.2)) in
      subst (λ k. GroupFront (40 ∷ k) y) whole (by_sound n x.0 a.0 s.0 b.0 (skip x.1) y a.1 s.2 b.1 h.2)

pub read_sound : (n d : ℕ) (t : Chars) (y : Particle × Chars) → read n d t ≡ Some y → Front t y
unfolding read
read_sound n d [] y e = (let f : None ≡ Some y = e in cc)
read_sound n zero (c ∷ t) y e = named_sound (c ∷ t) y e
read_sound n (suc d) (c ∷ t) y e =
    let l = grouped (read n d) n t in
    let r = named (c ∷ t) in
    elim (eqb_tells c 40) [
      | inl q ↦
          (let f : l ≡ Some y = sym (ap (λ b. if b then l else r) q.0) ∙ e in
          let g = grouped_sound (read n d) (read_sound n d) n t y f in
          subst (λ k. Front (k ∷ t) y) (sym q.1) (g.0, g.1, g.2))
      | inr q ↦ named_sound (c ∷ t) y (sym (ap (λ b. if b then l else r) q.0) ∙ e)
    ]
