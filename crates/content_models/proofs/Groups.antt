-- The equations of reading parts and groups, at a place in a text.
use Rattle.std.proofs.Common.{◌≡◌, List, [], ◌∷◌, ◌++◌, ℕ, zero, suc, ◌+◌, ◌-◌, ◌<◌, ◌≤◌, length, drop, get_or, refl, sym, ap, ◌∙◌, arith, Option, Some, None}
use Rattle.std.specs.Prelude.{option_and_then, option_map, if◌then◌else◌, ◌==◌}
use Rattle.content_models.specs.Model.{Chars}
use Rattle.content_models.specs.declared.content.Particle.{Particle}
use Rattle.content_models.specs.declared.content.Particle.TheVariants.{Seq, Choice}
use Rattle.content_models.specs.Reading.{Read, skip, named, closed, more, grouped_by, grouped, read, mixed_of, children_of, group_of}
use Rattle.std.proofs.Common.{take, drop-drop, true}
use Rattle.std.proofs.lemmas.List.{take_rest}
use Rattle.std.specs.List.{starts_with}
use Rattle.std.specs.Prelude.{Result, Ok, Err, codes, nat_eq}
use Rattle.jats_chars.specs.declared.NoMemory.{NoMemory}
use Rattle.content_models.specs.declared.reading.Found.{Found}
use Rattle.content_models.specs.Given.{Gives}
use Rattle.content_models.proofs.Places.{cons_at, nil_at, eq-true, eq-false}

pub read_end : (n d : ℕ) (t : Chars) (i : ℕ) → length t ≤ i → read n d (drop i t) ≡ None
unfolding read
read_end n d t i h = ap (read n d) (nil_at t i h)

read-open : (n d c : ℕ) (t : Chars) → 0 < d → c ≡ 40 → read n d (c ∷ t) ≡ grouped (read n (d - 1)) n t
unfolding read
read-open n zero c t h e = absurd (omega arith)
read-open n (suc d) c t h e =
    ap (λ b. if b then grouped (read n d) n t else named (c ∷ t)) (eq-true c 40 e)
    ∙ ap (λ k. grouped (read n k) n t) (let q : d ≡ suc d - 1 = omega arith in q)

pub read_open : (n d : ℕ) (t : Chars) (i : ℕ) → i < length t → 0 < d → get_or t i 0 ≡ 40
    → read n d (drop i t) ≡ grouped (read n (d - 1)) n (drop (i + 1) t)
read_open n d t i h g e = ap (read n d) (cons_at t i h) ∙ read-open n d (get_or t i 0) (drop (i + 1) t) g e

read-other : (n d c : ℕ) (t : Chars) → (0 < d → c ≡ 40 → ⊥) → read n d (c ∷ t) ≡ named (c ∷ t)
unfolding read
read-other n zero c t h = refl
read-other n (suc d) c t h = ap (λ b. if b then grouped (read n d) n t else named (c ∷ t)) (eq-false c 40 (h (omega arith)))

pub read_other : (n d : ℕ) (t : Chars) (i : ℕ) → i < length t → (0 < d → get_or t i 0 ≡ 40 → ⊥) → read n d (drop i t) ≡ named (drop i t)
read_other n d t i h g = ap (read n d) (cons_at t i h) ∙ read-other n d (get_or t i 0) (drop (i + 1) t) g ∙ ap named (sym (cons_at t i h))

-- items
module _ {X : Type 0} (one : Chars → Read X) where
  more-end : (n sep : ℕ) (ps : List X) → more one n sep ps [] ≡ None
  unfolding more
  more-end zero sep ps = refl
  more-end (suc n) sep ps = refl

  pub more_end : (n sep : ℕ) (ps : List X) (t : Chars) (i : ℕ) → length t ≤ i → more one n sep ps (drop i t) ≡ None
  more_end n sep ps t i h = ap (more one n sep ps) (nil_at t i h) ∙ more-end n sep ps

  pub more-close : (n sep c : ℕ) (ps : List X) (t : Chars) → c ≡ 41 → more one n sep ps (c ∷ t) ≡ Some (ps, t)
  unfolding more
  more-close zero sep c ps t e = ap (λ b. if b then Some (ps, t) else None) (eq-true c 41 e)
  more-close (suc n) sep c ps t e =
      ap (λ b. if b then Some (ps, t) else (if c == sep then option_and_then (λ x. more one n sep (ps ++ x.0 ∷ []) (skip x.1)) (one (skip t)) else None)) (eq-true c 41 e)

  pub more_close : (n sep : ℕ) (ps : List X) (t : Chars) (i : ℕ) → i < length t → get_or t i 0 ≡ 41 → more one n sep ps (drop i t) ≡ Some (ps, drop (i + 1) t)
  more_close n sep ps t i h e = ap (more one n sep ps) (cons_at t i h) ∙ more-close n sep (get_or t i 0) ps (drop (i + 1) t) e

  pub more-stop : (n sep c : ℕ) (ps : List X) (t : Chars) → (c ≡ 41 → ⊥) → (c ≡ sep → ⊥) → more one n sep ps (c ∷ t) ≡ None
  unfolding more
  more-stop zero sep c ps t e h = ap (λ b. if b then Some (ps, t) else None) (eq-false c 41 e)
  more-stop (suc n) sep c ps t e h =
      ap (λ b. if b then Some (ps, t) else (if c == sep then option_and_then (λ x. more one n sep (ps ++ x.0 ∷ []) (skip x.1)) (one (skip t)) else None)) (eq-false c 41 e)
      ∙ ap (λ b. if b then option_and_then (λ x. more one n sep (ps ++ x.0 ∷ []) (skip x.1)) (one (skip t)) else None) (eq-false c sep h)

  pub more_stop : (n sep : ℕ) (ps : List X) (t : Chars) (i : ℕ) → i < length t → (get_or t i 0 ≡ 41 → ⊥) → (get_or t i 0 ≡ sep → ⊥) → more one n sep ps (drop i t) ≡ None
  more_stop n sep ps t i h e g = ap (more one n sep ps) (cons_at t i h) ∙ more-stop n sep (get_or t i 0) ps (drop (i + 1) t) e g

  pub more-next : (n sep c : ℕ) (ps : List X) (t : Chars) → 0 < n → (c ≡ 41 → ⊥) → c ≡ sep
      → more one n sep ps (c ∷ t) ≡ option_and_then (λ x. more one (n - 1) sep (ps ++ x.0 ∷ []) (skip x.1)) (one (skip t))
  unfolding more
  more-next zero sep c ps t z e h = absurd (omega arith)
  more-next (suc n) sep c ps t z e h =
      ap (λ b. if b then Some (ps, t) else (if c == sep then option_and_then (λ x. more one n sep (ps ++ x.0 ∷ []) (skip x.1)) (one (skip t)) else None)) (eq-false c 41 e)
      ∙ ap (λ b. if b then option_and_then (λ x. more one n sep (ps ++ x.0 ∷ []) (skip x.1)) (one (skip t)) else None) (eq-true c sep h)
      ∙ ap (λ k. option_and_then (λ x. more one k sep (ps ++ x.0 ∷ []) (skip x.1)) (one (skip t))) (let q : n ≡ suc n - 1 = omega arith in q)

  pub more_none : (n sep : ℕ) (ps : List X) (t : Chars) (i : ℕ) → i < length t → 0 < n → (get_or t i 0 ≡ 41 → ⊥) → get_or t i 0 ≡ sep
      → one (skip (drop (i + 1) t)) ≡ None → more one n sep ps (drop i t) ≡ None
  more_none n sep ps t i h z e g q = ap (more one n sep ps) (cons_at t i h) ∙ more-next n sep (get_or t i 0) ps (drop (i + 1) t) z e g
      ∙ ap (option_and_then (λ x. more one (n - 1) sep (ps ++ x.0 ∷ []) (skip x.1))) q

  pub more_some : (n sep : ℕ) (ps : List X) (t : Chars) (i : ℕ) (x : X × Chars) → i < length t → 0 < n → (get_or t i 0 ≡ 41 → ⊥) → get_or t i 0 ≡ sep
      → one (skip (drop (i + 1) t)) ≡ Some x → more one n sep ps (drop i t) ≡ more one (n - 1) sep (ps ++ x.0 ∷ []) (skip x.1)
  more_some n sep ps t i x h z e g q = ap (more one n sep ps) (cons_at t i h) ∙ more-next n sep (get_or t i 0) ps (drop (i + 1) t) z e g
      ∙ ap (option_and_then (λ x. more one (n - 1) sep (ps ++ x.0 ∷ []) (skip x.1))) q

module _ (one : Chars → Read Particle) where
  pub grouped_none : (n : ℕ) (t : Chars) → one (skip t) ≡ None → grouped one n t ≡ None
  unfolding grouped
  grouped_none n t e = ap (option_and_then (λ x. grouped_by one n x.0 (skip x.1))) e

  pub grouped_some : (n : ℕ) (t : Chars) (x : Particle × Chars) → one (skip t) ≡ Some x → grouped one n t ≡ grouped_by one n x.0 (skip x.1)
  unfolding grouped
  grouped_some n t x e = ap (option_and_then (λ x. grouped_by one n x.0 (skip x.1))) e

  pub by_end : (n : ℕ) (p : Particle) (t : Chars) (i : ℕ) → length t ≤ i → grouped_by one n p (drop i t) ≡ None
  unfolding grouped_by
  by_end n p t i h = ap (grouped_by one n p) (nil_at t i h)

  by-choice : (n c : ℕ) (p : Particle) (t : Chars) → c ≡ 124 → grouped_by one n p (c ∷ t) ≡ option_map (closed Choice) (more one n 124 (p ∷ []) (c ∷ t))
  unfolding grouped_by
  by-choice n c p t e = ap (λ b. if b then option_map (closed Choice) (more one n 124 (p ∷ []) (c ∷ t)) else option_map (closed Seq) (more one n 44 (p ∷ []) (c ∷ t))) (eq-true c 124 e)

  by-seq : (n c : ℕ) (p : Particle) (t : Chars) → (c ≡ 124 → ⊥) → grouped_by one n p (c ∷ t) ≡ option_map (closed Seq) (more one n 44 (p ∷ []) (c ∷ t))
  unfolding grouped_by
  by-seq n c p t e = ap (λ b. if b then option_map (closed Choice) (more one n 124 (p ∷ []) (c ∷ t)) else option_map (closed Seq) (more one n 44 (p ∷ []) (c ∷ t))) (eq-false c 124 e)

  -- the list holds the first part alone
  counted : (n sep : ℕ) (p : Particle) (list : List Particle) (t : Chars) → list ≡ p ∷ [] → more one n sep (p ∷ []) t ≡ more one (n + 1 - length list) sep list t
  counted n sep p list t e =
      let k : length list ≡ 1 = ap length e in
      ap (λ m. more one m sep (p ∷ []) t) (let q : n ≡ n + 1 - length list = omega arith in q) ∙ ap (λ l. more one (n + 1 - length list) sep l t) (sym e)

  pub by_choice : (n : ℕ) (p : Particle) (list : List Particle) (t : Chars) (i : ℕ) → i < length t → get_or t i 0 ≡ 124 → list ≡ p ∷ []
      → grouped_by one n p (drop i t) ≡ option_map (closed Choice) (more one (n + 1 - length list) 124 list (drop i t))
  by_choice n p list t i h e l = ap (grouped_by one n p) (cons_at t i h) ∙ by-choice n (get_or t i 0) p (drop (i + 1) t) e
      ∙ ap (λ k. option_map (closed Choice) (more one n 124 (p ∷ []) k)) (sym (cons_at t i h))
      ∙ ap (option_map (closed Choice)) (counted n 124 p list (drop i t) l)

  pub by_seq : (n : ℕ) (p : Particle) (list : List Particle) (t : Chars) (i : ℕ) → i < length t → (get_or t i 0 ≡ 124 → ⊥) → list ≡ p ∷ []
      → grouped_by one n p (drop i t) ≡ option_map (closed Seq) (more one (n + 1 - length list) 44 list (drop i t))
  by_seq n p list t i h e l = ap (grouped_by one n p) (cons_at t i h) ∙ by-seq n (get_or t i 0) p (drop (i + 1) t) e
      ∙ ap (λ k. option_map (closed Seq) (more one n 44 (p ∷ []) k)) (sym (cons_at t i h))
      ∙ ap (option_map (closed Seq)) (counted n 44 p list (drop i t) l)

pub ruleset reads = (read_end, read_open, read_other, grouped_none, grouped_some, by_end, by_choice, by_seq, more_end, more_close, more_stop, more_none, more_some)

-- what ends behind a place ends behind an earlier one
pub gives_from : (t : Chars) (a b : ℕ) (e : Read Particle) (r : Result (Option Found) NoMemory) → a ≤ b → Gives t b e r → Gives t a e r
gives_from t a b e (Ok None) h g = g
gives_from t a b e (Ok (Some f)) h g = (g.0, (omega (arith, g.1.0), g.1.1))
gives_from t a b e (Err x) h g = g

-- `#PCDATA` after `(`
pub opened_mixed : (n : ℕ) (text : Chars) (start : ℕ) → drop start text ≡ skip (drop 1 text) → starts_with nat_eq (take (length text - start) (drop start text)) (codes "#PCDATA") ≡ true
    → mixed_of n (drop (start + 7) text) ≡ group_of n (drop 1 text)
unfolding group_of
opened_mixed n text start e h =
    let t : take (length text - start) (drop start text) ≡ skip (drop 1 text) = take_rest text start ∙ e in
    let k : starts_with nat_eq (skip (drop 1 text)) (codes "#PCDATA") ≡ true = sym (ap (λ u. starts_with nat_eq u (codes "#PCDATA")) t) ∙ h in
    ap (mixed_of n) (sym (drop-drop 7 start text) ∙ ap (drop 7) e)
    ∙ sym (ap (λ b. if b then mixed_of n (drop 7 (skip (drop 1 text))) else children_of n (drop 1 text)) k)
