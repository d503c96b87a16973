-- Open parentheses in what is spelled: as many as groups stand inside one another.
use Rattle.std.proofs.Common.{◌≡◌, List, [], ◌∷◌, ◌++◌, ℕ, ◌+◌, ◌-◌, max, map, refl, sym, ap, ◌∙◌, arith, true}
use Rattle.std.specs.List.{list_all}
use Rattle.std.proofs.lemmas.List.{append_assoc}
use Rattle.jats_chars.specs.Classes.{is_space, is_name_char}
use Rattle.content_models.specs.declared.content.Occurs.{Occurs}
use Rattle.content_models.specs.declared.content.Occurs.TheVariants.{Once, Opt, Star}
use Rattle.content_models.specs.declared.content.Occurs.TheVariants as sign
use Rattle.content_models.specs.declared.content.Particle.{Particle}
use Rattle.content_models.specs.declared.content.Particle.TheVariants.{One}
use Rattle.content_models.specs.Model.{Chars}
use Rattle.content_models.specs.Proper.{depth, greatest}
use Rattle.content_models.specs.Grammar.{IsSpaces, mark, SpellsPart, SpellsRest, a_name, a_sequence, a_choice, no_more, one_more, SpellsNames}
use Rattle.content_models.specs.Parses.{most_open}
use Rattle.content_models.proofs.Counts.{depth-One, depth-Seq, depth-Choice}
use Rattle.content_models.proofs.Depths.{most-cons, most-least, after-open, after-close, after-other}
use Rattle.content_models.proofs.Letters.{and-left, and-right, name_chars, char_open, char_close, space_open, space_close}

-- a character that is no parenthesis
pub other : (k c : ℕ) (r : Chars) → (c ≡ 40 → ⊥) → (c ≡ 41 → ⊥) → most_open k (c ∷ r) ≡ most_open k r
other k c r n m =
    most-cons k c r ∙ ap (λ j. max k (most_open j r)) (after-other k c n (λ e z. m e))
    ∙ (let l = most-least k r in let q : max k (most_open k r) ≡ most_open k r = omega arith in q)

pub opens : (k : ℕ) (r : Chars) → most_open k (40 ∷ r) ≡ most_open (k + 1) r
opens k r =
    most-cons k 40 r ∙ ap (λ j. max k (most_open j r)) (after-open k 40 refl)
    ∙ (let l = most-least (k + 1) r in let q : max k (most_open (k + 1) r) ≡ most_open (k + 1) r = omega arith in q)

pub shuts : (k : ℕ) (r : Chars) → most_open (k + 1) (41 ∷ r) ≡ max (k + 1) (most_open k r)
shuts k r =
    most-cons (k + 1) 41 r ∙ ap (λ j. max (k + 1) (most_open j r)) (after-close (k + 1) 41 (λ e. omega arith) refl ∙ (let q : k + 1 - 1 ≡ k = omega arith in q))

pub spaces : (a : Chars) (k : ℕ) (r : Chars) → IsSpaces a → most_open k (a ++ r) ≡ most_open k r
spaces [] k r h = refl
spaces (c ∷ a) k r h =
    let s = and-left (is_space c) (list_all is_space a) h in
    other k c (a ++ r) (space_open c s) (space_close c s) ∙ spaces a k r (and-right (is_space c) (list_all is_space a) h)

chars : (w : Chars) (k : ℕ) (r : Chars) → list_all is_name_char w ≡ true → most_open k (w ++ r) ≡ most_open k r
chars [] k r h = refl
chars (c ∷ w) k r h =
    let s = and-left (is_name_char c) (list_all is_name_char w) h in
    other k c (w ++ r) (char_open c s) (char_close c s) ∙ chars w k r (and-right (is_name_char c) (list_all is_name_char w) h)

pub marks : (o : Occurs) (k : ℕ) (r : Chars) → most_open k (mark o ++ r) ≡ most_open k r
marks Once k r = refl
marks Opt k r = other k 63 r (λ e. omega arith) (λ e. omega arith)
marks Star k r = other k 42 r (λ e. omega arith) (λ e. omega arith)
marks sign.Plus k r = other k 43 r (λ e. omega arith) (λ e. omega arith)

pub names : (ns : List Chars) (u : Chars) (k : ℕ) (r : Chars) → SpellsNames u ns → most_open k (u ++ r) ≡ most_open k r
names [] u k r h = spaces u k r h
names (n ∷ ns) u k r h =
    ap (λ t. most_open k (t ++ r)) h.3
    ∙ ap (most_open k) (let q : (h.0 ++ (124 ∷ (h.1 ++ (n ++ h.2)))) ++ r ≡ h.0 ++ (124 ∷ (h.1 ++ (n ++ (h.2 ++ r)))) = simp append_assoc in q)
    ∙ spaces h.0 k (124 ∷ (h.1 ++ (n ++ (h.2 ++ r)))) h.4
    ∙ other k 124 (h.1 ++ (n ++ (h.2 ++ r))) (λ e. omega arith) (λ e. omega arith)
    ∙ spaces h.1 k (n ++ (h.2 ++ r)) h.5
    ∙ chars n k (h.2 ++ r) (name_chars n h.6)
    ∙ names ns h.2 k r h.7

-- a group, from what its parts open
around : (a s u : Chars) (o : Occurs) (k x y : ℕ) (r : Chars) → IsSpaces a
    → ((j : ℕ) (t : Chars) → most_open j (s ++ t) ≡ max (j + x) (most_open j t)) → ((j : ℕ) (t : Chars) → most_open j (u ++ t) ≡ max (j + y) (most_open j t))
    → most_open k ((40 ∷ (a ++ (s ++ (u ++ (41 ∷ mark o))))) ++ r) ≡ max (k + (1 + max x y)) (most_open k r)
around a s u o k x y r w f g =
    let e : (40 ∷ (a ++ (s ++ (u ++ (41 ∷ mark o))))) ++ r ≡ 40 ∷ (a ++ (s ++ (u ++ (41 ∷ (mark o ++ r))))) = simp append_assoc in
    ap (most_open k) e
    ∙ opens k (a ++ (s ++ (u ++ (41 ∷ (mark o ++ r)))))
    ∙ spaces a (k + 1) (s ++ (u ++ (41 ∷ (mark o ++ r)))) w
    ∙ f (k + 1) (u ++ (41 ∷ (mark o ++ r)))
    ∙ ap (max (k + 1 + x)) (g (k + 1) (41 ∷ (mark o ++ r)))
    ∙ ap (λ m. max (k + 1 + x) (max (k + 1 + y) m)) (shuts k (mark o ++ r) ∙ ap (max (k + 1)) (marks o k r))
    ∙ (let q : max (k + 1 + x) (max (k + 1 + y) (max (k + 1) (most_open k r))) ≡ max (k + (1 + max x y)) (most_open k r) = omega arith in q)

mutual
  pub part_peak : (s : Chars) (p : Particle) → SpellsPart s p → (k : ℕ) (r : Chars) → most_open k (s ++ r) ≡ max (k + depth p) (most_open k r)
  part_peak s p (a_name w o h) k r =
      ap (most_open k) (append_assoc w (mark o) r) ∙ chars w k (mark o ++ r) (name_chars w h) ∙ marks o k r
      ∙ (let l = most-least k r in let q : most_open k r ≡ max (k + depth (One w o)) (most_open k r) = omega (arith, depth-One w o) in q)
  part_peak s p (a_sequence a f u q qs o w g t) k r =
      around a f u o k (depth q) (greatest (map depth qs)) r w (part_peak f q g) (rest_peak 44 u qs t (λ e. omega arith) (λ e. omega arith))
      ∙ ap (λ d. max (k + d) (most_open k r)) (sym (depth-Seq (q ∷ qs) o))
  part_peak s p (a_choice a f u q v qs o w g t) k r =
      around a f u o k (depth q) (greatest (map depth (v ∷ qs))) r w (part_peak f q g) (rest_peak 124 u (v ∷ qs) t (λ e. omega arith) (λ e. omega arith))
      ∙ ap (λ d. max (k + d) (most_open k r)) (sym (depth-Choice (q ∷ v ∷ qs) o))

  pub rest_peak : (sep : ℕ) (u : Chars) (ps : List Particle) → SpellsRest sep u ps → (sep ≡ 40 → ⊥) → (sep ≡ 41 → ⊥) → (k : ℕ) (r : Chars)
      → most_open k (u ++ r) ≡ max (k + greatest (map depth ps)) (most_open k r)
  rest_peak sep u ps (no_more sep' a w) n m k r =
      spaces a k r w ∙ (let l = most-least k r in let q : most_open k r ≡ max (k + 0) (most_open k r) = omega arith in q)
  rest_peak sep u ps (one_more sep' a b f v q qs w x g t) n m k r =
      let e : (a ++ (sep' ∷ (b ++ (f ++ v)))) ++ r ≡ a ++ (sep' ∷ (b ++ (f ++ (v ++ r)))) = simp append_assoc in
      ap (most_open k) e
      ∙ spaces a k (sep' ∷ (b ++ (f ++ (v ++ r)))) w
      ∙ other k sep' (b ++ (f ++ (v ++ r))) n m
      ∙ spaces b k (f ++ (v ++ r)) x
      ∙ part_peak f q g k (v ++ r)
      ∙ ap (max (k + depth q)) (rest_peak sep' v qs t n m k r)
      ∙ (let z : max (k + depth q) (max (k + greatest (map depth qs)) (most_open k r)) ≡ max (k + max (depth q) (greatest (map depth qs))) (most_open k r) = omega arith in z)
