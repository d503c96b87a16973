-- The steps that a set tells are the steps in order.
use Rattle.std.proofs.Common.{◌≡◌, ◌<◌, ◌==◌, ◌+◌, ℕ, List, [], ◌∷◌, map, Bool, true, false, cond, Option, Some, None, inl, inr, refl, sym, ap, ◌∙◌, subst, arith, slice_get, nat_eq}
use Rattle.std.specs.Cmp.{nat_eq_equiv}
use Rattle.std.specs.Prelude.{nat_lt, option_map}
use Rattle.std.specs.List.{list_any, range_with_len}
use Rattle.std.specs.List.Sorted.{IsStrictlyIncreasing}
use Rattle.std.proofs.lemmas.Bool.{eq-eqb, eqb-true, ltb-true, ltb-false, ne_eqb}
use Rattle.std.proofs.lemmas.List.Kept.{IsStrictlyIncreasing-filter}
use Rattle.std.proofs.lemmas.Map.Views.{list_any-from_Contains, Contains-from_any}
use Rattle.std.proofs.lemmas.Option.{slice_get-map}
use Rattle.content_models.specs.declared.content.Content.{Content}
use Rattle.content_models.specs.declared.content.Content.TheVariants.{Empty, Any, Mixed, Children}
use Rattle.content_models.specs.declared.content.Particle.{Particle}
use Rattle.content_models.specs.Model.{Chars, model}
use Rattle.content_models.specs.Re.{Re}
use Rattle.position_automata.specs.Automata.{TellsStep}
use Rattle.position_automata.specs.Judged.{name_at, positions_after}
use Rattle.position_automata.specs.Marked.{count, Follows}
use Rattle.position_automata.specs.Places.{letters, pairs}
use Rattle.position_automata.specs.Rows.{targets}
use Rattle.position_automata.proofs.Words.{Member}
use Rattle.position_automata.proofs.Meaning.{row_to, row_from, follows_at, follows_within, length-letters, member_of, contains_of}
use Rattle.position_automata.proofs.Rising.{filter_to, filter_from, in_range, rises_of, same_list, range_rises}
use Rattle.position_automata.proofs.Unique.{name_of}
use Rattle.decl_set.specs.Declarations.{Declarations, Element}
use Rattle.decl_set.specs.Steps.{TellsStepAt, TellsStepIn, TellsWithin, steps_in, steps_at}

mapped : {A B : Type 0} (f : A → B) (xs : List A) (x : A) → Member x xs → Member (f x) (map f xs)
mapped f [] x m = elim m [ ]
mapped f (y ∷ xs) x (inl e) = inl (ap f e)
mapped f (y ∷ xs) x (inr m) = inr (mapped f xs x m)

unmapped : {A B : Type 0} (f : A → B) (xs : List A) (y : B) → Member y (map f xs) → (x : A) × Member x xs × (y ≡ f x)
unmapped f [] y m = elim m [ ]
unmapped f (x ∷ xs) y (inl e) = (x, inl refl, e)
unmapped f (x ∷ xs) y (inr m) = let t = unmapped f xs y m in (t.0, inr t.1, t.2)

-- ---- models

module _ (r : Re Chars) where
  after_to : (i j : ℕ) → Member j (positions_after r i) → Follows r i (name_at (letters r) j) j
  after_to i j m =
      let t = filter_to (λ j. list_any (nat_eq j) (targets i (pairs r))) (range_with_len 1 (count r)) j m in
      let f = row_to r i j (Contains-from_any eqb-true j (targets i (pairs r)) t.1) in
      subst (λ (a : Chars). Follows r i a j) (sym (name_of r i j f.0 f.1)) f.1

  after_from : (i j : ℕ) (a : Chars) → Follows r i a j → Member j (positions_after r i)
  after_from i j a f =
      let s = follows_at r i j a f in
      filter_from (λ j. list_any (nat_eq j) (targets i (pairs r))) (range_with_len 1 (count r)) j
      (in_range 1 (count r) j (omega (arith, s.1)) (omega (arith, s.1, s.2, length-letters r)))
      (list_any-from_Contains nat_eq_equiv j (targets i (pairs r)) (row_from r i j a f))

  abbrev row : ℕ → List (Chars × ℕ)
  row i = map {B = Chars × ℕ} (λ j. (name_at (letters r) j, j)) (positions_after r i)

  -- a step is in the row of its state exactly where it follows
  row_follows : (i : ℕ) (s : Chars × ℕ) → Member s (row i) → Follows r i s.0 s.1
  row_follows i s m =
      let t = unmapped {B = Chars × ℕ} (λ j. (name_at (letters r) j, j)) (positions_after r i) s m in
      subst (λ (x : Chars × ℕ). Follows r i x.0 x.1) (sym t.2) (after_to i t.0 t.1)

  follows_row : (i : ℕ) (s : Chars × ℕ) → Follows r i s.0 s.1 → Member s (row i)
  follows_row i s f =
      subst (λ (x : Chars). Member (x, s.1) (row i)) (name_of r i s.1 s.0 f)
      (mapped {B = Chars × ℕ} (λ j. (name_at (letters r) j, j)) (positions_after r i) s.1 (after_from i s.1 s.0 f))

  -- no state, no steps
  row_none : (i : ℕ) → (i < 1 + count r → ⊥) → row i ≡ []
  row_none i past = by (row i) (λ s m. past (follows_within r i s.1 s.0 (row_follows i s m)))
    where
      by : (steps : List (Chars × ℕ)) → ((s : Chars × ℕ) → Member s steps → ⊥) → steps ≡ []
      by [] none = refl
      by (s ∷ steps) none = absurd (none s (inl refl))

positions_in : (names : List Chars) (js : List ℕ) → map (λ s. s.1) (map {B = Chars × ℕ} (λ j. (name_at names j, j)) js) ≡ js
positions_in names [] = refl
positions_in names (j ∷ js) = ap (λ k. j ∷ k) (positions_in names js)

row_rises : (r : Re Chars) (i : ℕ) → IsStrictlyIncreasing (map (λ s. s.1) (row r i))
row_rises r i =
    subst IsStrictlyIncreasing (sym (positions_in (letters r) (positions_after r i)))
    (IsStrictlyIncreasing-filter (λ j. list_any (nat_eq j) (targets i (pairs r))) (range_with_len 1 (count r)) (range_rises 1 (count r)))

-- ---- what is told

told_model : (set : Declarations) (part : Particle) (i k : ℕ) (o : Option (Chars × ℕ)) → TellsStep (Children part) i k o → o ≡ slice_get (steps_in set (Children part) i) k
told_model set part i k o h =
    let r = model part in
    let same : h.0 ≡ row r i = same_list 0 h.0 (row r i) (rises_of (map (λ s. s.1) h.0) h.1.0) (rises_of (map (λ s. s.1) (row r i)) (row_rises r i))
    (λ x m. follows_row r i x ((h.1.1 x.0 x.1).0 (contains_of h.0 x m)))
    (λ x m. (let c = (h.1.1 x.0 x.1).1 (row_follows r i x m) in member_of h.0 x c.0 c.1 c.2)) in
    h.2 ∙ ap (λ s. slice_get s k) same

any_told : (elements : List Element) (k : ℕ) (b : Bool) → cond b (option_map {U = Chars × ℕ} (λ e. (e.0, 0)) (slice_get elements k)) None ≡ slice_get (cond b (map {B = Chars × ℕ} (λ e. (e.0, 0)) elements) []) k
any_told elements k true = sym (slice_get-map {B = Chars × ℕ} (λ (e : Element). (e.0, 0)) elements k)
any_told elements k false = refl

empty_told : (i k : ℕ) (o : Option (Chars × ℕ)) (b : Bool) → TellsWithin b Empty i k o → o ≡ None
empty_told i k o true h = h.2 ∙ ap (λ (s : List (Chars × ℕ)). slice_get s k) h.1
empty_told i k o false h = h

mixed_told : (listed : List Chars) (i k : ℕ) (o : Option (Chars × ℕ)) (b : Bool) → nat_lt i 1 ≡ b → TellsWithin b (Mixed listed) i k o → o ≡ slice_get (cond (i == 0) (map {B = Chars × ℕ} (λ name. (name, 0)) listed) []) k
mixed_told listed i k o true q h =
    let zero : (i == 0) ≡ true = eq-eqb i 0 (let l = ltb-true i 1 q in omega (arith, l)) in
    h.2 ∙ ap (λ (s : List (Chars × ℕ)). slice_get s k) h.1 ∙ ap (λ b. slice_get (cond b (map {B = Chars × ℕ} (λ name. (name, 0)) listed) []) k) (sym zero)
mixed_told listed i k o false q h =
    let some : (i == 0) ≡ false = ne_eqb i 0 (λ e. (let l = ltb-false i 1 q in absurd (omega (arith, l, e)))) in
    h ∙ ap (λ b. slice_get (cond b (map {B = Chars × ℕ} (λ name. (name, 0)) listed) []) k) (sym some)

children_told : (set : Declarations) (part : Particle) (i k : ℕ) (o : Option (Chars × ℕ)) (b : Bool) → nat_lt i (1 + count (model part)) ≡ b → TellsWithin b (Children part) i k o → o ≡ slice_get (steps_in set (Children part) i) k
children_told set part i k o true q h = told_model set part i k o h
children_told set part i k o false q h =
    h ∙ ap (λ (s : List (Chars × ℕ)). slice_get s k) (sym (row_none (model part) i (λ l. (let m = ltb-false i (1 + count (model part)) q in absurd (omega (arith, l, m))))))

told_in : (set : Declarations) (a : Content) (i k : ℕ) (o : Option (Chars × ℕ)) → TellsStepIn set a i k o → o ≡ slice_get (steps_in set a i) k
told_in set Empty i k o t = empty_told i k o (nat_lt i 1) t
told_in set Any i k o t = t ∙ any_told set.elements k (i == 0)
told_in set (Mixed listed) i k o t = mixed_told listed i k o (nat_lt i 1) refl t
told_in set (Children part) i k o t = children_told set part i k o (nat_lt i (1 + count (model part))) refl t

pub told : (set : Declarations) (e : Option Element) (i k : ℕ) (o : Option (Chars × ℕ)) → TellsStepAt set e i k o → o ≡ slice_get (steps_at set e i) k
told set None i k o t = t
told set (Some e) i k o t = told_in set e.1 i k o t
