-- The steps that are told of a state.
use Rattle.std.proofs.Common.{◌≡◌, ◌<◌, ◌+◌, ◌-◌, ◌==◌, ℕ, List, [], ◌∷◌, get_or, map, cond, Bool, false, Option, Some, None, refl, sym, ap, ◌∙◌, subst, arith, Contains, slice_get}
use Rattle.std.specs.Option.{option_map}
use Rattle.std.specs.List.Sorted.{IsStrictlyIncreasing}
use Rattle.std.proofs.lemmas.Bool.{ne_eqb}
use Rattle.std.proofs.lemmas.List.{get_or_default}
use Rattle.std.proofs.lemmas.Option.{slice_get-map, slice_get-get_or, get_or_from_slice_get, slice_get_within}
use Rattle.content_models.specs.declared.content.Content.{Content}
use Rattle.content_models.specs.declared.content.Content.TheVariants.{Children}
use Rattle.content_models.specs.declared.content.Particle.{Particle}
use Rattle.content_models.specs.Model.{Chars, model}
use Rattle.content_models.specs.Re.{Re}
use Rattle.position_automata.specs.Automata.{states, IsSteps, TellsStep}
use Rattle.position_automata.specs.Marked.{count, Follows}
use Rattle.position_automata.specs.Places.{letters, pairs}
use Rattle.position_automata.specs.Rows.{targets, numbers_of, number_at, IsRow, at_position}
use Rattle.position_automata.specs.Tables.{IsTable}
use Rattle.position_automata.proofs.Meaning.{row_to, row_from, StandsAt, follows_at, member_of, contains_of}
use Rattle.position_automata.proofs.Words.{Member, mapped, unmapped}

-- the step of an entry
abbrev pub step_of : List Chars → ℕ × ℕ → Chars × ℕ
step_of names s = (get_or names (s.1 - 1) [], s.1)

same_positions : (names : List Chars) (row : List (ℕ × ℕ)) → map (λ s. s.1) (map (step_of names) row) ≡ map (λ s. s.1) row
same_positions names [] = refl
same_positions names (s ∷ row) = ap (λ k. s.1 ∷ k) (same_positions names row)

-- the name at a position that follows
name_is : (names : List Chars) (j : ℕ) (a : Chars) → StandsAt 1 names j a → get_or names (j - 1) [] ≡ a
name_is names j a s =
    let e : j - 1 ≡ s.0 = omega (arith, s.1) in
    ap (λ m. get_or names m []) e ∙ get_or_default names s.0 [] a s.2 ∙ s.3

module _ (r : Re Chars) (numbers : List ℕ) (i : ℕ) (row : List (ℕ × ℕ)) (R : IsRow numbers (targets i (pairs r)) row) where
  entry : (x : ℕ × ℕ) → Member x row → (a : Chars) × Follows r i a x.1
  entry x m = row_to r i x.1 ((R.numbered x.0 x.1).0 (contains_of row x m)).0

  steps_rise : IsStrictlyIncreasing (map (λ s. s.1) (map (step_of (letters r)) row))
  steps_rise = subst IsStrictlyIncreasing (sym (same_positions (letters r) row)) R.rising

  steps_to : (name : Chars) (j : ℕ) → Contains (map (step_of (letters r)) row) (name, j) → Follows r i name j
  steps_to name j c =
      let t = unmapped (step_of (letters r)) row (name, j) (member_of (map (step_of (letters r)) row) (name, j) c.0 c.1 c.2) in
      let a = entry t.0 t.1 in
      let e : j ≡ t.0.1 = ap (λ x. x.1) t.2 in
      let n : name ≡ a.0 = ap (λ x. x.0) t.2 ∙ name_is (letters r) t.0.1 a.0 (follows_at r i t.0.1 a.0 a.1) in
      subst (λ (x : Chars). Follows r i x j) (sym n) (subst (λ (x : ℕ). Follows r i a.0 x) (sym e) a.1)

  steps_from : (name : Chars) (j : ℕ) → Follows r i name j → Contains (map (step_of (letters r)) row) (name, j)
  steps_from name j f =
      let c = (R.numbered (number_at numbers j) j).1 (row_from r i j name f, refl) in
      let m = mapped (step_of (letters r)) row (number_at numbers j, j) (member_of row (number_at numbers j, j) c.0 c.1 c.2) in
      contains_of (map (step_of (letters r)) row) (name, j)
      (subst (λ (x : Chars). Member (x, j) (map (step_of (letters r)) row)) (name_is (letters r) j name (follows_at r i j name f)) m)

  told : (o : Option (ℕ × ℕ)) → ((x : ℕ × ℕ) → o ≡ Some x → Member x row) → at_position (letters r) (option_map (λ s. s.1) o) ≡ option_map (step_of (letters r)) o
  told None h = refl
  told (Some x) h =
      let a = entry x (h x refl) in
      let s = follows_at r i x.1 a.0 a.1 in
      let z : (x.1 == 0) ≡ false = ne_eqb x.1 0 (λ e. absurd (omega (arith, s.1))) in
      let g : slice_get (letters r) (x.1 - 1) ≡ Some (get_or (letters r) (x.1 - 1) []) = slice_get-get_or (letters r) (x.1 - 1) [] (omega (arith, s.1, s.2)) in
      ap (λ b. cond b None (option_map {U = Chars × ℕ} (λ name. (name, x.1)) (slice_get (letters r) (x.1 - 1)))) z
      ∙ ap (option_map {U = Chars × ℕ} (λ name. (name, x.1))) g

got : (row : List (ℕ × ℕ)) (k : ℕ) (x : ℕ × ℕ) → slice_get row k ≡ Some x → Member x row
got row k x e = member_of row x k (slice_get_within row k x e) (get_or_from_slice_get row k x x e)

pub row_steps : (part : Particle) (numbers : List ℕ) (i : ℕ) (row : List (ℕ × ℕ)) → IsRow numbers (targets i (pairs (model part))) row
    → IsSteps (Children part) i (map (step_of (letters (model part))) row)
row_steps part numbers i row R =
    let r = model part in (steps_rise r numbers i row R, (λ name j. (steps_to r numbers i row R name j, steps_from r numbers i row R name j)))

tells_at : (part : Particle) (names keys : List Chars) (rows : List (List (ℕ × ℕ))) (accepting : List Bool) (i k : ℕ)
    → IsTable (Children part) names keys rows accepting → i < 1 + count (model part)
    → TellsStep (Children part) i k (at_position names (option_map (λ s. s.1) (slice_get (get_or rows i []) k)))
tells_at part names keys rows accepting i k T h =
    let r = model part in
    let row = get_or rows i [] in
    let R : IsRow (numbers_of keys names) (targets i (pairs r)) row = T.rows_are i h in (
      map (step_of (letters r)) row,
      row_steps part (numbers_of keys names) i row R,
      ap (λ ns. at_position ns (option_map (λ s. s.1) (slice_get row k))) T.names_are
          ∙ told r (numbers_of keys names) i row R (slice_get row k) (λ x e. got row k x e)
          ∙ sym (slice_get-map (step_of (letters r)) row k),
    )

pub tells_of_table : (content : Content) (part : Particle) (names keys : List Chars) (rows : List (List (ℕ × ℕ))) (accepting : List Bool) (i k : ℕ) (o : Option (Chars × ℕ))
    → content ≡ Children part → IsTable content names keys rows accepting → i < states content
    → o ≡ at_position names (option_map (λ s. s.1) (slice_get (get_or rows i []) k)) → TellsStep content i k o
tells_of_table content part names keys rows accepting i k o e T h w =
    subst (λ (x : Content). TellsStep x i k o) (sym e)
    (subst (λ (x : Option (Chars × ℕ)). TellsStep (Children part) i k x) (sym w)
    (tells_at part names keys rows accepting i k (subst (λ (x : Content). IsTable x names keys rows accepting) e T) (subst (λ (x : Content). i < states x) e h)))
