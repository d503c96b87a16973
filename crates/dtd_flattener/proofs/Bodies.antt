-- Flat bodies are bodies of declarations, and expand to themselves.
use Rattle.std.proofs.Common.{◌≡◌, ◌∙◌, ◌<◌, ℕ, ◌+◌, List, [], ◌∷◌, ◌++◌, length, take, drop, replicate, Bool, true, false, not, eqb, ◌&&◌, ◌||◌, Some, Result, Ok, refl, ap, sym, subst, inl, inr, ⊎_elim, arith, append_assoc, append-nil, length-append, if◌then◌else◌}
use Rattle.std.specs.Prelude.{All}
use Rattle.std.specs.List.{list_all, concat, AllByRecursion}
use Rattle.std.specs.Option.{option_map_or}
use Rattle.std.proofs.Math.Seq.{drop-append_seam, take-append_seam}
use Rattle.std.proofs.lemmas.Bool.{eqb-false, eq-eqb, or_cases, eqb-true, true≢false}
use Rattle.std.proofs.lemmas.List.{length-replicate}
use Rattle.std.proofs.lemmas.List.Elements.{All-nil, All-cons}
use Rattle.text_fronts.proofs.Fronts.{position_at}
use Rattle.jats_chars.specs.Classes.{is_name_start}
use Rattle.dtd_scanner.specs.Items.{first_is, is_quote, IsPart, IsBody}
use Rattle.dtd_scanner.specs.Walk.{over}
use Rattle.dtd_scanner.proofs.Runs.{none_holds}
use Rattle.dtd_scanner.proofs.Walking.{over_at, over_end}
use Rattle.pe_expansion.specs.Bound.{Bound}
use Rattle.pe_expansion.specs.Expansion.{Written, with, Expanding, expansion_step, expansion, expansion_of, plain_body_of}
use Rattle.pe_expansion.specs.Pieces.{body_piece, quoted_len, reference}
use Rattle.pe_expansion.specs.declared.pieces.Kind.TheVariants.{Char, Kept, Included}
use Rattle.pe_expansion.specs.declared.pieces.Manner.TheVariants.{Body}
use Rattle.dtd_flattener.proofs.Flatness.{is_plain, IsFlatPart, IsFlat}

-- ---- one step over the front of a text

pub over_front : {S F : Type 0} (step : ℕ → S → List ℕ → Result (S × ℕ) F) (at : ℕ) (s : S) (part rest : List ℕ) (v : S) → 0 < length part → step at s (part ++ rest) ≡ Ok (v, length part)
    → over step at s (part ++ rest) ≡ over step (at + length part) v rest
over_front step at s part rest v some is =
    let before = replicate at 0 in
    let text = before ++ (part ++ rest) in
    let size : length before ≡ at = length-replicate at 0 in
    let here : drop at text ≡ part ++ rest = ap (λ n. drop n text) (sym size) ∙ drop-append_seam before (part ++ rest) in
    let joined : text ≡ (before ++ part) ++ rest = sym (append_assoc before part rest) in
    let behind : length (before ++ part) ≡ at + length part = length-append before part ∙ ap (λ n. n + length part) size in
    let there : drop (at + length part) text ≡ rest = ap (λ n. drop n text) (sym behind) ∙ ap (drop (length (before ++ part))) joined ∙ drop-append_seam (before ++ part) rest in
    let within : at < length text = omega (arith, size, length-append before (part ++ rest), length-append part rest) in
    ap (over step at s) (sym here)
    ∙ over_at step at (length part) s text (Ok v) within some (ap (step at s) here ∙ is)
    ∙ ap (over step (at + length part) v) there

-- ---- bodies of declarations

none_of_four : (a b c d : Bool) → not (a || (b || (c || d))) ≡ true → (a ≡ false) × (b ≡ false) × (c ≡ false) × (d ≡ false)
none_of_four true b c d h = absurd (true≢false (sym h))
none_of_four false true c d h = absurd (true≢false (sym h))
none_of_four false false true d h = absurd (true≢false (sym h))
none_of_four false false false true h = absurd (true≢false (sym h))
none_of_four false false false false h = (refl, refl, refl, refl)

-- a plain character is no quote, `<`, `>` or `%`
plain_is : (c : ℕ) → is_plain c ≡ true → (is_quote c ≡ false) × (eqb c 60 ≡ false) × (eqb c 62 ≡ false) × (eqb c 37 ≡ false)
plain_is c is = none_of_four (is_quote c) (eqb c 60) (eqb c 62) (eqb c 37) is

part_is : (part : List ℕ) → IsFlatPart part → IsPart part
part_is part is =
    ⊎_elim
    (λ plain. let c = plain.0 in let is = plain_is c plain.1 in inl (c, is.0, eqb-false c 62 is.2, plain.2))
    (λ quoted. inr (quoted.0, quoted.1, quoted.2, none_holds quoted.0 quoted.1 quoted.3, quoted.4))
    is

parts_are : (parts : List (List ℕ)) → AllByRecursion IsFlatPart parts → All IsPart parts
parts_are [] all = All-nil IsPart
parts_are (part ∷ parts) all = All-cons IsPart part parts (part_is part all.0) (parts_are parts all.1)

pub flat_is_body : (body : List ℕ) → IsFlat body → IsBody body
flat_is_body body is = (is.0, parts_are is.0 is.1, is.2)

-- ---- expansion

plain_piece : (c : ℕ) (rest : List ℕ) → is_plain c ≡ true → body_piece (c ∷ rest) ≡ Some (record { kind = Char c; len = 1 })
unfolding body_piece
plain_piece c rest is =
    let p = plain_is c is in
    ap (λ b. if b && first_is is_name_start rest then reference Included (c ∷ rest) else if is_quote c then Some (record { kind = Kept; len = quoted_len c rest }) else Some (record { kind = Char c; len = 1 })) p.3
    ∙ ap (λ b. if b then Some (record { kind = Kept; len = quoted_len c rest }) else Some (record { kind = Char c; len = 1 })) p.0

-- `%` is no quote
quote_apart : (q : ℕ) → is_quote q ≡ true → eqb q 37 ≡ false
quote_apart q is = ⊎_elim (λ e. let same = eqb-true q 34 e in rw same refl) (λ e. let same = eqb-true q 39 e in rw same refl) (or_cases (eqb q 34) (eqb q 39) is)

quoted_piece : (q : ℕ) (inside rest : List ℕ) → is_quote q ≡ true → list_all (λ c. not (eqb c q)) inside ≡ true
    → body_piece (q ∷ (inside ++ (q ∷ rest))) ≡ Some (record { kind = Kept; len = length inside + 2 })
unfolding body_piece
quoted_piece q inside rest is none =
    let text = inside ++ (q ∷ rest) in
    ap (λ b. if b && first_is is_name_start text then reference Included (q ∷ text) else if is_quote q then Some (record { kind = Kept; len = quoted_len q text }) else Some (record { kind = Char q; len = 1 })) (quote_apart q is)
    ∙ ap (λ b. if b then Some (record { kind = Kept; len = quoted_len q text }) else Some (record { kind = Char q; len = 1 })) is
    ∙ ap (λ o. Some (record { kind = Kept; len = option_map_or (λ k. k + 2) o (length text + 1) })) (position_at (λ c. eqb c q) inside q rest none (eq-eqb q q refl))

module _ (deeper : Expanding) (bound : Bound) (names : List (List ℕ)) where
  part_step : (at : ℕ) (w : Written) (part rest : List ℕ) → IsFlatPart part → (0 < length part) × (expansion_step Body deeper bound names at w (part ++ rest) ≡ Ok (with w part, length part))
  part_step at w part rest is =
      let goal : List ℕ → Type 0 = λ p. (0 < length p) × (expansion_step Body deeper bound names at w (p ++ rest) ≡ Ok (with w p, length p)) in
      ⊎_elim
      (λ plain. let c = plain.0 in subst goal (sym plain.2) (omega arith, rw (plain_piece c rest plain.1) refl))
      (λ quoted.
      let q = quoted.0 in
      let inside = quoted.1 in
      let part = q ∷ inside ++ q ∷ [] in
      let size : length part ≡ length inside + 2 = simp length-append (omega arith) in
      let text : part ++ rest ≡ q ∷ (inside ++ (q ∷ rest)) = ap (λ t. q ∷ t) (append_assoc inside (q ∷ []) rest) in
      let taken : take (length inside + 2) (q ∷ (inside ++ (q ∷ rest))) ≡ part = ap (take (length inside + 2)) (sym text) ∙ ap (λ n. take n (part ++ rest)) (sym size) ∙ take-append_seam part rest in
      subst goal (sym quoted.4)
      (omega (arith, size), ap (expansion_step Body deeper bound names at w) text ∙ rw (quoted_piece q inside rest quoted.2 quoted.3, taken, size) refl))
      is

  parts_expand : (at : ℕ) (w : Written) (parts : List (List ℕ)) → AllByRecursion IsFlatPart parts → over (expansion_step Body deeper bound names) at w (concat parts) ≡ Ok (with w (concat parts))
  parts_expand at w [] all = over_end (expansion_step Body deeper bound names) at w [] refl ∙ ap (λ t. Ok (record { text = t; spent = w.spent })) (sym (append-nil w.text))
  parts_expand at w (part ∷ parts) all =
      let step = part_step at w part (concat parts) all.0 in
      over_front (expansion_step Body deeper bound names) at w part (concat parts) (with w part) step.0 step.1
      ∙ parts_expand (at + length part) (with w part) parts all.1
      ∙ ap (λ t. Ok (record { text = t; spent = w.spent })) (append_assoc w.text part (concat parts))

-- A flat body expands to itself.
pub flat_expands : (bound : Bound) (spent : ℕ) (body : List ℕ) → IsFlat body → plain_body_of bound [] spent body ≡ Ok (record { text = body; spent = spent })
unfolding expansion_of
flat_expands bound spent body is =
    ap (plain_body_of bound [] spent) is.2
    ∙ parts_expand (expansion Body 32 bound) bound [] 0 (record { text = []; spent = spent }) is.0 is.1
    ∙ ap (λ t. Ok (record { text = t; spent = spent })) (sym is.2)
