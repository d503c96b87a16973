-- Ignored contents at places of a text.
use Rattle.std.proofs.Common.{◌≡◌, ◌∙◌, ℕ, ◌+◌, ◌<◌, ◌≤◌, List, [], ◌∷◌, length, drop, Some, None, false, ◌&&◌, cond, refl, arith, nat_eq, length-drop}
use Rattle.std.proofs.lemmas.List.{drop_more}
use Rattle.pe_expansion.specs.Ignored.{closes, depth_after, end_from}

pub end_here : (text : List ℕ) (place depth : ℕ) → place < length text
    → end_from place depth (drop place text) ≡ cond (nat_eq depth 0 && closes (drop place text)) (Some (place + 3)) (end_from (place + 1) (depth_after depth (drop place text)) (drop (place + 1) text))
end_here text place depth within = rw (drop_more text place 0 within) refl

pub end_past : (text : List ℕ) (place depth : ℕ) → length text ≤ place → end_from place depth (drop place text) ≡ None
end_past text place depth past = by (drop place text) (omega (arith, length-drop place text))
  where
    by : (rest : List ℕ) → length rest ≡ 0 → end_from place depth rest ≡ None
    by [] none = refl
    by (c ∷ cs) none = absurd (omega arith)

pub end_goes_on : (text : List ℕ) (at place depth : ℕ) → place < length text → (nat_eq depth 0 && closes (drop place text)) ≡ false
    → end_from at 0 (drop at text) ≡ end_from place depth (drop place text) → end_from at 0 (drop at text) ≡ end_from (place + 1) (depth_after depth (drop place text)) (drop (place + 1) text)
end_goes_on text at place depth within goes so = so ∙ end_here text place depth within ∙ rw goes refl
