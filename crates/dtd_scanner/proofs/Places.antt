-- The scanner's searches at places of a text.
use Rattle.std.proofs.Common.{◌≡◌, ◌∙◌, ℕ, suc, ◌+◌, ◌<◌, ◌≤◌, List, [], ◌∷◌, length, drop, get_or, Option, Some, None, refl, ap, sym, arith, cond, eqb, true, false, ◌-◌, zero-add, length-drop, ◌&&◌}
use Rattle.std.proofs.lemmas.List.{drop_more}
use Rattle.std.specs.Option.{option_map}
use Rattle.dtd_scanner.specs.Scanning.{first_pair}

-- further on by one, and then by i
pub moved_more : (i : ℕ) (x : Option ℕ) → option_map (λ k. k + i) (option_map suc x) ≡ option_map (λ k. k + (i + 1)) x
moved_more i None = refl
moved_more i (Some k) = let e : suc k + i ≡ k + (i + 1) = omega arith in ap Some e

first_pair-drop : (a b : ℕ) (text : List ℕ) (i : ℕ) → i + 1 < length text
    → first_pair a b (drop i text) ≡ cond (eqb (get_or text i 0) a && eqb (get_or text (i + 1) 0) b) (Some 0) (option_map suc (first_pair a b (drop (i + 1) text)))
first_pair-drop a b text i h =
    ap (first_pair a b) (drop_more text i 0 (omega arith) ∙ ap (λ t. get_or text i 0 ∷ t) (drop_more text (i + 1) 0 h))
    ∙ ap (λ t. cond (eqb (get_or text i 0) a && eqb (get_or text (i + 1) 0) b) (Some 0) (option_map suc (first_pair a b t))) (sym (drop_more text (i + 1) 0 h))

first_pair-short : (a b : ℕ) (text : List ℕ) → length text < 2 → first_pair a b text ≡ None
first_pair-short a b [] h = refl
first_pair-short a b (x ∷ []) h = refl
first_pair-short a b (x ∷ y ∷ text) h = absurd (omega arith)

-- the pair does not stand before this place, and not at it
pub pair_goes_on : (a b : ℕ) (text : List ℕ) (at : ℕ) → 1 ≤ at → at < length text → (eqb (get_or text (at - 1) 0) a && eqb (get_or text at 0) b) ≡ false
    → first_pair a b text ≡ option_map (λ k. k + (at - 1)) (first_pair a b (drop (at - 1) text)) → first_pair a b text ≡ option_map (λ k. k + (at + 1 - 1)) (first_pair a b (drop (at + 1 - 1) text))
pair_goes_on a b text at after within differs so =
    let here : at - 1 + 1 ≡ at = omega arith in
    let next : at + 1 - 1 ≡ at = omega arith in
    let rest = first_pair a b (drop at text) in
    so ∙ ap (option_map (λ k. k + (at - 1))) (first_pair-drop a b text (at - 1) (omega arith) ∙ rw (here, differs) refl)
    ∙ moved_more (at - 1) rest ∙ rw (here, next) refl

-- the pair first stands at this place
pub pair_here : (a b : ℕ) (text : List ℕ) (at : ℕ) → 1 ≤ at → at < length text → (eqb (get_or text (at - 1) 0) a && eqb (get_or text at 0) b) ≡ true
    → first_pair a b text ≡ option_map (λ k. k + (at - 1)) (first_pair a b (drop (at - 1) text)) → Some (at - 1) ≡ first_pair a b text
pair_here a b text at after within same so =
    let here : at - 1 + 1 ≡ at = omega arith in
    let found : first_pair a b (drop (at - 1) text) ≡ Some 0 = first_pair-drop a b text (at - 1) (omega arith) ∙ rw (here, same) refl in
    sym (so ∙ ap (option_map (λ k. k + (at - 1))) found ∙ ap Some (zero-add (at - 1)))

-- the pair stands nowhere
pub pair_nowhere : (a b : ℕ) (text : List ℕ) (at : ℕ) → length text ≤ at
    → first_pair a b text ≡ option_map (λ k. k + (at - 1)) (first_pair a b (drop (at - 1) text)) → None ≡ first_pair a b text
pair_nowhere a b text at past so = sym (so ∙ rw (first_pair-short a b (drop (at - 1) text) (omega (arith, length-drop (at - 1) text))) refl)
