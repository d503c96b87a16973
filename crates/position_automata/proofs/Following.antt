-- How many steps the states have together.
use Rattle.std.proofs.Common.{◌≡◌, ◌<◌, ◌≤◌, ◌+◌, ◌*◌, ◌^◌, ℕ, zero, suc, List, [], ◌∷◌, length, get_or, map, Bool, ◌⊎◌, inl, inr, refl, sym, ap, ◌∙◌, subst, arith}
use Rattle.std.specs.List.{sum_by}
use Rattle.std.specs.List.Sorted.{IsStrictlyIncreasing}
use Rattle.std.proofs.lemmas.Bool.{cases_lt}
use Rattle.std.proofs.lemmas.List.{get_or_default, get_or-map, length-map}
use Rattle.std.proofs.lemmas.List.Elements.{All-from_get_or}
use Rattle.std.proofs.lemmas.List.Kept.{AllPairs-from_increasing}
use Rattle.std.proofs.lemmas.List.Sums.{sum_by-le, sum_by-cons}
use Rattle.content_models.specs.declared.content.Content.{Content}
use Rattle.content_models.specs.declared.content.Content.TheVariants.{Empty, Any, Mixed, Children}
use Rattle.content_models.specs.declared.content.Particle.{Particle}
use Rattle.content_models.specs.Model.{Chars, model}
use Rattle.content_models.specs.Re.{Re}
use Rattle.position_automata.specs.Automata.{IsSteps, IsFollows}
use Rattle.position_automata.specs.Marked.{count}
use Rattle.position_automata.specs.Places.{letters, pairs}
use Rattle.position_automata.specs.Rows.{targets, numbers_of, IsRow}
use Rattle.position_automata.specs.Tables.{IsTable}
use Rattle.position_automata.proofs.Meaning.{row_to, follows_at, length-letters}
use Rattle.position_automata.proofs.Tabled.{proper_count}
use Rattle.position_automata.proofs.Telling.{step_of, row_steps}

at_least : (js : List ℕ) → IsStrictlyIncreasing js → (k : ℕ) → k < length js → k ≤ get_or js k 0
at_least js up zero h = omega arith
at_least js up (suc k) h =
    let a : k ≤ get_or js k 0 = at_least js up k (omega arith) in
    let b : get_or js k 0 < get_or js (suc k) 0 = AllPairs-from_increasing js up k (suc k) 0 (omega arith) h in
    omega arith

few : (js : List ℕ) (n : ℕ) → IsStrictlyIncreasing js → ((k : ℕ) → k < length js → get_or js k 0 ≤ n) → length js ≤ n + 1
few js n up h = elim (cases_lt (n + 1) (length js)) [
  | inl b ↦
      let x : n + 1 ≤ get_or js (n + 1) 0 = at_least js up (n + 1) b in
      let y : get_or js (n + 1) 0 ≤ n = h (n + 1) b in
      absurd (omega arith)
  | inr b ↦ b
]

-- a row has at most one more step than names occur
short : (r : Re Chars) (numbers : List ℕ) (i : ℕ) (row : List (ℕ × ℕ)) → IsRow numbers (targets i (pairs r)) row → length row ≤ count r + 1
short r numbers i row R =
    let js = map (λ s. s.1) row in
    let n : length js ≡ length row = length-map row (λ s. s.1) in
    let within : (k : ℕ) → k < length js → get_or js k 0 ≤ count r =
    λ k h.
    let x = get_or row k (0, 0) in
    let b : k < length row = subst (λ (z : ℕ). k < z) n h in
    let a = row_to r i x.1 ((R.numbered x.0 x.1).0 (k, b, get_or_default row k x (0, 0) b)).0 in
    let s = follows_at r i x.1 a.0 a.1 in
    let e : get_or js k 0 ≡ x.1 = get_or-map (λ s. s.1) row k (0, 0) 0 b in
    omega (arith, e, s.1, s.2, length-letters r) in
    let l : length js ≤ count r + 1 = few js (count r) R.rising within in
    omega arith

pub total_small : (content : Content) (part : Particle) (names keys : List Chars) (rows : List (List (ℕ × ℕ))) (accepting : List Bool)
    → content ≡ Children part → IsTable content names keys rows accepting → sum_by length rows < 2 ^ 64
total_small content part names keys rows accepting e T =
    let t : IsTable (Children part) names keys rows accepting = subst (λ (x : Content). IsTable x names keys rows accepting) e T in
    let c : count (model part) ≤ 1024 = proper_count (Children part) part refl t.proper in
    let s : sum_by length rows ≤ length rows * 1025 = sum_by-le length 1025 rows (All-from_get_or (λ row. length row ≤ 1025) rows []
    (λ i h. let l : length (get_or rows i []) ≤ count (model part) + 1 = short (model part) (numbers_of keys names) i (get_or rows i []) (t.rows_are i (subst (λ (z : ℕ). i < z) t.states_are h)) in omega arith)) in
    let n : length rows ≡ 1 + count (model part) = t.states_are in
    omega arith

same_sum : (f : ℕ × ℕ → Chars × ℕ) (rows : List (List (ℕ × ℕ))) → sum_by length (map (map f) rows) ≡ sum_by length rows
same_sum f [] = refl
same_sum f (row ∷ rows) =
    sum_by-cons length (map f row) (map (map f) rows) ∙ ap (λ n. n + sum_by length (map (map f) rows)) (length-map row f)
    ∙ ap (λ n. length row + n) (same_sum f rows) ∙ sym (sum_by-cons length row rows)

follows_at_model : (part : Particle) (names keys : List Chars) (rows : List (List (ℕ × ℕ))) (accepting : List Bool) (n : ℕ)
    → IsTable (Children part) names keys rows accepting → n ≡ sum_by length rows → IsFollows (Children part) n
follows_at_model part names keys rows accepting n T e =
    let f = step_of (letters (model part)) in (
      map (map f) rows,
      length-map rows (map f) ∙ T.states_are,
      (λ i h. subst (IsSteps (Children part) i) (sym (get_or-map (map f) rows i [] [] (subst (λ (z : ℕ). i < z) (sym T.states_are) h)))
          (row_steps part (numbers_of keys names) i (get_or rows i []) (T.rows_are i h))),
      e ∙ sym (same_sum f rows),
    )

pub follows_of_model : (content : Content) (part : Particle) (names keys : List Chars) (rows : List (List (ℕ × ℕ))) (accepting : List Bool) (n : ℕ)
    → content ≡ Children part → IsTable content names keys rows accepting → n ≡ sum_by length rows → IsFollows content n
follows_of_model content part names keys rows accepting n e T s =
    subst (λ (x : Content). IsFollows x n) (sym e)
    (follows_at_model part names keys rows accepting n (subst (λ (x : Content). IsTable x names keys rows accepting) e T) s)

follows_at_mixed : (listed names keys : List Chars) (rows : List (List (ℕ × ℕ))) (accepting : List Bool) (n : ℕ)
    → IsTable (Mixed listed) names keys rows accepting → n ≡ length names → IsFollows (Mixed listed) n
follows_at_mixed listed names keys rows accepting n T e =
    let f : Chars → Chars × ℕ = λ name. (name, 0) in (
      map f listed ∷ [],
      refl,
      (λ i h. let z : i ≡ 0 = omega arith in ap (λ k. get_or (map f listed ∷ []) k []) z),
      omega (arith, e, ap length T.names_are, length-map listed f, sum_by-cons length (map f listed) []),
    )

pub follows_of_mixed : (content : Content) (listed names keys : List Chars) (rows : List (List (ℕ × ℕ))) (accepting : List Bool) (n : ℕ)
    → content ≡ Mixed listed → IsTable content names keys rows accepting → n ≡ length names → IsFollows content n
follows_of_mixed content listed names keys rows accepting n e T s =
    subst (λ (x : Content). IsFollows x n) (sym e)
    (follows_at_mixed listed names keys rows accepting n (subst (λ (x : Content). IsTable x names keys rows accepting) e T) s)

no_row : (i : ℕ) → i < 1 → get_or {A = List (Chars × ℕ)} ([] ∷ []) i [] ≡ []
no_row i h = let z : i ≡ 0 = omega arith in ap (λ k. get_or {A = List (Chars × ℕ)} ([] ∷ []) k []) z

follows_empty : IsFollows Empty 0
follows_empty = ([] ∷ [], refl, no_row, refl)

follows_any : IsFollows Any 0
follows_any = ([] ∷ [], refl, no_row, refl)

pub follows_none : (content : Content) → (content ≡ Empty) ⊎ (content ≡ Any) → IsFollows content 0
follows_none content (inl e) = subst (λ (x : Content). IsFollows x 0) (sym e) follows_empty
follows_none content (inr e) = subst (λ (x : Content). IsFollows x 0) (sym e) follows_any
