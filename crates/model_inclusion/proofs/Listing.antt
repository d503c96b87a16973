-- The pairs that are reached, in order, are the listed ones.
use Rattle.std.proofs.Common.{◌≡◌, ◌<◌, ◌≤◌, ◌+◌, ◌*◌, ◌/◌, ◌%◌, List, [], ◌∷◌, ℕ, zero, suc, length, get_or, Bool, true, false, Option, Some, None, inl, inr, refl, sym, ap, ◌∙◌, subst, arith, true≢false, replicate, Contains}
use Rattle.std.specs.Prelude.{option_map}
use Rattle.std.proofs.lemmas.Bool.{cases_lt}
use Rattle.std.proofs.lemmas.Nat.{div-mul-add, mod-mul-add, div_below, mod_below, div-add-mod'}
use Rattle.std.proofs.lemmas.List.{length-replicate}
use Rattle.std.proofs.Math.Nat.{mul-le-mul_right}
use Rattle.content_models.specs.declared.content.Content.{Content}
use Rattle.content_models.specs.Model.{Chars}
use Rattle.position_automata.specs.Automata.{FollowsOn, IsDeterministic}
use Rattle.position_automata.proofs.Running.{follows_to, start_within}
use Rattle.model_inclusion.specs.Listed.{Precedes, IsAscending, ArePairs}
use Rattle.model_inclusion.specs.Laws.{Reached, Starts, Steps}
use Rattle.model_inclusion.specs.Reaching.{Member, noted, common_step, next, Reach, Here, There, Reaches, StaysWithin, IsWithin, AreWithin, pairs_from}
use Rattle.model_inclusion.specs.Rows.{AreRows}
use Rattle.model_inclusion.proofs.Closing.{listed_by_closure}
use Rattle.model_inclusion.proofs.Members.{to_member, contains_of, all_member, filtered_to, filtered_from}
use Rattle.model_inclusion.proofs.Noting.{noted_to, noted_from, blank}
use Rattle.model_inclusion.proofs.Numbers.{named, same_name, among_of, number_in, one_each}

-- ---- numbers of pairs

pub pair_below : (i j h w : ℕ) → i < h → j < w → i * w + j < h * w
pair_below i j h w a b =
    let le : (i + 1) * w ≤ h * w = mul-le-mul_right w a' in
    omega (arith, le)
  where
    a' : i + 1 ≤ h
    a' = omega (arith, a)

step_pair : (o : Option ℕ) (i w y : ℕ) → option_map (λ j. i * w + j) o ≡ Some y → (j : ℕ) × (o ≡ Some j) × (y ≡ i * w + j)
step_pair None i w y h = cc
step_pair (Some j) i w y h = (j, refl, (let e : i * w + j ≡ y = cc in sym e))

-- the pairs next to a pair come from a step of each row on one number
module _ (firsts seconds : List (List (ℕ × ℕ))) (names : ℕ) where
  abbrev w : ℕ
  w = length seconds

  abbrev row_a : ℕ → List (ℕ × ℕ)
  row_a x = get_or firsts (x / w) []

  abbrev row_b : ℕ → List (ℕ × ℕ)
  row_b x = get_or seconds (x % w) []

  pub next_to : (x y : ℕ) → Member y (next firsts seconds names x)
      → (n : ℕ) × (i : ℕ) × (j : ℕ) × Contains (row_a x) (n, i) × Contains (row_b x) (n, j) × (y ≡ i * w + j)
  next_to x y m =
      let steps = noted (row_b x) (replicate names None) in
      let t = filtered_to (common_step steps w) (row_a x) y m in
      let s = t.0 in
      let p = step_pair (get_or steps s.0 None) s.1 w y t.2 in
      elim (noted_to (row_b x) (replicate names None) s.0 p.0 p.1) [
        | inl k ↦ (s.0, s.1, p.0, contains_of (row_a x) s t.1, contains_of (row_b x) (s.0, p.0) k, p.2)
        | inr k ↦ absurd (some_none p.0 (sym k ∙ blank (replicate names None) names s.0 refl))
      ]
    where
      some_none : (j : ℕ) → Some j ≡ None → ⊥
      some_none j q = cc

  pub next_from : (x n i j : ℕ) → n < names → ((p q : ℕ) → Contains (row_b x) (n, p) → Contains (row_b x) (n, q) → p ≡ q)
      → Contains (row_a x) (n, i) → Contains (row_b x) (n, j) → Member (i * w + j) (next firsts seconds names x)
  next_from x n i j l one a b =
      let steps = noted (row_b x) (replicate names None) in
      let at : get_or steps n None ≡ Some j =
      noted_from (row_b x) (replicate names None) n j (omega (arith, l, length-replicate {A = Option ℕ} names None))
      (λ p m. one p j (contains_of (row_b x) (n, p) m) b) (to_member (row_b x) (n, j) b) in
      filtered_from (common_step steps w) (row_a x) (n, i) (i * w + j) (to_member (row_a x) (n, i) a) (ap (λ o. option_map (λ j. i * w + j) o) at)

  pub stays_within : 0 < w → AreWithin firsts seconds names → StaysWithin (next firsts seconds names) (length firsts * w)
  stays_within some h x y l m =
      let t = next_to x y m in
      let a = h.0 (x / w) (div_below x w (length firsts) some l) t.0 t.1 t.3 in
      let b = h.1 (x % w) (mod_below x w some) t.0 t.2 t.4 in
      let k : t.1 * w + t.2 < length firsts * w = pair_below t.1 t.2 (length firsts) w a.1 b.1 in
      subst (λ (z : ℕ). z < length firsts * w) (sym t.5) k

-- ---- pairs that are reached, as numbers and as pairs

pub rows_within : (keys : List Chars) (a : Content) (rows : List (List (ℕ × ℕ))) → AreRows keys a rows → (i : ℕ) → i < length rows → IsWithin (length keys) (length rows) (get_or rows i [])
rows_within keys a rows r i l n j c =
    let s = (r.are i (omega (arith, l, r.count)) n j).0 c in
    ((named keys s.0 n s.1).0, (let t = follows_to a i j s.0 s.2 in omega (arith, t, r.count)))

module _ (keys : List Chars) (a b : Content) (firsts seconds : List (List (ℕ × ℕ))) (ra : AreRows keys a firsts) (rb : AreRows keys b seconds) (db : IsDeterministic b) where
  abbrev wide : ℕ
  wide = length seconds

  abbrev step : ℕ → List ℕ
  step x = next firsts seconds (length keys) x

  some-first : 0 < length firsts
  some-first = omega (arith, start_within a, ra.count)

  some-second : 0 < wide
  some-second = omega (arith, start_within b, rb.count)

  pub within : AreWithin firsts seconds (length keys)
  within = (rows_within keys a firsts ra, rows_within keys b seconds rb)

  quotient : (i j : ℕ) → j < wide → (i * wide + j) / wide ≡ i
  quotient i j l = div-mul-add i wide j l

  rest : (i j : ℕ) → j < wide → (i * wide + j) % wide ≡ j
  rest i j l = mod-mul-add i wide j l

  abbrev At : ℕ → Type 0
  At x = (x < length firsts * wide) × Reached keys a b (x / wide) (x % wide)

  reach_to : (x : ℕ) → Reach step x → At x
  reach_to _ Here = (
    (let k : 0 * wide + 0 < length firsts * wide = pair_below 0 0 (length firsts) wide some-first some-second in omega (arith, k)),
    subst (λ (z : ℕ). Reached keys a b (z / wide) (z % wide)) zero-is
        (subst (λ (z : ℕ). Reached keys a b z ((0 * wide + 0) % wide)) (sym (quotient 0 0 some-second)) (subst (λ (z : ℕ). Reached keys a b 0 z) (sym (rest 0 0 some-second)) Starts)),
  )
    where
      zero-is : 0 * wide + 0 ≡ 0
      zero-is = omega arith
  reach_to _ (There x y r m) =
      let h = reach_to x r in
      let t = next_to firsts seconds (length keys) x y m in
      let i : x / wide < length firsts = div_below x wide (length firsts) some-second h.0 in
      let j : x % wide < wide = mod_below x wide some-second in
      let p = (ra.are (x / wide) (omega (arith, i, ra.count)) t.0 t.1).0 t.3 in
      let q = (rb.are (x % wide) (omega (arith, j, rb.count)) t.0 t.2).0 t.4 in
      let same : q.0 ≡ p.0 = same_name keys q.0 p.0 t.0 q.1 p.1 in
      let l : t.2 < wide = (let z = follows_to b (x % wide) t.2 q.0 q.2 in omega (arith, z, rb.count)) in
      let go : Reached keys a b t.1 t.2 =
      Steps (x / wide) (x % wide) t.1 t.2 p.0 h.1 (among_of keys p.0 t.0 p.1) p.2 (subst (λ (n : Chars). FollowsOn b (x % wide) n t.2) same q.2) in (
        stays_within firsts seconds (length keys) some-second within x y h.0 m,
        subst (λ (z : ℕ). Reached keys a b (z / wide) (z % wide)) (sym t.5)
            (subst (λ (z : ℕ). Reached keys a b z ((t.1 * wide + t.2) % wide)) (sym (quotient t.1 t.2 l)) (subst (λ (z : ℕ). Reached keys a b t.1 z) (sym (rest t.1 t.2 l)) go)),
      )

  abbrev Numbered : ℕ → ℕ → Type 0
  Numbered i j = (i < length firsts) × (j < wide) × Reach step (i * wide + j)

  reach_from : (i j : ℕ) → Reached keys a b i j → Numbered i j
  reach_from _ _ Starts = (some-first, some-second, subst (Reach step) zero-is Here)
    where
      zero-is : 0 ≡ 0 * wide + 0
      zero-is = omega arith
  reach_from _ _ (Steps i j k l name r t f g) =
      let h = reach_from i j r in
      let x = i * wide + j in
      let n = number_in keys name t in
      let at = named keys name n.0 n.1 in
      let ca : Contains (get_or firsts (x / wide) []) (n.0, k) =
      subst (λ (z : ℕ). Contains (get_or firsts z []) (n.0, k)) (sym (quotient i j h.1)) ((ra.are i (omega (arith, h.0, ra.count)) n.0 k).1 (name, n.1, f)) in
      let cb : Contains (get_or seconds (x % wide) []) (n.0, l) =
      subst (λ (z : ℕ). Contains (get_or seconds z []) (n.0, l)) (sym (rest i j h.1)) ((rb.are j (omega (arith, h.1, rb.count)) n.0 l).1 (name, n.1, g)) in
      let m : x % wide < wide = mod_below x wide some-second in
      let one = one_each keys b (x % wide) (get_or seconds (x % wide) []) db (rb.are (x % wide) (omega (arith, m, rb.count))) n.0 in (
        (let z = follows_to a i k name f in omega (arith, z, ra.count)),
        (let z = follows_to b j l name g in omega (arith, z, rb.count)),
        There x (k * wide + l) h.2 (next_from firsts seconds (length keys) x n.0 k l at.0 one ca cb),
      )

  -- ---- in order

  abbrev PairOf : ℕ → ℕ × ℕ
  PairOf m = (m / wide, m % wide)

  pairs_to : (k : ℕ) (seen : List Bool) (p : ℕ × ℕ) → Member p (pairs_from k wide seen) → (m : ℕ) × (get_or seen m false ≡ true) × (p ≡ PairOf (k + m))
  pairs_to k [] p m = elim m [ ]
  pairs_to k (true ∷ seen) p (inl e) = (0, refl, e ∙ ap PairOf (let z : k ≡ k + 0 = omega arith in z))
  pairs_to k (true ∷ seen) p (inr m) = let t = pairs_to (k + 1) seen p m in (suc t.0, t.1, t.2 ∙ ap PairOf (let z : k + 1 + t.0 ≡ k + suc t.0 = omega arith in z))
  pairs_to k (false ∷ seen) p m = let t = pairs_to (k + 1) seen p m in (suc t.0, t.1, t.2 ∙ ap PairOf (let z : k + 1 + t.0 ≡ k + suc t.0 = omega arith in z))

  pairs_of : (k m : ℕ) (seen : List Bool) → get_or seen m false ≡ true → Member (PairOf (k + m)) (pairs_from k wide seen)
  pairs_of k m [] h = absurd (true≢false (sym h))
  pairs_of k zero (true ∷ seen) h = inl (ap PairOf (let z : k + 0 ≡ k = omega arith in z))
  pairs_of k zero (false ∷ seen) h = absurd (true≢false (sym h))
  pairs_of k (suc m) (true ∷ seen) h = inr (subst (λ (z : ℕ). Member (PairOf z) (pairs_from (k + 1) wide seen)) (let z : k + 1 + m ≡ k + suc m = omega arith in z) (pairs_of (k + 1) m seen h))
  pairs_of k (suc m) (false ∷ seen) h = subst (λ (z : ℕ). Member (PairOf z) (pairs_from (k + 1) wide seen)) (let z : k + 1 + m ≡ k + suc m = omega arith in z) (pairs_of (k + 1) m seen h)

  precedes : (x y : ℕ) → x < y → Precedes (PairOf x) (PairOf y)
  precedes x y l = elim (cases_lt (x / wide) (y / wide)) [
    | inl h ↦ inl h
    | inr h ↦ elim (cases_lt (y / wide) (x / wide)) [
      | inl back ↦
          let k : y / wide * wide + y % wide < x / wide * wide = pair_below (y / wide) (y % wide) (x / wide) wide back (mod_below y wide some-second) in
          absurd (omega (arith, k, div-add-mod' x wide, div-add-mod' y wide))
      | inr forth ↦
          let same : x / wide ≡ y / wide = omega arith in
          inr (same, omega (arith, l, div-add-mod' x wide, div-add-mod' y wide, ap (λ z. z * wide) same))
    ]
  ]

  ascending : (k : ℕ) (seen : List Bool) → IsAscending (pairs_from k wide seen)
  ascending k [] = tt
  ascending k (false ∷ seen) = ascending (k + 1) seen
  ascending k (true ∷ seen) = (
    all_member (Precedes (PairOf k)) (pairs_from (k + 1) wide seen)
        (λ p m. (let t = pairs_to (k + 1) seen p m in subst (λ (z : ℕ × ℕ). Precedes (PairOf k) z) (sym t.2) (precedes k (k + 1 + t.0) (omega arith)))),
    ascending (k + 1) seen,
  )

  pub are_pairs : (seen : List Bool) → Reaches step (length firsts * wide) seen → ArePairs keys a b (pairs_from 0 wide seen)
  are_pairs seen r = record {
    ascending = ascending 0 seen;
    listed = λ i j. (
      (λ c.
          let t = pairs_to 0 seen (i, j) (to_member (pairs_from 0 wide seen) (i, j) c) in
          let m : 0 + t.0 ≡ t.0 = omega arith in
          let e : (i, j) ≡ PairOf t.0 = t.2 ∙ ap PairOf m in
          let h = (reach_to t.0 (r.sound t.0 t.1)).1 in
          (listed_by_closure keys a b i j).1 (subst (λ (p : ℕ × ℕ). Reached keys a b p.0 p.1) (sym e) h)),
      (λ h.
          let n = reach_from i j ((listed_by_closure keys a b i j).0 h) in
          let x = i * wide + j in
          let m = pairs_of 0 x seen (r.complete x n.2) in
          let z : 0 + x ≡ x = omega arith in
          let e : PairOf (0 + x) ≡ (i, j) = ap PairOf z ∙ ap (λ (q : ℕ). (q, x % wide)) (quotient i j n.1) ∙ ap (λ (q : ℕ). (i, q)) (rest i j n.1) in
          contains_of (pairs_from 0 wide seen) (i, j) (subst (λ (p : ℕ × ℕ). Member p (pairs_from 0 wide seen)) e m)),
    );
  }
