-- The judgement fits the content.
use Rattle.std.proofs.Common.{◌≡◌, ◌<◌, ◌≤◌, ◌+◌, ℕ, zero, suc, List, [], ◌∷◌, length, get_or, map, Option, Some, None, Result, Ok, Err, inl, inr, refl, sym, ap, ◌∙◌, subst, arith, Contains, nat_eq}
use Rattle.std.specs.Cmp.{nat_eq_equiv}
use Rattle.std.specs.List.{list_any, range_with_len, sum_by}
use Rattle.std.specs.List.Sorted.{IsStrictlyIncreasing}
use Rattle.std.specs.Option.{option_or}
use Rattle.std.proofs.lemmas.Bool.{cases_eq, eqb-true}
use Rattle.std.proofs.lemmas.List.{length-map}
use Rattle.std.proofs.lemmas.List.FromFn.{length-map-range_with_len, get_or-map-range_with_len}
use Rattle.std.proofs.lemmas.List.Kept.{IsStrictlyIncreasing-filter}
use Rattle.std.proofs.lemmas.List.Sums.{sum_by-cons}
use Rattle.std.proofs.lemmas.Map.Views.{list_any-from_Contains, Contains-from_any}
use Rattle.content_models.specs.declared.content.Content.{Content}
use Rattle.content_models.specs.declared.content.Content.TheVariants.{Empty, Any, Mixed, Children}
use Rattle.content_models.specs.declared.content.Particle.{Particle}
use Rattle.content_models.specs.Model.{Chars, model}
use Rattle.content_models.specs.Re.{Re}
use Rattle.position_automata.specs.Automata.{IsSteps, IsFollows, IsAmbiguous}
use Rattle.position_automata.specs.Judged.{states_of, name_at, positions_after, clash_of, first_clash, follows_in_model, verdict, judged, Judges}
use Rattle.position_automata.specs.Marked.{count, Deterministic, Follows}
use Rattle.position_automata.specs.Places.{letters, pairs}
use Rattle.position_automata.specs.Rows.{targets}
use Rattle.position_automata.specs.Stepping.{model_steps}
use Rattle.position_automata.specs.Tables.{Builds}
use Rattle.position_automata.specs.declared.fault.BuildFault.TheVariants.{Ambiguous}
use Rattle.position_automata.proofs.Following.{follows_none}
use Rattle.position_automata.proofs.Meaning.{row_to, row_from, follows_at, follows_within, length-letters, to_member, contains_of}
use Rattle.position_automata.proofs.Rising.{rises_of, filter_to, filter_from, in_range, range_rises}
use Rattle.position_automata.proofs.Run.{deterministic_iff_one-step}
use Rattle.position_automata.proofs.Shared.{Shares, shares}
use Rattle.position_automata.proofs.Unique.{name_of, judges_one}
use Rattle.position_automata.proofs.Words.{Member}

-- each state of the list, in order, has its clash or none
abbrev ClashFrom : Re Chars → ℕ → ℕ → Option (ℕ × ℕ) → Type 0
ClashFrom r a n None = (i : ℕ) → a ≤ i → i < a + n → clash_of r i ≡ None
ClashFrom r a n (Some c) = (k : ℕ) × (a ≤ k) × (clash_of r k ≡ Some c) × ((i : ℕ) → a ≤ i → i < k → clash_of r i ≡ None)

clash_more : (r : Re Chars) (a n : ℕ) (o rest : Option (ℕ × ℕ)) → clash_of r a ≡ o → ClashFrom r (a + 1) n rest → ClashFrom r a (suc n) (option_or o rest)
clash_more r a n (Some c) rest e R = (a, omega arith, e, (λ i h l. absurd (omega arith)))
clash_more r a n None None e R = λ i h l. elim (cases_eq i a) [
  | inl f ↦ ap (clash_of r) f ∙ e
  | inr f ↦ R i (omega arith) (omega arith)
]
clash_more r a n None (Some c) e R = (
  R.0,
  omega (arith, R.1),
  R.2,
  (λ i h l. elim (cases_eq i a) [
    | inl f ↦ ap (clash_of r) f ∙ e
    | inr f ↦ R.3 i (omega arith) l
  ]),
)

clash_from : (r : Re Chars) (a n : ℕ) → ClashFrom r a n (first_clash r (range_with_len a n))
clash_from r a zero = λ i h l. absurd (omega arith)
clash_from r a (suc n) = clash_more r a n (clash_of r a) (first_clash r (range_with_len (a + 1) n)) refl (clash_from r (a + 1) n)

module _ (r : Re Chars) where
  -- the positions after a state follow it, each on its name
  pub after_to : (i j : ℕ) → Member j (positions_after r i) → Follows r i (name_at (letters r) j) j
  after_to i j m =
      let t = filter_to (λ j. list_any (nat_eq j) (targets i (pairs r))) (range_with_len 1 (count r)) j m in
      let f = row_to r i j (Contains-from_any eqb-true j (targets i (pairs r)) t.1) in
      subst (λ (a : Chars). Follows r i a j) (sym (name_of r i j f.0 f.1)) f.1

  -- and each that follows is one of them
  pub after_from : (i j : ℕ) (a : Chars) → Follows r i a j → Member j (positions_after r i)
  after_from i j a f =
      let s = follows_at r i j a f in
      filter_from (λ j. list_any (nat_eq j) (targets i (pairs r))) (range_with_len 1 (count r)) j
      (in_range 1 (count r) j (omega (arith, s.1)) (omega (arith, s.1, s.2, length-letters r)))
      (list_any-from_Contains nat_eq_equiv j (targets i (pairs r)) (row_from r i j a f))

  pub after_rises : (i : ℕ) → IsStrictlyIncreasing (positions_after r i)
  after_rises i = IsStrictlyIncreasing-filter (λ j. list_any (nat_eq j) (targets i (pairs r))) (range_with_len 1 (count r)) (range_rises 1 (count r))

  clash_is : (i : ℕ) → Shares (letters r) (positions_after r i) (clash_of r i)
  clash_is i = shares (letters r) 0 (positions_after r i) (rises_of (positions_after r i) (after_rises i))

  clash_at : (i : ℕ) (o : Option (ℕ × ℕ)) → clash_of r i ≡ o → Shares (letters r) (positions_after r i) o
  clash_at i o e = subst (Shares (letters r) (positions_after r i)) e (clash_is i)

  same_name : (i j k : ℕ) (a : Chars) → Follows r i a j → Follows r i a k → name_at (letters r) j ≡ name_at (letters r) k
  same_name i j k a f g = name_of r i j a f ∙ sym (name_of r i k a g)

  one_after : (i j k : ℕ) (a : Chars) → clash_of r i ≡ None → Follows r i a j → Follows r i a k → j ≡ k
  one_after i j k a e f g = clash_at i None e j k (after_from i j a f) (after_from i k a g) (same_name i j k a f g)

  deterministic : ClashFrom r 0 (1 + count r) None → Deterministic r
  deterministic none =
      (deterministic_iff_one-step r).1 (λ i j k a f g.
      let h : i < 1 + count r = follows_within r i j a f in
      one_after i j k a (none i (omega arith) (omega arith)) f g)

positions_in : (names : List Chars) (js : List ℕ) → map (λ s. s.1) (map {B = Chars × ℕ} (λ j. (name_at names j, j)) js) ≡ js
positions_in names [] = refl
positions_in names (j ∷ js) = ap (λ k. j ∷ k) (positions_in names js)

named_to : (names : List Chars) (js : List ℕ) (name : Chars) (j : ℕ) → Member (name, j) (map {B = Chars × ℕ} (λ j. (name_at names j, j)) js) → Member j js × (name ≡ name_at names j)
named_to names [] name j m = elim m [ ]
named_to names (k ∷ js) name j (inl e) =
    let f : j ≡ k = ap (λ s. s.1) e in
    (inl f, ap (λ s. s.0) e ∙ ap (name_at names) (sym f))
named_to names (k ∷ js) name j (inr m) = let t = named_to names js name j m in (inr t.0, t.1)

named_from : (names : List Chars) (js : List ℕ) (j : ℕ) → Member j js → Member (name_at names j, j) (map {B = Chars × ℕ} (λ j. (name_at names j, j)) js)
named_from names [] j m = elim m [ ]
named_from names (k ∷ js) j (inl e) = inl (ap (λ i. (name_at names i, i)) e)
named_from names (k ∷ js) j (inr m) = inr (named_from names js j m)

pub follows_of_step : (r : Re Chars) (i : ℕ) (name : Chars) (j : ℕ) → Contains (model_steps r i) (name, j) → Follows r i name j
follows_of_step r i name j c =
    let t = named_to (letters r) (positions_after r i) name j (to_member (model_steps r i) (name, j) c) in
    subst (λ (a : Chars). Follows r i a j) (sym t.1) (after_to r i j t.0)

pub step_of_follows : (r : Re Chars) (i : ℕ) (name : Chars) (j : ℕ) → Follows r i name j → Contains (model_steps r i) (name, j)
step_of_follows r i name j f =
    contains_of (model_steps r i) (name, j)
    (subst (λ (a : Chars). Member (a, j) (model_steps r i)) (name_of r i j name f)
    (named_from (letters r) (positions_after r i) j (after_from r i j name f)))

mixed_follows : (listed : List Chars) → IsFollows (Mixed listed) (length listed)
mixed_follows listed =
    let f : Chars → Chars × ℕ = λ name. (name, 0) in (
      map f listed ∷ [],
      refl,
      (λ i h. let z : i ≡ 0 = omega arith in ap (λ k. get_or (map f listed ∷ []) k []) z),
      omega (arith, length-map listed f, sum_by-cons length (map f listed) []),
    )

pub steps_are : (part : Particle) (i : ℕ) → IsSteps (Children part) i (model_steps (model part) i)
steps_are part i =
    let r = model part in (
      subst IsStrictlyIncreasing (sym (positions_in (letters r) (positions_after r i))) (after_rises r i),
      (λ name j. (follows_of_step r i name j, step_of_follows r i name j)),
    )

sum_is : (r : Re Chars) (is : List ℕ) → sum_by (λ i. length (positions_after r i)) is ≡ sum_by length (map (model_steps r) is)
sum_is r [] = refl
sum_is r (i ∷ is) =
    sum_by-cons (λ i. length (positions_after r i)) i is
    ∙ ap (λ n. n + sum_by (λ i. length (positions_after r i)) is) (sym (length-map (positions_after r i) (λ j. (name_at (letters r) j, j))))
    ∙ ap (λ n. length (model_steps r i) + n) (sum_is r is)
    ∙ sym (sum_by-cons length (model_steps r i) (map (model_steps r) is))

follows_are : (part : Particle) → IsFollows (Children part) (follows_in_model (model part))
follows_are part =
    let r = model part in (
      map (model_steps r) (states_of r),
      length-map-range_with_len (model_steps r) 0 (1 + count r),
      (λ i h. subst (IsSteps (Children part) i) (sym (get_or-map-range_with_len (model_steps r) 0 (1 + count r) i i [] h (omega arith))) (steps_are part i)),
      sum_is r (states_of r),
    )

ambiguous_is : (part : Particle) (c : ℕ × ℕ) (k : ℕ) → clash_of (model part) k ≡ Some c → ((i : ℕ) → i < k → clash_of (model part) i ≡ None)
    → IsAmbiguous (Children part) c.0 c.1
ambiguous_is part c k e none =
    let r = model part in
    let S = clash_at r k (Some c) e in
    let named : (j : ℕ) → Follows r k (name_at (letters r) c.0) j → name_at (letters r) c.0 ≡ name_at (letters r) j =
    λ j f. sym (name_of r k j (name_at (letters r) c.0) f) in
    record {
      state = k;
      name = name_at (letters r) c.0;
      first = after_to r k c.0 S.0;
      second = subst (λ (a : Chars). Follows r k a c.1) (sym S.3) (after_to r k c.1 S.1);
      apart = S.2;
      least_state = λ i x y a h f g. one_after r i x y a (none i h) f g;
      least_first = λ x y a f g ne. S.4 x y (after_from r k x a f) (after_from r k y a g) (same_name r k x y a f g) ne;
      least_second = λ y f ne. S.5 y (after_from r k y (name_at (letters r) c.0) f) (named y f) ne;
    }

verdict_is : (part : Particle) (o : Option (ℕ × ℕ)) → ClashFrom (model part) 0 (1 + count (model part)) o
    → Judges (Children part) (verdict (follows_in_model (model part)) o)
verdict_is part None none = (deterministic (model part) none, follows_are part)
verdict_is part (Some c) R = ambiguous_is part c R.0 R.2 (λ i h. R.3 i (omega arith) h)

-- each content has its judgement
pub judges : (content : Content) → Judges content (judged content)
unfolding judged
judges Empty = (tt, follows_none Empty (inl refl))
judges Any = (tt, follows_none Any (inr refl))
judges (Mixed listed) = (tt, mixed_follows listed)
judges (Children part) =
    verdict_is part (first_clash (model part) (states_of (model part))) (clash_from (model part) 0 (1 + count (model part)))

pub one_judgement : (content : Content) (answer : Result ℕ (ℕ × ℕ)) → Judges content answer → answer ≡ judged content
one_judgement content answer h = judges_one content answer (judged content) h (judges content)

-- the judgement of what is built
pub judged_built : (content automaton : Content) (n : ℕ) → Builds content (Ok automaton) → IsFollows content n → judged content ≡ Ok n
judged_built content automaton n b f = sym (one_judgement content (Ok n) (b.1, f))

-- the judgement of what is refused
pub judged_refused : (content : Content) (p q : ℕ) → Builds content (Err (Ambiguous p q)) → judged content ≡ Err (p, q)
judged_refused content p q b = sym (one_judgement content (Err (p, q)) b)
