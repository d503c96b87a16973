-- What the rows tell of two contents.
use Rattle.std.proofs.Common.{◌≡◌, ◌<◌, List, [], ◌∷◌, ℕ, length, get_or, Bool, true, false, not, ◌&&◌, ◌||◌, Option, Some, None, is_none, inl, inr, refl, sym, ap, ◌∙◌, subst, arith, true≢false, replicate, Contains}
use Rattle.std.specs.Bool.{Decides}
use Rattle.std.specs.List.{list_any}
use Rattle.std.proofs.lemmas.Bool.{and_parts, and_from, or_left, or_right, not-true, cases_Bool, both_ways}
use Rattle.std.proofs.lemmas.List.{get_or_default, length-replicate}
use Rattle.content_models.specs.declared.content.Content.{Content}
use Rattle.content_models.specs.Model.{Chars}
use Rattle.position_automata.specs.Automata.{states, FollowsOn, IsDeterministic, Way}
use Rattle.position_automata.specs.Stepping.{does_accept}
use Rattle.position_automata.proofs.Running.{follows_to, start_within}
use Rattle.position_automata.proofs.States.{leads_by_ways}
use Rattle.position_automata.proofs.Stepping.{accepts_by_test}
use Rattle.model_inclusion.specs.Listed.{ArePairs}
use Rattle.model_inclusion.specs.Included.{Separates, TellEnds, Lacks, PartAt, lacking, do_part}
use Rattle.model_inclusion.specs.Reaching.{Member, noted}
use Rattle.model_inclusion.specs.Rows.{AreRows}
use Rattle.model_inclusion.proofs.Members.{to_member, contains_of}
use Rattle.model_inclusion.proofs.Noting.{noted_to, noted_from, blank}
use Rattle.model_inclusion.proofs.Numbers.{named, same_name, among_of, number_in, one_each}
use Rattle.model_inclusion.proofs.Separating.{separates_at_pairs}

pub part_alone : (b rest : Bool) → b ≡ true → true ≡ (b || rest)
part_alone true rest h = refl
part_alone false rest h = absurd (true≢false (sym h))

pub part_lacking : (b rest r : Bool) → b ≡ false → r ≡ rest → r ≡ (b || rest)
part_lacking true rest r h e = absurd (true≢false h)
part_lacking false rest r h e = e

pub part_rows : (firsts seconds : List (List (ℕ × ℕ))) (i j names : ℕ) (ends : List Bool) (a b : List (ℕ × ℕ)) (steps : List (Option ℕ)) → a ≡ get_or firsts i [] → b ≡ get_or seconds j []
    → steps ≡ replicate names None
    → list_any (lacking (noted b steps) ends) a ≡ list_any (lacking (noted (get_or seconds j []) (replicate names None)) ends) (get_or firsts i [])
part_rows firsts seconds i j names ends a b steps qa qb e =
    ap (λ z. list_any (lacking (noted b steps) ends) z) qa
    ∙ ap (λ z. list_any (lacking (noted z steps) ends) (get_or firsts i [])) qb
    ∙ ap (λ z. list_any (lacking (noted (get_or seconds j []) z) ends) (get_or firsts i [])) e

module _ (firsts seconds : List (List (ℕ × ℕ))) (pairs : List (ℕ × ℕ)) (k : ℕ) (l : k < length pairs)
    (h : (i j : ℕ) → Contains pairs (i, j) → (i < length firsts) × (j < length seconds)) where
  pair_at : Contains pairs (get_or pairs k (0, 0))
  pair_at = (k, l, get_or_default pairs k (get_or pairs k (0, 0)) (0, 0) l)

  pub pair_first : (get_or pairs k (0, 0)).0 < length firsts
  pair_first = (h (get_or pairs k (0, 0)).0 (get_or pairs k (0, 0)).1 pair_at).0

  pub pair_second : (get_or pairs k (0, 0)).1 < length seconds
  pair_second = (h (get_or pairs k (0, 0)).0 (get_or pairs k (0, 0)).1 pair_at).1

-- ---- listed pairs are states

way_within : (a : Content) (i k : ℕ) (names : List Chars) → i < states a → Way a i names k → k < states a
way_within a i k [] l w = subst (λ (z : ℕ). z < states a) w l
way_within a i k (name ∷ names) l w = way_within a w.0 k names (follows_to a i w.0 name w.1) w.2

pub pairs_states : (keys : List Chars) (a b : Content) (pairs : List (ℕ × ℕ)) → ArePairs keys a b pairs → (i j : ℕ) → Contains pairs (i, j) → (i < states a) × (j < states b)
pairs_states keys a b pairs h i j c =
    let l = (h.listed i j).0 c in (
      way_within a 0 i l.0 (start_within a) ((leads_by_ways a l.0 i).0 l.2),
      way_within b 0 j l.0 (start_within b) ((leads_by_ways b l.0 j).0 l.3),
    )

pub pairs_within : (keys : List Chars) (a b : Content) (firsts seconds fs ss : List (List (ℕ × ℕ))) (ps pairs : List (ℕ × ℕ)) → AreRows keys a firsts → AreRows keys b seconds → fs ≡ firsts
    → ss ≡ seconds → ps ≡ pairs → ArePairs keys a b pairs → (i j : ℕ) → Contains ps (i, j) → (i < length fs) × (j < length ss)
pairs_within keys a b firsts seconds fs ss ps pairs ra rb ef es ep h i j c =
    let s = pairs_states keys a b pairs h i j (subst (λ (z : List (ℕ × ℕ)). Contains z (i, j)) ep c) in
    (omega (arith, s.0, ra.count, ap length ef), omega (arith, s.1, rb.count, ap length es))

-- ---- the test at a pair

any_to : {A : Type 0} (p : A → Bool) (xs : List A) → list_any p xs ≡ true → (x : A) × Member x xs × (p x ≡ true)
any_to p [] h = absurd (true≢false (sym h))
any_to {A} p (x ∷ xs) h = elim (cases_Bool (p x)) [
  | inl e ↦ (x, inl refl, e)
  | inr e ↦ (let t = any_to p xs (sym (ap (λ b. b || list_any p xs) e) ∙ h) in (t.0, inr t.1, t.2))
]

any_from : {A : Type 0} (p : A → Bool) (xs : List A) (x : A) → Member x xs → p x ≡ true → list_any p xs ≡ true
any_from p [] x m h = elim m [ ]
any_from p (y ∷ xs) x (inl e) h = or_left (p y) (list_any p xs) (ap p (sym e) ∙ h)
any_from p (y ∷ xs) x (inr m) h = or_right (p y) (list_any p xs) (any_from p xs x m h)

module _ (keys : List Chars) (a b : Content) (firsts seconds : List (List (ℕ × ℕ))) (ends : List Bool) (ra : AreRows keys a firsts) (rb : AreRows keys b seconds)
    (db : IsDeterministic b) (te : TellEnds keys a ends) where
  module _ (i j : ℕ) (li : i < states a) (lj : j < states b) where
    abbrev row_a : List (ℕ × ℕ)
    row_a = get_or firsts i []

    abbrev row_b : List (ℕ × ℕ)
    row_b = get_or seconds j []

    abbrev steps : List (Option ℕ)
    steps = noted row_b (replicate (length keys) None)

    not_there : (n l : ℕ) → get_or steps n None ≡ None → n < length keys → Contains row_b (n, l) → ⊥
    not_there n l e h c =
        let at : get_or steps n None ≡ Some l =
        noted_from row_b (replicate (length keys) None) n l (omega (arith, h, length-replicate {A = Option ℕ} (length keys) None))
        (λ p m. one_each keys b j row_b db (rb.are j lj) n p l (contains_of row_b (n, p) m) c) (to_member row_b (n, l) c) in
        some_none l (sym at ∙ e)
      where
        some_none : (l : ℕ) → Some l ≡ None → ⊥
        some_none l q = cc

    nothing_noted : (n : ℕ) → ((l : ℕ) → Contains row_b (n, l) → ⊥) → is_none (get_or steps n None) ≡ true
    nothing_noted n h = by (get_or steps n None) refl
      where
        some_none : (l : ℕ) → Some l ≡ None → ⊥
        some_none l q = cc

        by : (o : Option ℕ) → get_or steps n None ≡ o → is_none o ≡ true
        by None q = refl
        by (Some l) q = elim (noted_to row_b (replicate (length keys) None) n l q) [
          | inl m ↦ absurd (h l (contains_of row_b (n, l) m))
          | inr k ↦ absurd (some_none l (sym k ∙ blank (replicate (length keys) None) (length keys) n refl))
        ]

    is_nothing : (o : Option ℕ) → is_none o ≡ true → o ≡ None
    is_nothing None h = refl
    is_nothing (Some l) h = absurd (true≢false (sym h))

    lacks_to : list_any (lacking steps ends) row_a ≡ true → Lacks keys a b i j
    lacks_to h =
        let t = any_to (lacking steps ends) row_a h in
        let s = t.0 in
        let p = and_parts (is_none (get_or steps s.0 None)) (get_or ends s.1 false) t.2 in
        let f = (ra.are i li s.0 s.1).0 (contains_of row_a s t.1) in
        let at = named keys f.0 s.0 f.1 in (
          f.0,
          s.1,
          among_of keys f.0 s.0 f.1,
          f.2,
          (λ l g. not_there s.0 l (is_nothing (get_or steps s.0 None) p.0) at.0 ((rb.are j lj s.0 l).1 (f.0, f.1, g))),
          (te s.1 (follows_to a i s.1 f.0 f.2)).0 p.1,
        )

    lacks_from : Lacks keys a b i j → list_any (lacking steps ends) row_a ≡ true
    lacks_from h =
        let n = number_in keys h.0 h.2 in
        let c = (ra.are i li n.0 h.1).1 (h.0, n.1, h.3) in
        let off : (l : ℕ) → Contains row_b (n.0, l) → ⊥ =
        λ l d. (let g = (rb.are j lj n.0 l).0 d in h.4 l (subst (λ (x : Chars). FollowsOn b j x l) (same_name keys g.0 h.0 n.0 g.1 n.1) g.2)) in
        any_from (lacking steps ends) row_a (n.0, h.1) (to_member row_a (n.0, h.1) c)
        (and_from (is_none (get_or steps n.0 None)) (get_or ends h.1 false) (nothing_noted n.0 off) ((te h.1 (follows_to a i h.1 h.0 h.3)).1 h.5))

    abbrev alone : Bool
    alone = does_accept a i && not (does_accept b j)

    part_to : do_part a b firsts seconds (length keys) ends (i, j) ≡ true → PartAt keys a b i j
    part_to h = elim (cases_Bool alone) [
      | inl e ↦
          let p = and_parts (does_accept a i) (not (does_accept b j)) e in
          inl ((accepts_by_test a i).0 p.0, (λ q. both_ways (does_accept b j) (not-true (does_accept b j) p.1) ((accepts_by_test b j).1 q)))
      | inr e ↦ inr (lacks_to (sym (ap (λ x. x || list_any (lacking steps ends) row_a) e) ∙ h))
    ]

    part_from : PartAt keys a b i j → do_part a b firsts seconds (length keys) ends (i, j) ≡ true
    part_from (inl h) =
        or_left alone (list_any (lacking steps ends) row_a)
        (and_from (does_accept a i) (not (does_accept b j)) ((accepts_by_test a i).1 h.0) (off (does_accept b j) (λ q. h.1 ((accepts_by_test b j).0 q))))
      where
        off : (x : Bool) → (x ≡ true → ⊥) → not x ≡ true
        off true n = absurd (n refl)
        off false n = refl
    part_from (inr h) = or_right alone (list_any (lacking steps ends) row_a) (lacks_from h)

  abbrev test : ℕ × ℕ → Bool
  test = do_part a b firsts seconds (length keys) ends

  pub told_apart : (pairs : List (ℕ × ℕ)) → ArePairs keys a b pairs → (names : ℕ) → names ≡ length keys → (r : Bool) → r ≡ list_any (do_part a b firsts seconds names ends) pairs
      → Decides r (Separates keys a b)
  told_apart pairs h names en r e = (
    (λ t.
        let x = any_to test pairs (sym same ∙ t) in
        let p = x.0 in
        let s = pairs_states keys a b pairs h p.0 p.1 (contains_of pairs p x.1) in
        (separates_at_pairs keys a b db).1 (p.0, p.1, (h.listed p.0 p.1).0 (contains_of pairs p x.1), part_to p.0 p.1 s.0 s.1 x.2)),
    (λ s.
        let f = (separates_at_pairs keys a b db).0 s in
        let c = (h.listed f.0 f.1).1 f.2 in
        let l = pairs_states keys a b pairs h f.0 f.1 c in
        same ∙ any_from test pairs (f.0, f.1) (to_member pairs (f.0, f.1) c) (part_from f.0 f.1 l.0 l.1 f.3)),
  )
    where
      same : r ≡ list_any test pairs
      same = e ∙ ap (λ n. list_any (do_part a b firsts seconds n ends) pairs) en

pub same_rows : (keys : List Chars) (a : Content) (rows lent : List (List (ℕ × ℕ))) → lent ≡ rows → AreRows keys a rows → AreRows keys a lent
same_rows keys a rows lent e r = subst (AreRows keys a) (sym e) r
