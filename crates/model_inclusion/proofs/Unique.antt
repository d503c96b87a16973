-- Ascending lists of the same pairs are one list.
use Rattle.std.proofs.Common.{◌≡◌, List, [], ◌∷◌, ℕ, inl, inr, refl, sym, ap, ◌∙◌, subst, arith}
use Rattle.std.specs.List.{AllByRecursion}
use Rattle.model_inclusion.specs.Listed.{Precedes, IsAscending}
use Rattle.model_inclusion.specs.Laws.{OneList}
use Rattle.model_inclusion.specs.Reaching.{Member}
use Rattle.model_inclusion.proofs.Members.{to_member, contains_of, member_all}

not_both : (p q : ℕ × ℕ) → Precedes p q → Precedes q p → ⊥
not_both p q (inl h) (inl k) = omega (arith, h, k)
not_both p q (inl h) (inr k) = omega (arith, h, k.0)
not_both p q (inr h) (inl k) = omega (arith, h.0, k)
not_both p q (inr h) (inr k) = omega (arith, h.1, k.1)

behind : (p : ℕ × ℕ) (ps : List (ℕ × ℕ)) → AllByRecursion (Precedes p) ps → (q : ℕ × ℕ) → Member q ps → Precedes p q
behind p ps h q m = member_all (Precedes p) ps h q m

first_same : (p q : ℕ × ℕ) (ps qs : List (ℕ × ℕ)) → IsAscending (p ∷ ps) → IsAscending (q ∷ qs) → Member p (q ∷ qs) → Member q (p ∷ ps) → p ≡ q
first_same p q ps qs a b (inl e) n = e
first_same p q ps qs a b (inr m) (inl f) = sym f
first_same p q ps qs a b (inr m) (inr n) = absurd (not_both p q (behind p ps a.0 q n) (behind q qs b.0 p m))

later_in : (p q r : ℕ × ℕ) (ps qs : List (ℕ × ℕ)) → p ≡ q → AllByRecursion (Precedes p) ps → Member r ps → Member r (q ∷ qs) → Member r qs
later_in p q r ps qs e a m (inl f) =
    let h : Precedes p r = behind p ps a r m in
    let same : r ≡ p = f ∙ sym e in
    let P : ℕ × ℕ → Type 0 = λ z. Precedes p z in
    let k : Precedes p p = subst P same h in
    absurd (not_both p p k k)
later_in p q r ps qs e a m (inr n) = n

pub same_pairs : (ps qs : List (ℕ × ℕ)) → IsAscending ps → IsAscending qs → ((p : ℕ × ℕ) → Member p ps → Member p qs) → ((p : ℕ × ℕ) → Member p qs → Member p ps) → ps ≡ qs
same_pairs [] [] a b to from = refl
same_pairs [] (q ∷ qs) a b to from = elim (from q (inl refl)) [ ]
same_pairs (p ∷ ps) [] a b to from = elim (to p (inl refl)) [ ]
same_pairs (p ∷ ps) (q ∷ qs) a b to from =
    let e : p ≡ q = first_same p q ps qs a b (to p (inl refl)) (from q (inl refl)) in
    let same : ps ≡ qs = same_pairs ps qs a.1 b.1
    (λ r m. later_in p q r ps qs e a.0 m (to r (inr m)))
    (λ r m. later_in q p r qs ps (sym e) b.0 m (from r (inr m))) in
    ap (λ (z : ℕ × ℕ). z ∷ ps) e ∙ ap (λ (z : List (ℕ × ℕ)). q ∷ z) same

pub one_list : OneList
one_list live a b ps qs p q =
    same_pairs ps qs p.ascending q.ascending
    (λ r m. to_member qs r ((q.listed r.0 r.1).1 ((p.listed r.0 r.1).0 (contains_of ps r m))))
    (λ r m. to_member ps r ((p.listed r.0 r.1).1 ((q.listed r.0 r.1).0 (contains_of qs r m))))
