-- A list of names leads from state to state, and it is derived where it leads to one that accepts.
use Rattle.std.proofs.Common.{◌≡◌, List, [], ◌∷◌, ◌++◌, ℕ, ◌+◌, ◌≤◌, ◌<◌, ◌⊎◌, inl, inr, refl, sym, ap, ◌∙◌, subst, arith}
use Rattle.std.proofs.lemmas.List.{append_assoc}
use Rattle.content_models.specs.Re.{Re, Eps, Sym, Cat, Alt, Plus}
use Rattle.position_automata.proofs.Words.{Holds, Linear}
use Rattle.position_automata.specs.Marked.{count, numbered, end, IsMarked}
use Rattle.position_automata.proofs.Local.{local, holds-word}

pub holds-range : {A : Type 0} (r : Re A) (k : ℕ) (x : ℕ × A) → Holds (numbered k r) x → (k ≤ x.0) × (x.0 < k + count r)
holds-range Eps k x h = elim h [ ]
holds-range (Sym a) k x h = let e : x.0 ≡ k = ap (λ p. p.0) h in (omega arith, omega arith)
holds-range (Cat r s) k x (inl h) = let t = holds-range r k x h in (omega arith, omega arith)
holds-range (Cat r s) k x (inr h) = let t = holds-range s (k + count r) x h in (omega arith, omega arith)
holds-range (Alt r s) k x (inl h) = let t = holds-range r k x h in (omega arith, omega arith)
holds-range (Alt r s) k x (inr h) = let t = holds-range s (k + count r) x h in (omega arith, omega arith)
holds-range (Plus r) k x h = holds-range r k x h

apart : {A : Type 0} (r s : Re A) (k : ℕ) (x y : ℕ × A) → x.0 ≡ y.0 → Holds (numbered k r) x → Holds (numbered (k + count r) s) y → ⊥
apart r s k x y e h g =
    let t = holds-range r k x h in
    let q = holds-range s (k + count r) y g in
    omega arith

pub linear-numbered : {A : Type 0} (r : Re A) (k : ℕ) → Linear (numbered k r)
linear-numbered Eps k = tt
linear-numbered (Sym a) k = tt
linear-numbered (Cat r s) k = (linear-numbered r k, linear-numbered s (k + count r), λ x h g. apart r s k x x refl h g)
linear-numbered (Alt r s) k = (linear-numbered r k, linear-numbered s (k + count r), λ x h g. apart r s k x x refl h g)
linear-numbered (Plus r) k = linear-numbered r k

-- a number has one name
pub one-name : {A : Type 0} (r : Re A) (k : ℕ) (x y : ℕ × A) → x.0 ≡ y.0 → Holds (numbered k r) x → Holds (numbered k r) y → x ≡ y
one-name Eps k x y e h g = elim h [ ]
one-name (Sym a) k x y e h g = h ∙ sym g
one-name (Cat r s) k x y e (inl h) (inl g) = one-name r k x y e h g
one-name (Cat r s) k x y e (inl h) (inr g) = absurd (apart r s k x y e h g)
one-name (Cat r s) k x y e (inr h) (inl g) = absurd (apart r s k y x (sym e) g h)
one-name (Cat r s) k x y e (inr h) (inr g) = one-name s (k + count r) x y e h g
one-name (Alt r s) k x y e (inl h) (inl g) = one-name r k x y e h g
one-name (Alt r s) k x y e (inl h) (inr g) = absurd (apart r s k x y e h g)
one-name (Alt r s) k x y e (inr h) (inl g) = absurd (apart r s k y x (sym e) g h)
one-name (Alt r s) k x y e (inr h) (inr g) = one-name s (k + count r) x y e h g
one-name (Plus r) k x y e h g = one-name r k x y e h g

abbrev pub Snoc : {A : Type 0} → List A → Type 0
Snoc {A} u = (u ≡ []) ⊎ ((p : List A) × (x : A) × (u ≡ p ++ x ∷ []))

pub snoc : {A : Type 0} (u : List A) → Snoc u
snoc [] = inl refl
snoc (x ∷ u) = elim (snoc u) [
  | inl e ↦ inr ([], x, ap (λ k. x ∷ k) e)
  | inr t ↦ inr (x ∷ t.0, t.1, ap (λ k. x ∷ k) t.2)
]

pub end-snoc : {A : Type 0} (u : List (ℕ × A)) (x : ℕ × A) → end (u ++ x ∷ []) ≡ x.0
end-snoc [] x = refl
end-snoc (y ∷ []) x = refl
end-snoc (y ∷ z ∷ u) x = end-snoc (z ∷ u) x

pub positive : {A : Type 0} (r : Re A) (u v : List (ℕ × A)) (x : ℕ × A) → IsMarked r (u ++ x ∷ v) → 1 ≤ x.0
positive r u v x d = (holds-range r 1 x (holds-word (numbered 1 r) x u v d)).0

-- a beginning may be exchanged for one that ends with the same number
pub exchange : {A : Type 0} (r : Re A) (u v u' v' : List (ℕ × A)) → IsMarked r (u ++ v) → IsMarked r (u' ++ v') → end u ≡ end u' → IsMarked r (u ++ v')
exchange {A} r u v u' v' d d' e = elim (snoc u) [
  | inl f ↦ elim (snoc u') [
    | inl f' ↦ subst (λ k. IsMarked r (k ++ v')) (f' ∙ sym f) d'
    | inr t ↦ absurd (
        let h : 1 ≤ t.1.0 = positive r t.0 v' t.1 (subst (IsMarked r) (ap (λ k. k ++ v') t.2 ∙ append_assoc t.0 (t.1 ∷ []) v') d') in
        let k : t.1.0 ≡ 0 = sym (end-snoc t.0 t.1) ∙ sym (ap end t.2) ∙ sym e ∙ ap end f in
        omega arith)
  ]
  | inr q ↦ elim (snoc u') [
    | inl f' ↦ absurd (
        let h : 1 ≤ q.1.0 = positive r q.0 v q.1 (subst (IsMarked r) (ap (λ k. k ++ v) q.2 ∙ append_assoc q.0 (q.1 ∷ []) v) d) in
        let k : q.1.0 ≡ 0 = sym (end-snoc q.0 q.1) ∙ sym (ap end q.2) ∙ e ∙ ap end f' in
        omega arith)
    | inr t ↦
        let g : IsMarked r (q.0 ++ q.1 ∷ v) = subst (IsMarked r) (ap (λ k. k ++ v) q.2 ∙ append_assoc q.0 (q.1 ∷ []) v) d in
        let g' : IsMarked r (t.0 ++ t.1 ∷ v') = subst (IsMarked r) (ap (λ k. k ++ v') t.2 ∙ append_assoc t.0 (t.1 ∷ []) v') d' in
        let k : q.1.0 ≡ t.1.0 = sym (end-snoc q.0 q.1) ∙ sym (ap end q.2) ∙ e ∙ ap end t.2 ∙ end-snoc t.0 t.1 in
        let s : q.1 ≡ t.1 = one-name r 1 q.1 t.1 k (holds-word (numbered 1 r) q.1 q.0 v g) (holds-word (numbered 1 r) t.1 t.0 v' g') in
        let w : IsMarked r (q.0 ++ q.1 ∷ v') = local (numbered 1 r) (linear-numbered r 1) q.1 q.0 v t.0 v' g (subst (λ k. IsMarked r (t.0 ++ k ∷ v')) (sym s) g') in
        subst (IsMarked r) (sym (ap (λ k. k ++ v') q.2 ∙ append_assoc q.0 (q.1 ∷ []) v')) w
  ]
]
