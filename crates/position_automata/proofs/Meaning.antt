-- The rows of a model hold the states that follow.
use Rattle.std.proofs.Common.{◌≡◌, ◌<◌, ◌+◌, ℕ, zero, suc, List, [], ◌∷◌, ◌++◌, length, get_or, cond, inl, inr, refl, sym, ap, ◌∙◌, subst, arith, Contains, ◌↔◌}
use Rattle.std.proofs.lemmas.Bool.{cases_eq, eq-eqb, ne_eqb}
use Rattle.std.proofs.lemmas.List.{get_or_append_left, get_or-append-add, length-append}
use Rattle.content_models.specs.Re.{Re, Eps, Sym, Cat, Alt, Plus}
use Rattle.position_automata.specs.Marked.{count, numbered, end, IsMarked, Follows}
use Rattle.position_automata.specs.Owed.{SamePairs}
use Rattle.position_automata.specs.Places.{firsts, edges, beside, letters, pairs}
use Rattle.position_automata.specs.Rows.{targets}
use Rattle.position_automata.proofs.Words.{Member, Holds}
use Rattle.position_automata.proofs.Local.{holds-word}
use Rattle.position_automata.proofs.Exchange.{holds-range, snoc, end-snoc}
use Rattle.position_automata.proofs.Run.{follows_iff_step}
use Rattle.position_automata.proofs.Lists.{firsts-to, firsts-from, edges-to, edges-from, beside-to, beside-from, member-left, member-right, member-cases}
use Rattle.std.proofs.lemmas.List.{append_assoc}

pub member_of : {A : Type 0} (xs : List A) (x : A) (k : ℕ) → k < length xs → get_or xs k x ≡ x → Member x xs
member_of [] x k h e = absurd (omega arith)
member_of (y ∷ xs) x zero h e = inl (sym e)
member_of (y ∷ xs) x (suc k) h e = inr (member_of xs x k (omega arith) e)

pub to_member : {A : Type 0} (xs : List A) (x : A) → Contains xs x → Member x xs
to_member xs x c = member_of xs x c.0 c.1 c.2

pub contains_of : {A : Type 0} (xs : List A) (x : A) → Member x xs → Contains xs x
contains_of [] x m = elim m [ ]
contains_of (y ∷ xs) x (inl e) = (0, omega arith, sym e)
contains_of (y ∷ xs) x (inr m) = let t = contains_of xs x m in (suc t.0, omega (arith, t.1), t.2)

hit : (i : ℕ) (p : ℕ × ℕ) (ps : List (ℕ × ℕ)) → p.0 ≡ i → targets i (p ∷ ps) ≡ p.1 ∷ targets i ps
hit i p ps e = ap (λ b. cond b (p.1 ∷ targets i ps) (targets i ps)) (eq-eqb p.0 i e)

miss : (i : ℕ) (p : ℕ × ℕ) (ps : List (ℕ × ℕ)) → (p.0 ≡ i → ⊥) → targets i (p ∷ ps) ≡ targets i ps
miss i p ps e = ap (λ b. cond b (p.1 ∷ targets i ps) (targets i ps)) (ne_eqb p.0 i e)

targets-to : (i j : ℕ) (ps : List (ℕ × ℕ)) → Member j (targets i ps) → Member (i, j) ps
targets-to i j [] m = elim m [ ]
targets-to i j (p ∷ ps) m = elim (cases_eq p.0 i) [
  | inl e ↦ elim (subst (Member j) (hit i p ps e) m) [
    | inl f ↦ inl (ap (λ z. (z, j)) (sym e) ∙ ap (λ z. (p.0, z)) f)
    | inr n ↦ inr (targets-to i j ps n)
  ]
  | inr e ↦ inr (targets-to i j ps (subst (Member j) (miss i p ps e) m))
]

targets-from : (i j : ℕ) (ps : List (ℕ × ℕ)) → Member (i, j) ps → Member j (targets i ps)
targets-from i j [] m = elim m [ ]
targets-from i j (p ∷ ps) (inl f) =
    subst (Member j) (sym (hit i p ps (sym (ap (λ x. x.0) f)))) (inl (ap (λ x. x.1) f))
targets-from i j (p ∷ ps) (inr m) = elim (cases_eq p.0 i) [
  | inl e ↦ subst (Member j) (sym (hit i p ps e)) (inr (targets-from i j ps m))
  | inr e ↦ subst (Member j) (sym (miss i p ps e)) (targets-from i j ps m)
]

-- lists of the same pairs have the same rows
pub same_targets : (xs ys : List (ℕ × ℕ)) → SamePairs xs ys → (i j : ℕ) → Contains (targets i xs) j ↔ Contains (targets i ys) j
same_targets xs ys same i j = (move xs ys (λ p. (same p).0), move ys xs (λ p. (same p).1))
  where
    move : (xs ys : List (ℕ × ℕ)) → ((p : ℕ × ℕ) → Contains xs p → Contains ys p) → Contains (targets i xs) j → Contains (targets i ys) j
    move xs ys within c =
        let d = within (i, j) (contains_of xs (i, j) (targets-to i j xs (member_of (targets i xs) j c.0 c.1 c.2))) in
        contains_of (targets i ys) j (targets-from i j ys (member_of ys (i, j) d.0 d.1 d.2))

abbrev pub FollowsIt : {A : Type 0} → Re A → ℕ → ℕ → Type 0
FollowsIt {A} r i j = (a : A) × Follows r i a j

pub row_to : {A : Type 0} (r : Re A) (i j : ℕ) → Contains (targets i (pairs r)) j → FollowsIt r i j
row_to r i j c = elim (member-cases (i, j) (edges 1 r) (beside 0 (firsts 1 r)) (targets-to i j (pairs r) (member_of (targets i (pairs r)) j c.0 c.1 c.2))) [
  | inl m ↦ (let t = edges-to 1 r i j m in (t.1, (follows_iff_step r i j t.1).1 (inr (t.0, t.2))))
  | inr m ↦
      let b = beside-to 0 (firsts 1 r) i j m in
      let t = firsts-to 1 r j b.1 in
      (t.0, (follows_iff_step r i j t.0).1 (inl (b.0, t.1)))
]

pub row_from : {A : Type 0} (r : Re A) (i j : ℕ) (a : A) → Follows r i a j → Contains (targets i (pairs r)) j
row_from r i j a f = contains_of (targets i (pairs r)) j (targets-from i j (pairs r) (elim ((follows_iff_step r i j a).0 f) [
  | inl t ↦ member-right (i, j) (edges 1 r) (beside 0 (firsts 1 r))
      (subst (λ (z : ℕ). Member (z, j) (beside 0 (firsts 1 r))) (sym t.0) (beside-from 0 (firsts 1 r) j (firsts-from 1 r j a t.1)))
  | inr t ↦ member-left (i, j) (edges 1 r) (beside 0 (firsts 1 r)) (edges-from 1 r i j t.0 a t.1)
]))

pub length-letters : {A : Type 0} (r : Re A) → length (letters r) ≡ count r
length-letters Eps = refl
length-letters (Sym a) = refl
length-letters (Cat r s) = length-append (letters r) (letters s) ∙ ap (λ n. n + length (letters s)) (length-letters r) ∙ ap (λ n. count r + n) (length-letters s)
length-letters (Alt r s) = length-append (letters r) (letters s) ∙ ap (λ n. n + length (letters s)) (length-letters r) ∙ ap (λ n. count r + n) (length-letters s)
length-letters (Plus r) = length-letters r

-- the m-th name stands at the number k + m
abbrev pub StandsAt : {A : Type 0} → ℕ → List A → ℕ → A → Type 0
StandsAt k xs j a = (m : ℕ) × (j ≡ k + m) × (m < length xs) × (get_or xs m a ≡ a)

stands_left : {A : Type 0} (k : ℕ) (xs ys : List A) (j : ℕ) (a : A) → StandsAt k xs j a → StandsAt k (xs ++ ys) j a
stands_left k xs ys j a t = (t.0, t.1, omega (arith, t.2, length-append xs ys), get_or_append_left xs ys a t.0 t.2 ∙ t.3)

stands_right : {A : Type 0} (k n : ℕ) (xs ys : List A) (j : ℕ) (a : A) → length xs ≡ n → StandsAt (k + n) ys j a → StandsAt k (xs ++ ys) j a
stands_right k n xs ys j a e t =
    (length xs + t.0, omega (arith, t.1), omega (arith, t.2, length-append xs ys), get_or-append-add xs ys t.0 a ∙ t.3)

pub stands : {A : Type 0} (r : Re A) (k j : ℕ) (a : A) → Holds (numbered k r) (j, a) → StandsAt k (letters r) j a
stands Eps k j a h = elim h [ ]
stands (Sym b) k j a h = (0, (let e : j ≡ k = ap (λ x. x.0) h in omega arith), omega arith, sym (ap (λ x. x.1) h))
stands (Cat r s) k j a (inl h) = stands_left k (letters r) (letters s) j a (stands r k j a h)
stands (Cat r s) k j a (inr h) = stands_right k (count r) (letters r) (letters s) j a (length-letters r) (stands s (k + count r) j a h)
stands (Alt r s) k j a (inl h) = stands_left k (letters r) (letters s) j a (stands r k j a h)
stands (Alt r s) k j a (inr h) = stands_right k (count r) (letters r) (letters s) j a (length-letters r) (stands s (k + count r) j a h)
stands (Plus r) k j a h = stands r k j a h

-- a state that follows stands at a name
pub follows_at : {A : Type 0} (r : Re A) (i j : ℕ) (a : A) → Follows r i a j → StandsAt 1 (letters r) j a
follows_at r i j a f = stands r 1 j a (holds-word (numbered 1 r) (j, a) f.0 f.1 f.2)

-- a state from which one follows is a state of the model
pub follows_within : {A : Type 0} (r : Re A) (i j : ℕ) (a : A) → Follows r i a j → i < 1 + count r
follows_within {A} r i j a f = elim (snoc f.0) [
  | inl e ↦ (let z : i ≡ 0 = f.3 ∙ ap end e in omega arith)
  | inr t ↦
      let d : IsMarked r (t.0 ++ t.1 ∷ (j, a) ∷ f.1) = subst (IsMarked r) (ap (λ (k : List (ℕ × A)). k ++ (j, a) ∷ f.1) t.2 ∙ append_assoc t.0 (t.1 ∷ []) ((j, a) ∷ f.1)) f.2 in
      let z : i ≡ t.1.0 = f.3 ∙ ap end t.2 ∙ end-snoc t.0 t.1 in
      let b = holds-range r 1 t.1 (holds-word (numbered 1 r) t.1 t.0 ((j, a) ∷ f.1) d) in
      omega (arith, b.1)
]
