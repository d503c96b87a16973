-- A list of names leads from state to state, and it is derived where it leads to one that accepts.
use Rattle.std.proofs.Common.{◌≡◌, List, [], ◌∷◌, ◌++◌, ℕ, zero, suc, ◌+◌, map, ◌⊎◌, inl, inr, refl, sym, ap, ◌∙◌, subst, ◌↔◌}
use Rattle.std.proofs.lemmas.List.{append_assoc, append-nil, map-append}
use Rattle.content_models.specs.Re.{Re, Eps, Sym, Cat, Alt, Plus, Times, Generates}
use Rattle.position_automata.specs.Marked.{count, numbered, names, end, IsMarked, Deterministic, LeadsTo, Follows, AcceptsAt, Path}
use Rattle.position_automata.specs.Ends.{MayBeEmpty, FirstOf, LastOf, NextOf}
use Rattle.position_automata.proofs.Letters.{word, empty, empty_of, first, first_of, last, last_of, next, next_of}
use Rattle.position_automata.proofs.Exchange.{exchange, end-snoc, snoc}

times-names : {A B : Type 0} (f : A → B) (P : List A → Type 0) (Q : List B → Type 0)
    → ((u : List A) → P u → Q (map f u)) → (n : ℕ) (u : List A) → Times P n u → Times Q n (map f u)
times-names f P Q h zero u d = h u d
times-names f P Q h (suc n) u d =
    (map f d.0, map f d.1, ap (map f) d.2 ∙ map-append f d.0 d.1, h d.0 d.3, times-names f P Q h n d.1 d.4)

-- a marked word without its numbers is derived
pub generates-names : {A : Type 0} (r : Re A) (k : ℕ) (m : List (ℕ × A)) → Generates (numbered k r) m → Generates r (names m)
generates-names Eps k m d = ap names d
generates-names (Sym a) k m d = ap names d
generates-names (Cat r s) k m d = (
  names d.0,
  names d.1,
  ap names d.2 ∙ map-append (λ p. p.1) d.0 d.1,
  generates-names r k d.0 d.3,
  generates-names s (k + count r) d.1 d.4,
)
generates-names (Alt r s) k m (inl d) = inl (generates-names r k m d)
generates-names (Alt r s) k m (inr d) = inr (generates-names s (k + count r) m d)
generates-names (Plus r) k m d =
    (d.0, times-names (λ p. p.1) (Generates (numbered k r)) (Generates r) (generates-names r k) d.0 m d.1)

abbrev Lifts : {A B : Type 0} → (A → B) → (List A → Type 0) → List B → Type 0
Lifts {A} f P w = (m : List A) × P m × (map f m ≡ w)

lift-pair : {A B : Type 0} (f : A → B) (m p : List A) (w u v : List B) → map f m ≡ u → map f p ≡ v → w ≡ u ++ v → map f (m ++ p) ≡ w
lift-pair f m p w u v e g h = map-append f m p ∙ ap (λ k. k ++ map f p) e ∙ ap (λ k. u ++ k) g ∙ sym h

times-lift : {A B : Type 0} (f : A → B) (P : List A → Type 0) (Q : List B → Type 0)
    → ((w : List B) → Q w → Lifts f P w) → (n : ℕ) (w : List B) → Times Q n w → Lifts f (Times P n) w
times-lift f P Q h zero w d = h w d
times-lift f P Q h (suc n) w d =
    let a = h d.0 d.3 in
    let b = times-lift f P Q h n d.1 d.4 in
    (a.0 ++ b.0, (a.0, b.0, refl, a.1, b.1), lift-pair f a.0 b.0 w d.0 d.1 a.2 b.2 d.2)

-- a derived list is a marked word without its numbers
pub marked-word : {A : Type 0} (r : Re A) (k : ℕ) (w : List A) → Generates r w → Lifts (λ (p : ℕ × A). p.1) (Generates (numbered k r)) w
marked-word Eps k w d = ([], refl, sym d)
marked-word (Sym a) k w d = ((k, a) ∷ [], refl, sym d)
marked-word (Cat r s) k w d =
    let a = marked-word r k d.0 d.3 in
    let b = marked-word s (k + count r) d.1 d.4 in
    (a.0 ++ b.0, (a.0, b.0, refl, a.1, b.1), lift-pair (λ p. p.1) a.0 b.0 w d.0 d.1 a.2 b.2 d.2)
marked-word (Alt r s) k w (inl d) = let a = marked-word r k w d in (a.0, inl a.1, a.2)
marked-word (Alt r s) k w (inr d) = let a = marked-word s (k + count r) w d in (a.0, inr a.1, a.2)
marked-word (Plus r) k w d =
    let a = times-lift (λ p. p.1) (Generates (numbered k r)) (Generates r) (marked-word r k) d.0 w d.1 in
    (a.0, (d.0, a.1), a.2)

-- one more name
pub leads-more : {A : Type 0} (r : Re A) (w : List A) (i j : ℕ) (a : A) → LeadsTo r w i → Follows r i a j → LeadsTo r (w ++ a ∷ []) j
leads-more r w i j a l f =
    let d : IsMarked r (l.0 ++ (j, a) ∷ f.1) = exchange r l.0 l.1 f.0 ((j, a) ∷ f.1) l.2 f.2 (sym l.4 ∙ f.3) in (
      l.0 ++ (j, a) ∷ [],
      f.1,
      subst (IsMarked r) (sym (append_assoc l.0 ((j, a) ∷ []) f.1)) d,
      ap (λ k. k ++ a ∷ []) l.3 ∙ sym (map-append (λ p. p.1) l.0 ((j, a) ∷ [])),
      sym (end-snoc l.0 (j, a)),
    )

leads-path : {A : Type 0} (r : Re A) (w p : List A) (i j : ℕ) → LeadsTo r p i → Path r i w j → LeadsTo r (p ++ w) j
leads-path r [] p i j l t = subst (λ k. LeadsTo r k j) (sym (append-nil p)) (subst (LeadsTo r p) t l)
leads-path r (a ∷ w) p i j l t =
    let q = leads-path r w (p ++ a ∷ []) t.0 j (leads-more r p i t.0 a l t.1) t.2 in
    subst (λ k. LeadsTo r k j) (append_assoc p (a ∷ []) w) q

path-word : {A : Type 0} (r : Re A) (v u z : List (ℕ × A)) → IsMarked r (u ++ (v ++ z)) → Path r (end u) (names v) (end (u ++ v))
path-word r [] u z d = ap end (sym (append-nil u))
path-word r (x ∷ v) u z d =
    let e : u ++ x ∷ (v ++ z) ≡ (u ++ x ∷ []) ++ (v ++ z) = sym (append_assoc u (x ∷ []) (v ++ z)) in
    let t = path-word r v (u ++ x ∷ []) z (subst (IsMarked r) e d) in (
      x.0,
      (u, v ++ z, d, refl),
      subst (λ k. Path r x.0 (names v) (end k)) (append_assoc u (x ∷ []) v)
          (subst (λ k. Path r k (names v) (end ((u ++ x ∷ []) ++ v))) (end-snoc u x) t),
    )

-- a list of names leads to i exactly where a path along it ends there
pub leads_iff_path : {A : Type 0} (r : Re A) (w : List A) (i : ℕ) → LeadsTo r w i ↔ Path r 0 w i
leads_iff_path r w i = (
  (λ l. subst (λ k. Path r 0 k i) (sym l.3) (subst (Path r 0 (names l.0)) (sym l.4) (path-word r l.0 [] l.1 l.2))),
  (λ t. leads-path r w [] 0 i ([], (word (numbered 1 r)).0, (word (numbered 1 r)).1, refl, refl) t),
)

-- a list is derived exactly where a path along it ends in a state that accepts
abbrev pub Runs : {A : Type 0} → Re A → List A → Type 0
Runs r w = (i : ℕ) × Path r 0 w i × AcceptsAt r i

pub generates_iff_runs : {A : Type 0} (r : Re A) (w : List A) → Generates r w ↔ Runs r w
generates_iff_runs r w = (
  (λ d.
      let m = marked-word r 1 w d in
      (end m.0, (leads_iff_path r w (end m.0)).0 (m.0, [], subst (IsMarked r) (sym (append-nil m.0)) m.1, sym m.2, refl), (m.0, m.1, refl))),
  (λ t.
      let l = (leads_iff_path r w t.0).1 t.1 in
      let d = exchange r l.0 l.1 t.2.0 [] l.2 (subst (IsMarked r) (sym (append-nil t.2.0)) t.2.1) (sym l.4 ∙ t.2.2) in
      subst (Generates r) (sym l.3) (generates-names r 1 l.0 (subst (IsMarked r) (append-nil l.0) d))),
)

-- a model is deterministic exactly where one name leads from a state to one state
abbrev pub OneStep : {A : Type 0} → Re A → Type 0
OneStep {A} r = (i j k : ℕ) (a : A) → Follows r i a j → Follows r i a k → j ≡ k

pub deterministic_iff_one-step : {A : Type 0} (r : Re A) → Deterministic r ↔ OneStep r
deterministic_iff_one-step r = (
  (λ h i j k a f g.
      h f.0 f.1 g.1 j k a f.2 (exchange r f.0 ((j, a) ∷ f.1) g.0 ((k, a) ∷ g.1) f.2 g.2 (sym f.3 ∙ g.3))),
  (λ h u v w i j a d e. h (end u) i j a (u, v, d, refl) (u, w, e, refl)),
)

pub one-path : {A : Type 0} (r : Re A) → OneStep r → (w : List A) (i j k : ℕ) → Path r i w j → Path r i w k → j ≡ k
one-path r h [] i j k t s = sym t ∙ s
one-path r h (a ∷ w) i j k t s =
    one-path r h w t.0 j k t.2 (subst (λ q. Path r q w k) (h i s.0 t.0 a s.1 t.1) s.2)

-- the steps are the first and next letters
abbrev pub StepOf : {A : Type 0} → Re A → ℕ → A → ℕ → Type 0
StepOf {A} r i a j = ((i ≡ 0) × FirstOf (numbered 1 r) (j, a)) ⊎ ((b : A) × NextOf (numbered 1 r) (i, b) (j, a))

pub follows_iff_step : {A : Type 0} (r : Re A) (i j : ℕ) (a : A) → Follows r i a j ↔ StepOf r i a j
follows_iff_step {A} r i j a = (to, from)
  where
    to : Follows r i a j → StepOf r i a j
    to f = elim (snoc f.0) [
      | inl e ↦ inl (f.3 ∙ ap end e, first_of (numbered 1 r) (j, a) f.1 (subst (λ k. IsMarked r (k ++ (j, a) ∷ f.1)) e f.2))
      | inr t ↦ inr (
        t.1.1,
        let d : IsMarked r (t.0 ++ t.1 ∷ (j, a) ∷ f.1) = subst (IsMarked r) (ap (λ k. k ++ (j, a) ∷ f.1) t.2 ∙ append_assoc t.0 (t.1 ∷ []) ((j, a) ∷ f.1)) f.2 in
            let e : t.1.0 ≡ i = sym (end-snoc t.0 t.1) ∙ sym (ap end t.2) ∙ sym f.3 in
            subst (λ k. NextOf (numbered 1 r) (k, t.1.1) (j, a)) e (next_of (numbered 1 r) t.1 (j, a) t.0 f.1 d),
      )
    ]

    from : StepOf r i a j → Follows r i a j
    from (inl t) = let f = first (numbered 1 r) (j, a) t.1 in ([], f.0, f.1, t.0)
    from (inr t) =
        let f = next (numbered 1 r) (i, t.0) (j, a) t.1 in
        (f.0 ++ (i, t.0) ∷ [], f.1, subst (IsMarked r) (sym (append_assoc f.0 ((i, t.0) ∷ []) ((j, a) ∷ f.1))) f.2, sym (end-snoc f.0 (i, t.0)))

abbrev pub EndsAt : {A : Type 0} → Re A → ℕ → Type 0
EndsAt {A} r i = ((i ≡ 0) × MayBeEmpty (numbered 1 r)) ⊎ ((b : A) × LastOf (numbered 1 r) (i, b))

pub accepts_iff_ends : {A : Type 0} (r : Re A) (i : ℕ) → AcceptsAt r i ↔ EndsAt r i
accepts_iff_ends {A} r i = (to, from)
  where
    to : AcceptsAt r i → EndsAt r i
    to f = elim (snoc f.0) [
      | inl e ↦ inl (f.2 ∙ ap end e, empty_of (numbered 1 r) (subst (IsMarked r) e f.1))
      | inr t ↦ inr (
        t.1.1,
        subst (λ k. LastOf (numbered 1 r) (k, t.1.1)) (sym (end-snoc t.0 t.1) ∙ sym (ap end t.2) ∙ sym f.2)
            (last_of (numbered 1 r) t.1 t.0 (subst (IsMarked r) t.2 f.1)),
      )
    ]

    from : EndsAt r i → AcceptsAt r i
    from (inl t) = ([], empty (numbered 1 r) t.1, t.0)
    from (inr t) = let f = last (numbered 1 r) (i, t.0) t.1 in (f.0 ++ (i, t.0) ∷ [], f.1, sym (end-snoc f.0 (i, t.0)))
