-- The first position of a list that shares its name.
use Rattle.std.proofs.Common.{◌≡◌, ◌≤◌, ◌+◌, ℕ, List, [], ◌∷◌, Bool, true, false, cond, Option, Some, None, find, bytes_eq, inl, inr, refl, sym, ap, ◌∙◌, arith, true≢false}
use Rattle.std.specs.Bool.{Decides}
use Rattle.std.specs.Option.{option_map, option_or}
use Rattle.std.proofs.lemmas.Slice.Eq.{bytes_eq-Decides}
use Rattle.content_models.specs.Model.{Chars}
use Rattle.position_automata.specs.Judged.{name_at, shared}
use Rattle.position_automata.proofs.Rising.{Rises, at_or_above}
use Rattle.position_automata.proofs.Words.{Member}

-- the first position of the list with the name of p
abbrev Found : List Chars → ℕ → List ℕ → Option ℕ → Type 0
Found names p js None = (y : ℕ) → Member y js → name_at names p ≡ name_at names y → ⊥
Found names p js (Some q) = Member q js × (name_at names p ≡ name_at names q) × ((y : ℕ) → Member y js → name_at names p ≡ name_at names y → q ≤ y)

found_more : (names : List Chars) (p q b : ℕ) (js : List ℕ) (t : Bool) (o : Option ℕ) → Rises b (q ∷ js) → Decides t (name_at names p ≡ name_at names q)
    → Found names p js o → Found names p (q ∷ js) (cond t (Some q) o)
found_more names p q b js true o r d F = (
  inl refl,
  d.0 refl,
  (λ y m e. elim m [
    | inl f ↦ omega arith
    | inr n ↦ (let h : q + 1 ≤ y = at_or_above (q + 1) js r.1 y n in omega arith)
  ]),
)
found_more names p q b js false None r d F = λ y m e. elim m [
  | inl f ↦ absurd (true≢false (sym (d.1 (e ∙ ap (name_at names) f))))
  | inr n ↦ F y n e
]
found_more names p q b js false (Some z) r d F = (
  inr F.0,
  F.1,
  (λ y m e. elim m [
    | inl f ↦ absurd (true≢false (sym (d.1 (e ∙ ap (name_at names) f))))
    | inr n ↦ F.2 y n e
  ]),
)

found : (names : List Chars) (p b : ℕ) (js : List ℕ) → Rises b js → Found names p js (find (λ q. bytes_eq (name_at names p) (name_at names q)) js)
found names p b [] r = λ y m e. elim m [ ]
found names p b (q ∷ js) r =
    found_more names p q b js (bytes_eq (name_at names p) (name_at names q)) (find (λ q. bytes_eq (name_at names p) (name_at names q)) js) r
    (bytes_eq-Decides (name_at names p) (name_at names q)) (found names p (q + 1) js r.1)

-- the least position that shares its name, and the least other one of that name
abbrev pub Shares : List Chars → List ℕ → Option (ℕ × ℕ) → Type 0
Shares names js None = (x y : ℕ) → Member x js → Member y js → name_at names x ≡ name_at names y → x ≡ y
Shares names js (Some c) =
    Member c.0 js × Member c.1 js × (c.0 ≡ c.1 → ⊥) × (name_at names c.0 ≡ name_at names c.1)
    × ((x y : ℕ) → Member x js → Member y js → name_at names x ≡ name_at names y → (x ≡ y → ⊥) → c.0 ≤ x)
    × ((y : ℕ) → Member y js → name_at names c.0 ≡ name_at names y → (c.0 ≡ y → ⊥) → c.1 ≤ y)

shared_more : (names : List Chars) (p b : ℕ) (js : List ℕ) (f : Option ℕ) (o : Option (ℕ × ℕ)) → Rises b (p ∷ js) → Found names p js f → Shares names js o
    → Shares names (p ∷ js) (option_or (option_map {U = ℕ × ℕ} (λ q. (p, q)) f) o)
shared_more names p b js (Some q) o r F S = (
  inl refl,
  inr F.0,
  (λ e. let h : p + 1 ≤ q = at_or_above (p + 1) js r.1 q F.0 in omega arith),
  F.1,
  (λ x y m n e ne. at_or_above p (p ∷ js) (omega arith, r.1) x m),
  (λ y m e ne. elim m [ inl f ↦ absurd (ne (sym f)) | inr n ↦ F.2 y n e ]),
)
shared_more names p b js None None r F S = λ x y m n e. elim m [
  | inl f ↦ elim n [
    | inl g ↦ f ∙ sym g
    | inr k ↦ absurd (F y k (ap (name_at names) (sym f) ∙ e))
  ]
  | inr h ↦ elim n [
    | inl g ↦ absurd (F x h (ap (name_at names) (sym g) ∙ sym e))
    | inr k ↦ S x y h k e
  ]
]
shared_more names p b js None (Some c) r F S = (
  inr S.0,
  inr S.1,
  S.2,
  S.3,
  (λ x y m n e ne. elim m [
    | inl f ↦ elim n [
      | inl g ↦ absurd (ne (f ∙ sym g))
      | inr k ↦ absurd (F y k (ap (name_at names) (sym f) ∙ e))
    ]
    | inr h ↦ elim n [
      | inl g ↦ absurd (F x h (ap (name_at names) (sym g) ∙ sym e))
      | inr k ↦ S.4 x y h k e ne
    ]
  ]),
  (λ y m e ne. elim m [
    | inl f ↦ absurd (F c.0 S.0 (ap (name_at names) (sym f) ∙ sym e))
    | inr k ↦ S.5 y k e ne
  ]),
)

pub shares : (names : List Chars) (b : ℕ) (js : List ℕ) → Rises b js → Shares names js (shared names js)
shares names b [] r = λ x y m n e. elim m [ ]
shares names b (p ∷ js) r =
    shared_more names p b js (find (λ q. bytes_eq (name_at names p) (name_at names q)) js) (shared names js) r
    (found names p (p + 1) js r.1) (shares names (p + 1) js r.1)
