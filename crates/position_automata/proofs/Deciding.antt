-- The rows of a model decide whether it is deterministic.
use Rattle.std.proofs.Common.{◌≡◌, ◌<◌, ◌+◌, ◌-◌, ℕ, zero, suc, List, [], ◌∷◌, length, get_or, map, Bool, true, cond, not, ◌||◌, inl, inr, sym, ap, ◌∙◌, subst, arith, bytes_eq, true≢false}
use Rattle.std.specs.List.{list_any, position_or_len}
use Rattle.std.specs.Cmp.Lexicographic.{nat_list_eq_equiv}
use Rattle.std.proofs.lemmas.Bool.{cases_Bool, cases_eq}
use Rattle.std.proofs.lemmas.Slice.Eq.{bytes_eq-Decides}
use Rattle.std.proofs.lemmas.Map.Views.{list_any-from_Contains}
use Rattle.content_models.specs.declared.content.Particle.{Particle}
use Rattle.content_models.specs.declared.content.Content.TheVariants.{Children}
use Rattle.content_models.specs.Model.{Chars, model}
use Rattle.content_models.specs.Re.{Re}
use Rattle.position_automata.specs.Automata.{IsAmbiguous}
use Rattle.position_automata.specs.Marked.{count, Deterministic, Follows}
use Rattle.position_automata.specs.Places.{letters, pairs}
use Rattle.position_automata.specs.Rows.{targets, numbers_of, number_at, Meets, Clash, IsLeastClash}
use Rattle.position_automata.proofs.Run.{deterministic_iff_one-step}
use Rattle.position_automata.proofs.Meaning.{row_to, row_from, StandsAt, follows_at, follows_within}

one_add : (n : ℕ) → 1 + n ≡ suc n
one_add n = omega arith

pos_hit : {X : Type 0} (p : X → Bool) (xs : List X) (d : X) → list_any p xs ≡ true → p (get_or xs (position_or_len p xs) d) ≡ true
pos_hit p [] d h = absurd (true≢false (sym h))
pos_hit p (x ∷ xs) d h = elim (cases_Bool (p x)) [
  | inl e ↦ subst (λ (n : ℕ). p (get_or (x ∷ xs) n d) ≡ true) (sym (ap (λ b. cond (not b) (1 + position_or_len p xs) 0) e)) e
  | inr e ↦
      let k : list_any p xs ≡ true = ap (λ b. b || list_any p xs) (sym e) ∙ h in
      let g : position_or_len p (x ∷ xs) ≡ suc (position_or_len p xs) = ap (λ b. cond (not b) (1 + position_or_len p xs) 0) e ∙ one_add (position_or_len p xs) in
      subst (λ (n : ℕ). p (get_or (x ∷ xs) n d) ≡ true) (sym g) (pos_hit p xs d k)
]

get_map : {X : Type 0} (f : X → ℕ) (xs : List X) (m : ℕ) (a : X) → m < length xs → get_or xs m a ≡ a → get_or (map f xs) m 0 ≡ f a
get_map f [] m a h e = absurd (omega arith)
get_map f (x ∷ xs) zero a h e = ap f e
get_map f (x ∷ xs) (suc m) a h e = get_map f xs m a (omega arith) e

module _ (r : Re Chars) (keys : List Chars) (named : (name : Chars) → list_any (bytes_eq name) keys ≡ list_any (bytes_eq name) (letters r)) where
  abbrev pub numbers : List ℕ
  numbers = numbers_of keys (letters r)

  pub number_is : (j : ℕ) (a : Chars) → StandsAt 1 (letters r) j a → number_at numbers j ≡ position_or_len (bytes_eq a) keys
  number_is j a t =
      let e : j - 1 ≡ t.0 = omega (arith, t.1) in
      ap (λ n. get_or numbers n 0) e ∙ get_map (λ (n : Chars). position_or_len (bytes_eq n) keys) (letters r) t.0 a t.2 t.3

  pub is_key : (j : ℕ) (a : Chars) → StandsAt 1 (letters r) j a → a ≡ get_or keys (position_or_len (bytes_eq a) keys) []
  is_key j a t =
      let k : list_any (bytes_eq a) keys ≡ true = named a ∙ list_any-from_Contains nat_list_eq_equiv a (letters r) (t.0, t.2, t.3) in
      (bytes_eq-Decides a (get_or keys (position_or_len (bytes_eq a) keys) [])).0 (pos_hit (bytes_eq a) keys [] k)

  pub one_name : (j k : ℕ) (a b : Chars) → StandsAt 1 (letters r) j a → StandsAt 1 (letters r) k b → number_at numbers j ≡ number_at numbers k → a ≡ b
  one_name j k a b s t e =
      let f : position_or_len (bytes_eq a) keys ≡ position_or_len (bytes_eq b) keys = sym (number_is j a s) ∙ e ∙ number_is k b t in
      is_key j a s ∙ ap (λ n. get_or keys n []) f ∙ sym (is_key k b t)

  pub one_number : (j k : ℕ) (a : Chars) → StandsAt 1 (letters r) j a → StandsAt 1 (letters r) k a → number_at numbers j ≡ number_at numbers k
  one_number j k a s t = number_is j a s ∙ sym (number_is k a t)

  clash_of : (i p q : ℕ) (a : Chars) → Follows r i a p → Follows r i a q → (p ≡ q → ⊥) → Clash numbers (targets i (pairs r)) p q
  clash_of i p q a f g ne = (row_from r i p a f, (row_from r i q a g, ne, one_number p q a (follows_at r i p a f) (follows_at r i q a g)))

  meets_of : (i p q : ℕ) (a : Chars) → Follows r i a p → Follows r i a q → (p ≡ q → ⊥) → Meets numbers (targets i (pairs r)) p q
  meets_of i p q a f g ne = (clash_of i p q a f g ne).1

  same_of : (i : ℕ) → ((p q : ℕ) → Clash numbers (targets i (pairs r)) p q → ⊥) → (p q : ℕ) (a : Chars) → Follows r i a p → Follows r i a q → p ≡ q
  same_of i none p q a f g = elim (cases_eq p q) [ inl e ↦ e | inr ne ↦ absurd (none p q (clash_of i p q a f g ne)) ]

  -- where no row has a clash the model is deterministic
  pub deterministic_of : ((i p q : ℕ) → i < 1 + count r → Clash numbers (targets i (pairs r)) p q → ⊥) → Deterministic r
  deterministic_of none = (deterministic_iff_one-step r).1 (λ i j k a f g. same_of i (λ p q. none i p q (follows_within r i j a f)) j k a f g)

-- the clash of the first row that has one
pub ambiguous_of : (part : Particle) (keys : List Chars) (named : (name : Chars) → list_any (bytes_eq name) keys ≡ list_any (bytes_eq name) (letters (model part)))
    (i p q : ℕ) → ((k x y : ℕ) → k < i → Clash (numbers_of keys (letters (model part))) (targets k (pairs (model part))) x y → ⊥)
    → IsLeastClash (numbers_of keys (letters (model part))) (targets i (pairs (model part))) p q → IsAmbiguous (Children part) p q
ambiguous_of part keys named i p q before l =
    let r = model part in
    let c = l.clash in
    let a = row_to r i p c.0 in
    let b = row_to r i q c.1.0 in
    let e : b.0 ≡ a.0 = one_name r keys named q p b.0 a.0 (follows_at r i q b.0 b.1) (follows_at r i p a.0 a.1) (sym c.1.2) in
    record {
      state = i;
      name = a.0;
      first = a.1;
      second = subst (λ (n : Chars). Follows r i n q) e b.1;
      apart = c.1.1;
      least_state = λ k x y n h f g. same_of r keys named k (λ u v. before k u v h) x y n f g;
      least_first = λ x y n f g ne. l.first x y (clash_of r keys named i x y n f g ne);
      least_second = λ y f ne. l.second y (meets_of r keys named i p y a.0 a.1 f ne);
    }
