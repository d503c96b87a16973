-- A state of a copy accepts where what it stands for does.
use Rattle.std.proofs.Common.{◌≡◌, ℕ, ◌⊎◌, inl, inr, Bool, true, false, not, ◌&&◌, ◌||◌, Option, Some, None, refl, sym, ◌∙◌, subst, true≢false}
use Rattle.std.specs.Prelude.{◌↔◌}
use Rattle.std.proofs.lemmas.Bool.{and_parts, and_from, or_left, or_right, or_cases, not-true, both_ways}
use Rattle.content_models.specs.declared.content.Content.{Content}
use Rattle.content_models.specs.Model.{Chars}
use Rattle.position_automata.specs.Automata.{Accepts, states}
use Rattle.position_automata.specs.Stepping.{does_accept}
use Rattle.position_automata.proofs.Stepping.{accepts_by_test}
use Rattle.decl_set.specs.Declarations.{Declarations, content_in}
use Rattle.exact_tables.specs.Families.{IsListed}
use Rattle.exact_tables.specs.Comparing.{Copy, Ends, EndsAlone, IsOdd, accepts}
use Rattle.exact_tables.proofs.Closing.{start_listed}
use Rattle.comparison_tables.specs.declared.kinds.Kind.{Kind}
use Rattle.comparison_tables.specs.declared.kinds.Kind.TheVariants as kind
use Rattle.comparison_tables.specs.Sides.{Known}
use Rattle.comparison_tables.specs.Copies.{accepts_alone, kind_accepts}
use Rattle.comparison_tables.specs.Standing.{meaning}
use Rattle.comparison_tables.proofs.Kinded.{IsNumber}
use Rattle.comparison_tables.proofs.Knowing.{Knows, pair_listed}

module _ (first second : Declarations) (e : Chars) (k : Known) (K : Knows first second e k) where
  abbrev a : Content
  a = k.content

  ends_to : (i : ℕ) → does_accept a i ≡ true → Ends first second e i
  ends_to i h = (a, K.content, (accepts_by_test a i).0 h)

  ends_from : (i : ℕ) → Ends first second e i → does_accept a i ≡ true
  ends_from i h =
      let there : Some h.0 ≡ Some a = sym h.1 ∙ K.content in
      let same : h.0 ≡ a = cc in
      (accepts_by_test a i).1 (subst (λ (z : Content). Accepts z i) same h.2)

  alone_to : (i j : ℕ) (o : Option Content) → content_in second e ≡ o → ((b : Content) → o ≡ Some b → IsListed first a b i j) → accepts_alone a o i j ≡ true
      → EndsAlone first second e i j
  alone_to i j None q l h = absurd (true≢false (sym h))
  alone_to i j (Some b) q l h =
      let p = and_parts (does_accept a i) (not (does_accept b j)) h in
      (a, b, K.content, q, (accepts_by_test a i).0 p.0, (λ z. both_ways (does_accept b j) (not-true (does_accept b j) p.1) ((accepts_by_test b j).1 z)), l b refl)

  alone_from : (i j : ℕ) (o : Option Content) → content_in second e ≡ o → EndsAlone first second e i j → accepts_alone a o i j ≡ true
  alone_from i j None q h = absurd (let z : None ≡ Some h.1 = sym q ∙ h.3 in cc)
  alone_from i j (Some b) q h =
      let there : Some h.0 ≡ Some a = sym h.2 ∙ K.content in
      let same : h.0 ≡ a = cc in
      let other : Some h.1 ≡ Some b = sym h.3 ∙ q in
      let is : h.1 ≡ b = cc in
      and_from (does_accept a i) (not (does_accept b j))
      ((accepts_by_test a i).1 (subst (λ (z : Content). Accepts z i) same h.4))
      (off (does_accept b j) (λ t. h.5 (subst (λ (z : Content). Accepts z j) (sym is) ((accepts_by_test b j).0 t))))
    where
      off : (x : Bool) → (x ≡ true → ⊥) → not x ≡ true
      off true n = absurd (n refl)
      off false n = refl

  odd_to : k.odd ≡ true → IsOdd first second e
  odd_to h = sym K.odd ∙ h

  odd_from : IsOdd first second e → k.odd ≡ true
  odd_from h = K.odd ∙ h

  start_to : accepts_alone a k.other 0 0 || (k.odd && does_accept a 0) ≡ true → EndsAlone first second e 0 0 ⊎ IsOdd first second e × Ends first second e 0
  start_to h = elim (or_cases (accepts_alone a k.other 0 0) (k.odd && does_accept a 0) h) [
    | inl l ↦ inl (alone_to 0 0 k.other K.other (λ b q. start_listed first a b) l)
    | inr r ↦ (let p = and_parts k.odd (does_accept a 0) r in inr (odd_to p.0, ends_to 0 p.1))
  ]

  start_from : EndsAlone first second e 0 0 ⊎ IsOdd first second e × Ends first second e 0 → accepts_alone a k.other 0 0 || (k.odd && does_accept a 0) ≡ true
  start_from (inl h) = or_left (accepts_alone a k.other 0 0) (k.odd && does_accept a 0) (alone_from 0 0 k.other K.other h)
  start_from (inr h) = or_right (accepts_alone a k.other 0 0) (k.odd && does_accept a 0) (and_from k.odd (does_accept a 0) (odd_from h.0) (ends_from 0 h.1))

  pub kind_ends : (t : ℕ) (kd : Kind) → IsNumber (states a) k.pairs t kd → (kind_accepts k kd ≡ true) ↔ accepts first second (Copy e) (meaning (states a) kd)
  kind_ends t kind.Start n = (start_to, start_from)
  kind_ends t (kind.Go i) n = (ends_to i, ends_from i)
  kind_ends t (kind.Wrong i) n = ((λ h. absurd (true≢false (sym h))), (λ h. absurd h))
  kind_ends t (kind.Pair i j) n =
      (alone_to i j k.other K.other (pair_listed first a k.other k.pairs n.0 i j K.pairs n.1), alone_from i j k.other K.other)
  kind_ends t kind.Beyond n = ((λ h. absurd (true≢false (sym h))), (λ h. absurd h))
