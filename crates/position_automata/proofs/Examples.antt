-- Examples of the definitions.
use Rattle.std.proofs.Common.{◌≡◌, ◌≤◌, ◌+◌, ℕ, zero, suc, [], ◌∷◌, get_or, Some, None, false, inl, inr, refl, sym, ap, ◌∙◌, subst, arith}
use Rattle.content_models.specs.declared.content.Occurs.TheVariants.{Once}
use Rattle.content_models.specs.declared.content.Particle.{Particle}
use Rattle.content_models.specs.declared.content.Particle.TheVariants.{One, Seq, Choice}
use Rattle.content_models.specs.declared.content.Content.TheVariants.{Empty, Any, Mixed, Children}
use Rattle.content_models.specs.Model.{Chars, model}
use Rattle.content_models.specs.Re.{Re, Eps, Sym, Cat, Alt}
use Rattle.content_models.proofs.Layers.{model-One, model-Seq, model-Choice}
use Rattle.position_automata.specs.Automata.{states, FollowsOn, Accepts, IsDeterministic, IsAmbiguous}
use Rattle.position_automata.specs.Marked.{count, IsMarked, Follows, AcceptsAt}
use Rattle.position_automata.specs.Places.{letters, nullable}
use Rattle.position_automata.specs.Stepping.{does_accept, model_steps, steps_of, step_on}
use Rattle.position_automata.proofs.Meaning.{StandsAt, follows_at}

abbrev a : Chars
a = 97 ∷ []

abbrev b : Chars
b = 98 ∷ []

abbrev c : Chars
c = 99 ∷ []

one_state : states (Mixed (a ∷ b ∷ [])) ≡ 1
one_state = refl

-- (a,(b|c))
abbrev one_of_two : Particle
one_of_two = Seq (One a Once ∷ Choice (One b Once ∷ One c Once ∷ []) Once ∷ []) Once

abbrev one_of_two_model : Re Chars
one_of_two_model = Cat (Cat Eps (Sym a)) (Alt (Sym b) (Sym c))

one_of_two_is : model one_of_two ≡ one_of_two_model
one_of_two_is =
    model-Seq (One a Once ∷ Choice (One b Once ∷ One c Once ∷ []) Once ∷ []) Once
    ∙ ap (λ x. Cat (Cat Eps x) (model (Choice (One b Once ∷ One c Once ∷ []) Once))) (model-One a Once)
    ∙ ap (λ x. Cat (Cat Eps (Sym a)) x) (model-Choice (One b Once ∷ One c Once ∷ []) Once)
    ∙ ap (λ x. Cat (Cat Eps (Sym a)) (Alt x (model (One c Once)))) (model-One b Once)
    ∙ ap (λ x. Cat (Cat Eps (Sym a)) (Alt (Sym b) x)) (model-One c Once)

four_states : states (Children one_of_two) ≡ 4
four_states = ap (λ r. 1 + count r) one_of_two_is

marked : IsMarked one_of_two_model ((1, a) ∷ (2, b) ∷ [])
marked = ((1, a) ∷ [], (2, b) ∷ [], refl, ([], (1, a) ∷ [], refl, refl, refl), inl refl)

-- b follows a
follows_on : FollowsOn (Children one_of_two) 1 b 2
follows_on = subst (λ (r : Re Chars). Follows r 1 b 2) (sym one_of_two_is) ((1, a) ∷ [], [], marked, refl)

-- and a list may end with it
accepts : Accepts (Children one_of_two) 2
accepts = subst (λ (r : Re Chars). AcceptsAt r 2) (sym one_of_two_is) ((1, a) ∷ (2, b) ∷ [], marked, refl)

-- after a come b and c, by position
two_steps : steps_of (Children one_of_two) 1 ≡ (b, 2) ∷ (c, 3) ∷ []
two_steps = ap (λ r. model_steps r 1) one_of_two_is

mixed_steps : steps_of (Mixed (b ∷ a ∷ [])) 0 ≡ (b, 0) ∷ (a, 0) ∷ []
mixed_steps = refl

mixed_step : step_on (Mixed (b ∷ a ∷ [])) 0 c ≡ None
mixed_step = refl

any_step : step_on Any 0 c ≡ Some 0
any_step = refl

empty_step : step_on Empty 0 c ≡ None
empty_step = refl

not_at_once : does_accept (Children one_of_two) 0 ≡ false
not_at_once = ap (λ r. nullable r) one_of_two_is

-- ((a,b)|(a,c))
abbrev two_ways : Particle
two_ways = Choice (Seq (One a Once ∷ One b Once ∷ []) Once ∷ Seq (One a Once ∷ One c Once ∷ []) Once ∷ []) Once

abbrev two_ways_model : Re Chars
two_ways_model = Alt (Cat (Cat Eps (Sym a)) (Sym b)) (Cat (Cat Eps (Sym a)) (Sym c))

pair_is : (x y : Chars) → model (Seq (One x Once ∷ One y Once ∷ []) Once) ≡ Cat (Cat Eps (Sym x)) (Sym y)
pair_is x y =
    model-Seq (One x Once ∷ One y Once ∷ []) Once
    ∙ ap (λ z. Cat (Cat Eps z) (model (One y Once))) (model-One x Once)
    ∙ ap (λ z. Cat (Cat Eps (Sym x)) z) (model-One y Once)

two_ways_is : model two_ways ≡ two_ways_model
two_ways_is =
    model-Choice (Seq (One a Once ∷ One b Once ∷ []) Once ∷ Seq (One a Once ∷ One c Once ∷ []) Once ∷ []) Once
    ∙ ap (λ x. Alt x (model (Seq (One a Once ∷ One c Once ∷ []) Once))) (pair_is a b)
    ∙ ap (λ x. Alt (Cat (Cat Eps (Sym a)) (Sym b)) x) (pair_is a c)

first_way : IsMarked two_ways_model ((1, a) ∷ (2, b) ∷ [])
first_way = inl ((1, a) ∷ [], (2, b) ∷ [], refl, ([], (1, a) ∷ [], refl, refl, refl), refl)

second_way : IsMarked two_ways_model ((3, a) ∷ (4, c) ∷ [])
second_way = inr ((3, a) ∷ [], (4, c) ∷ [], refl, ([], (3, a) ∷ [], refl, refl, refl), refl)

differ : (m n x : ℕ) → (m ≡ n → ⊥) → x ≡ m → x ≡ n → ⊥
differ m n x apart e f = apart (sym e ∙ f)

other_letter : b ≡ a → ⊥
other_letter e = differ 98 97 98 (λ n. absurd (omega arith)) refl (ap (λ (x : Chars). get_or x 0 0) e)

-- a further place of a is the third
third : (y m : ℕ) → y ≡ 1 + m → get_or (a ∷ b ∷ a ∷ c ∷ []) m a ≡ a → (1 ≡ y → ⊥) → 3 ≤ y
third y zero e h apart = absurd (apart (omega arith))
third y (suc zero) e h apart = absurd (other_letter h)
third y (suc (suc m)) e h apart = omega arith

-- the names numbered 1 and 3 are one name, and both may come first
ambiguous : IsAmbiguous (Children two_ways) 1 3
ambiguous = record {
  state = 0;
  name = a;
  first = subst (λ (r : Re Chars). Follows r 0 a 1) (sym two_ways_is) ([], (2, b) ∷ [], first_way, refl);
  second = subst (λ (r : Re Chars). Follows r 0 a 3) (sym two_ways_is) ([], (4, c) ∷ [], second_way, refl);
  apart = λ e. absurd (omega arith);
  least_state = λ i x y other h f g. absurd (omega arith);
  least_first = λ x y other f g ne. let t = follows_at (model two_ways) 0 x other f in omega (arith, t.1);
  least_second = λ y f ne.
      let t : StandsAt 1 (letters two_ways_model) y a = subst (λ (r : Re Chars). StandsAt 1 (letters r) y a) two_ways_is (follows_at (model two_ways) 0 y a f) in
      third y t.0 t.1 t.3 ne;
}

not_deterministic : IsDeterministic (Children two_ways) → ⊥
not_deterministic h =
    differ 1 3 1 (λ n. absurd (omega arith)) refl
    (h [] ((2, b) ∷ []) ((4, c) ∷ []) 1 3 a (subst (λ (r : Re Chars). IsMarked r ((1, a) ∷ (2, b) ∷ [])) (sym two_ways_is) first_way)
    (subst (λ (r : Re Chars). IsMarked r ((3, a) ∷ (4, c) ∷ [])) (sym two_ways_is) second_way))
