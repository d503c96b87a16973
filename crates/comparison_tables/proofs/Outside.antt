-- Past the states of a content none accepts and none steps.
use Rattle.std.proofs.Common.{◌≡◌, ◌≤◌, ℕ, Bool, true, false, Option, Some, None, refl, arith}
use Rattle.content_models.specs.declared.content.Content.{Content}
use Rattle.content_models.specs.Model.{Chars}
use Rattle.position_automata.specs.Automata.{states}
use Rattle.position_automata.specs.Stepping.{does_accept, step_on}
use Rattle.position_automata.proofs.Stepping.{accepts_by_test, accept_within, step_within, on_to}

pub none_accepts : (a : Content) (i : ℕ) → states a ≤ i → false ≡ does_accept a i
none_accepts a i h = by (does_accept a i) refl
  where
    by : (b : Bool) → does_accept a i ≡ b → false ≡ b
    by true q = absurd (let l = accept_within a i ((accepts_by_test a i).0 q) in omega (arith, l))
    by false q = refl

pub none_steps : (a : Content) (i : ℕ) (name : Chars) → states a ≤ i → None ≡ step_on a i name
none_steps a i name h = by (step_on a i name) refl
  where
    by : (o : Option ℕ) → step_on a i name ≡ o → None ≡ o
    by None q = refl
    by (Some k) q = absurd (let l = step_within a i k name (on_to a i k name q) in omega (arith, l))
