-- The steps along P that were found.
use Rattle.std.specs.Prelude.{◌≡◌, ℕ, Bool, ◌&&◌, ◌⊎◌, List, Option, Some, nat_eq, IfSome, if◌then◌else◌}
use Rattle.std.specs.Map.{lookup}
use Rattle.separating_article.specs.declared.choosing.Path.TheVariants.{Own}
use Rattle.separating_article.specs.declared.choosing.Step.{Step}
use Rattle.separating_article.specs.declared.guide.Guide.{Guide}
use Rattle.separating_article.specs.Choosing.{next_step}

-- steps, each at the place of its element and its state
abbrev pub Found : Type 0
Found = List ((ℕ × ℕ) × Option Step)

-- whether two are the same element and state
abbrev pub is_same_place : ℕ × ℕ → ℕ × ℕ → Bool
is_same_place p q = nat_eq p.0 q.0 && nat_eq p.1 q.1

-- each is the one that is taken there
abbrev pub AreChosen : Guide → Found → Type 0
AreChosen guide found = (p : ℕ × ℕ) → IfSome (lookup (is_same_place p) found) (λ step. step ≡ next_step guide p.0 (Own p.1))

-- this step stands there beside the others, or nothing changed
abbrev pub Keeps : ℕ × ℕ → Option Step → Found → Found → Type 0
Keeps p step old new =
    ((q : ℕ × ℕ) → lookup (is_same_place q) new ≡ (if is_same_place p q then Some step else lookup (is_same_place q) old)) ⊎ (new ≡ old)
