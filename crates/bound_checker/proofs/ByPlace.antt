-- Look-ups by place: what stands at a place is what is found by name, hash or halves.
use Rattle.std.proofs.Common.{◌≡◌, ℕ, List, Option, Some, None, refl, sym, ap, ◌∙◌, bytes_eq, slice_get, find}
use Rattle.std.specs.Prelude.{option_and_then, option_map}
use Rattle.std.specs.Option.{option_map_or}
use Rattle.std.proofs.lemmas.List.Quantifiers.{position-Some}
use Rattle.std.proofs.lemmas.Option.{slice_get-get_or}
use Rattle.attribute_types.proofs.TextTests.{bytes_same}
use Rattle.content_models.specs.declared.content.Content.{Content}
use Rattle.content_models.specs.declared.content.Content.TheVariants.{Empty}
use Rattle.content_models.specs.Model.{Chars}
use Rattle.position_automata.specs.Automata.{IsDeterministic}
use Rattle.position_automata.specs.Stepping.{steps_of, step_on}
use Rattle.position_automata.proofs.Meaning.{contains_of}
use Rattle.position_automata.proofs.Stepping.{follows_of, on_from}
use Rattle.decl_set.specs.Declarations.{Declarations, Element, name_of}
use Rattle.decl_set.specs.Children.{place_in, child_step}
use Rattle.decl_set.specs.Steps.{steps_in, steps_at}
use Rattle.tree_costs.specs.declared.cost.Cost.TheVariants.{Fin}
use Rattle.tree_costs.proofs.Steps.{got_member}
use Rattle.bound_checker.specs.declared.tables.PairRow.{PairRow}
use Rattle.bound_checker.specs.declared.tables.Row.{Row}
use Rattle.bound_checker.specs.declared.tables.Tables.{Tables}
use Rattle.bound_checker.specs.Tabled.{AreAscending, costs_of, is_pair, row_of}
use Rattle.bound_checker.proofs.Halves.{first_of}

-- a step of a deterministic content is the one on its name
pub stepped : (a : Content) (i k j : ℕ) (name : Chars) → IsDeterministic a → slice_get (steps_of a i) k ≡ Some (name, j) → step_on a i name ≡ Some j
stepped a i k j name d h = on_from a i j name d (follows_of a i j name (contains_of (steps_of a i) (name, j) (got_member (steps_of a i) k (name, j) h)))

-- a step that is told with the place of its element
pub child_told : (set : Declarations) (o : Option (Chars × ℕ)) (child : Option ℕ) (to : ℕ) → Some (child, to) ≡ option_map {U = Option ℕ × ℕ} (child_step set) o
    → (name : Chars) × (o ≡ Some (name, to)) × (place_in set.elements name ≡ child)
child_told set (Some s) child to h =
    let same : (child, to) ≡ child_step set s = cc in
    (s.0, ap (λ k. Some (s.0, k)) (sym (ap (λ t. t.1) same)), sym (ap (λ t. t.0) same))
child_told set None child to h = cc

pub child_none : (set : Declarations) (o : Option (Chars × ℕ)) → None ≡ option_map {U = Option ℕ × ℕ} (child_step set) o → o ≡ None
child_none set (Some s) h = cc
child_none set None h = refl

pub told_child : (set : Declarations) (n i k : ℕ) (e : Chars) (a : Content) (o : Option (Option ℕ × ℕ)) → slice_get set.elements n ≡ Some (e, a)
    → o ≡ option_map {U = Option ℕ × ℕ} (child_step set) (slice_get (steps_at set (slice_get set.elements n) i) k) → o ≡ option_map {U = Option ℕ × ℕ} (child_step set) (slice_get (steps_in set a i) k)
told_child set n i k e a o h q = q ∙ ap (λ x. option_map {U = Option ℕ × ℕ} (child_step set) (slice_get (steps_at set x i) k)) h

-- what stands at the place of a name has this name
pub named_at : (es : List Element) (name : Chars) (k : ℕ) → place_in es name ≡ Some k → option_map name_of (slice_get es k) ≡ Some name
named_at es name k h =
    let t = position-Some (λ (e : Element). bytes_eq name e.0) es k (name, Empty) h in
    ap (option_map name_of) (slice_get-get_or es k (name, Empty) t.0) ∙ ap Some (sym (bytes_same name _ t.1))

-- a step by the place of its element, and the name that stands there
pub step_named : (set : Declarations) (o : Option (Chars × ℕ)) (child to : ℕ) (name : Chars) → Some (Some child, to) ≡ option_map {U = Option ℕ × ℕ} (child_step set) o → option_map name_of (slice_get set.elements child) ≡ Some name
    → (Some (name, to) ≡ o) × (Some child ≡ place_in set.elements name)
step_named set o child to name h n =
    let s = child_told set o (Some child) to h in
    let found : Some s.0 ≡ Some name = sym (named_at set.elements s.0 child s.2) ∙ n in
    let same : s.0 ≡ name = cc in
    (ap (λ x. Some (x, to)) (sym same) ∙ sym s.1, sym s.2 ∙ ap (place_in set.elements) same)

-- the cost of a listed pair is its own
pub own_cost : (first : Declarations) (tables : Tables) (e : Chars) (row : Row) (k : ℕ) (x : PairRow) → row_of first tables e ≡ Some row → AreAscending row.pairs
    → slice_get row.pairs k ≡ Some x → (costs_of first tables).g e x.i x.j ≡ x.g
own_cost first tables e row k x r a h =
    ap (λ o. option_map_or (λ (s : PairRow). s.g) (option_and_then (λ (row : Row). find (is_pair x.i x.j) row.pairs) o) (Fin 0)) r
    ∙ ap (λ o. option_map_or (λ (s : PairRow). s.g) o (Fin 0)) (first_of row.pairs x.i x.j k x a h refl)
