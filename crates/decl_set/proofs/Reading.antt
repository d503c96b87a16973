-- What is read of the maps of a set.
use Rattle.std.proofs.Common.{◌≡◌, ◌∙◌, ◌+◌, ℕ, zero, suc, Bool, cond, not, nat_lt, List, [], ◌∷◌, length, map, position, slice_get, refl, sym, ap, subst, Some, None, bytes_eq}
use Rattle.std.specs.Prelude.{Option, option_map}
use Rattle.std.specs.List.{prefix_len, AllByRecursion}
use Rattle.std.specs.Map.{lookup, keys_of}
use Rattle.std.proofs.lemmas.List.{length-map}
use Rattle.std.proofs.lemmas.Map.Made.{lookup-map_values}
use Rattle.std.proofs.lemmas.Option.{slice_get-map}
use Rattle.attribute_types.proofs.TextTests.{on_test}
use Rattle.content_models.specs.declared.content.Content.{Content}
use Rattle.content_models.specs.declared.content.Content.TheVariants.{Empty, Any, Mixed, Children}
use Rattle.position_automata.specs.Automata.{states}
use Rattle.decl_set.specs.Declarations.{Declarations, Element}
use Rattle.decl_set.specs.DeclaredBy.{as_element}
use Rattle.decl_set.specs.Inside.{IsBuilt}
use Rattle.decl_set.specs.Steps.{TellsWithin, TellsStepIn, TellsStepAt}
use Rattle.decl_set.specs.declared.set.Declared.{Declared}

-- ---- places in a list whose items are mapped

prefix_len-map : {X Y : Type 0} (p : Y → Bool) (f : X → Y) (xs : List X) → prefix_len p (map f xs) ≡ prefix_len (λ x. p (f x)) xs
prefix_len-map p f [] = refl
prefix_len-map p f (x ∷ xs) = ap (λ n. cond (p (f x)) (1 + n) 0) (prefix_len-map p f xs)

position-map : {X Y : Type 0} (p : Y → Bool) (f : X → Y) (xs : List X) → position p (map f xs) ≡ position (λ x. p (f x)) xs
position-map p f xs =
    ap (λ n. cond (nat_lt n (length (map f xs))) (Some n) None) (prefix_len-map (λ y. not (p y)) f xs)
    ∙ ap (λ l. cond (nat_lt (prefix_len (λ x. not (p (f x))) xs) l) (Some (prefix_len (λ x. not (p (f x))) xs)) None) (length-map xs f)

pub place_found : (es : List (List ℕ × Declared)) (name : List ℕ) → position (bytes_eq name) (keys_of es) ≡ position (λ (e : Element). bytes_eq name e.0) (map as_element es)
place_found es name =
    position-map (bytes_eq name) (λ (e : List ℕ × Declared). e.0) es ∙ sym (position-map (λ (e : Element). bytes_eq name e.0) as_element es)

-- ---- contents and automata

pub content_found : (es : List (List ℕ × Declared)) (name : List ℕ) → lookup (bytes_eq name) (map as_element es) ≡ option_map (λ d. d.content) (lookup (bytes_eq name) es)
content_found es name = lookup-map_values (λ (d : Declared). d.content) (bytes_eq name) es

pub content_none : (es : List (List ℕ × Declared)) (name : List ℕ) → None ≡ lookup (bytes_eq name) es → None ≡ lookup (bytes_eq name) (map as_element es)
content_none es name none = ap (option_map (λ d. d.content)) none ∙ sym (content_found es name)

pub content_some : (es : List (List ℕ × Declared)) (name : List ℕ) (d : Declared) → Some d ≡ lookup (bytes_eq name) es → Some d.content ≡ lookup (bytes_eq name) (map as_element es)
content_some es name d at = ap (option_map (λ d. d.content)) at ∙ sym (content_found es name)

built_found : (es : List (List ℕ × Declared)) (name : List ℕ) (d : Declared) → AllByRecursion IsBuilt es → lookup (bytes_eq name) es ≡ Some d → d.automaton ≡ d.content
built_found [] name d all at = cc
built_found (e ∷ es) name d all at =
    let Q : Bool → Type 0 = λ b. cond b (Some e.1) (lookup (bytes_eq name) es) ≡ Some d → d.automaton ≡ d.content in
    on_test Q (bytes_eq name e.0)
    (λ t h. let same : e.1 ≡ d = cc in subst (λ (d : Declared). d.automaton ≡ d.content) same all.0)
    (λ t h. built_found es name d all.1 h)
    at

pub automaton_some : (es : List (List ℕ × Declared)) (name : List ℕ) (d : Declared) → AllByRecursion IsBuilt es → Some d ≡ lookup (bytes_eq name) es → Some d.automaton ≡ lookup (bytes_eq name) (map as_element es)
automaton_some es name d all at = ap Some (built_found es name d all (sym at)) ∙ content_some es name d at

-- ---- steps

built_at : (es : List (List ℕ × Declared)) (i : ℕ) (e : List ℕ × Declared) → AllByRecursion IsBuilt es → slice_get es i ≡ Some e → e.1.automaton ≡ e.1.content
built_at [] i e all at = cc
built_at (x ∷ xs) zero e all at = let same : x ≡ e = cc in subst IsBuilt same all.0
built_at (x ∷ xs) (suc i) e all at = built_at xs i e all.1 at

not_any : (set : Declarations) (content : Content) (state k : ℕ) (step : Option (List ℕ × ℕ)) → (content ≡ Any → ⊥) → TellsWithin (nat_lt state (states content)) content state k step → TellsStepIn set content state k step
not_any set Empty state k step other h = h
not_any set Any state k step other h = absurd (other refl)
not_any set (Mixed names) state k step other h = h
not_any set (Children part) state k step other h = h

pub step_found : (set : Declarations) (es : List (List ℕ × Declared)) (i : ℕ) (e : List ℕ × Declared) (state k : ℕ) (step : Option (List ℕ × ℕ)) → AllByRecursion IsBuilt es → Some e ≡ slice_get es i → (e.1.content ≡ Any → ⊥) → TellsWithin (nat_lt state (states e.1.automaton)) e.1.automaton state k step → TellsStepAt set (slice_get (map as_element es) i) state k step
step_found set es i e state k step all at other h =
    let P : Content → Type 0 = λ content. TellsWithin (nat_lt state (states content)) content state k step in
    let found : Some (as_element e) ≡ slice_get (map as_element es) i = ap (option_map as_element) at ∙ sym (slice_get-map as_element es i) in
    subst (λ o. TellsStepAt set o state k step) found (not_any set e.1.content state k step other (subst P (built_at es i e all (sym at)) h))
