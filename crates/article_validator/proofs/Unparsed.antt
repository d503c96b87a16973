-- What is no Name is no entity of a set.
use Rattle.std.proofs.Common.{◌≡◌, ◌∙◌, ℕ, Bool, true, false, cond, List, [], ◌∷◌, Some, None, refl, sym, ap, IsTrue, bytes_eq, true≢false}
use Rattle.std.specs.List.{list_all}
use Rattle.std.specs.Map.{lookup}
use Rattle.std.proofs.lemmas.Slice.Eq.{bytes_eq-Decides}
use Rattle.jats_chars.specs.Names.{is_name}
use Rattle.decl_set.specs.Asked.{IsKept, is_entity, is_entity_kept}
use Rattle.decl_set.specs.Declarations.{Declarations, Entity}
use Rattle.article_validator.specs.Links.{is_unparsed, is_unparsed_def}
use Rattle.article_validator.proofs.Differing.{of_and}

other : (e : Entity) (word : List ℕ) (b : Bool) → IsTrue (is_name e.0) → is_name word ≡ false → bytes_eq word e.0 ≡ b → b ≡ false
other e word true named n q = absurd (true≢false (sym named ∙ (sym (ap is_name ((bytes_eq-Decides word e.0).0 q)) ∙ n)))
other e word false named n q = refl

not_named : (es : List Entity) (word : List ℕ) → IsTrue (list_all is_entity_kept es) → is_name word ≡ false → lookup (bytes_eq word) es ≡ None
not_named [] word t n = refl
not_named (e ∷ es) word t n =
    let kept = of_and (is_entity_kept e) (list_all is_entity_kept es) t in
    let named = (of_and (is_name e.0) (is_entity e.1) kept.0).0 in
    ap (λ b. cond b (Some e.1) (lookup (bytes_eq word) es)) (other e word (bytes_eq word e.0) named n refl) ∙ not_named es word kept.1 n

pub no_entity : (set : Declarations) (word : List ℕ) → IsKept set → is_name word ≡ false → false ≡ is_unparsed set word
no_entity set word kept n = sym (ap is_unparsed_def (not_named set.entities word kept.entities_are n))
