use Rattle.std.proofs.Common.{◌≡◌, ◌∙◌, ℕ, List, [], ◌∷◌, ◌++◌, Option, map, take, ap, sym}
use Rattle.std.proofs.lemmas.List.{map_more}
use Rattle.decl_set.specs.Children.{place_in}
use Rattle.decl_set.proofs.set.DeclSet.children_of.Goals as goal

pub loop-name-preserved : goal.loop-name-preserved
loop-name-preserved c =
    let f : List ℕ → Option ℕ = place_in c.args.self.now.elements in
    let names : List (List ℕ) = c.names-names.result.now in
    let more = map_more f names c.loop-name.name-index c.name-item.result c.loop-name-test.true in
    let here : f c.name-item.result ≡ c.index_of.result = sym c.index_of.ensures in
    let pushed = c.in_ok-push.ensures.items in
    let at = c.name-item.is in
    let before = c.loop-name.invariant in
    pushed
    ∙ ap (λ (places : List (Option ℕ)). places ++ c.index_of.result ∷ []) before
    ∙ ap (λ (place : Option ℕ). map f (take c.loop-name.name-index names) ++ place ∷ []) (sym here ∙ ap f at)
    ∙ sym more
