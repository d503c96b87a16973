-- Items as trees of numbers, by which a proof tells them apart.
use Rattle.std.specs.Prelude.{◌≡◌, refl, ℕ, zero, suc, Bool, true, false, List, [], ◌∷◌}
use Rattle.std.proofs.Common.{ap, sym, ◌∙◌}
use base.Stored.{Gv, gnil, gnum, gcons, Coded}
use Rattle.document_trees.specs.Trees.{Attribute, Items, nothing, element, chars, comment, pi}

abbrev text_code : List ℕ → Gv
text_code [] = gnil
text_code (c ∷ text) = gcons (gnum c) (text_code text)

abbrev text_back : Gv → List ℕ
text_back (gcons (gnum c) text) = c ∷ text_back text
text_back _ = []

text_same : (text : List ℕ) → text_back (text_code text) ≡ text
text_same [] = refl
text_same (c ∷ text) = ap (λ t. c ∷ t) (text_same text)

abbrev atts_code : List Attribute → Gv
atts_code [] = gnil
atts_code (a ∷ atts) = gcons (gcons (text_code a.0) (text_code a.1)) (atts_code atts)

abbrev atts_back : Gv → List Attribute
atts_back (gcons (gcons name value) atts) = (text_back name, text_back value) ∷ atts_back atts
atts_back _ = []

atts_same : (atts : List Attribute) → atts_back (atts_code atts) ≡ atts
atts_same [] = refl
atts_same (a ∷ atts) = λ i. (text_same a.0 i, text_same a.1 i) ∷ atts_same atts i

abbrev plain_code : Bool → Gv
plain_code true = gnil
plain_code false = gnum 0

abbrev plain_back : Gv → Bool
plain_back gnil = true
plain_back _ = false

plain_same : (b : Bool) → plain_back (plain_code b) ≡ b
plain_same true = refl
plain_same false = refl

abbrev items_code : Items → Gv
items_code nothing = gnil
items_code (element name atts inside later) =
    gcons (gnum 0) (gcons (gcons (text_code name) (atts_code atts)) (gcons (items_code inside) (items_code later)))
items_code (chars text plain later) = gcons (gnum 1) (gcons (gcons (text_code text) (plain_code plain)) (items_code later))
items_code (comment text later) = gcons (gnum 2) (gcons (text_code text) (items_code later))
items_code (pi target body later) = gcons (gnum 3) (gcons (gcons (text_code target) (text_code body)) (items_code later))

abbrev items_back : Gv → Items
items_back (gcons (gnum zero) (gcons (gcons name atts) (gcons inside later))) =
    element (text_back name) (atts_back atts) (items_back inside) (items_back later)
items_back (gcons (gnum (suc zero)) (gcons (gcons text plain) later)) = chars (text_back text) (plain_back plain) (items_back later)
items_back (gcons (gnum (suc (suc zero))) (gcons text later)) = comment (text_back text) (items_back later)
items_back (gcons (gnum (suc (suc (suc k)))) (gcons (gcons target body) later)) = pi (text_back target) (text_back body) (items_back later)
items_back _ = nothing

items_same : (items : Items) → items_back (items_code items) ≡ items
items_same nothing = refl
items_same (element name atts inside later) =
    λ i. element (text_same name i) (atts_same atts i) (items_same inside i) (items_same later i)
items_same (chars text plain later) = λ i. chars (text_same text i) (plain_same plain i) (items_same later i)
items_same (comment text later) = λ i. comment (text_same text i) (items_same later i)
items_same (pi target body later) = λ i. pi (text_same target i) (text_same body i) (items_same later i)

pub items_coded : Coded Items
items_coded = record { code = items_code; inj = λ x y p. sym (items_same x) ∙ ap items_back p ∙ items_same y }
