-- Items that are elements alone.
use Rattle.std.proofs.Common.{◌≡◌, ◌∷◌, ◌++◌, ◌+◌, ap, refl, IsTrue}
use Rattle.std.specs.Prelude.{max}
use Rattle.document_trees.specs.Trees.{Items, nothing, element, chars, comment, pi, elements_alone, runs_plain, are_items, bare, child_names, nodes_below, elements_in, depth_below}
use Rattle.document_trees.specs.Laws.{AlonePlain, BareElements}

pub alone_plain : (items : Items) → IsTrue (elements_alone items) → IsTrue (runs_plain items)
alone_plain nothing h = refl
alone_plain (element name atts inside later) h = alone_plain later h
alone_plain (chars text plain later) h = absurd (cc)
alone_plain (comment text later) h = absurd (cc)
alone_plain (pi target body later) h = absurd (cc)

pub alone_made : (items : Items) → IsTrue (elements_alone items) → IsTrue (are_items items)
alone_made nothing h = refl
alone_made (element name atts inside later) h = alone_made later h
alone_made (chars text plain later) h = absurd (cc)
alone_made (comment text later) h = absurd (cc)
alone_made (pi target body later) h = absurd (cc)

pub alone_law : AlonePlain
alone_law items h = (alone_plain items h, alone_made items h)

pub bare_alone : (items : Items) → IsTrue (elements_alone (bare items))
bare_alone nothing = refl
bare_alone (element name atts inside later) = bare_alone later
bare_alone (chars text plain later) = bare_alone later
bare_alone (comment text later) = bare_alone later
bare_alone (pi target body later) = bare_alone later

pub bare_names : (items : Items) → child_names (bare items) ≡ child_names items
bare_names nothing = refl
bare_names (element name atts inside later) = ap (λ k. name ∷ k) (bare_names later)
bare_names (chars text plain later) = bare_names later
bare_names (comment text later) = bare_names later
bare_names (pi target body later) = bare_names later

pub bare_nodes : (items : Items) → nodes_below (bare items) ≡ nodes_below items
bare_nodes nothing = refl
bare_nodes (element name atts inside later) =
    ap (λ k. record { name = name; atts = atts; items = inside } ∷ nodes_below inside ++ k) (bare_nodes later)
bare_nodes (chars text plain later) = bare_nodes later
bare_nodes (comment text later) = bare_nodes later
bare_nodes (pi target body later) = bare_nodes later

pub bare_elements : (items : Items) → elements_in (bare items) ≡ elements_in items
bare_elements nothing = refl
bare_elements (element name atts inside later) = ap (λ k. 1 + elements_in inside + k) (bare_elements later)
bare_elements (chars text plain later) = bare_elements later
bare_elements (comment text later) = bare_elements later
bare_elements (pi target body later) = bare_elements later

pub bare_depth : (items : Items) → depth_below (bare items) ≡ depth_below items
bare_depth nothing = refl
bare_depth (element name atts inside later) = ap (λ k. max (1 + depth_below inside) k) (bare_depth later)
bare_depth (chars text plain later) = bare_depth later
bare_depth (comment text later) = bare_depth later
bare_depth (pi target body later) = bare_depth later

pub bared : BareElements
bared items = record { alone = bare_alone items; names = bare_names items; nodes = bare_nodes items; elements = bare_elements items; depth = bare_depth items }
