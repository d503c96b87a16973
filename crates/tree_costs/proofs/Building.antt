-- Documents from forests.
use Rattle.std.proofs.Common.{◌≡◌, ℕ, List, ◌+◌, refl, sym, ap, subst, Some, None}
use Rattle.content_models.specs.declared.content.Content.{Content}
use Rattle.content_models.specs.Model.{Chars}
use Rattle.document_trees.specs.Trees.{Attribute, Items, nothing, element, chars, comment, pi, Node, IsWellMade, IsDocument, EachBelow, child_names, elements_in, size, bare}
use Rattle.document_trees.proofs.Alone.{alone_made, bare_alone}
use Rattle.position_automata.specs.Runs.{Runs}
use Rattle.position_automata.proofs.States.{derives_by_runs}
use Rattle.decl_set.specs.Declarations.{Declarations, content_in}
use Rattle.decl_set.specs.Asked.{IsKept}
use Rattle.decl_set.specs.Validity.{Meets, IsValid}
use Rattle.decl_set.proofs.Found.{element_is}
use Rattle.decl_set.proofs.Suiting.{meets}
use Rattle.tree_costs.specs.Beside.{Front, put, IsRight}
use Rattle.tree_costs.specs.Costs.{cut}
use Rattle.tree_costs.specs.Families.{OfDocument}
use Rattle.tree_costs.specs.Forests.{IsForest}
use Rattle.tree_costs.proofs.Beside.{each_has_right}

-- ---- elements alone

pub bare_each : (P : Chars → List Attribute → Items → Type 0) (items : Items) → EachBelow P items → EachBelow P (bare items)
bare_each P nothing h = tt
bare_each P (element name atts inside later) h = (h.0, h.1, bare_each P later h.2)
bare_each P (chars text plain later) h = bare_each P later h
bare_each P (comment text later) h = bare_each P later h
bare_each P (pi target body later) h = bare_each P later h

pub bare_forest : (set : Declarations) (items : Items) → EachBelow IsWellMade items → EachBelow (Meets set) items → IsForest set (bare items)
bare_forest set items w m = record { alone = bare_alone items; made = bare_each IsWellMade items w; met = bare_each (Meets set) items m }

-- ---- fronts

pub put_names : (front : Front) (items : Items) → child_names (put front items) ≡ child_names items
put_names None items = refl
put_names (Some run) items = refl

pub put_size : (front : Front) (items : Items) → elements_in (put front items) ≡ elements_in items
put_size None items = refl
put_size (Some run) items = refl

put_each : (P : Chars → List Attribute → Items → Type 0) (front : Front) (items : Items) → EachBelow P items → EachBelow P (put front items)
put_each P None items h = h
put_each P (Some run) items h = h

-- ---- nodes over forests

abbrev pub node_with : Chars → List Attribute → Front → Items → Node
node_with e atts front items = record { name = e; atts = atts; items = put front items }

-- a node of an element with what is right in it
pub record IsTop (set : Declarations) (e : Chars) (items : Items) (node : Node) : Type 0 where
  pub document : IsDocument node
  pub valid : IsValid set e node
  pub sized : size node ≡ 1 + elements_in items

pub topped : (set : Declarations) (e : Chars) (a : Content) (items : Items) (atts : List Attribute) (front : Front) → IsKept set → content_in set e ≡ Some a
    → IsRight set e atts front → IsForest set items → Runs a 0 (child_names items) → IsTop set e items (node_with e atts front items)
topped set e a items atts front k d r f run = record {
  document = (
    record { named = (element_is set e a k d).named; attributes = r.attributes; beside = r.items items (alone_made items f.alone) },
    put_each IsWellMade front items f.made,
  );
  valid = (
    refl,
    (
      meets set e atts (put front items) a d
          ((derives_by_runs a (child_names (put front items))).1 (subst (Runs a 0) (sym (put_names front items)) run)) (r.suits items f.alone),
      put_each (Meets set) front items f.met,
    ),
  );
  sized = ap (λ n. 1 + n) (put_size front items);
}

-- a document over a forest
pub document_of : (set : Declarations) (cap : ℕ) (e : Chars) (a : Content) (items : Items) → IsKept set → content_in set e ≡ Some a → IsForest set items
    → Runs a 0 (child_names items) → OfDocument cap set e (cut cap (1 + elements_in items))
document_of set cap e a items k d f r =
    let h = each_has_right set e a k d in
    let t = topped set e a items h.0 None k d h.1 f r in
    (node_with e h.0 None items, t.document, t.valid, refl)
