-- A chosen tree begins as it is chosen.
use Rattle.std.proofs.Common.{◌≡◌, ◌∙◌, ℕ, ◌+◌, List, Bool, true, false, cond, ◌&&◌, refl, sym, ap, subst, inl, inr, Option, Some, None, slice_get, arith}
use Rattle.std.specs.Prelude.{is_some, is_none, option_map}
use Rattle.std.proofs.lemmas.Bool.{and_from, and_parts}
use Rattle.content_models.specs.declared.content.Content.{Content}
use Rattle.content_models.specs.declared.content.TextKind.{TextKind}
use Rattle.content_models.specs.declared.content.TextKind.TheVariants.{NoItems, White, All}
use Rattle.content_models.specs.Kinds.{text_kind}
use Rattle.content_models.specs.Model.{Chars}
use Rattle.document_trees.specs.Trees.{Attribute, Items, nothing, joined}
use Rattle.attlist_merge.specs.Lists.{Definitions}
use Rattle.decl_set.specs.Declarations.{content_in, attributes_in}
use Rattle.decl_set.specs.Oddness.{odd_in}
use Rattle.decl_set.specs.declared.breaks.Odd.{Odd}
use Rattle.decl_set.specs.declared.breaks.Odd.TheVariants as odd
use Rattle.tree_costs.specs.Beside.{Front, put}
use Rattle.tree_costs.specs.Costs.{sum}
use Rattle.tree_costs.specs.declared.cost.Cost.TheVariants.{Fin}
use Rattle.tree_costs.specs.Leasts.{place_of as place_in}
use Rattle.decl_set.proofs.Found.{found_at}
use Rattle.exact_tables.proofs.Choosing.{same-some}
use Rattle.exact_tables.specs.Chosen.{odd_atts, odd_front, front_of as front_in_words, front_text, AttainsKind11, AttainsKind10}
use Rattle.separating_article.specs.declared.guide.Guide.{Guide}
use Rattle.separating_article.specs.declared.opening.Way.{Way}
use Rattle.separating_article.specs.declared.opening.Way.TheVariants as way
use Rattle.separating_article.specs.Guides.{v_at, m_at, g_at, costs_in, IsGuide}
use Rattle.separating_article.specs.Choosing.{is_same, next_step}
use Rattle.separating_article.specs.Growing.{IsNext, begun_node, begun_size}
use Rattle.separating_article.specs.Openings.{is_by_odd, is_by_names, way_of, path_of, att_of, values_by, is_plain_front, run_of, front_by, plain_front, front_of, atts_of}
use Rattle.separating_article.specs.Paths.{IsTop, Follows}
use Rattle.separating_article.specs.Sizes.{atts_size, front_size, names_size, is_empty, items_size}
use Rattle.separating_article.proofs.NextSteps.{told_same, test_same, m_same, v_same, g_same, chosen_has, placed, told, empty_is}

-- ---- what stands beside the elements

-- the attributes of an odd element are the values that show it
atts_same : (o : Odd) (list : Definitions) → odd_atts o list ≡ values_by (att_of (Some o)) list
atts_same odd.Undeclared list = refl
atts_same odd.Text list = refl
atts_same (odd.Attribute o) list = refl

text_same : (k l : TextKind) → front_text k l ≡ option_map run_of (Some (is_plain_front k l))
text_same NoItems NoItems = refl
text_same NoItems White = refl
text_same NoItems All = refl
text_same White NoItems = refl
text_same White White = refl
text_same White All = refl
text_same All NoItems = refl
text_same All White = refl
text_same All All = refl

front_same : (a b : Option Content) → front_in_words a b ≡ option_map run_of (front_by a b)
front_same None None = refl
front_same None (Some b) = refl
front_same (Some a) None = refl
front_same (Some a) (Some b) = text_same (text_kind a) (text_kind b)

odd_front_same : (guide : Guide) (name : Chars) (o : Odd) → odd_front guide.first.now guide.second.now name o ≡ option_map run_of (plain_front guide name (Some o))
odd_front_same guide name odd.Undeclared = refl
odd_front_same guide name odd.Text = front_same (content_in guide.first.now name) (content_in guide.second.now name)
odd_front_same guide name (odd.Attribute o) = refl

-- a chosen tree is one of a declared element
pub top_has : (guide : Guide) (separates : Bool) (name : Chars) (atts : List Attribute) (items : Items) → IsTop guide separates name atts items
    → (b : Content) × (content_in guide.first.now name ≡ Some b)
top_has guide false name atts items h = (h.0, h.1)
top_has guide true name atts items h = chosen_has guide name atts items h

-- ---- a run in front

put_empty : (front : Front) (items : Items) → is_empty (put front items) ≡ (is_none front && is_empty items)
put_empty None items = refl
put_empty (Some run) items = refl

put_size : (front : Front) (items : Items) → items_size (put front items) ≡ front_size front + items_size items
put_size None items = omega arith
put_size (Some run) items = refl

put_joined : (front : Front) (items : Items) → joined (put front nothing) items ≡ put front items
put_joined None items = refl
put_joined (Some run) items = refl

-- ---- the way

refused : (b : Bool) → (b ≡ true → ⊥) → b ≡ false
refused true n = absurd (n refl)
refused false n = refl

module _ (guide : Guide) (ok : IsGuide guide) (e : ℕ) (name : Chars) (a : Content) (at : slice_get guide.first.now.elements e ≡ Some (name, a)) where
  place : place_in guide.first.now name ≡ Some e
  place = placed guide ok e name a at

  v_is : v_at guide.book (Some e) ≡ (costs_in guide).v name
  v_is = ap (v_at guide.book) (sym place) ∙ v_same guide.first.now guide.book name

  m_is : m_at guide.book (Some e) ≡ (costs_in guide).m name
  m_is = ap (m_at guide.book) (sym place) ∙ m_same guide.first.now guide.book name

  g_sum : sum guide.cap (Fin 1) (g_at guide.book e 0 0) ≡ sum guide.cap (Fin 1) ((costs_in guide).g name 0 0)
  g_sum = ap (sum guide.cap (Fin 1)) (g_same guide.first.now name e place guide.book 0 0)

  abbrev ByOdd : Type 0
  ByOdd = AttainsKind11 guide.first.now guide.second.now guide.cap (costs_in guide) name

  abbrev ByNames : Type 0
  ByNames = AttainsKind10 guide.first.now guide.second.now guide.cap (costs_in guide) name

  odd_from : ByOdd → is_by_odd guide e name ≡ true
  odd_from h = and_from (is_some (odd_in guide.first.now guide.second.now name)) (is_same (v_at guide.book (Some e)) (m_at guide.book (Some e)))
      h.0
      (test_same (v_at guide.book (Some e)) (m_at guide.book (Some e)) ((costs_in guide).v name) ((costs_in guide).m name) v_is m_is h.1)

  odd_to : is_by_odd guide e name ≡ true → ByOdd
  odd_to h =
      let t = and_parts (is_some (odd_in guide.first.now guide.second.now name)) (is_same (v_at guide.book (Some e)) (m_at guide.book (Some e))) h in (
        t.0,
        told_same (v_at guide.book (Some e)) (m_at guide.book (Some e)) ((costs_in guide).v name) ((costs_in guide).m name) v_is m_is t.1,
      )

  names_from : ByNames → is_by_names guide e name ≡ true
  names_from h = and_from (is_some (content_in guide.second.now name)) (is_same (v_at guide.book (Some e)) (sum guide.cap (Fin 1) (g_at guide.book e 0 0)))
      h.0
      (test_same (v_at guide.book (Some e)) (sum guide.cap (Fin 1) (g_at guide.book e 0 0)) ((costs_in guide).v name) (sum guide.cap (Fin 1) ((costs_in guide).g name 0 0)) v_is g_sum h.1)

  names_to : is_by_names guide e name ≡ true → ByNames
  names_to h =
      let t = and_parts (is_some (content_in guide.second.now name)) (is_same (v_at guide.book (Some e)) (sum guide.cap (Fin 1) (g_at guide.book e 0 0))) h in (
        t.0,
        told_same (v_at guide.book (Some e)) (sum guide.cap (Fin 1) (g_at guide.book e 0 0)) ((costs_in guide).v name) (sum guide.cap (Fin 1) ((costs_in guide).g name 0 0)) v_is g_sum t.1,
      )

  -- ---- the tree begins so

  -- its attributes and a run in front, and what comes along the path of its items
  pub record BeginsBy (w : Way) (atts : List Attribute) (items : Items) : Type 0 where
    pub inside : Items
    pub atts_are : atts ≡ atts_of guide name w
    pub items_are : items ≡ put (front_of guide name w) inside
    pub follows : Follows guide (path_of w) name a inside

  by_way : (v w : Way) (atts : List Attribute) (items : Items) → v ≡ w → BeginsBy w atts items → BeginsBy v atts items
  by_way v w atts items q h = subst (λ x. BeginsBy x atts items) (sym q) h

  abbrev way_with : Bool → Bool → Way
  way_with o n = cond o way.Odd (cond n way.Names way.Below)

  same_content : (b : Content) → content_in guide.first.now name ≡ Some b → b ≡ a
  same_content b q = same-some (content_in guide.first.now name) b a q (found_at guide.first.now.elements e (name, a) ok.first.elements_apart at)

  pub begins : (separates : Bool) (atts : List Attribute) (items : Items) → IsTop guide separates name atts items → BeginsBy (way_of guide e name separates) atts items
  begins false atts items h = record {
    inside = items;
    atts_are = h.2;
    items_are = refl;
    follows = subst (λ (b : Content). Follows guide (path_of way.Least) name b items) (same_content h.0 h.1) h.3;
  }
  begins true atts items (inl h) =
      let c = h.1 in
      by_way (way_of guide e name true) way.Odd atts items (ap (λ b. way_with b (is_by_names guide e name)) (odd_from h.0)) (record {
        inside = c.2;
        atts_are = c.5 ∙ atts_same c.1 (attributes_in guide.first.now name) ∙ ap (λ o. values_by (att_of o) (attributes_in guide.first.now name)) (sym c.4);
        items_are = c.6 ∙ ap (λ f. put f c.2) (odd_front_same guide name c.1 ∙ ap (λ o. option_map run_of (plain_front guide name o)) (sym c.4));
        follows = subst (λ (b : Content). Follows guide (path_of way.Odd) name b c.2) (same_content c.0 c.3) c.7;
      })
  begins true atts items (inr h) =
      let off = refused (is_by_odd guide e name) (λ t. h.0 (odd_to t)) in
      elim h.1 [
        | inl g ↦
            let c = g.1 in
            by_way (way_of guide e name true) way.Names atts items (ap (λ b. way_with b (is_by_names guide e name)) off ∙ ap (way_with false) (names_from g.0)) (record {
              inside = items;
              atts_are = c.4;
              items_are = refl;
              follows = subst (λ (b : Content). Follows guide (path_of way.Names) name b items) (same_content c.0 c.2) (c.1, c.3, c.5);
            })
        | inr g ↦
            let no = refused (is_by_names guide e name) (λ t. g.0 (names_to t)) in
            let c = g.2 in
            by_way (way_of guide e name true) way.Below atts items (ap (λ b. way_with b (is_by_names guide e name)) off ∙ ap (way_with false) no) (record {
              inside = items;
              atts_are = c.2;
              items_are = refl;
              follows = subst (λ (b : Content). Follows guide (path_of way.Below) name b items) (same_content c.0 c.1) c.3;
            })
      ]

  -- how it comes on, and how many bytes that takes
  module _ (w : Way) (atts : List Attribute) (items : Items) (b : BeginsBy w atts items) where
    pub comes : IsNext guide name a (next_step guide e (path_of w)) b.inside
    comes = told guide ok e name a at (path_of w) b.inside b.follows

    pub opened_size : names_size name (is_empty items) + atts_size atts + items_size items ≡ begun_size guide name w (next_step guide e (path_of w)) + items_size b.inside
    opened_size =
        let front = front_of guide name w in
        let step = next_step guide e (path_of w) in
        let empty = ap is_empty b.items_are ∙ put_empty front b.inside ∙ ap (λ x. is_none front && x) (sym (empty_is guide name a step b.inside comes)) in
        let tags : names_size name (is_empty items) ≡ names_size name (is_none front && is_none step) = ap (names_size name) empty in
        let values : atts_size atts ≡ atts_size (atts_of guide name w) = ap atts_size b.atts_are in
        let whole : items_size items ≡ front_size front + items_size b.inside = ap items_size b.items_are ∙ put_size front b.inside in
        omega (arith, tags, values, whole)

    pub opened_items : joined (begun_node guide name w).items b.inside ≡ items
    opened_items = put_joined (front_of guide name w) b.inside ∙ sym b.items_are
