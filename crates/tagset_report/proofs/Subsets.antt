-- Every document of the first is one of the second exactly where no useful element breaks.
use Rattle.std.proofs.Common.{◌≡◌, List, [], ◌∷◌, refl, sym, ap, ◌∙◌, subst, Bool, true, false, ◌&&◌, ◌||◌, Option, Some, None, IsTrue, true≢false, bytes_eq}
use Rattle.std.specs.Prelude.{is_some, option_map}
use Rattle.std.specs.List.{AllByRecursion}
use Rattle.std.proofs.lemmas.Bool.{or_left, or_right}
use Rattle.content_models.specs.declared.content.Content.{Content}
use Rattle.content_models.specs.declared.content.TextKind.{TextKind}
use Rattle.content_models.specs.declared.content.TextKind.TheVariants.{NoItems, White, All}
use Rattle.content_models.specs.Model.{Chars, Derives}
use Rattle.content_models.specs.Kinds.{text_kind}
use Rattle.document_trees.specs.Trees.{Attribute, Items, nothing, element, chars, comment, pi, Node, IsWellMade, IsDocument, EachBelow, child_names, elements_alone, runs_plain, are_items, are_chars, is_white, stands_below, stands_in, bare}
use Rattle.document_trees.proofs.Alone.{bare_names}
use Rattle.jats_chars.specs.Names.{is_name}
use Rattle.attribute_types.proofs.TextTests.{on_test, bytes_same, bytes_own}
use Rattle.attlist_merge.specs.Lists.{Definitions}
use Rattle.position_automata.specs.Runs.{Runs}
use Rattle.position_automata.proofs.States.{derives_by_runs}
use Rattle.decl_set.specs.Declarations.{Declarations, content_in, attributes_in}
use Rattle.decl_set.specs.Asked.{IsKept}
use Rattle.decl_set.specs.Validity.{TextAllowed, MeetsContent, Meets, IsValid, IsSeparating, IsSubset, HasDocument, IsUseful}
use Rattle.decl_set.specs.Oddness.{odd_in}
use Rattle.decl_set.specs.Breaks.{ContentBreaks, BothBreak, cause_of, OddBreaks, BreaksBy, Breaks}
use Rattle.decl_set.specs.declared.breaks.Cause.{Cause}
use Rattle.decl_set.specs.declared.breaks.Cause.TheVariants as cause
use Rattle.decl_set.specs.declared.breaks.Odd.{Odd}
use Rattle.decl_set.specs.declared.breaks.Odd.TheVariants as odd
use Rattle.decl_set.proofs.Suiting.{IsMet, met, meets, suited}
use Rattle.tree_costs.specs.Beside.{Front, put, IsRight}
use Rattle.tree_costs.specs.Forests.{IsForest}
use Rattle.tree_costs.proofs.Beside.{each_has_right}
use Rattle.tree_costs.proofs.Building.{bare_forest, node_with, topped}
use Rattle.bound_checker.specs.Beside.{IsWrong, TellsOdd}
use Rattle.tagset_report.specs.Laws.{NoneBreaks, SubsetByBreaks}
use Rattle.bound_checker.proofs.Oddly.{element_tells as odd_tells_all}

-- ---- documents of the elements of items

abbrev node_of : Chars → List Attribute → Items → Node
node_of name atts items = record { name = name; atts = atts; items = items }

module _ (first : Declarations) where
  pub each_document : (items : Items) → EachBelow IsWellMade items → EachBelow (Meets first) items → AllByRecursion (HasDocument first) (child_names items)
  each_document nothing w h = tt
  each_document (element name atts inside later) w h = ((node_of name atts inside, (w.0, w.1), (refl, (h.0, h.1))), each_document later w.2 h.2)
  each_document (chars run plain later) w h = each_document later w h
  each_document (comment run later) w h = each_document later w h
  each_document (pi target body later) w h = each_document later w h

  -- what stands below has a document
  below : (e : Chars) (items : Items) → EachBelow IsWellMade items → EachBelow (Meets first) items → stands_below e items ≡ true → HasDocument first e
  below e nothing w h s = absurd (true≢false (sym s))
  below e (element name atts inside later) w h s =
      let P : Bool → Type 0 = λ b. bytes_eq e name ≡ b → (b || stands_below e inside || stands_below e later) ≡ true → HasDocument first e in
      let Q : Bool → Type 0 = λ b. (false || b || stands_below e later) ≡ true → HasDocument first e in
      on_test P (bytes_eq e name)
      (λ t q s. (node_of name atts inside, (w.0, w.1), (sym (bytes_same e name q), (h.0, h.1))))
      (λ t q s. on_test Q (stands_below e inside) (λ t s. below e inside w.1 h.1 t) (λ t s. below e later w.2 h.2 s) s)
      refl s
  below e (chars run plain later) w h s = below e later w h s
  below e (comment run later) w h s = below e later w h s
  below e (pi target body later) w h s = below e later w h s

  -- names with documents are those of a forest
  pub forest : (names : List Chars) → AllByRecursion (HasDocument first) names → (items : Items) × IsForest first items × (child_names items ≡ names)
  forest [] h = (nothing, record { alone = refl; made = tt; met = tt }, refl)
  forest (name ∷ names) h =
      let f = forest names h.1 in
      let t = h.0 in (
        element (t.0).name (t.0).atts (t.0).items f.0,
        record { alone = (f.1).alone; made = (t.1.0, t.1.1, (f.1).made); met = (t.2.1.0, t.2.1.1, (f.1).met) },
        ap (λ x. x ∷ child_names f.0) t.2.0 ∙ ap (λ x. name ∷ x) f.2,
      )

pub or-second : (a b c : Bool) → b ≡ true → (a || b || c) ≡ true
or-second true b c h = refl
or-second false b c h = ap (λ x. false || x || c) h

pub or-third : (a b c : Bool) → c ≡ true → (a || b || c) ≡ true
or-third true b c h = refl
or-third false true c h = refl
or-third false false c h = h

module _ (first second : Declarations) (kf : IsKept first) (ks : IsKept second) where
  -- ---- an element that breaks has a separating document

  Parts : Chars → Type 0
  Parts e = (node : Node) × IsSeparating first second e node

  -- a node over a forest that is wrong in the second for what is beside
  wrong_beside : (e : Chars) (a : Content) (items : Items) (atts : List Attribute) (front : Front) → content_in first e ≡ Some a → IsForest first items
      → Runs a 0 (child_names items) → IsRight first e atts front → IsWrong second e atts front → Parts e
  unfolding Parts
  wrong_beside e a items atts front d f r h w =
      let t = topped first e a items atts front kf d h f r in
      (node_with e atts front items, (t.document, t.valid, λ k. w items f.alone (met second e atts (put front items) k.1.0).suits))

  wrong_odd : (e : Chars) (a : Content) (items : Items) → content_in first e ≡ Some a → IsForest first items → Runs a 0 (child_names items)
      → IsTrue (is_some (odd_in first second e)) → Parts e
  wrong_odd e a items d f r o = by (odd_in first second e) (odd_tells_all first second e kf ks) o
    where
      by : (x : Option Odd) → TellsOdd first second e x → IsTrue (is_some x) → Parts e
      by None t o = absurd (true≢false (sym o))
      by (Some x) t o = wrong_beside e a items t.0 t.1 d f r t.2 t.3

  by_oddness : (e : Chars) → HasDocument first e → IsTrue (is_some (odd_in first second e)) → Parts e
  by_oddness e d o =
      let node = d.0 in
      let t = met first node.name node.atts node.items d.2.1.0 in
      let f = bare_forest first node.items d.1.1 d.2.1.1 in
      let r = subst (Runs t.content 0) (sym (bare_names node.items)) ((derives_by_runs t.content (child_names node.items)).0 t.derived) in
      let z = subst (λ x. content_in first x ≡ Some t.content) d.2.0 t.declared in
      wrong_odd e t.content (bare node.items) z f r o

  by_content : (e : Chars) (a b : Content) → content_in first e ≡ Some a → content_in second e ≡ Some b → ContentBreaks first a b → Parts e
  unfolding Parts
  by_content e a b q s h =
      let f = forest first h.0 h.1 in
      let r = subst (Runs a 0) (sym f.2) ((derives_by_runs a h.0).0 h.2) in
      let u = each_has_right first e a kf q in
      let t = topped first e a f.0 u.0 None kf q u.1 f.1 r in (
        node_with e u.0 None f.0,
        (
          t.document,
          t.valid,
          λ k.
              let m = met second e u.0 f.0 k.1.0 in
              let z : Some m.content ≡ Some b = sym m.declared ∙ s in
              let same : m.content ≡ b = cc in
              h.3 (subst (Derives b) f.2 (subst (λ x. Derives x (child_names f.0)) same m.derived)),
        ),
      )

  some_odd : (x : Option Odd) (k : Cause) → option_map cause_of x ≡ Some k → IsTrue (is_some x)
  some_odd None k h = cc
  some_odd (Some o) k h = refl

  breaking : (e : Chars) (k : Cause) → HasDocument first e → Breaks first second e k → Parts e
  breaking e cause.Undeclared d h = by_oddness e d (some_odd (odd_in first second e) cause.Undeclared h.1)
  breaking e cause.Content d h = by (content_in first e) (content_in second e) refl refl h
    where
      by : (x y : Option Content) → content_in first e ≡ x → content_in second e ≡ y → BothBreak first x y → Parts e
      by None y q r h = elim h [ ]
      by (Some a) None q r h = elim h [ ]
      by (Some a) (Some b) q r h = by_content e a b q r h
  breaking e cause.Text d h = by_oddness e d (some_odd (odd_in first second e) cause.Text h.1)
  breaking e (cause.Attribute name) d h = by_oddness e d (some_odd (odd_in first second e) (cause.Attribute name) h.1)

  -- ---- it stands in a document from the root

  -- items with a separating document put in the place of one of their elements
  record Replaced (items : Items) : Type 0 where
    new : Items
    names : child_names new ≡ child_names items
    alone : elements_alone new ≡ elements_alone items
    plain : runs_plain new ≡ runs_plain items
    beside : are_items new ≡ are_items items
    made : EachBelow IsWellMade new
    right : EachBelow (Meets first) new
    wrong : EachBelow (Meets second) new → ⊥

  allowed-same : (k : TextKind) (new items : Items) → elements_alone new ≡ elements_alone items → runs_plain new ≡ runs_plain items → TextAllowed k items → TextAllowed k new
  allowed-same NoItems new items a p h = a ∙ h
  allowed-same White new items a p h = p ∙ h
  allowed-same All new items a p h = refl

  meets-same : (name : Chars) (atts : List Attribute) (items : Items) (t : Replaced items) → Meets first name atts items → Meets first name atts t.new
  meets-same name atts items t = by (content_in first name)
    where
      by : (o : Option Content) → MeetsContent o (attributes_in first name) atts items → MeetsContent o (attributes_in first name) atts t.new
      by None h = h
      by (Some a) h = record {
        content = subst (Derives a) (sym t.names) h.content;
        suits = record { text = allowed-same (text_kind a) t.new items t.alone t.plain h.suits.text; attributes = h.suits.attributes };
      }

  made-same : (name : Chars) (atts : List Attribute) (items : Items) (t : Replaced items) → IsWellMade name atts items → IsWellMade name atts t.new
  made-same name atts items t w = record { named = w.named; attributes = w.attributes; beside = t.beside ∙ w.beside }

  module _ (e : Chars) (s : Node) (sep : IsSeparating first second e s) where
    replaced : (items : Items) → EachBelow IsWellMade items → EachBelow (Meets first) items → stands_below e items ≡ true → Replaced items
    replaced nothing w h i = absurd (true≢false (sym i))
    replaced (element name atts inside later) w h i =
        let P : Bool → Type 0 = λ b. bytes_eq e name ≡ b → (b || stands_below e inside || stands_below e later) ≡ true → Replaced (element name atts inside later) in
        let Q : Bool → Type 0 = λ b. (false || b || stands_below e later) ≡ true → Replaced (element name atts inside later) in
        on_test P (bytes_eq e name)
        (λ t q i. record {
          new = element s.name s.atts s.items later;
          names = ap (λ x. x ∷ child_names later) (sep.1.0 ∙ bytes_same e name q);
          alone = refl;
          plain = refl;
          beside = refl;
          made = (sep.0.0, sep.0.1, w.2);
          right = (sep.1.1.0, sep.1.1.1, h.2);
          wrong = λ k. sep.2 (sep.1.0, (k.0, k.1));
        })
        (λ t q i. on_test Q (stands_below e inside)
        (λ t i.
        let r = replaced inside w.1 h.1 t in
        record {
          new = element name atts r.new later;
          names = refl;
          alone = refl;
          plain = refl;
          beside = refl;
          made = (made-same name atts inside r w.0, r.made, w.2);
          right = (meets-same name atts inside r h.0, r.right, h.2);
          wrong = λ k. r.wrong k.1;
        })
        (λ t i.
        let r = replaced later w.2 h.2 i in
        record {
          new = element name atts inside r.new;
          names = ap (λ x. name ∷ x) r.names;
          alone = r.alone;
          plain = r.plain;
          beside = r.beside;
          made = (w.0, w.1, r.made);
          right = (h.0, h.1, r.right);
          wrong = λ k. r.wrong k.2;
        }) i)
        refl i
    replaced (chars run true later) w h i =
        let r = replaced later w h i in
        record {
          new = chars run true r.new;
          names = r.names;
          alone = refl;
          plain = ap (λ b. true && b) r.plain;
          beside = ap (λ b. are_chars run && (is_white run && b)) r.beside;
          made = r.made;
          right = r.right;
          wrong = r.wrong;
        }
    replaced (chars run false later) w h i =
        let r = replaced later w h i in
        record {
          new = chars run false r.new;
          names = r.names;
          alone = refl;
          plain = ap (λ b. false && b) r.plain;
          beside = ap (λ b. are_chars run && b) r.beside;
          made = r.made;
          right = r.right;
          wrong = r.wrong;
        }
    replaced (comment run later) w h i =
        let r = replaced later w h i in
        record {
          new = comment run r.new;
          names = r.names;
          alone = refl;
          plain = r.plain;
          beside = ap (λ b. are_chars run && b) r.beside;
          made = r.made;
          right = r.right;
          wrong = r.wrong;
        }
    replaced (pi target body later) w h i =
        let r = replaced later w h i in
        record {
          new = pi target body r.new;
          names = r.names;
          alone = refl;
          plain = r.plain;
          beside = ap (λ b. is_name target && (are_chars body && b)) r.beside;
          made = r.made;
          right = r.right;
          wrong = r.wrong;
        }

    -- a document from the root with e gives a separating one
    around : (root : Chars) (node : Node) → IsDocument node → IsValid first root node → stands_in e node ≡ true → Parts root
    unfolding Parts
    around root node w h i =
        let P : Bool → Type 0 = λ b. bytes_eq e node.name ≡ b → (b || stands_below e node.items) ≡ true → (r : Node) × IsSeparating first second root r in
        on_test P (bytes_eq e node.name)
        (λ t q i.
        let same : e ≡ root = bytes_same e node.name q ∙ h.0 in
        (s, subst (λ x. IsSeparating first second x s) same sep))
        (λ t q i.
        let r = replaced node.items w.1 h.1.1 i in (
          node_of node.name node.atts r.new,
          ((made-same node.name node.atts node.items r w.0, r.made), (h.0, (meets-same node.name node.atts node.items r h.1.0, r.right)), λ k. r.wrong k.1.1),
        ))
        refl i

  pub has_document : (e root : Chars) → IsUseful first root e → HasDocument first e
  has_document e root u =
      let node = u.0 in
      let P : Bool → Type 0 = λ b. bytes_eq e node.name ≡ b → (b || stands_below e node.items) ≡ true → HasDocument first e in
      on_test P (bytes_eq e node.name)
      (λ t q i. (node, u.1, (sym (bytes_same e node.name q), u.2.1)))
      (λ t q i. below first e node.items u.1.1 u.2.1.1 i)
      refl u.3

  -- round a useful element that breaks there is a separating document
  pub separated : (root e : Chars) (k : Cause) → IsUseful first root e → Breaks first second e k → (node : Node) × IsSeparating first second root node
  unfolding Parts
  separated root e k u b =
      let s = breaking e k (has_document e root u) b in
      around e s.0 s.1 root u.0 u.1 u.2 u.3

  pub none_breaks : (root : Chars) → IsSubset first second root → NoneBreaks first second root
  unfolding Parts
  none_breaks root sub e u k b =
      let s = breaking e k (has_document e root u) b in
      let r = around e s.0 s.1 root u.0 u.1 u.2 u.3 in
      sub r.0 r.1

  -- ---- where no useful element breaks

  -- what is odd breaks, where the content does not
  as_odd : (o : Odd) (a b : Option Content) (list other : Definitions) → OddBreaks first a b list other (cause_of o) → BreaksBy first a b list other (cause_of o)
  as_odd odd.Undeclared a b list other h = h
  as_odd odd.Text a b list other h = h
  as_odd (odd.Attribute o) a b list other h = h

  -- a node whose element does not break meets the second
  met_too : (name : Chars) (atts : List Attribute) (inside : Items) → EachBelow IsWellMade inside → EachBelow (Meets first) inside → Meets first name atts inside
      → ((k : Cause) → Breaks first second name k → ⊥) → (Meets second name atts inside → ⊥) → ⊥
  met_too name atts inside w h m nb n = by (odd_in first second name) (odd_tells_all first second name kf ks) refl
    where
      t : IsMet first name atts inside
      t = met first name atts inside m

      by : (x : Option Odd) → TellsOdd first second name x → odd_in first second name ≡ x → ⊥
      by (Some o) tells q =
          nb (cause_of o) (as_odd o (content_in first name) (content_in second name) (attributes_in first name) (attributes_in second name)
          ((λ z. nb cause.Content z), ap (option_map cause_of) q))
      by None over q =
          let s = over atts inside t.suits in
          let u = suited second name atts inside s in
          let c : ContentBreaks first t.content u.0 = (child_names inside, each_document first inside w h, t.derived, λ d. n (meets second name atts inside u.0 u.1 d s)) in
          nb cause.Content (subst (λ x. BothBreak first x (content_in second name)) (sym t.declared) (subst (λ y. BothBreak first (Some t.content) y) (sym u.1) c))

  module _ (U : Chars → Type 0) (none : (e : Chars) → U e → (k : Cause) → Breaks first second e k → ⊥) where
    kept : (items : Items) → ((e : Chars) → stands_below e items ≡ true → U e) → EachBelow IsWellMade items → EachBelow (Meets first) items
        → (EachBelow (Meets second) items → ⊥) → ⊥
    kept nothing u w h n = n tt
    kept (element name atts inside later) u w h n =
        kept inside (λ e i. u e (within e i)) w.1 h.1
        (λ mi. kept later (λ e i. u e (behind e i)) w.2 h.2
        (λ ml. met_too name atts inside w.1 h.1 h.0 (none name (u name here)) (λ m. n (m, mi, ml))))
      where
        here : (bytes_eq name name || stands_below name inside || stands_below name later) ≡ true
        here = ap (λ b. b || stands_below name inside || stands_below name later) (bytes_own name)

        within : (e : Chars) → stands_below e inside ≡ true → (bytes_eq e name || stands_below e inside || stands_below e later) ≡ true
        within e i = or-second (bytes_eq e name) (stands_below e inside) (stands_below e later) i

        behind : (e : Chars) → stands_below e later ≡ true → (bytes_eq e name || stands_below e inside || stands_below e later) ≡ true
        behind e i = or-third (bytes_eq e name) (stands_below e inside) (stands_below e later) i
    kept (chars run plain later) u w h n = kept later u w h n
    kept (comment run later) u w h n = kept later u w h n
    kept (pi target body later) u w h n = kept later u w h n

  pub is_subset : (root : Chars) → NoneBreaks first second root → IsSubset first second root
  is_subset root none node sep =
      let U : Chars → Type 0 = λ e. stands_in e node ≡ true in
      let useful : (e : Chars) → U e → (k : Cause) → Breaks first second e k → ⊥ = λ e i k b. none e (node, sep.0, sep.1, i) k b in
      kept U useful node.items (λ e i. or_right (bytes_eq e node.name) (stands_below e node.items) i) sep.0.1 sep.1.1.1
      (λ mi. met_too node.name node.atts node.items sep.0.1 sep.1.1.1 sep.1.1.0
      (useful node.name (or_left (bytes_eq node.name node.name) (stands_below node.name node.items) (bytes_own node.name)))
      (λ m. sep.2 (sep.1.0, (m, mi))))

pub subset_by_breaks : SubsetByBreaks
subset_by_breaks first second root kf ks = (none_breaks first second kf ks root, is_subset first second kf ks root)
