-- Least and chosen trees are as large as m and v say, and a chosen one separates.
use Rattle.std.proofs.Common.{◌≡◌, List, [], ◌∷◌, ℕ, ◌+◌, ◌≤◌, inl, inr, refl, sym, ap, ◌∙◌, subst, arith, Bool, true, false, cond, not, ◌&&◌, Option, Some, None, IsTrue, true≢false}
use Rattle.std.specs.Prelude.{option_map}
use Rattle.std.proofs.lemmas.Bool.{both_ways, and_from}
use Rattle.content_models.specs.declared.content.Content.{Content}
use Rattle.content_models.specs.declared.content.TextKind.{TextKind}
use Rattle.content_models.specs.declared.content.TextKind.TheVariants.{NoItems, White, All}
use Rattle.content_models.specs.Model.{Chars}
use Rattle.content_models.specs.Kinds.{text_kind}
use Rattle.document_trees.specs.Trees.{Attribute, Items, nothing, element, chars, comment, pi, Node, EachBelow, child_names, elements_in, elements_alone, are_chars, is_white, are_items}
use Rattle.position_automata.proofs.States.{one_state_follows}
use Rattle.attlist_merge.specs.declared.odd.OddAtt.{OddAtt}
use Rattle.attlist_merge.specs.Values.{is_right}
use Rattle.attlist_merge.specs.Oddness.{odd_of, shown_by, Tells}
use Rattle.attlist_merge.proofs.Showing.{odd_tells}
use Rattle.decl_set.specs.Declarations.{Declarations, content_in, attributes_in}
use Rattle.decl_set.specs.Asked.{IsKept}
use Rattle.decl_set.specs.Validity.{TextAllowed, Meets, SuitsContent}
use Rattle.tree_costs.specs.declared.cost.Cost.TheVariants.{Fin}
use Rattle.decl_set.specs.declared.breaks.Odd.{Odd}
use Rattle.decl_set.specs.declared.breaks.Odd.TheVariants as odd
use Rattle.tree_costs.specs.Beside.{Front, put, IsRight}
use Rattle.decl_set.specs.Oddness.{more_text, odd_by, odd_in}
use Rattle.bound_checker.specs.Beside.{IsWrong}
use Rattle.tree_costs.specs.Costs.{sum}
use Rattle.tree_costs.specs.Families.{AreExact}
use Rattle.position_automata.specs.Runs.{Runs}
use Rattle.position_automata.specs.Stepping.{step_on}
use Rattle.bound_checker.specs.Tabled.{Costs}
use Rattle.exact_tables.specs.Families.{IsExact}
use Rattle.exact_tables.specs.Forests.{HasWrong}
use Rattle.attlist_merge.specs.Shown.{required_of}
use Rattle.exact_tables.specs.LeastTrees.{IsWritten, are_written, begins_run, has_cr, is_filled, depth, IsBuilt, LeastTreeIsBuilt}
use Rattle.exact_tables.specs.Chosen.{odd_atts, front_text, front_of, odd_front, past, AttainsOdd, OddFrom, ChosenOdd, ChosenNames, ChosenBy, AttainsWrong, WrongFrom, LeastIsBuilt, ChosenIsBuilt}
use Rattle.bound_checker.proofs.Running.{runs-of}
use Rattle.decl_set.proofs.Suiting.{met, allowed_alone}
use Rattle.decl_set.proofs.Found.{attributes_kept, attributes_defined, element_is}
use Rattle.jats_chars.specs.Names.{is_name}
use Rattle.attlist_merge.proofs.Samples.{odd_of_chars, shown_of_chars, shown_named}
use Rattle.tree_costs.proofs.Beside.{classes_chars, names_are, made_attributes}
use Rattle.bound_checker.proofs.Oddly.{suits_parts, space_chars, space_white, x_chars}
use Rattle.tree_costs.proofs.Beside.{suits_in}
use Rattle.tree_costs.proofs.Building.{topped}
use Rattle.exact_tables.proofs.Building.{wrong-each}
use Rattle.position_automata.proofs.Stepping.{on_to, on_none}
use Rattle.exact_tables.proofs.Required.{required_is_right}
use Rattle.exact_tables.proofs.Choosing.{same-some}
use Rattle.exact_tables.proofs.Built.{parts, fin-same, alone-written, alone-begins, IsBuiltTop, IsRow, row-more, required_top, step_of, least-row, least-top, least-size, least_top-size}
use Rattle.exact_tables.proofs.Depth.{least-open, chosen-open}
use Rattle.exact_tables.proofs.Unique.{exact_is_own}

-- ---- a run in front

-- the run is well made and allowed by the one kind, and never by the other; with elements behind it it can be written
pub record ShowsText (k l : TextKind) (front : Front) : Type 0 where
  made : (inside : Items) → IsTrue (are_items inside) → IsTrue (are_items (put front inside))
  right : (inside : Items) → IsTrue (elements_alone inside) → TextAllowed k (put front inside)
  wrong : (inside : Items) → TextAllowed l (put front inside) → ⊥

spaced : (l : TextKind) → ((inside : Items) → TextAllowed l (chars (0x20 ∷ []) true inside) → ⊥) → ShowsText White l (Some (0x20 ∷ [], true))
spaced l w = record {
  made = λ inside h. and_from (are_chars (0x20 ∷ [])) (is_white (0x20 ∷ []) && are_items inside) space_chars (and_from (is_white (0x20 ∷ [])) (are_items inside) space_white h);
  right = λ inside h. allowed_alone White inside h;
  wrong = w;
}

marked : (l : TextKind) → ((inside : Items) → TextAllowed l (chars (0x78 ∷ []) false inside) → ⊥) → ShowsText All l (Some (0x78 ∷ [], false))
marked l w = record {
  made = λ inside h. and_from (are_chars (0x78 ∷ [])) (are_items inside) x_chars h;
  right = λ inside h. refl;
  wrong = w;
}

shows_text : (k l : TextKind) → more_text k l ≡ true → ShowsText k l (front_text k l)
shows_text NoItems l m = absurd (true≢false (sym m))
shows_text White NoItems m = spaced NoItems (λ inside h. true≢false (sym h))
shows_text White White m = absurd (true≢false (sym m))
shows_text White All m = absurd (true≢false (sym m))
shows_text All NoItems m = marked NoItems (λ inside h. true≢false (sym h))
shows_text All White m = marked White (λ inside h. true≢false (sym h))
shows_text All All m = absurd (true≢false (sym m))

-- a front that can be written before elements
abbrev pub IsWrittenFront : Front → Type 0
IsWrittenFront front = (inside : Items) → IsTrue (elements_alone inside) → IsTrue (are_written (put front inside))

x_written : IsWrittenFront (Some (0x78 ∷ [], false))
x_written inside h = and_from (not (begins_run inside)) (are_written inside) (ap not (alone-begins inside h)) (alone-written inside h)

space_written : IsWrittenFront (Some (0x20 ∷ [], true))
space_written inside h =
    and_from (is_white (0x20 ∷ [])) (is_filled (0x20 ∷ []) && (not (has_cr (0x20 ∷ [])) && (not (begins_run inside) && are_written inside))) space_white
    (x_written inside h)

text_written : (k l : TextKind) → IsWrittenFront (front_text k l)
text_written NoItems l = x_written
text_written White NoItems = space_written
text_written White White = x_written
text_written White All = x_written
text_written All l = x_written

-- ---- what shows that an element is odd

pub record Shows (first second : Declarations) (e : Chars) (atts : List Attribute) (front : Front) : Type 0 where
  right : IsRight first e atts front
  wrong : IsWrong second e atts front
  written : IsWrittenFront front

module _ (first second : Declarations) (e : Chars) (kf : IsKept first) (ks : IsKept second) where
  abbrev Found : Odd → Type 0
  Found o = Shows first second e (odd_atts o (attributes_in first e)) (odd_front first second e o)

  undeclared : (a : Content) → content_in first e ≡ Some a → content_in second e ≡ None → Found odd.Undeclared
  undeclared a q r = record {
    right = required_is_right first e a kf q;
    wrong = λ inside i s. subst (λ o. SuitsContent o (attributes_in second e) (required_of (attributes_in first e)) inside) r s;
    written = alone-written;
  }

  by_text : (a b : Content) → content_in first e ≡ Some a → content_in second e ≡ Some b → more_text (text_kind a) (text_kind b) ≡ true → Found odd.Text
  by_text a b q r m =
      let list = required_of (attributes_in first e) in
      let h = required_is_right first e a kf q in
      let s = shows_text (text_kind a) (text_kind b) m in
      let z : front_text (text_kind a) (text_kind b) ≡ front_of (content_in first e) (content_in second e) =
      sym (ap (λ x. front_of x (content_in second e)) q ∙ ap (front_of (Some a)) r) in
      subst (Shows first second e list) z (record {
        right = record {
          attributes = h.attributes;
          items = s.made;
          suits = λ inside i. suits_in first e a list (put (front_text (text_kind a) (text_kind b)) inside) q (s.right inside i)
              (suits_parts first e a list inside q (h.suits inside i)).attributes;
        };
        wrong = λ inside i u. s.wrong inside (suits_parts second e b list (put (front_text (text_kind a) (text_kind b)) inside) r u).text;
        written = text_written (text_kind a) (text_kind b);
      })

  by_attribute : (a b : Content) → content_in first e ≡ Some a → content_in second e ≡ Some b → (o : OddAtt)
      → odd_of (attributes_in first e) (attributes_in second e) ≡ Some o → Found (odd.Attribute o)
  by_attribute a b q r o h =
      let list = attributes_in first e in
      let other = attributes_in second e in
      let k = attributes_kept first e kf in
      let d = attributes_defined first e kf in
      let t : Tells list other (Some o) = subst (Tells list other) h (odd_tells list other k (attributes_kept second e ks)) in
      record {
        right = record {
          attributes = made_attributes (shown_by o list) (shown_named is_name o list (names_are list d))
              (shown_of_chars o list (odd_of_chars list other o (classes_chars list d) h) (classes_chars list d)) t.2;
          items = λ inside i. i;
          suits = λ inside i. suits_in first e a (shown_by o list) inside q (allowed_alone (text_kind a) inside i) t.0;
        };
        wrong = λ inside i u. both_ways (is_right other (shown_by o list)) t.1 (suits_parts second e b (shown_by o list) inside r u).attributes;
        written = alone-written;
      }

  by_list : (a b : Content) → content_in first e ≡ Some a → content_in second e ≡ Some b → (x : Option OddAtt) → odd_of (attributes_in first e) (attributes_in second e) ≡ x
      → (o : Odd) → option_map odd.Attribute x ≡ Some o → Found o
  by_list a b q r None h o n = cc
  by_list a b q r (Some y) h o n = let same : odd.Attribute y ≡ o = cc in subst Found same (by_attribute a b q r y h)

  by_either : (a b : Content) → content_in first e ≡ Some a → content_in second e ≡ Some b → (m : Bool) → more_text (text_kind a) (text_kind b) ≡ m
      → (o : Odd) → cond m (Some odd.Text) (option_map odd.Attribute (odd_of (attributes_in first e) (attributes_in second e))) ≡ Some o → Found o
  by_either a b q r true m o n = let same : odd.Text ≡ o = cc in subst Found same (by_text a b q r m)
  by_either a b q r false m o n = by_list a b q r (odd_of (attributes_in first e) (attributes_in second e)) refl o n

  found : (x y : Option Content) → content_in first e ≡ x → content_in second e ≡ y → (o : Odd) → odd_by x y (attributes_in first e) (attributes_in second e) ≡ Some o → Found o
  found None y q r o h = cc
  found (Some a) None q r o h = let same : odd.Undeclared ≡ o = cc in subst Found same (undeclared a q r)
  found (Some a) (Some b) q r o h = by_either a b q r (more_text (text_kind a) (text_kind b)) refl o h

  shows : (o : Odd) → odd_in first second e ≡ Some o → Found o
  shows o h = found (content_in first e) (content_in second e) refl refl o h

-- ---- chosen trees

-- a node of the first that does not meet the second
pub record IsSplit (first second : Declarations) (e : Chars) (atts : List Attribute) (items : Items) (n : ℕ) : Type 0 where
  pub top : IsBuiltTop first e atts items
  pub wrong : Meets second e atts items → EachBelow (Meets second) items → ⊥
  pub sized : 1 + elements_in items ≡ n

-- a row of the first with an element that is wrong in the second
pub record IsWrongRow (first second : Declarations) (a : Content) (i : ℕ) (items : Items) (n : ℕ) : Type 0 where
  row : IsRow first a i items
  wrong : HasWrong second items
  sized : elements_in items ≡ n

put-size : (front : Front) (items : Items) → elements_in (put front items) ≡ elements_in items
put-size None items = refl
put-size (Some run) items = refl

put-each : (P : Chars → List Attribute → Items → Type 0) (front : Front) (items : Items) → EachBelow P items → EachBelow P (put front items)
put-each P None items h = h
put-each P (Some run) items h = h

module _ (first second : Declarations) (cap : ℕ) (c : Costs) (kf : IsKept first) (ks : IsKept second) (X : IsExact first second cap c) where
  abbrev O : AreExact first cap c.m c.p
  O = exact_is_own first second cap c X

  -- ---- the path of G

  odd-row : (e : Chars) (a b : Content) (i j : ℕ) (xs : Items) → OddFrom first second cap c e a b i j xs → IsRow first a i xs
  odd-row e a b i j nothing h = record { forest = record { alone = refl; made = tt; met = tt }; run = h.1; written = tt }
  odd-row e a b i j (element n at x l) h =
      let s = step_of first (AttainsOdd first second cap c e b i j) a i h.0 n h.2 in
      let r : IsRow first a h.0 l = elim h.4 [ inl u ↦ odd-row e a b h.0 u.0 l u.2 | inr u ↦ least-row first cap c.m c.p kf e a h.0 l u.1 ] in
      row-more first a i h.0 n at x l s.0 (least-top first cap c.m c.p kf n at x h.3) r.forest r.run r.written
  odd-row e a b i j (chars t p l) h = elim h [ ]
  odd-row e a b i j (comment t l) h = elim h [ ]
  odd-row e a b i j (pi t o l) h = elim h [ ]

  odd-run : (e : Chars) (a b : Content) (i j : ℕ) (xs : Items) → content_in second e ≡ Some b → OddFrom first second cap c e a b i j xs → Runs b j (child_names xs) → ⊥
  odd-run e a b i j nothing d h r = h.2 r
  odd-run e a b i j (element n at x l) d h r = elim h.4 [
    | inl u ↦
        let one = (one_state_follows b).0 (element_is second e b ks d).deterministic in
        odd-run e a b h.0 u.0 l d u.2 (subst (λ k. Runs b k (child_names l)) (one j r.0 u.0 n r.1 (on_to b j u.0 n u.1)) r.2)
    | inr u ↦ on_none b j r.0 n u.0 r.1
  ]
  odd-run e a b i j (chars t p l) d h r = elim h [ ]
  odd-run e a b i j (comment t l) d h r = elim h [ ]
  odd-run e a b i j (pi t o l) d h r = elim h [ ]

  odd-size : (e : Chars) (a b : Content) (i j n : ℕ) (xs : Items) → content_in first e ≡ Some a → n ≤ cap → c.g e i j ≡ Fin n → OddFrom first second cap c e a b i j xs
      → elements_in xs ≡ n
  odd-size e a b i j n nothing d l q h = fin-same 0 n (sym h.0 ∙ q)
  odd-size e a b i j n (element m at x k) d l q h =
      let s = (step_of first (AttainsOdd first second cap c e b i j) a i h.0 m h.2).1 in
      let u = parts cap (c.m m) (past first second cap c e h.0 (step_on b j m)) n l (sym s ∙ q) in
      let g = u.4 in
      let y = least_top-size first cap c.m c.p kf O m u.0 at x (omega (arith, g, l)) u.2 h.3 in
      let z : elements_in k ≡ u.1 = elim h.4 [
        | inl w ↦ odd-size e a b h.0 w.0 u.1 k d (omega (arith, g, l)) (sym (ap (past first second cap c e h.0) w.1) ∙ u.3) w.2
        | inr w ↦ least-size first cap c.m c.p kf O e a h.0 u.1 k d (omega (arith, g, l)) (sym (ap (past first second cap c e h.0) w.0) ∙ u.3) w.1
      ] in
      omega (arith, g, y, z)
  odd-size e a b i j n (chars t p k) d l q h = elim h [ ]
  odd-size e a b i j n (comment t k) d l q h = elim h [ ]
  odd-size e a b i j n (pi t o k) d l q h = elim h [ ]

  -- ---- the three kinds

  split_odd : (e : Chars) (atts : List Attribute) (items : Items) (n : ℕ) → n ≤ cap → c.m e ≡ Fin n → ChosenOdd first second cap c e atts items
      → IsSplit first second e atts items n
  split_odd e atts items n l q h =
      let a = h.0 in
      let o = h.1 in
      let inside = h.2 in
      let list = odd_atts o (attributes_in first e) in
      let front = odd_front first second e o in
      let s = shows first second e kf ks o h.4 in
      let r = least-row first cap c.m c.p kf e a 0 inside h.7 in
      let t = topped first e a inside list front kf h.3 s.right r.forest r.run in
      let z = least_top-size first cap c.m c.p kf O e n (required_of (attributes_in first e)) inside l q (a, h.3, refl, h.7) in
      subst (λ x. IsSplit first second e x items n) (sym h.5) (subst (λ x. IsSplit first second e list x n) (sym h.6) (record {
        top = record {
          made = t.document.0;
          made_below = t.document.1;
          met = t.valid.1.0;
          met_below = t.valid.1.1;
          written = (s.right.attributes, s.written inside r.forest.alone);
          written_below = put-each IsWritten front inside r.written;
        };
        wrong = λ k below. s.wrong inside r.forest.alone (met second e list (put front inside) k).suits;
        sized = ap (λ x. 1 + x) (put-size front inside) ∙ z;
      }))

  split_names : (e : Chars) (atts : List Attribute) (items : Items) (n : ℕ) → n ≤ cap → c.v e ≡ Fin n → c.v e ≡ sum cap (Fin 1) (c.g e 0 0)
      → ChosenNames first second cap c e atts items → IsSplit first second e atts items n
  split_names e atts items n l q s h =
      let a = h.0 in
      let b = h.1 in
      let u = parts cap (Fin 1) (c.g e 0 0) n l (sym s ∙ q) in
      let one : 1 ≡ u.0 = fin-same 1 u.0 u.2 in
      let g = u.4 in
      let z = odd-size e a b 0 0 u.1 items h.2 (omega (arith, g, l)) u.3 h.5 in
      record {
        top = required_top first e a atts items kf h.2 h.4 (odd-row e a b 0 0 items h.5);
        wrong = λ k below.
            let m = met second e atts items k in
            odd-run e a b 0 0 items h.3 h.5 (subst (λ (x : Content). Runs x 0 (child_names items)) (same-some (content_in second e) m.content b m.declared h.3)
            (runs-of m.content (child_names items) m.derived));
        sized = omega (arith, one, g, z);
      }

  split_below : (e : Chars) (a : Content) (atts : List Attribute) (items : Items) (n j : ℕ) → content_in first e ≡ Some a → atts ≡ required_of (attributes_in first e)
      → n ≡ 1 + j → IsWrongRow first second a 0 items j → IsSplit first second e atts items n
  split_below e a atts items n j d q s w =
      let z = w.sized in
      record {
        top = required_top first e a atts items kf d q w.row;
        wrong = λ k below. wrong-each second items w.wrong below;
        sized = omega (arith, s, z);
      }

  -- the row of F, for what stands below
  split : (W : Content → Type 0) (e : Chars) (atts : List Attribute) (items : Items) (n : ℕ) → n ≤ cap → c.v e ≡ Fin n
      → ((a : Content) (j : ℕ) → content_in first e ≡ Some a → j ≤ cap → c.f e 0 ≡ Fin j → W a → IsWrongRow first second a 0 items j)
      → ChosenBy first second cap c W e atts items → IsSplit first second e atts items n
  split W e atts items n l q f (inl h) = split_odd e atts items n l (sym h.0.1 ∙ q) h.1
  split W e atts items n l q f (inr h) = elim h.1 [
    | inl u ↦ split_names e atts items n l q u.0.1 u.1
    | inr u ↦
        let p = parts cap (Fin 1) (c.f e 0) n l (sym u.1 ∙ q) in
        let one : 1 ≡ p.0 = fin-same 1 p.0 p.2 in
        let g = p.4 in
        split_below e u.2.0 atts items n p.1 u.2.1 u.2.2 (omega (arith, one, g)) (f u.2.0 p.1 u.2.1 (omega (arith, g, l)) p.3 u.2.3)
  ]

  wrong-row : (e : Chars) (a : Content) (i n : ℕ) (xs : Items) → content_in first e ≡ Some a → n ≤ cap → c.f e i ≡ Fin n → WrongFrom first second cap c e a i xs
      → IsWrongRow first second a i xs n
  wrong-row e a i n nothing d l q h = elim h [ ]
  wrong-row e a i n (element m at x k) d l q h =
      let s = step_of first (AttainsWrong first second cap c e i) a i h.0 m h.1 in
      elim h.2 [
        | inl w ↦
            let u = parts cap (c.v m) (c.p e h.0) n l (sym w.0 ∙ q) in
            let g = u.4 in
            let t = split (λ b. WrongFrom first second cap c m b 0 x) m at x u.0 (omega (arith, g, l)) u.2
            (λ b j d l q z. wrong-row m b 0 j x d l q z) w.1 in
            let r = least-row first cap c.m c.p kf e a h.0 k w.2 in
            let y = least-size first cap c.m c.p kf O e a h.0 u.1 k d (omega (arith, g, l)) u.3 w.2 in
            let z = t.sized in
            record {
              row = row-more first a i h.0 m at x k s.0 t.top r.forest r.run r.written;
              wrong = inl t.wrong;
              sized = omega (arith, g, y, z);
            }
        | inr w ↦
            let other : c.f e i ≡ sum cap (c.m m) (c.f e h.0) = elim s.1 [ inl z ↦ absurd (w.0 z) | inr z ↦ z ] in
            let u = parts cap (c.m m) (c.f e h.0) n l (sym other ∙ q) in
            let g = u.4 in
            let y = least_top-size first cap c.m c.p kf O m u.0 at x (omega (arith, g, l)) u.2 w.1 in
            let r = wrong-row e a h.0 u.1 k d (omega (arith, g, l)) u.3 w.2 in
            let z = r.sized in
            record {
              row = row-more first a i h.0 m at x k s.0 (least-top first cap c.m c.p kf m at x w.1) r.row.forest r.row.run r.row.written;
              wrong = inr r.wrong;
              sized = omega (arith, g, y, z);
            }
      ]
  wrong-row e a i n (chars t p k) d l q h = elim h [ ]
  wrong-row e a i n (comment t k) d l q h = elim h [ ]
  wrong-row e a i n (pi t b k) d l q h = elim h [ ]

  pub chosen_split : (e : Chars) (atts : List Attribute) (items : Items) (n : ℕ) → n ≤ cap → c.v e ≡ Fin n
      → ChosenBy first second cap c (λ a. WrongFrom first second cap c e a 0 items) e atts items → IsSplit first second e atts items n
  chosen_split e atts items n l q h =
      split (λ a. WrongFrom first second cap c e a 0 items) e atts items n l q (λ a j d l q z. wrong-row e a 0 j items d l q z) h

-- ---- the laws

-- a node that is right and of this size
built : (open_ones : ℕ) (set : Declarations) (e : Chars) (n : ℕ) (node : Node) → node.name ≡ e → IsBuiltTop set e node.atts node.items → 1 + elements_in node.items ≡ n
    → 1 + depth node.items ≤ open_ones → IsBuilt open_ones set e n node
built open_ones set e n node q t s w =
    let r = subst (λ (x : Chars). IsBuiltTop set x node.atts node.items) (sym q) t in
    record {
      document = (r.made, r.made_below);
      valid = (q, (r.met, r.met_below));
      sized = s;
      written = (r.written, r.written_below);
      shallow = w;
    }

pub least_tree_is_built : LeastTreeIsBuilt
least_tree_is_built set cap m p kept X e n l q node h =
    built 1024 set e n node h.0 (least-top set cap m p kept e node.atts node.items h.1) (least_top-size set cap m p kept X e n node.atts node.items l q h.1)
    (least-open set cap m p kept X e n node.atts node.items l q h.1)

pub least_is_built : LeastIsBuilt
least_is_built first second cap c kf ks X = least_tree_is_built first cap c.m c.p kf (exact_is_own first second cap c X)

pub chosen_is_built : ChosenIsBuilt
chosen_is_built first second cap c kf ks X e n l q node h =
    let t = chosen_split first second cap c kf ks X e node.atts node.items n l q h.1 in
    let b = built 2048 first e n node h.0 t.top t.sized (chosen-open first second cap c kf X e n node.atts node.items l q h.1) in (
      b,
      (
        b.document,
        b.valid,
        λ k. t.wrong (subst (λ (x : Chars). Meets second x node.atts node.items) h.0 k.1.0) k.1.1,
      ),
    )
