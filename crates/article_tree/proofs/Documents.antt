-- What is read is a document, in which runs are as long as can be.
use Rattle.std.proofs.Common.{◌≡◌, ◌∙◌, ℕ, suc, ◌+◌, List, [], ◌∷◌, ◌++◌, length, Bool, true, false, not, cond, ◌&&◌, ◌||◌, Option, Some, None, Ok, refl, ap, sym, subst, codes, bytes_eq, ⊎_elim}
use Rattle.std.specs.Prelude.{IsTrue, nat_lt}
use Rattle.std.specs.Map.{lookup}
use Rattle.std.specs.List.{list_all}
use Rattle.std.proofs.lemmas.Bool.{and_parts, and_from, not_from_false, false≢true}
use Rattle.std.proofs.lemmas.List.Folds.{list_all-append}
use Rattle.jats_chars.specs.Classes.{is_char, is_space}
use Rattle.jats_chars.specs.Names.{is_name}
use Rattle.attribute_types.proofs.TextTests.{bytes_swap}
use Rattle.text_fronts.proofs.Fronts.{choose}
use Rattle.document_trees.specs.Trees.{Attribute, Items, Node, EachBelow, IsWellMade, IsDocument, are_chars, is_white, has_attribute, are_attributes, are_items}
use Rattle.document_trees.specs.Trees as tree
use Rattle.decl_set.specs.Asked.{is_entity, is_entity_kept}
use Rattle.decl_set.specs.Declarations.{Entity}
use Rattle.decl_set.specs.declared.entity.EntityDef.{EntityDef}
use Rattle.decl_set.specs.declared.entity.EntityDef.TheVariants.{Internal, External, Unparsed}
use Rattle.decl_set.specs.Values.{predefined, opening, entity_opened}
use Rattle.pe_expansion.specs.Opening.{is_open, most_included}
use Rattle.decl_set.proofs.ValueFacts.{value_chars}
use Rattle.article_tree.specs.Content.{run, joined, filled, Pieces, nothing, element, chars, comment, pi, included, items_of}
use Rattle.article_tree.specs.Tokens.{Raw, Token, letter, section, coded, named, remark, instruction, start, stop, IsAttribute, AreAttributes, IsToken, Begins}
use Rattle.article_tree.specs.Words.{Names, repeated}
use Rattle.article_tree.specs.Grammar.{predefined_characters, characters, AreValues, IsContent, IsArticle}
use Rattle.article_tree.specs.Runs.{AreApart}
use Rattle.article_tree.specs.Writing.{IsApart}
use Rattle.article_tree.proofs.Complete.{choose_ok, opens_given}

-- ---- runs

run_apart : (t : List ℕ) (p : Bool) (x : Items) → AreApart x → AreApart (run t p x)
run_apart t p tree.nothing is = (tt, tt)
run_apart t p (tree.element name atts inside later) is = (tt, is)
run_apart t p (tree.chars u q later) is = is
run_apart t p (tree.comment text later) is = (tt, is)
run_apart t p (tree.pi target body later) is = (tt, is)

joined_apart : (x y : Items) → AreApart x → AreApart y → AreApart (joined x y)
joined_apart tree.nothing y is others = others
joined_apart (tree.element name atts inside later) y is others = (is.0, joined_apart later y is.1 others)
joined_apart (tree.chars t p later) y is others = by later is.0 (joined_apart later y is.1 others)
  where
    by : (later : Items) → IsApart later → AreApart (joined later y) → AreApart (joined (tree.chars t p later) y)
    by tree.nothing apart rest = run_apart t p y others
    by (tree.element name atts inside more) apart rest = (tt, rest)
    by (tree.chars u q more) apart rest = absurd apart
    by (tree.comment text more) apart rest = (tt, rest)
    by (tree.pi target body more) apart rest = (tt, rest)
joined_apart (tree.comment text later) y is others = joined_apart later y is others
joined_apart (tree.pi target body later) y is others = joined_apart later y is others

filled_apart : (x : Items) → AreApart x → AreApart (filled x)
filled_apart tree.nothing is = (tt, tt)
filled_apart (tree.element name atts inside later) is = is
filled_apart (tree.chars t p later) is = is
filled_apart (tree.comment text later) is = is
filled_apart (tree.pi target body later) is = is

pub items_apart : (p : Pieces) → AreApart (items_of p)
items_apart nothing = tt
items_apart (element name atts inside later) = (items_apart inside, items_apart later)
items_apart (chars text plain later) = run_apart text plain (items_of later) (items_apart later)
items_apart (comment text later) = items_apart later
items_apart (pi target body later) = items_apart later
items_apart (included name inside later) = joined_apart (filled (items_of inside)) (items_of later) (filled_apart (items_of inside) (items_apart inside)) (items_apart later)

-- ---- characters

all_parts : (x y : List ℕ) → are_chars (x ++ y) ≡ true → (are_chars x ≡ true) × (are_chars y ≡ true)
all_parts x y all = and_parts (are_chars x) (are_chars y) (sym (list_all-append is_char x y) ∙ all)

begins_chars : (token : Token) (text rest : List ℕ) → (b : Begins token text rest) → are_chars text ≡ true → (are_chars b.0 ≡ true) × (are_chars rest ≡ true)
begins_chars token text rest (front, is, allows, form) all = all_parts front rest (sym (ap are_chars form) ∙ all)

-- what is assumed of a run
record IsRun (text : List ℕ) (plain : Bool) : Type 0 where
  chars : are_chars text ≡ true
  white : plain ≡ true → is_white text ≡ true

chars_of : (text : List ℕ) (plain : Bool) (later : Items) → are_items (tree.chars text plain later) ≡ true → IsRun text plain × (are_items later ≡ true)
chars_of text true later are =
    let a = and_parts (are_chars text) (is_white text && are_items later) are in
    let b = and_parts (is_white text) (are_items later) a.1 in
    (record { chars = a.0; white = λ is. b.0 }, b.1)
chars_of text false later are = let a = and_parts (are_chars text) (are_items later) are in (record { chars = a.0; white = λ is. absurd (false≢true is) }, a.1)

chars_are : (text : List ℕ) (plain : Bool) (later : Items) → IsRun text plain → are_items later ≡ true → are_items (tree.chars text plain later) ≡ true
chars_are text true later is are = and_from (are_chars text) (is_white text && are_items later) is.chars (and_from (is_white text) (are_items later) (is.white refl) are)
chars_are text false later is are = and_from (are_chars text) (are_items later) is.chars are

longer : (t u : List ℕ) (p q : Bool) → IsRun t p → IsRun u q → IsRun (t ++ u) (p && q)
longer t u p q a b = record {
  chars = list_all-append is_char t u ∙ and_from (are_chars t) (are_chars u) a.chars b.chars;
  white = λ is. let h = and_parts p q is in list_all-append is_space t u ∙ and_from (is_white t) (is_white u) (a.white h.0) (b.white h.1);
}

run_items : (t : List ℕ) (p : Bool) (x : Items) → IsRun t p → are_items x ≡ true → are_items (run t p x) ≡ true
run_items t p tree.nothing is are = chars_are t p tree.nothing is refl
run_items t p (tree.element name atts inside later) is are = chars_are t p (tree.element name atts inside later) is are
run_items t p (tree.chars u q later) is are = let h = chars_of u q later are in chars_are (t ++ u) (p && q) later (longer t u p q is h.0) h.1
run_items t p (tree.comment text later) is are = chars_are t p (tree.comment text later) is are
run_items t p (tree.pi target body later) is are = chars_are t p (tree.pi target body later) is are

joined_items : (x y : Items) → are_items x ≡ true → are_items y ≡ true → are_items (joined x y) ≡ true
joined_items tree.nothing y is are = are
joined_items (tree.element name atts inside later) y is are = joined_items later y is are
joined_items (tree.chars t p later) y is are = by later (joined_items later y h.1 are)
  where
    h : IsRun t p × (are_items later ≡ true)
    h = chars_of t p later is

    by : (z : Items) → are_items (joined z y) ≡ true → are_items (joined (tree.chars t p z) y) ≡ true
    by tree.nothing rest = run_items t p y h.0 are
    by (tree.element name atts inside more) rest = chars_are t p (joined (tree.element name atts inside more) y) h.0 rest
    by (tree.chars u q more) rest = chars_are t p (joined (tree.chars u q more) y) h.0 rest
    by (tree.comment text more) rest = chars_are t p (joined (tree.comment text more) y) h.0 rest
    by (tree.pi target body more) rest = chars_are t p (joined (tree.pi target body more) y) h.0 rest
joined_items (tree.comment text later) y is are =
    let a = and_parts (are_chars text) (are_items later) is in and_from (are_chars text) (are_items (joined later y)) a.0 (joined_items later y a.1 are)
joined_items (tree.pi target body later) y is are =
    let a = and_parts (is_name target) (are_chars body && are_items later) is in
    let b = and_parts (are_chars body) (are_items later) a.1 in
    and_from (is_name target) (are_chars body && are_items (joined later y)) a.0 (and_from (are_chars body) (are_items (joined later y)) b.0 (joined_items later y b.1 are))

filled_items : (x : Items) → are_items x ≡ true → are_items (filled x) ≡ true
filled_items tree.nothing is = refl
filled_items (tree.element name atts inside later) is = is
filled_items (tree.chars t p later) is = is
filled_items (tree.comment text later) is = is
filled_items (tree.pi target body later) is = is

-- ---- nodes below

module _ (P : List ℕ → List Attribute → Items → Type 0) where
  below_run : (t : List ℕ) (p : Bool) (x : Items) → EachBelow P x → EachBelow P (run t p x)
  below_run t p tree.nothing is = is
  below_run t p (tree.element name atts inside later) is = is
  below_run t p (tree.chars u q later) is = is
  below_run t p (tree.comment text later) is = is
  below_run t p (tree.pi target body later) is = is

  below_joined : (x y : Items) → EachBelow P x → EachBelow P y → EachBelow P (joined x y)
  below_joined tree.nothing y is others = others
  below_joined (tree.element name atts inside later) y is others = (is.0, is.1, below_joined later y is.2 others)
  below_joined (tree.chars t p later) y is others = by later (below_joined later y is others)
    where
      by : (z : Items) → EachBelow P (joined z y) → EachBelow P (joined (tree.chars t p z) y)
      by tree.nothing rest = below_run t p y others
      by (tree.element name atts inside more) rest = rest
      by (tree.chars u q more) rest = rest
      by (tree.comment text more) rest = rest
      by (tree.pi target body more) rest = rest
  below_joined (tree.comment text later) y is others = below_joined later y is others
  below_joined (tree.pi target body later) y is others = below_joined later y is others

  below_filled : (x : Items) → EachBelow P x → EachBelow P (filled x)
  below_filled tree.nothing is = tt
  below_filled (tree.element name atts inside later) is = is
  below_filled (tree.chars t p later) is = is
  below_filled (tree.comment text later) is = is
  below_filled (tree.pi target body later) is = is

-- ---- tokens of Chars

predefined_char : (name : List ℕ) (c : ℕ) → predefined name ≡ Some c → is_char c ≡ true
unfolding predefined is_char
predefined_char name c e =
    choose P (bytes_eq name (codes "lt")) (Some 60) _ c e (λ is f. given 60 refl f) (λ n e.
    choose P (bytes_eq name (codes "gt")) (Some 62) _ c e (λ is f. given 62 refl f) (λ n e.
    choose P (bytes_eq name (codes "amp")) (Some 38) _ c e (λ is f. given 38 refl f) (λ n e.
    choose P (bytes_eq name (codes "apos")) (Some 39) _ c e (λ is f. given 39 refl f) (λ n e.
    choose P (bytes_eq name (codes "quot")) (Some 34) None c e (λ is f. given 34 refl f) (λ n f. cc)))))
  where
    P : Type 0
    P = is_char c ≡ true

    given : (d : ℕ) → is_char d ≡ true → Some d ≡ Some c → is_char c ≡ true
    given d is f = let same : d ≡ c = cc in subst (λ x. is_char x ≡ true) same is

one_char : (c : ℕ) → is_char c ≡ true → IsRun (c ∷ []) false
one_char c is = record { chars = and_from (is_char c) true is refl; white = λ f. absurd (false≢true f) }

token_run : (token : Token) (text rest : List ℕ) (x : List ℕ × Bool) → Begins token text rest → are_chars text ≡ true → characters token ≡ Some x → IsRun x.0 x.1
token_run token text rest x begins all = by token begins.0 begins.1 (begins_chars token text rest begins all).0
  where
    given : (y : List ℕ × Bool) → IsRun y.0 y.1 → Some y ≡ Some x → IsRun x.0 x.1
    given y is e = let same : y ≡ x = cc in subst (λ (z : List ℕ × Bool). IsRun z.0 z.1) same is

    by_name : (name : List ℕ) (o : Option ℕ) → predefined name ≡ o → predefined_characters o ≡ Some x → IsRun x.0 x.1
    by_name name (Some c) is e = given (c ∷ [], false) (one_char c (predefined_char name c is)) e
    by_name name None is e = cc

    by : (token : Token) (front : List ℕ) → IsToken token front → are_chars front ≡ true → characters token ≡ Some x → IsRun x.0 x.1
    by (letter c) front is all e =
        let a = sym (ap are_chars is.2) ∙ all in
        given (c ∷ [], is_space c) (record { chars = a; white = λ white. and_from (is_space c) true white refl }) e
    by (section inside) front is all e =
        let a = all_parts (codes "<![CDATA[") (inside ++ codes "]]>") (sym (ap are_chars is.1) ∙ all) in
        given (inside, false) (record { chars = (all_parts inside (codes "]]>") a.1).0; white = λ f. absurd (false≢true f) }) e
    by (coded c) front is all e = given (c ∷ [], false) (one_char c is.2) e
    by (named name) front is all e = by_name name (predefined name) refl e
    by (remark inside) front is all e = cc
    by (instruction target body) front is all e = cc
    by (start tag) front is all e = cc
    by (stop name) front is all e = cc

-- ---- texts of entities

module _ (entities : List Entity) (kept : IsTrue (list_all is_entity_kept entities)) where
  opened_chars : (names : Names) (spent : ℕ) (name : List ℕ) (o : Option EntityDef) (r : List ℕ × ℕ) → ((d : EntityDef) → o ≡ Some d → is_entity d ≡ true) → entity_opened names spent name o ≡ Ok r → are_chars r.0 ≡ true
  opened_chars names spent name None r are e = cc
  opened_chars names spent name (Some (External ids)) r are e = cc
  opened_chars names spent name (Some (Unparsed ids notation)) r are e = cc
  opened_chars names spent name (Some (Internal text)) r are e =
      let P = are_chars r.0 ≡ true in
      choose_ok P (is_open names name) _ _ r e (λ is f. cc)
      (λ new f. choose_ok P (nat_lt (length names) 32) _ _ r f
      (λ room g. choose_ok P (nat_lt most_included (spent + length text)) _ _ r g (λ over h. cc)
      (λ fits h. let same : (text, spent + length text) ≡ r = cc in subst (λ (r : List ℕ × ℕ). are_chars r.0 ≡ true) same (are (Internal text) refl)))
      (λ full g. cc))

  looked_up : (es : List Entity) (name : List ℕ) (d : EntityDef) → list_all is_entity_kept es ≡ true → lookup (bytes_eq name) es ≡ Some d → is_entity d ≡ true
  looked_up [] name d all e = cc
  looked_up (x ∷ es) name d all e =
      let h = and_parts (is_entity_kept x) (list_all is_entity_kept es) all in
      choose (is_entity d ≡ true) (bytes_eq name x.0) (Some x.1) (lookup (bytes_eq name) es) d e
      (λ is f. let same : x.1 ≡ d = cc in subst (λ y. is_entity y ≡ true) same (and_parts (is_name x.0) (is_entity x.1) h.0).1) (λ is f. looked_up es name d h.1 f)

  opening_chars : (names : Names) (spent : ℕ) (name : List ℕ) (r : List ℕ × ℕ) → opening entities names spent name ≡ Ok r → are_chars r.0 ≡ true
  unfolding opening
  opening_chars names spent name r e = opened_chars names spent name (lookup (bytes_eq name) entities) r (λ d is. looked_up entities name d kept is) e

  -- ---- attributes

  attribute_parts : (text : List ℕ) (raw : Raw) → IsAttribute text raw → are_chars text ≡ true → are_chars raw.1 ≡ true
  attribute_parts text raw is all =
      let a = all_parts is.space _ (sym (ap are_chars is.form) ∙ all) in
      let b = all_parts raw.0 _ a.1 in
      let c = all_parts is.before _ b.1 in
      let d = all_parts (61 ∷ is.after) is.value c.1 in
      let q = is.is_quoted in
      let e = and_parts (is_char q.quote) (are_chars (raw.1 ++ q.quote ∷ [])) (sym (ap are_chars q.form) ∙ d.1) in
      (all_parts raw.1 (q.quote ∷ []) e.1).0

  -- an attribute that earlier ones hold
  abbrev Held : List Attribute → Attribute → Type 0
  Held earlier a = (name : List ℕ) → has_attribute earlier name ≡ false → bytes_eq name a.0 ≡ false

  or_false : (a b : Bool) → (a || b) ≡ false → (a ≡ false) × (b ≡ false)
  or_false true b is = absurd (false≢true (sym is))
  or_false false b is = (refl, is)

  none_parts : (b : Bool) (name : List ℕ) (o : Option (List ℕ)) → cond b (Some name) o ≡ None → (b ≡ false) × (o ≡ None)
  none_parts true name o is = cc
  none_parts false name o is = (refl, is)

  held_once : (earlier atts : List Attribute) (a : Attribute) → Held earlier a → repeated earlier atts ≡ None → has_attribute atts a.0 ≡ false
  held_once earlier [] a held is = refl
  held_once earlier (b ∷ atts) a held is =
      let n = none_parts (has_attribute earlier b.0) b.0 (repeated (b ∷ earlier) atts) is in
      ap (λ t. t || has_attribute atts a.0) (bytes_swap b.0 a.0 (held b.0 n.0))
      ∙ held_once (b ∷ earlier) atts a (λ name none. held name (or_false (bytes_eq name b.0) (has_attribute earlier name) none).1) n.1

  attributes_made : (names : Names) (earlier : List Attribute) (before : ℕ) (raws : List Raw) (atts : List Attribute) (after : ℕ) (written : List ℕ) → AreValues entities names before raws atts after → AreAttributes written raws → are_chars written ≡ true
      → repeated earlier atts ≡ None → are_attributes atts ≡ true
  attributes_made names earlier before [] [] after written values are all once = refl
  attributes_made names earlier before [] (att ∷ atts) after written values are all once = absurd values
  attributes_made names earlier before (raw ∷ raws) [] after written values are all once = absurd values
  attributes_made names earlier before (raw ∷ raws) (att ∷ atts) after written (mid, same, value, others) (first, rest, is, more, split) all once =
      let a = all_parts first rest (sym (ap are_chars split) ∙ all) in
      let n = none_parts (has_attribute earlier att.0) att.0 (repeated (att ∷ earlier) atts) once in
      and_from (is_name att.0) _ (sym (ap is_name same) ∙ is.is_named)
      (and_from (are_chars att.1) _ (value_chars entities names before raw.1 (record { text = att.1; spent = mid }) kept (attribute_parts first raw is a.0) value)
      (and_from (not (has_attribute atts att.0)) (are_attributes atts) (not_from_false (has_attribute atts att.0) (held_once (att ∷ earlier) atts att (λ name none. (or_false (bytes_eq name att.0) (has_attribute earlier name) none).0) n.1))
      (attributes_made names (att ∷ earlier) mid raws atts after rest others more a.1 n.1)))

  -- ---- content

  abbrev Made : Items → Type 0
  Made items = (are_items items ≡ true) × EachBelow IsWellMade items

  tag_made : (names : Names) (name : List ℕ) (raws : List Raw) (is_closed : Bool) (atts : List Attribute) (before mid : ℕ) (text behind : List ℕ) (inside : Items) → Begins (start (record { name = name; atts = raws; closed = is_closed })) text behind → are_chars text ≡ true
      → AreValues entities names before raws atts mid → repeated [] atts ≡ None → are_items inside ≡ true → IsWellMade name atts inside
  tag_made names name raws is_closed atts before mid text behind inside begins all values once beside =
      let tag = begins.1 in
      let front = (begins_chars (start (record { name = name; atts = raws; closed = is_closed })) text behind begins all).0 in
      let a = all_parts (60 ∷ name) _ (sym (ap are_chars tag.form) ∙ front) in
      let b = all_parts tag.written _ a.1 in
      record { named = tag.is_named; attributes = attributes_made names [] before raws atts mid tag.written values tag.are_attributes b.0 once; beside = beside }

  pub made : (p : Pieces) (names : Names) (depth before : ℕ) (text : List ℕ) (after : ℕ) → IsContent entities names depth p before text after → are_chars text ≡ true → Made (items_of p)
  made nothing names depth before text after is all = (refl, tt)
  made (chars some plain later) names depth before text after (token, rest, begins, stands, is) all =
      let h = made later names depth before rest after is (begins_chars token text rest begins all).1 in
      (run_items some plain (items_of later) (token_run token text rest (some, plain) begins all stands) h.0, below_run IsWellMade some plain (items_of later) h.1)
  made (comment inside later) names depth before text after (rest, begins, is) all =
      let b = begins_chars (remark inside) text rest begins all in
      let h = made later names depth before rest after is b.1 in
      let a = all_parts (codes "<!--") (inside ++ codes "-->") (sym (ap are_chars begins.1.2) ∙ b.0) in
      (and_from (are_chars inside) (are_items (items_of later)) (all_parts inside (codes "-->") a.1).0 h.0, h.1)
  made (pi target body later) names depth before text after (rest, begins, is) all =
      let b = begins_chars (instruction target body) text rest begins all in
      let h = made later names depth before rest after is b.1 in
      let body_chars : are_chars body ≡ true = ⊎_elim (λ empty. ap are_chars empty.0)
      (λ full. (all_parts body (codes "?>") (all_parts full.0 (body ++ codes "?>") (all_parts target (full.0 ++ (body ++ codes "?>")) (all_parts (codes "<?") (target ++ (full.0 ++ (body ++ codes "?>"))) (sym (ap are_chars full.2) ∙ b.0)).1).1).1).0) begins.1.form in
      (and_from (is_name target) _ begins.1.is_named (and_from (are_chars body) (are_items (items_of later)) body_chars h.0), h.1)
  made (element name atts inside later) names depth before text after (raws, is_closed, behind, mid, begins, values, once, few, or) all =
      let b = (begins_chars (start (record { name = name; atts = raws; closed = is_closed })) text behind begins all).1 in
      ⊎_elim
      (λ empty.
      let h = made later names depth mid behind after empty.2 b in
      let none : Made (items_of inside) = subst (λ p. Made (items_of p)) (sym empty.1) (refl, tt) in
      (h.0, (tag_made names name raws is_closed atts before mid text behind (items_of inside) begins all values once none.0, none.1, h.1)))
      (λ full.
      let parts = all_parts full.0 full.1 (sym (ap are_chars full.6) ∙ b) in
      let i = made inside names (suc depth) mid full.0 full.3 full.5 parts.0 in
      let h = made later names depth full.3 full.2 after full.8 (begins_chars (stop name) full.1 full.2 full.7 parts.1).1 in
      (h.0, (tag_made names name raws is_closed atts before mid text behind (items_of inside) begins all values once i.0, i.1, h.1)))
      or
  made (included name inside later) names depth before text after (rest, replacement, opened, mid, begins, other, opens, inner, outer) all =
      let i = made inside (names ++ name ∷ []) depth opened replacement mid inner (opening_chars names before name (replacement, opened) (opens_given entities names before name replacement opened opens)) in
      let h = made later names depth mid rest after outer (begins_chars (named name) text rest begins all).1 in (
        joined_items (filled (items_of inside)) (items_of later) (filled_items (items_of inside) i.0) h.0,
        below_joined IsWellMade (filled (items_of inside)) (items_of later) (below_filled IsWellMade (items_of inside) i.1) h.1,
      )

  -- an article is one of a document
  pub article_made : (text : List ℕ) (node : Node) → are_chars text ≡ true → IsArticle entities text node → IsDocument node
  article_made text node all is =
      let a = all_parts is.prolog (is.root ++ is.epilog) (sym (ap are_chars is.form) ∙ all) in
      let h = made (element node.name node.atts is.inside nothing) [] 0 0 is.root is.spent is.is_root (all_parts is.root is.epilog a.1).0 in
      subst (λ (x : Items). IsWellMade node.name node.atts x × EachBelow IsWellMade x) (sym is.items) (h.1.0, h.1.1)
