-- What is written is read back.
use Rattle.std.proofs.Common.{◌≡◌, ◌∙◌, ◌≢◌, ℕ, suc, ◌<◌, List, [], ◌∷◌, ◌++◌, Bool, true, false, not, eqb, ◌&&◌, ◌||◌, Some, None, Ok, refl, ap, sym, subst, arith, append_assoc, append-nil, codes, inl, inr, map, bytes_eq}
use Rattle.std.specs.Prelude.{IsTrue, if◌then◌else◌}
use Rattle.std.specs.List.{list_all, flat_map, AllByRecursion}
use Rattle.std.proofs.lemmas.Bool.{cond-false, and_parts, and_from, not-true, false≢true, false_from_ne_true, ltb-true}
use Rattle.jats_chars.specs.Classes.{is_char, is_space}
use Rattle.jats_chars.specs.Names.{is_name}
use Rattle.dtd_scanner.specs.Items.{Holds, first_is, is_xml}
use Rattle.attribute_types.proofs.TextTests.{bytes_swap}
use Rattle.attlist_merge.specs.Grammar.{IsQuoted}
use Rattle.document_trees.specs.Trees.{Attribute, Items, Node, EachBelow, IsWellMade, IsDocument, are_chars, is_white, has_attribute, are_attributes, are_items}
use Rattle.document_trees.specs.Trees as tree
use Rattle.decl_set.specs.Declarations.{Entity}
use Rattle.decl_set.specs.ValueEscaped.{decimal_reference}
use Rattle.article_tree.specs.Content.{run, Pieces, nothing, element, chars, comment, pi, items_of}
use Rattle.article_tree.specs.Tokens.{Raw, coded, section, IsAttribute, AreAttributes, tag_end, IsTag, IsInstruction, Begins}
use Rattle.article_tree.specs.Words.{Names, repeated, most_elements}
use Rattle.article_tree.specs.Reading.{article_of}
use Rattle.article_tree.specs.Grammar.{AreValues, IsContent, IsArticle}
use Rattle.article_tree.specs.Writing.{value_char, run_char, marked_run, written_attribute, enclosed, written_body, written, write, has_no_return, IsApart, AreWritable, IsWritable}
use Rattle.article_tree.proofs.Joining.{run_run}
use Rattle.article_tree.proofs.Marks.{nil_holds}
use Rattle.article_tree.proofs.Seams.{Seam}
use Rattle.article_tree.proofs.Escapes.{plain_of, run_tells, clear_behind, space_coded, plain_written, value_back, value_unquoted, value_direct, value_right}
use Rattle.article_tree.proofs.Articles.{article_given}

-- ---- the pieces of what is written

lettered : List ℕ → Pieces → Pieces
lettered [] later = later
lettered (c ∷ cs) later = chars (c ∷ []) (plain_of c) (lettered cs later)

marked : List ℕ → Pieces → Pieces
marked [] later = chars [] false later
marked (c ∷ cs) later = if is_white (c ∷ cs) then chars (c ∷ []) false (lettered cs later) else lettered (c ∷ cs) later

run_pieces : List ℕ → Bool → Pieces → Pieces
run_pieces text true later = lettered text later
run_pieces text false later = marked text later

pieces_of : Items → Pieces
pieces_of tree.nothing = nothing
pieces_of (tree.element name atts inside later) = element name atts (pieces_of inside) (pieces_of later)
pieces_of (tree.chars text plain later) = run_pieces text plain (pieces_of later)
pieces_of (tree.comment text later) = comment text (pieces_of later)
pieces_of (tree.pi target body later) = pi target body (pieces_of later)

-- ---- their items

and_true : (b : Bool) → (b && true) ≡ b
and_true true = refl
and_true false = refl

lettered_items : (c : ℕ) (cs : List ℕ) (later : Pieces) → items_of (lettered (c ∷ cs) later) ≡ run (c ∷ cs) (list_all plain_of (c ∷ cs)) (items_of later)
unfolding lettered
lettered_items c [] later = ap (λ b. run (c ∷ []) b (items_of later)) (sym (and_true (plain_of c)))
lettered_items c (d ∷ ds) later = ap (run (c ∷ []) (plain_of c)) (lettered_items d ds later) ∙ run_run (c ∷ []) (d ∷ ds) (plain_of c) (list_all plain_of (d ∷ ds)) (items_of later)

-- a run in front of what begins with none
apart_run : (text : List ℕ) (plain : Bool) (later : Items) → IsApart later → run text plain later ≡ tree.chars text plain later
apart_run text plain tree.nothing apart = refl
apart_run text plain (tree.element name atts inside later) apart = refl
apart_run text plain (tree.chars more is later) apart = absurd apart
apart_run text plain (tree.comment inside later) apart = refl
apart_run text plain (tree.pi target body later) apart = refl

all_plain : (text : List ℕ) → is_white text ≡ true → has_no_return text ≡ true → list_all plain_of text ≡ true
all_plain [] white none = refl
all_plain (c ∷ cs) white none =
    let w = and_parts (is_space c) (list_all is_space cs) white in
    let n = and_parts (not (eqb c 13)) (has_no_return cs) none in
    and_from (plain_of c) (list_all plain_of cs) (and_from (is_space c) (not (eqb c 13)) w.0 n.0) (all_plain cs w.1 n.1)

plain_white : (text : List ℕ) → list_all plain_of text ≡ true → is_white text ≡ true
plain_white [] all = refl
plain_white (c ∷ cs) all =
    let a = and_parts (plain_of c) (list_all plain_of cs) all in
    and_from (is_space c) (list_all is_space cs) (and_parts (is_space c) (not (eqb c 13)) a.0).0 (plain_white cs a.1)

plain_items : (text : List ℕ) (later : Pieces) → (text ≢ []) → is_white text ≡ true → has_no_return text ≡ true → IsApart (items_of later) → items_of (lettered text later) ≡ tree.chars text true (items_of later)
plain_items [] later some white none apart = absurd (some refl)
plain_items (c ∷ cs) later some white none apart = lettered_items c cs later ∙ ap (λ b. run (c ∷ cs) b (items_of later)) (all_plain (c ∷ cs) white none) ∙ apart_run (c ∷ cs) true (items_of later) apart

marked_items : (text : List ℕ) (later : Pieces) → IsApart (items_of later) → items_of (marked text later) ≡ tree.chars text false (items_of later)
unfolding marked lettered
marked_items [] later apart = apart_run [] false (items_of later) apart
marked_items (c ∷ cs) later apart = by (is_white (c ∷ cs)) refl
  where
    behind : (cs : List ℕ) → items_of (chars (c ∷ []) false (lettered cs later)) ≡ run (c ∷ cs) false (items_of later)
    behind [] = refl
    behind (d ∷ ds) = ap (run (c ∷ []) false) (lettered_items d ds later) ∙ run_run (c ∷ []) (d ∷ ds) false (list_all plain_of (d ∷ ds)) (items_of later)

    by : (b : Bool) → is_white (c ∷ cs) ≡ b → items_of (if b then chars (c ∷ []) false (lettered cs later) else lettered (c ∷ cs) later) ≡ tree.chars (c ∷ cs) false (items_of later)
    by true white = behind cs ∙ apart_run (c ∷ cs) false (items_of later) apart
    by false dark =
        lettered_items c cs later
        ∙ ap (λ b. run (c ∷ cs) b (items_of later)) (false_from_ne_true (list_all plain_of (c ∷ cs)) (λ all. false≢true (sym dark ∙ plain_white (c ∷ cs) all)))
        ∙ apart_run (c ∷ cs) false (items_of later) apart

pieces_back : (items : Items) (depth : ℕ) → IsTrue (are_items items) → EachBelow IsWellMade items → AreWritable depth items → items_of (pieces_of items) ≡ items
unfolding pieces_of run_pieces
pieces_back tree.nothing depth are made writable = refl
pieces_back (tree.element name atts inside later) depth are made writable =
    ap (λ x. tree.element name atts x (items_of (pieces_of later))) (pieces_back inside (suc depth) made.0.beside made.1 writable.1)
    ∙ ap (tree.element name atts inside) (pieces_back later depth are made.2 writable.2)
pieces_back (tree.chars text true later) depth are made writable =
    let a = and_parts (are_chars text) (is_white text && are_items later) are in
    let b = and_parts (is_white text) (are_items later) a.1 in
    let back = pieces_back later depth b.1 made writable.3 in
    plain_items text (pieces_of later) writable.0 b.0 writable.1 (subst IsApart (sym back) writable.2) ∙ ap (tree.chars text true) back
pieces_back (tree.chars text false later) depth are made writable =
    let a = and_parts (are_chars text) (are_items later) are in
    let back = pieces_back later depth a.1 made writable.1 in
    marked_items text (pieces_of later) (subst IsApart (sym back) writable.0) ∙ ap (tree.chars text false) back
pieces_back (tree.comment text later) depth are made writable = ap (tree.comment text) (pieces_back later depth (and_parts (are_chars text) (are_items later) are).1 made writable.3)
pieces_back (tree.pi target body later) depth are made writable =
    ap (tree.pi target body) (pieces_back later depth (and_parts (are_chars body) (are_items later) (and_parts (is_name target) (are_chars body && are_items later) are).1).1 made writable.4)

-- ---- attributes

raw_of : Attribute → Raw
raw_of a = (a.0, flat_map value_char a.1)

attribute_written : (a : Attribute) → is_name a.0 ≡ true → IsAttribute (written_attribute a) (raw_of a)
unfolding raw_of is_space
attribute_written a is =
    let value : IsQuoted (34 ∷ (flat_map value_char a.1 ++ 34 ∷ [])) (flat_map value_char a.1) = record { quote = 34; is_quote = refl; form = refl; within = value_unquoted a.1; references = value_right a.1 } in
    record { space = codes " "; before = []; after = []; value = 34 ∷ (flat_map value_char a.1 ++ 34 ∷ []); form = refl; is_space = refl; is_named = is; is_before = refl; is_after = refl; is_quoted = value; is_direct = value_direct a.1 }

attributes_written : (atts : List Attribute) → are_attributes atts ≡ true → AreAttributes (flat_map written_attribute atts) (map raw_of atts)
attributes_written [] are = refl
attributes_written (a ∷ atts) are =
    let n = and_parts (is_name a.0) _ are in
    let c = and_parts (are_chars a.1) _ n.1 in
    let d = and_parts (not (has_attribute atts a.0)) (are_attributes atts) c.1 in
    (written_attribute a, flat_map written_attribute atts, attribute_written a n.0, attributes_written atts d.1, refl)

values_written : (entities : List Entity) (names : Names) (spent : ℕ) (atts : List Attribute) → AreValues entities names spent (map raw_of atts) atts spent
unfolding raw_of
values_written entities names spent [] = refl
values_written entities names spent (a ∷ atts) = (spent, refl, value_back entities names spent a.1, values_written entities names spent atts)

-- no attribute repeats one of these
abbrev New : List Attribute → List Attribute → Type 0
New earlier atts = AllByRecursion (λ a. has_attribute earlier a.0 ≡ false) atts

still_new : (earlier atts : List Attribute) (a : Attribute) → has_attribute atts a.0 ≡ false → New earlier atts → New (a ∷ earlier) atts
still_new earlier [] a none new = tt
still_new earlier (b ∷ atts) a none new = by (λ e. still_new earlier atts a e new.1) (bytes_eq a.0 b.0) refl
  where
    by : (has_attribute atts a.0 ≡ false → New (a ∷ earlier) atts) → (t : Bool) → bytes_eq a.0 b.0 ≡ t → New (a ∷ earlier) (b ∷ atts)
    by later true same = absurd (false≢true (sym none ∙ ap (λ t. t || has_attribute atts a.0) same))
    by later false apart =
        (ap (λ t. t || has_attribute earlier b.0) (bytes_swap a.0 b.0 apart) ∙ new.0, later (sym (ap (λ t. t || has_attribute atts a.0) apart) ∙ none))

never_repeated : (earlier atts : List Attribute) → are_attributes atts ≡ true → New earlier atts → repeated earlier atts ≡ None
never_repeated earlier [] are new = refl
never_repeated earlier (a ∷ atts) are new =
    let n = and_parts (is_name a.0) _ are in
    let c = and_parts (are_chars a.1) _ n.1 in
    let d = and_parts (not (has_attribute atts a.0)) (are_attributes atts) c.1 in
    cond-false (has_attribute earlier a.0) (Some a.0) (repeated (a ∷ earlier) atts) new.0 ∙ never_repeated (a ∷ earlier) atts d.1 (still_new earlier atts a (not-true (has_attribute atts a.0) d.0) new.1)

all_new : (atts : List Attribute) → New [] atts
all_new [] = tt
all_new (a ∷ atts) = (refl, all_new atts)

-- ---- content

module _ (entities : List Entity) (names : Names) where
  lettered_is : (depth spent : ℕ) (text : List ℕ) (later : Pieces) (rest : List ℕ) → Seam rest → IsContent entities names depth later spent rest spent → IsContent entities names depth (lettered text later) spent (flat_map run_char text ++ rest) spent
  unfolding lettered
  lettered_is depth spent [] later rest seam is = is
  lettered_is depth spent (c ∷ cs) later rest seam is =
      let behind = flat_map run_char cs ++ rest in
      let h = run_tells c behind (clear_behind cs rest seam) in
      (h.0, behind, subst (λ t. Begins h.0 t behind) (sym (append_assoc (run_char c) (flat_map run_char cs) rest)) h.1, h.2, lettered_is depth spent cs later rest seam is)

  marked_is : (depth spent : ℕ) (text : List ℕ) (later : Pieces) (rest : List ℕ) → are_chars text ≡ true → Seam rest → IsContent entities names depth later spent rest spent → IsContent entities names depth (marked text later) spent (marked_run text ++ rest) spent
  unfolding marked
  marked_is depth spent [] later rest all seam is = (section [], rest, (codes "<![CDATA[]]>", (nil_holds (codes "]]>") (omega arith), refl), tt, refl), refl, is)
  marked_is depth spent (c ∷ cs) later rest all seam is = by (is_white (c ∷ cs)) refl
    where
      by : (b : Bool) → is_white (c ∷ cs) ≡ b
          → IsContent entities names depth (if b then chars (c ∷ []) false (lettered cs later) else lettered (c ∷ cs) later) spent ((if b then decimal_reference c ++ flat_map run_char cs else flat_map run_char (c ∷ cs)) ++ rest) spent
      by true white =
          let behind = flat_map run_char cs ++ rest in
          let first = space_coded c behind (and_parts (is_char c) (list_all is_char cs) all).0 (and_parts (is_space c) (list_all is_space cs) white).0 in
          (coded c, behind, subst (λ t. Begins (coded c) t behind) (sym (append_assoc (decimal_reference c) (flat_map run_char cs) rest)) first, refl, lettered_is depth spent cs later rest seam is)
      by false dark = lettered_is depth spent (c ∷ cs) later rest seam is

  -- what does not begin with a run begins with markup
  apart_seam : (items : Items) → IsApart items → Seam (written items)
  apart_seam tree.nothing apart = tt
  apart_seam (tree.element name atts inside later) apart = refl
  apart_seam (tree.chars text plain later) apart = absurd apart
  apart_seam (tree.comment text later) apart = refl
  apart_seam (tree.pi target body later) apart = refl

  tag_written : (name : List ℕ) (atts : List Attribute) (is_closed : Bool) → is_name name ≡ true → are_attributes atts ≡ true
      → IsTag (60 ∷ (name ++ (flat_map written_attribute atts ++ ([] ++ tag_end is_closed)))) (record { name = name; atts = map raw_of atts; closed = is_closed })
  tag_written name atts is_closed is are = record { written = flat_map written_attribute atts; space = []; form = refl; is_named = is; are_attributes = attributes_written atts are; is_blank = refl }

  around : (name attributes inside later : List ℕ) → (codes "<" ++ (name ++ (attributes ++ (codes ">" ++ (inside ++ (codes "</" ++ (name ++ codes ">"))))))) ++ later
      ≡ (60 ∷ (name ++ (attributes ++ ([] ++ codes ">")))) ++ (inside ++ ((codes "</" ++ (name ++ ([] ++ codes ">"))) ++ later))
  around name attributes inside later = simp append_assoc

  -- an element
  element_is : (depth spent : ℕ) (name : List ℕ) (atts : List Attribute) (inside : Items) (later : Pieces) (rest : List ℕ) → is_name name ≡ true → are_attributes atts ≡ true → depth < most_elements
      → IsContent entities names (suc depth) (pieces_of inside) spent (written inside) spent → IsContent entities names depth later spent rest spent
      → IsContent entities names depth (element name atts (pieces_of inside) later) spent ((codes "<" ++ (name ++ (flat_map written_attribute atts ++ enclosed name inside (written inside)))) ++ rest) spent
  unfolding pieces_of
  element_is depth spent name atts inside later rest is are few inner outer = by inside inner
    where
      front : Bool → List ℕ
      front b = 60 ∷ (name ++ (flat_map written_attribute atts ++ ([] ++ tag_end b)))

      once : repeated [] atts ≡ None
      once = never_repeated [] atts are (all_new atts)

      full : (p : Pieces) (text : List ℕ) → IsContent entities names (suc depth) p spent text spent
          → IsContent entities names depth (element name atts p later) spent ((codes "<" ++ (name ++ (flat_map written_attribute atts ++ (codes ">" ++ (text ++ (codes "</" ++ (name ++ codes ">"))))))) ++ rest) spent
      full p text content =
          let from_end = (codes "</" ++ (name ++ ([] ++ codes ">"))) ++ rest in (
            map raw_of atts,
            false,
            text ++ from_end,
            spent,
            (front false, tag_written name atts false is are, tt, around name (flat_map written_attribute atts) text rest),
            values_written entities names spent atts,
            once,
            few,
            inr (text, from_end, rest, spent, refl, content, refl, (codes "</" ++ (name ++ ([] ++ codes ">")), ([], is, refl, refl), tt, refl), outer),
          )

      by : (x : Items) → IsContent entities names (suc depth) (pieces_of x) spent (written x) spent
          → IsContent entities names depth (element name atts (pieces_of x) later) spent ((codes "<" ++ (name ++ (flat_map written_attribute atts ++ enclosed name x (written x)))) ++ rest) spent
      by tree.nothing inner = (map raw_of atts, true, rest, spent, (front true, tag_written name atts true is are, tt, refl), values_written entities names spent atts, once, few, inl (refl, refl, outer))
      by (tree.element n a i l) inner = full (pieces_of (tree.element n a i l)) (written (tree.element n a i l)) inner
      by (tree.chars t p l) inner = full (pieces_of (tree.chars t p l)) (written (tree.chars t p l)) inner
      by (tree.comment t l) inner = full (pieces_of (tree.comment t l)) (written (tree.comment t l)) inner
      by (tree.pi t b l) inner = full (pieces_of (tree.pi t b l)) (written (tree.pi t b l)) inner

  instruction_written : (target body : List ℕ) → is_name target ≡ true → is_xml target ≡ false → (¬ Holds body (codes "?>")) → first_is is_space body ≡ false → IsInstruction (codes "<?" ++ (target ++ (written_body body ++ codes "?>"))) target body
  unfolding is_space
  instruction_written target [] is other none plain = record { is_named = is; is_other = other; is_behind = plain; is_inside = none; form = inl (refl, refl) }
  instruction_written target (c ∷ body) is other none plain = record { is_named = is; is_other = other; is_behind = plain; is_inside = none; form = inr (codes " ", refl, refl) }

  -- what is written is a content of these pieces
  written_is : (items : Items) (depth spent : ℕ) → IsTrue (are_items items) → EachBelow IsWellMade items → AreWritable depth items → IsContent entities names depth (pieces_of items) spent (written items) spent
  unfolding pieces_of run_pieces
  written_is tree.nothing depth spent are made writable = (refl, refl)
  written_is (tree.element name atts inside later) depth spent are made writable =
      element_is depth spent name atts inside (pieces_of later) (written later) made.0.named made.0.attributes writable.0 (written_is inside (suc depth) spent made.0.beside made.1 writable.1) (written_is later depth spent are made.2 writable.2)
  written_is (tree.chars text true later) depth spent are made writable =
      let a = and_parts (are_chars text) (is_white text && are_items later) are in
      let b = and_parts (is_white text) (are_items later) a.1 in
      subst (λ t. IsContent entities names depth (lettered text (pieces_of later)) spent (t ++ written later) spent) (sym (plain_written text b.0 writable.1))
      (lettered_is depth spent text (pieces_of later) (written later) (apart_seam later writable.2) (written_is later depth spent b.1 made writable.3))
  written_is (tree.chars text false later) depth spent are made writable =
      let a = and_parts (are_chars text) (are_items later) are in
      marked_is depth spent text (pieces_of later) (written later) a.0 (apart_seam later writable.0) (written_is later depth spent a.1 made writable.1)
  written_is (tree.comment text later) depth spent are made writable =
      (written later, (codes "<!--" ++ (text ++ codes "-->"), (writable.1, writable.2, refl), tt, refl), written_is later depth spent (and_parts (are_chars text) (are_items later) are).1 made writable.3)
  written_is (tree.pi target body later) depth spent are made writable =
      let a = and_parts (is_name target) (are_chars body && are_items later) are in (
        written later,
        (codes "<?" ++ (target ++ (written_body body ++ codes "?>")), instruction_written target body a.0 writable.3 writable.1 writable.2, tt, refl),
        written_is later depth spent (and_parts (are_chars body) (are_items later) a.1).1 made writable.4,
      )

-- what is written of a writable node is an article of it
pub article_written : (entities : List Entity) (node : Node) → IsWritable node → IsArticle entities (write node) node
unfolding pieces_of
article_written entities node (made, writable) =
    let root = tree.element node.name node.atts node.items tree.nothing in
    record {
      prolog = [];
      root = write node;
      epilog = [];
      inside = pieces_of node.items;
      spent = 0;
      form = sym (append-nil (write node));
      is_prolog = inl ([], refl);
      is_root = written_is entities [] root 0 0 refl (made.0, made.1, tt) (ltb-true 0 2048 refl, writable, tt);
      is_epilog = ([], refl);
      items = sym (pieces_back node.items 1 made.0.beside made.1 writable);
    }

pub read_back : (entities : List Entity) (article : List ℕ) (node : Node) → IsWritable node → article_of entities article (write node) ≡ Ok node
read_back entities article node writable = article_given entities article (write node) node (article_written entities node writable)
