-- The characters of flat contents.
use Rattle.std.proofs.Common.{◌≡◌, ◌∙◌, ℕ, List, [], ◌∷◌, ◌++◌, map, Bool, true, false, not, ◌&&◌, refl, ap, sym, true≢false}
use Rattle.std.specs.Prelude.{codes, nat_le, is_none}
use Rattle.std.specs.List.{list_all}
use Rattle.std.proofs.lemmas.Bool.{and_parts, and_from, not_from_false}
use Rattle.std.proofs.lemmas.List.Folds.{list_all-append}
use Rattle.jats_chars.specs.Classes.{is_space, is_char, is_name_char}
use Rattle.jats_chars.specs.Names.{is_name}
use Rattle.text_fronts.proofs.Fronts.{name_chars, space_ends}
use Rattle.content_models.specs.declared.content.Occurs.{Occurs}
use Rattle.content_models.specs.declared.content.Occurs.TheVariants.{Once, Opt, Star}
use Rattle.content_models.specs.declared.content.Occurs.TheVariants as sign
use Rattle.content_models.specs.declared.content.Particle.{Particle}
use Rattle.content_models.specs.declared.content.Particle.TheVariants.{One, Seq, Choice}
use Rattle.content_models.specs.declared.content.Particle.TheOpen.{Particle-F}
use Rattle.content_models.specs.declared.content.Content.{Content}
use Rattle.content_models.specs.declared.content.Content.TheVariants.{Empty, Any, Mixed, Children}
use Rattle.content_models.specs.Grammar.{mark}
use Rattle.content_models.specs.Proper.{has_shape, shape_layer, all_of, is_proper, is_group, depth, names_in, repeated}
use Rattle.content_models.specs.Spelling.{behind, joined, group, spelled, flat, mixed_close}
use Rattle.content_models.proofs.Layers.{fold-One, fold-Seq, fold-Choice, Each, induct}
use Rattle.content_models.proofs.Spelled.{spelled-One, spelled-Seq, spelled-Choice}
use Rattle.dtd_flattener.proofs.Flatness.{is_plain}
use Rattle.dtd_flattener.proofs.Fronts.{all_by, name_char_plain}
use Rattle.dtd_flattener.proofs.TextChars.{is_text_char, name_text_char}

shape_one : (n : List ℕ) (o : Occurs) → has_shape (One n o) ≡ is_name n
unfolding has_shape
shape_one = fold-One shape_layer

shape_seq : (ps : List Particle) (o : Occurs) → has_shape (Seq ps o) ≡ shape_layer (Particle-F.Seq (map has_shape ps) o)
unfolding has_shape
shape_seq = fold-Seq shape_layer

shape_choice : (ps : List Particle) (o : Occurs) → has_shape (Choice ps o) ≡ shape_layer (Particle-F.Choice (map has_shape ps) o)
unfolding has_shape
shape_choice = fold-Choice shape_layer

-- the test passes the characters of a flat content
record Passes (test : ℕ → Bool) : Type 0 where
  name : (c : ℕ) → is_name_char c ≡ true → test c ≡ true
  hash : test 35 ≡ true
  open_mark : test 40 ≡ true
  close_mark : test 41 ≡ true
  star : test 42 ≡ true
  more : test 43 ≡ true
  comma : test 44 ≡ true
  opt : test 63 ≡ true
  bar : test 124 ≡ true

word_passes : (list_all is_name_char (codes "EMPTY") ≡ true) × (list_all is_name_char (codes "ANY") ≡ true) × (list_all is_name_char (codes "PCDATA") ≡ true)
unfolding is_name_char
word_passes = (refl, refl, refl)

module _ (test : ℕ → Bool) (passes : Passes test) where
  abbrev all : List ℕ → Bool
  all text = list_all test text

  name_passes : (name : List ℕ) → is_name name ≡ true → all name ≡ true
  name_passes name is = all_by is_name_char test passes.name name (name_chars name is)

  joins : (first second : List ℕ) → all first ≡ true → all second ≡ true → all (first ++ second) ≡ true
  joins first second is also = list_all-append test first second ∙ and_from (all first) (all second) is also

  one_more : (c : ℕ) (rest : List ℕ) → test c ≡ true → all rest ≡ true → all (c ∷ rest) ≡ true
  one_more c rest is also = and_from (test c) (all rest) is also

  mark_passes : (o : Occurs) → all (mark o) ≡ true
  mark_passes Once = refl
  mark_passes Opt = one_more 63 [] passes.opt refl
  mark_passes Star = one_more 42 [] passes.star refl
  mark_passes sign.Plus = one_more 43 [] passes.more refl

  behind_passes : (separator : ℕ) (texts : List (List ℕ)) → test separator ≡ true → list_all all texts ≡ true → all (behind separator texts) ≡ true
  behind_passes separator [] is are = refl
  behind_passes separator (text ∷ texts) is are =
      let parts = and_parts (all text) (list_all all texts) are in
      one_more separator (text ++ behind separator texts) is (joins text (behind separator texts) parts.0 (behind_passes separator texts is parts.1))

  joined_passes : (separator : ℕ) (texts : List (List ℕ)) → test separator ≡ true → list_all all texts ≡ true → all (joined separator texts) ≡ true
  joined_passes separator [] is are = refl
  joined_passes separator (text ∷ texts) is are =
      let parts = and_parts (all text) (list_all all texts) are in
      joins text (behind separator texts) parts.0 (behind_passes separator texts is parts.1)

  group_passes : (separator : ℕ) (texts : List (List ℕ)) (o : Occurs) → test separator ≡ true → list_all all texts ≡ true → all (group separator texts o) ≡ true
  group_passes separator texts o is are =
      one_more 40 (joined separator texts ++ (41 ∷ mark o)) passes.open_mark
      (joins (joined separator texts) (41 ∷ mark o) (joined_passes separator texts is are) (one_more 41 (mark o) passes.close_mark (mark_passes o)))

  abbrev PartPasses : Particle → Type 0
  PartPasses part = has_shape part ≡ true → all (spelled part) ≡ true

  each_passes : (ps : List Particle) → Each PartPasses ps → all_of (map has_shape ps) ≡ true → list_all all (map spelled ps) ≡ true
  each_passes [] each shapes = refl
  each_passes (p ∷ ps) each shapes =
      let parts = and_parts (has_shape p) (all_of (map has_shape ps)) shapes in
      and_from (all (spelled p)) (list_all all (map spelled ps)) (each.0 parts.0) (each_passes ps each.1 parts.1)

  seq_shapes : (ps : List Particle) → shape_layer (Particle-F.Seq (map has_shape ps) Once) ≡ true → all_of (map has_shape ps) ≡ true
  seq_shapes [] shape = refl
  seq_shapes (p ∷ ps) shape = shape

  choice_shapes : (ps : List Particle) → shape_layer (Particle-F.Choice (map has_shape ps) Once) ≡ true → all_of (map has_shape ps) ≡ true
  choice_shapes [] shape = refl
  choice_shapes (p ∷ []) shape = absurd (true≢false (sym shape))
  choice_shapes (p ∷ q ∷ ps) shape = shape

  seq_layer : (ps : List Particle) (o : Occurs) → shape_layer (Particle-F.Seq (map has_shape ps) o) ≡ shape_layer (Particle-F.Seq (map has_shape ps) Once)
  seq_layer [] o = refl
  seq_layer (p ∷ ps) o = refl

  choice_layer : (ps : List Particle) (o : Occurs) → shape_layer (Particle-F.Choice (map has_shape ps) o) ≡ shape_layer (Particle-F.Choice (map has_shape ps) Once)
  choice_layer [] o = refl
  choice_layer (p ∷ []) o = refl
  choice_layer (p ∷ q ∷ ps) o = refl

  part_passes : (part : Particle) → PartPasses part
  part_passes = induct PartPasses
      (λ n o shape. ap all (spelled-One n o) ∙ joins n (mark o) (name_passes n (sym (shape_one n o) ∙ shape)) (mark_passes o))
      (λ ps o each shape. ap all (spelled-Seq ps o) ∙ group_passes 44 (map spelled ps) o passes.comma (each_passes ps each (seq_shapes ps (sym (shape_seq ps o ∙ seq_layer ps o) ∙ shape))))
      (λ ps o each shape. ap all (spelled-Choice ps o) ∙ group_passes 124 (map spelled ps) o passes.bar (each_passes ps each (choice_shapes ps (sym (shape_choice ps o ∙ choice_layer ps o) ∙ shape))))

  names_pass : (names : List (List ℕ)) → list_all is_name names ≡ true → list_all all names ≡ true
  names_pass [] are = refl
  names_pass (name ∷ names) are =
      let parts = and_parts (is_name name) (list_all is_name names) are in
      and_from (all name) (list_all all names) (name_passes name parts.0) (names_pass names parts.1)

  close_passes : (names : List (List ℕ)) → all (mixed_close names) ≡ true
  close_passes [] = one_more 41 [] passes.close_mark refl
  close_passes (name ∷ names) = one_more 41 (42 ∷ []) passes.close_mark (one_more 42 [] passes.star refl)

  flat_passes : (content : Content) → is_proper content ≡ true → all (flat content) ≡ true
  unfolding flat is_proper
  flat_passes Empty proper = all_by is_name_char test passes.name (codes "EMPTY") word_passes.0
  flat_passes Any proper = all_by is_name_char test passes.name (codes "ANY") word_passes.1
  flat_passes (Mixed names) proper =
      let are = (and_parts (list_all is_name names) (is_none (repeated names) && nat_le _ 1024) proper).0 in
      let rest = behind 124 names ++ mixed_close names in
      one_more 40 (35 ∷ (codes "PCDATA" ++ rest)) passes.open_mark
      (one_more 35 (codes "PCDATA" ++ rest) passes.hash
      (joins (codes "PCDATA") rest (all_by is_name_char test passes.name (codes "PCDATA") word_passes.2)
      (joins (behind 124 names) (mixed_close names) (behind_passes 124 names passes.bar (names_pass names are)) (close_passes names))))
  flat_passes (Children part) proper =
      let first = and_parts (is_group part) (has_shape part && (nat_le (depth part) 64 && nat_le (names_in part) 1024)) proper in
      part_passes part (and_parts (has_shape part) (nat_le (depth part) 64 && nat_le (names_in part) 1024) first.1).0

plain_passes : Passes is_plain
plain_passes = record { name = name_char_plain; hash = refl; open_mark = refl; close_mark = refl; star = refl; more = refl; comma = refl; opt = refl; bar = refl }

text_passes : Passes is_text_char
unfolding is_char
text_passes = record { name = name_text_char; hash = refl; open_mark = refl; close_mark = refl; star = refl; more = refl; comma = refl; opt = refl; bar = refl }

no_space : (c : ℕ) → is_name_char c ≡ true → not (is_space c) ≡ true
no_space c is = by (is_space c) refl
  where
    by : (b : Bool) → is_space c ≡ b → not (is_space c) ≡ true
    by true e = absurd (true≢false (sym is ∙ space_ends c e))
    by false e = not_from_false (is_space c) e

space_passes : Passes (λ c. not (is_space c))
unfolding is_space
space_passes = record { name = no_space; hash = refl; open_mark = refl; close_mark = refl; star = refl; more = refl; comma = refl; opt = refl; bar = refl }

pub content_plain : (content : Content) → is_proper content ≡ true → list_all is_plain (flat content) ≡ true
content_plain content proper = flat_passes is_plain plain_passes content proper

pub content_text : (content : Content) → is_proper content ≡ true → list_all is_text_char (flat content) ≡ true
content_text content proper = flat_passes is_text_char text_passes content proper

pub content_spaceless : (content : Content) → is_proper content ≡ true → list_all (λ c. not (is_space c)) (flat content) ≡ true
content_spaceless content proper = flat_passes (λ c. not (is_space c)) space_passes content proper
