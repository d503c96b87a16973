-- What is spelled has the shape of a content, and the flat spelling spells what has it.
use Rattle.std.proofs.Common.{◌≡◌, List, [], ◌∷◌, ◌++◌, ℕ, map, refl, sym, ap, ◌∙◌, subst, Bool, true, true≢false, inl, inr}
use Rattle.std.specs.Prelude.{◌&&◌, codes}
use Rattle.std.specs.List.{list_all}
use Rattle.std.proofs.lemmas.List.{append_assoc}
use Rattle.jats_chars.specs.Names.{is_name}
use Rattle.content_models.specs.declared.content.Occurs.{Occurs}
use Rattle.content_models.specs.declared.content.Particle.{Particle}
use Rattle.content_models.specs.declared.content.Particle.TheVariants.{One, Seq, Choice}
use Rattle.content_models.specs.declared.content.Particle.TheOpen.{Particle-F}
use Rattle.content_models.specs.declared.content.Content.{Content}
use Rattle.content_models.specs.declared.content.Content.TheVariants.{Empty, Any, Mixed, Children}
use Rattle.content_models.specs.Model.{Chars}
use Rattle.content_models.specs.Proper.{has_shape, shape_layer, all_of, is_proper, IsProper, is_group}
use Rattle.content_models.specs.Grammar.{mark, SpellsPart, SpellsRest, a_name, a_sequence, a_choice, no_more, one_more, SpellsNames, SpellsMixed, Spells}
use Rattle.content_models.specs.Spelling.{behind, group, spelled, flat, mixed_close}
use Rattle.content_models.proofs.Layers.{fold-One, fold-Seq, fold-Choice, Each, induct}
use Rattle.content_models.proofs.Letters.{and-left, and-right}
use Rattle.content_models.proofs.Spelled.{spelled-One, spelled-Seq, spelled-Choice}

shape-One : (n : Chars) (o : Occurs) → has_shape (One n o) ≡ is_name n
unfolding has_shape
shape-One = fold-One shape_layer

shape-Seq : (ps : List Particle) (o : Occurs) → has_shape (Seq ps o) ≡ shape_layer (Particle-F.Seq (map has_shape ps) o)
unfolding has_shape
shape-Seq = fold-Seq shape_layer

shape-Choice : (ps : List Particle) (o : Occurs) → has_shape (Choice ps o) ≡ shape_layer (Particle-F.Choice (map has_shape ps) o)
unfolding has_shape
shape-Choice = fold-Choice shape_layer

pub and-both : (a b : Bool) → a ≡ true → b ≡ true → (a && b) ≡ true
and-both a b e f = ap (λ k. k && b) e ∙ f

mutual
  pub part_shape : (s : Chars) (p : Particle) → SpellsPart s p → has_shape p ≡ true
  part_shape s p (a_name w o h) = shape-One w o ∙ h
  part_shape s p (a_sequence a f u q qs o w g t) =
      shape-Seq (q ∷ qs) o ∙ and-both (has_shape q) (all_of (map has_shape qs)) (part_shape f q g) (rest_shape 44 u qs t)
  part_shape s p (a_choice a f u q v qs o w g t) =
      shape-Choice (q ∷ v ∷ qs) o ∙ and-both (has_shape q) (all_of (map has_shape (v ∷ qs))) (part_shape f q g) (rest_shape 124 u (v ∷ qs) t)

  pub rest_shape : (sep : ℕ) (u : Chars) (ps : List Particle) → SpellsRest sep u ps → all_of (map has_shape ps) ≡ true
  rest_shape sep u ps (no_more sep' a w) = refl
  rest_shape sep u ps (one_more sep' a b f v q qs w x g t) = and-both (has_shape q) (all_of (map has_shape qs)) (part_shape f q g) (rest_shape sep' v qs t)

pub names_names : (names : List Chars) (u : Chars) → SpellsNames u names → list_all is_name names ≡ true
names_names [] u h = refl
names_names (n ∷ ns) u h = and-both (is_name n) (list_all is_name ns) h.6 (names_names ns h.2 h.7)

-- ---- the flat spelling
abbrev Flat : Particle → Type 0
Flat p = has_shape p ≡ true → SpellsPart (spelled p) p

rest_flat : (sep : ℕ) (ps : List Particle) → Each Flat ps → all_of (map has_shape ps) ≡ true → SpellsRest sep (behind sep (map spelled ps)) ps
rest_flat sep [] e h = no_more sep [] refl
rest_flat sep (p ∷ ps) e h =
    one_more sep [] [] (spelled p) (behind sep (map spelled ps)) p ps refl refl
    (e.0 (and-left (has_shape p) (all_of (map has_shape ps)) h))
    (rest_flat sep ps e.1 (and-right (has_shape p) (all_of (map has_shape ps)) h))

grouped_text : (sep : ℕ) (p : Particle) (ps : List Particle) (o : Occurs)
    → 40 ∷ (spelled p ++ (behind sep (map spelled ps) ++ (41 ∷ mark o))) ≡ group sep (map spelled (p ∷ ps)) o
grouped_text sep p ps o = ap (λ k. 40 ∷ k) (sym (append_assoc (spelled p) (behind sep (map spelled ps)) (41 ∷ mark o)))

seq_flat : (ps : List Particle) (o : Occurs) → Each Flat ps → Flat (Seq ps o)
seq_flat [] o e h = absurd (true≢false (sym h ∙ shape-Seq [] o))
seq_flat (p ∷ ps) o e h =
    let k : all_of (map has_shape (p ∷ ps)) ≡ true = sym (shape-Seq (p ∷ ps) o) ∙ h in
    subst (λ t. SpellsPart t (Seq (p ∷ ps) o)) (grouped_text 44 p ps o ∙ sym (spelled-Seq (p ∷ ps) o))
    (a_sequence [] (spelled p) (behind 44 (map spelled ps)) p ps o refl
    (e.0 (and-left (has_shape p) (all_of (map has_shape ps)) k))
    (rest_flat 44 ps e.1 (and-right (has_shape p) (all_of (map has_shape ps)) k)))

choice_flat : (ps : List Particle) (o : Occurs) → Each Flat ps → Flat (Choice ps o)
choice_flat [] o e h = absurd (true≢false (sym h ∙ shape-Choice [] o))
choice_flat (p ∷ []) o e h = absurd (true≢false (sym h ∙ shape-Choice (p ∷ []) o))
choice_flat (p ∷ q ∷ ps) o e h =
    let k : all_of (map has_shape (p ∷ q ∷ ps)) ≡ true = sym (shape-Choice (p ∷ q ∷ ps) o) ∙ h in
    subst (λ t. SpellsPart t (Choice (p ∷ q ∷ ps) o)) (grouped_text 124 p (q ∷ ps) o ∙ sym (spelled-Choice (p ∷ q ∷ ps) o))
    (a_choice [] (spelled p) (behind 124 (map spelled (q ∷ ps))) p q ps o refl
    (e.0 (and-left (has_shape p) (all_of (map has_shape (q ∷ ps))) k))
    (rest_flat 124 (q ∷ ps) e.1 (and-right (has_shape p) (all_of (map has_shape (q ∷ ps))) k)))

part_flat : (p : Particle) → Flat p
part_flat = induct Flat
    (λ n o h. subst (λ t. SpellsPart t (One n o)) (sym (spelled-One n o)) (a_name n o (sym (shape-One n o) ∙ h)))
    seq_flat choice_flat

names_flat : (names : List Chars) → list_all is_name names ≡ true → SpellsNames (behind 124 names) names
names_flat [] h = refl
names_flat (n ∷ ns) h =
    ([], [], behind 124 ns, refl, refl, refl, and-left (is_name n) (list_all is_name ns) h, names_flat ns (and-right (is_name n) (list_all is_name ns) h))

mixed_flat : (names : List Chars) → list_all is_name names ≡ true → SpellsMixed (codes "(#PCDATA" ++ (behind 124 names ++ mixed_close names)) names
mixed_flat [] h = ([], [], codes ")", refl, refl, refl, inr (refl, refl))
mixed_flat (n ∷ ns) h = ([], behind 124 (n ∷ ns), codes ")*", refl, refl, names_flat (n ∷ ns) h, inl refl)

-- a proper content is spelled by its flat spelling
pub flat_spells : (c : Content) → IsProper c → Spells (flat c) c
unfolding flat is_proper
flat_spells Empty h = refl
flat_spells Any h = refl
flat_spells (Mixed names) h = mixed_flat names (and-left (list_all is_name names) _ h)
flat_spells (Children p) h =
    let k = and-right (is_group p) _ h in
    (and-left (is_group p) _ h, part_flat p (and-left (has_shape p) _ k))
