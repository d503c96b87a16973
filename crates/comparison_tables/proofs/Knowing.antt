-- What is known of an element of the first set at its place.
use Rattle.std.proofs.Common.{◌≡◌, ◌<◌, ◌≤◌, ℕ, zero, suc, ◌⊎◌, inl, inr, List, [], ◌∷◌, length, Option, Some, None, slice_get, refl, sym, ap, ◌∙◌, subst, arith}
use Rattle.std.specs.Prelude.{is_some}
use Rattle.std.proofs.lemmas.Option.{slice_get_within}
use Rattle.content_models.specs.declared.content.Content.{Content}
use Rattle.content_models.specs.Model.{Chars}
use Rattle.decl_set.specs.Asked.{IsKept}
use Rattle.decl_set.specs.Declarations.{Declarations, Element, content_in}
use Rattle.decl_set.specs.Oddness.{odd_in}
use Rattle.model_inclusion.specs.Listed.{IsAscending}
use Rattle.position_automata.proofs.Meaning.{to_member, contains_of}
use Rattle.tree_costs.specs.Leasts.{place_of}
use Rattle.tree_costs.proofs.Places.{is_at}
use Rattle.tree_costs.proofs.Steps.{got_member}
use Rattle.tagset_report.specs.Live.{IsListed, AreListed}
use Rattle.comparison_tables.specs.declared.sides.Side.{Side}
use Rattle.comparison_tables.specs.Shapes.{IsFine, AreFine}
use Rattle.comparison_tables.specs.Sides.{ArePairsOf, IsSide, FitSides, AreSides, Known, known, known_by, known_at, pair_place}
use Rattle.comparison_tables.proofs.Halves.{some_found, is_own}
use Rattle.comparison_tables.proofs.Lists.{member_at}

-- what is known of an element is so
pub record Knows (first second : Declarations) (e : Chars) (k : Known) : Type 0 where
  pub content : content_in first e ≡ Some k.content
  pub other : content_in second e ≡ k.other
  pub odd : k.odd ≡ is_some (odd_in first second e)
  pub pairs : ArePairsOf first k.content k.other k.pairs
  pub few : length k.pairs ≤ 2000000

-- an element stands at the place
pub record Stands (first second : Declarations) (sides : List Side) (x : ℕ) : Type 0 where
  pub element : Element
  pub side : Side
  pub there : slice_get first.elements x ≡ Some element
  pub side_there : slice_get sides x ≡ Some side
  pub place : place_of first element.0 ≡ Some x
  pub knows : Knows first second element.0 (known second element side)

side_at : (first second : Declarations) (es : List Element) (sides : List Side) (x : ℕ) (e : Element) → FitSides first second es sides → slice_get es x ≡ Some e
    → (side : Side) × (slice_get sides x ≡ Some side) × IsSide first second e side
side_at first second [] sides x e f h = cc
side_at first second (y ∷ es) [] x e f h = elim f [ ]
side_at first second (y ∷ es) (side ∷ sides) zero e f h =
    let same : y ≡ e = cc in
    (side, refl, subst (λ (z : Element). IsSide first second z side) same f.0)
side_at first second (y ∷ es) (side ∷ sides) (suc x) e f h = side_at first second es sides x e f.1 h

-- there are as many
pub as_many : (first second : Declarations) (es : List Element) (sides : List Side) → FitSides first second es sides → length sides ≡ length es
as_many first second [] [] f = refl
as_many first second [] (side ∷ sides) f = elim f [ ]
as_many first second (e ∷ es) [] f = elim f [ ]
as_many first second (e ∷ es) (side ∷ sides) f = let n = as_many first second es sides f.1 in omega (arith, n)

-- the pairs ascend, and are those that are listed
pub pairs_ascend : (first : Declarations) (a : Content) (o : Option Content) (pairs : List (ℕ × ℕ)) → ArePairsOf first a o pairs → IsAscending pairs
pairs_ascend first a None pairs h = subst IsAscending (sym h) tt
pairs_ascend first a (Some b) pairs h = h.ascending

pub pair_listed : (first : Declarations) (a : Content) (o : Option Content) (pairs : List (ℕ × ℕ)) (at i j : ℕ) → ArePairsOf first a o pairs → slice_get pairs at ≡ Some (i, j)
    → (b : Content) → o ≡ Some b → IsListed first a b i j
pair_listed first a o pairs at i j h q b e =
    let l : AreListed first a b pairs = subst (λ (z : Option Content). ArePairsOf first a z pairs) e h in
    (l.listed i j).0 (contains_of pairs (i, j) (got_member pairs at (i, j) q))

pub listed_place : (first : Declarations) (a b : Content) (pairs : List (ℕ × ℕ)) (i j : ℕ) → AreListed first a b pairs → IsListed first a b i j
    → (at : ℕ) × (pair_place pairs i j ≡ Some at) × (slice_get pairs at ≡ Some (i, j))
listed_place first a b pairs i j l h =
    let t = member_at pairs (i, j) (to_member pairs (i, j) ((l.listed i j).1 h)) in
    (t.0, some_found pairs i j t.0 (i, j) l.ascending t.1 (is_own i j), t.1)

module _ (first second : Declarations) (sides : List Side) (kept : IsKept first) (S : AreSides first second sides) where
  pub stands : (x : ℕ) (e : Element) → slice_get first.elements x ≡ Some e → Stands first second sides x
  stands x e h =
      let t = side_at first second first.elements sides x e S h in
      let p = is_at first kept x e h in
      let side : IsSide first second e t.0 = t.2 in
      record {
        element = e;
        side = t.0;
        there = h;
        side_there = t.1;
        place = p.1;
        knows = record { content = p.0; other = refl; odd = side.odd; pairs = side.pairs; few = side.few };
      }

  -- what stands at a place is known
  pub is_known : (x : ℕ) (s : Stands first second sides x) → known_at first second sides x ≡ Some (known second s.element s.side)
  is_known x s = ap (λ o. known_by second o (slice_get sides x)) s.there ∙ ap (known_by second (Some s.element)) s.side_there

  -- nothing is known past the last
  pub none_known : (x : ℕ) → slice_get first.elements x ≡ None → known_at first second sides x ≡ None
  none_known x h = ap (λ o. known_by second o (slice_get sides x)) h

  pub either_stands : (x : ℕ) → Stands first second sides x ⊎ (slice_get first.elements x ≡ None)
  either_stands x = by (slice_get first.elements x) refl
    where
      by : (o : Option Element) → slice_get first.elements x ≡ o → Stands first second sides x ⊎ (slice_get first.elements x ≡ None)
      by None q = inr q
      by (Some e) q = inl (stands x e q)

  pub stands_within : (x : ℕ) → Stands first second sides x → x < length first.elements
  stands_within x s = slice_get_within first.elements x s.element s.there

-- the side of an element that is held
pub fine_at : (es : List Element) (sides : List Side) (x : ℕ) (side : Side) → AreFine es sides → Some side ≡ slice_get sides x → IsFine side
fine_at es [] x side f h = cc
fine_at [] (s ∷ sides) x side f h = elim f [ ]
fine_at (e ∷ es) (s ∷ sides) zero side f h = let same : side ≡ s = cc in subst IsFine (sym same) f.0
fine_at (e ∷ es) (s ∷ sides) (suc x) side f h = fine_at es sides x side f.1 h
