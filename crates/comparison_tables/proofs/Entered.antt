-- What is found once of each element is what is known of it.
use Rattle.std.proofs.Common.{◌≡◌, ◌<◌, ◌≤◌, ◌+◌, ℕ, inl, inr, List, [], ◌∷◌, ◌++◌, length, Option, Some, None, slice_get, refl, sym, ap, ◌∙◌, subst, arith}
use Rattle.std.specs.Option.{option_map}
use Rattle.std.proofs.lemmas.Bool.{cases_lt}
use Rattle.decl_set.specs.Declarations.{Declarations, Element}
use Rattle.model_inclusion.specs.Listed.{IsAscending}
use Rattle.comparison_tables.specs.declared.entries.Entry.{Entry}
use Rattle.comparison_tables.specs.declared.sides.Side.{Side}
use Rattle.comparison_tables.specs.Entries.{Named, named_in, named_by, named_at, AreEntries}
use Rattle.comparison_tables.specs.Shapes.{AreFine}
use Rattle.comparison_tables.specs.Sides.{known}
use Rattle.comparison_tables.proofs.Knowing.{fine_at}
use Rattle.comparison_tables.proofs.Rowed.{got_first, got_last, got_past, one_longer}

-- ---- what an entry says

pub place_named : (second : Declarations) (o : Option Element) (s : Option Side) (n : Named) → named_by second o s ≡ Some n → o ≡ Some (n.0, n.1.content)
place_named second None s n h = cc
place_named second (Some e) None n h = cc
place_named second (Some e) (Some side) n h =
    let same : (e.0, known second e side) ≡ n = cc in
    ap (λ (z : Named). Some (z.0, z.1.content)) same

pub fine_named : (second : Declarations) (es : List Element) (sides : List Side) (x : ℕ) (n : Named) → AreFine es sides
    → named_by second (slice_get es x) (slice_get sides x) ≡ Some n → IsAscending n.1.pairs × (length n.1.pairs ≤ 2000000)
fine_named second es sides x n f h = by (slice_get es x) (slice_get sides x) refl h
  where
    by : (o : Option Element) (s : Option Side) → slice_get sides x ≡ s → named_by second o s ≡ Some n → IsAscending n.1.pairs × (length n.1.pairs ≤ 2000000)
    by None s q h = cc
    by (Some e) None q h = cc
    by (Some e) (Some side) q h =
        let same : (e.0, known second e side) ≡ n = cc in
        subst (λ (z : Named). IsAscending z.1.pairs × (length z.1.pairs ≤ 2000000)) same (fine_at es sides x side f (sym q))

pub got_named : (first second : Declarations) (sides : List Side) (entries : List Entry) (x : ℕ) (entry : Entry) → AreEntries first second sides entries
    → slice_get entries x ≡ Some entry → named_at first second sides x ≡ Some (named_in entry)
got_named first second sides entries x entry a q = sym (a x) ∙ ap (option_map named_in) q

-- ---- one entry after another

pub record AreFirst (first second : Declarations) (sides : List Side) (n : ℕ) (entries : List Entry) : Type 0 where
  pub size : length entries ≡ n
  pub each : (x : ℕ) → x < n → option_map named_in (slice_get entries x) ≡ named_at first second sides x

pub none_first : (first second : Declarations) (sides : List Side) → AreFirst first second sides 0 []
none_first first second sides = record { size = refl; each = λ x l. absurd (omega arith) }

pub first_more : (first second : Declarations) (sides : List Side) (n : ℕ) (entries : List Entry) (entry : Entry) → AreFirst first second sides n entries
    → Some (named_in entry) ≡ named_at first second sides n → AreFirst first second sides (n + 1) (entries ++ entry ∷ [])
first_more first second sides n entries entry F h = record { size = omega (arith, F.size, one_longer entries entry); each = each }
  where
    each : (x : ℕ) → x < n + 1 → option_map named_in (slice_get (entries ++ entry ∷ []) x) ≡ named_at first second sides x
    each x l = elim (cases_lt x n) [
      | inl b ↦ ap (option_map named_in) (got_first entries entry x (omega (arith, b, F.size))) ∙ F.each x b
      | inr b ↦
          let same : x ≡ n = omega arith in
          ap (option_map named_in) (got_last entries entry x (omega (arith, same, F.size))) ∙ h ∙ ap (named_at first second sides) (sym same)
    ]

none_named : (second : Declarations) (o : Option Element) → named_by second o None ≡ None
none_named second None = refl
none_named second (Some e) = refl

pub first_all : (first second : Declarations) (sides : List Side) (n : ℕ) (entries : List Entry) → AreFirst first second sides n entries → length sides ≤ n
    → AreEntries first second sides entries
first_all first second sides n entries F l x = elim (cases_lt x n) [
  | inl b ↦ F.each x b
  | inr b ↦
      ap (option_map named_in) (got_past entries x (omega (arith, b, F.size)))
      ∙ sym (ap (named_by second (slice_get first.elements x)) (got_past sides x (omega (arith, b, l))) ∙ none_named second (slice_get first.elements x))
]

pub named_is : (first second : Declarations) (sides : List Side) (x : ℕ) (e : Element) (side : Side) → slice_get first.elements x ≡ Some e → slice_get sides x ≡ Some side
    → Some (e.0, known second e side) ≡ named_at first second sides x
named_is first second sides x e side h q = sym (ap (λ o. named_by second o (slice_get sides x)) h ∙ ap (named_by second (Some e)) q)
