-- Start tags and end tags.
use Rattle.std.proofs.Common.{◌≡◌, ◌∙◌, ℕ, ◌+◌, ◌-◌, ◌<◌, ◌≤◌, List, [], ◌∷◌, ◌++◌, length, true, false, Some, None, Result, Ok, Err, ap, sym, arith, bytes_eq, suc}
use Rattle.std.specs.Prelude.{nat_lt, slice_get, if◌then◌else◌}
use Rattle.std.proofs.lemmas.Bool.{cond-true, cond-false, lt-ltb, ltb-true, false_from_ne_true}
use Rattle.jats_fault.specs.declared.fault.Fault.{Fault}
use Rattle.dtd_scanner.specs.Walk.{◌>>=◌}
use Rattle.document_trees.specs.Trees.{Attribute}
use Rattle.decl_set.specs.Declarations.{Entity}
use Rattle.article_tree.specs.Tokens.{Tag}
use Rattle.article_tree.specs.declared.held.Held.{Held}
use Rattle.article_tree.specs.Words.{Names, most_elements, repeated}
use Rattle.article_tree.specs.Stops.{Standing, refused, malformed}
use Rattle.article_tree.specs.Reading.{Open, State, ended, popped, values, started, unrepeated}
use Rattle.article_tree.specs.InPlace.{ended_in}
use Rattle.article_tree.specs.Held.{open_of, stacked}
use Rattle.article_tree.specs.Outcomes.{Fails, Moves, Refuses}
use Rattle.article_tree.specs.declared.held.OpenElement.{OpenElement}
use Rattle.article_tree.specs.declared.stops.ArticleFault.{ArticleFault}
use Rattle.article_tree.specs.declared.stops.ArticleFault.TheVariants.{Refused, NoMemory}
use Rattle.article_tree.proofs.Holding.{stacked_length, stacked_push}

-- a refusal is the fault that a definition says
pub refuses_fails : {X : Type 0} (fault : ArticleFault) (said : Fault) (now : Result X Fault) → Refuses said fault → now ≡ Err said → Fails fault now
refuses_fails (Refused r) said now h is = is ∙ ap Err (sym h)
refuses_fails NoMemory said now h is = tt

pub not_below : (m n : ℕ) → n ≤ m → nat_lt m n ≡ false
not_below m n le = false_from_ne_true (nat_lt m n) (λ is. let h = ltb-true m n is in absurd (omega (arith, h, le)))

-- ---- the limit of open elements

pub few_open : {X : Type 0} (os : List OpenElement) (x y : X) → length os < 2048 → (if nat_lt (0 + length (stacked os [])) most_elements then x else y) ≡ x
few_open os x y few = cond-true (nat_lt (0 + length (stacked os [])) most_elements) x y (lt-ltb (0 + length (stacked os [])) most_elements (let e = stacked_length os in omega (arith, e, few)))

pub many_open : {X : Type 0} (os : List OpenElement) (x y : X) → 2048 ≤ length os → (if nat_lt (0 + length (stacked os [])) most_elements then x else y) ≡ y
many_open os x y many = cond-false (nat_lt (0 + length (stacked os [])) most_elements) x y (not_below (0 + length (stacked os [])) most_elements (let e = stacked_length os in omega (arith, e, many)))

-- ---- end tags

last_split : (os : List OpenElement) (o : OpenElement) → 0 < length os → slice_get os (length os - 1) ≡ Some o → (front : List OpenElement) × (os ≡ front ++ o ∷ [])
last_split [] o some is = absurd (omega arith)
last_split (p ∷ []) o some is = ([], (let f : Some p ≡ Some o = is in cc))
last_split (p ∷ q ∷ os) o some is =
    let e : length (p ∷ q ∷ os) - 1 ≡ suc (length (q ∷ os) - 1) = omega arith in
    let h = last_split (q ∷ os) o (omega arith) (rw e at is) in
    (p ∷ h.0, ap (λ (t : List OpenElement). p ∷ t) h.1)

-- the innermost element
pub top : (os : List OpenElement) (o : OpenElement) → 0 < length os → slice_get os (length os - 1) ≡ Some o → (opens : List Open) × (stacked os [] ≡ open_of o ∷ opens)
top os o some is = let h = last_split os o some is in (stacked h.0 [], ap (λ (t : List OpenElement). stacked t []) h.1 ∙ stacked_push h.0 o)

module _ (base : ℕ) (c : Standing) (at : ℕ) (s : State) (name : List ℕ) (os : List OpenElement) (same : s.opens ≡ stacked os []) where
  pub none_ends : length os ≤ base → ended_in base c at s name ≡ Err (malformed c at)
  none_ends few = cond-false (nat_lt base (length s.opens)) _ _ (not_below base (length s.opens) (let e = stacked_length os in let f = ap length same in omega (arith, e, f, few)))

  some_ends : base < length os → ended_in base c at s name ≡ ended c at s name s.opens
  some_ends more = cond-true (nat_lt base (length s.opens)) _ _ (lt-ltb base (length s.opens) (let e = stacked_length os in let f = ap length same in omega (arith, e, f, more)))

  pub other_name : (o : OpenElement) → base < length os → slice_get os (length os - 1) ≡ Some o → bytes_eq o.name name ≡ false → ended_in base c at s name ≡ Err (refused c at 61 (o.name ∷ name ∷ []))
  other_name o more is other =
      let h = top os o (omega (arith, more)) is in
      some_ends more ∙ ap (ended c at s name) (same ∙ h.1) ∙ cond-false (bytes_eq o.name name) _ _ other

  pub same_name : (o : OpenElement) → base < length os → slice_get os (length os - 1) ≡ Some o → bytes_eq o.name name ≡ true
      → (opens : List Open) × (s.opens ≡ open_of o ∷ opens) × (ended_in base c at s name ≡ Ok (popped s (open_of o) opens))
  same_name o more is one =
      let h = top os o (omega (arith, more)) is in
      (h.0, same ∙ h.1, some_ends more ∙ ap (ended c at s name) (same ∙ h.1) ∙ cond-true (bytes_eq o.name name) _ _ one)

-- ---- start tags

pub started_so : (entities : List Entity) (names : Names) (c : Standing) (at : ℕ) (s : State) (tag : Tag) (atts : List Attribute) (mid : ℕ) → values entities names c at s.spent tag.atts ≡ Ok (atts, mid) → repeated [] atts ≡ None
    → started entities names 0 c at s tag ≡ unrepeated 0 c at s tag atts mid None
started_so entities names c at s tag atts mid is once =
    ap (λ (x : Result (List Attribute × ℕ) Fault). x >>= λ r. unrepeated 0 c at s tag r.0 r.1 (repeated [] r.0)) is ∙ ap (unrepeated 0 c at s tag atts mid) once

pub moves_same : {X : Type 0} (said now : Result State Fault) (new : Held) (r : Result X ArticleFault) → now ≡ said → Moves said new r → Moves now new r
moves_same said now new r e h = rw e h
