-- What an expansion spends, and which texts it wants.
use Rattle.std.proofs.Common.{◌≡◌, subst, ℕ, zero, suc, ◌+◌, ◌-◌, ◌≤◌, List, [], ◌∷◌, ◌++◌, length, drop, take, Bool, true, false, Result, Ok, Err, Option, Some, None, IfOk, nat_lt, refl, arith, option_and_then}
use Rattle.dtd_scanner.specs.Walk.{◌>>=◌, walk, over}
use Rattle.dtd_scanner.specs.References.{named}
use Rattle.pe_expansion.specs.Bound.{Bound, text_bound, text_in}
use Rattle.pe_expansion.specs.Opening.{opening, opened, loaded, counted, is_open, most_open, most_included}
use Rattle.pe_expansion.specs.Expansion.{Written, Expanding, padded, closed, nests, included, by_kind, by_piece, expansion_step, expansion, expansion_of}
use Rattle.pe_expansion.specs.Pieces.{first_piece}
use Rattle.pe_expansion.specs.declared.pieces.Kind.{Kind}
use Rattle.pe_expansion.specs.declared.pieces.Kind.TheVariants.{Char, Kept, Included}
use Rattle.pe_expansion.specs.declared.pieces.Piece.{Piece}
use Rattle.pe_expansion.specs.declared.pieces.Manner.{Manner}
use Rattle.pe_expansion.specs.declared.pieces.Manner.TheVariants.{Literal, Body}
use Rattle.pe_expansion.specs.declared.bindings.PeText.{PeText}
use Rattle.pe_expansion.specs.declared.faults.PeFault.{PeFault}
use Rattle.pe_expansion.specs.declared.faults.PeFault.TheVariants.{NotLoaded}

-- the name has no text
abbrev pub HasNone : Bound → List ℕ → Type 0
HasNone bound name = option_and_then text_in (text_bound bound name) ≡ None

-- a text is wanted only where there is none
abbrev pub WantedBy : Bound → PeFault → Type 0
WantedBy bound (NotLoaded name) = HasNone bound name
WantedBy bound fault = Unit {0}

abbrev pub Wants : {X : Type 0} → Bound → Result X PeFault → Type 0
Wants bound (Ok x) = Unit {0}
Wants bound (Err fault) = WantedBy bound fault

if_bound : {A B F : Type 0} (P : A → Type 0) (Q : B → Type 0) (r : Result A F) (f : A → Result B F) → IfOk r P → ((a : A) → P a → IfOk (f a) Q) → IfOk (r >>= f) Q
if_bound P Q (Ok a) f holds later = later a holds
if_bound P Q (Err e) f holds later = tt

wants_bound : {A B : Type 0} (bound : Bound) (r : Result A PeFault) (f : A → Result B PeFault) → Wants bound r → ((a : A) → Wants bound (f a)) → Wants bound (r >>= f)
wants_bound bound (Ok a) f holds later = later a
wants_bound bound (Err e) f holds later = holds

-- ---- going over a text

walk_rises : (step : ℕ → Written → List ℕ → Result (Written × ℕ) PeFault) (n : ℕ) → ((at : ℕ) (w : Written) (text : List ℕ) → n ≤ w.spent → IfOk (step at w text) (λ r. n ≤ r.0.spent))
    → (most at : ℕ) (w : Written) (text : List ℕ) → n ≤ w.spent → IfOk (walk step most at w text) (λ v. n ≤ v.spent)
walk_rises step n each most at w [] some = some
walk_rises step n each zero at w (c ∷ text) some = some
walk_rises step n each (suc most) at w (c ∷ text) some =
    if_bound (λ r. n ≤ r.0.spent) (λ v. n ≤ v.spent) (step at w (c ∷ text)) _ (each at w (c ∷ text) some) (λ r more. walk_rises step n each most (at + r.1) r.0 (drop (r.1 - 1) text) more)

walk_wants : (bound : Bound) (step : ℕ → Written → List ℕ → Result (Written × ℕ) PeFault) → ((at : ℕ) (w : Written) (text : List ℕ) → Wants bound (step at w text))
    → (most at : ℕ) (w : Written) (text : List ℕ) → Wants bound (walk step most at w text)
walk_wants bound step each most at w [] = tt
walk_wants bound step each zero at w (c ∷ text) = tt
walk_wants bound step each (suc most) at w (c ∷ text) = wants_bound bound (step at w (c ∷ text)) _ (each at w (c ∷ text)) (λ r. walk_wants bound step each most (at + r.1) r.0 (drop (r.1 - 1) text))

-- ---- a name that opens

pub opening_rises : (bound : Bound) (names : List (List ℕ)) (spent : ℕ) (name : List ℕ) → IfOk (opening bound names spent name) (λ t. spent ≤ t.1)
unfolding opening
opening_rises bound names spent name = by (text_bound bound name)
  where
    fits : (text : List ℕ) (over : Bool) → nat_lt most_included (spent + length text) ≡ over → IfOk (counted name spent text) (λ t. spent ≤ t.1)
    fits text true is = rw is tt
    fits text false is = rw is (omega arith)

    there : (o : Option (List ℕ)) → IfOk (loaded name spent o) (λ t. spent ≤ t.1)
    there None = tt
    there (Some text) = fits text (nat_lt most_included (spent + length text)) refl

    deep : (entity : PeText) (within : Bool) → nat_lt (length names) most_open ≡ within → (again : Bool) → is_open names name ≡ again → IfOk (opened names spent name (Some entity)) (λ t. spent ≤ t.1)
    deep entity within e true is = rw is tt
    deep entity true e false is = rw (is, e) (there (text_in entity))
    deep entity false e false is = rw (is, e) tt

    by : (o : Option PeText) → IfOk (opened names spent name o) (λ t. spent ≤ t.1)
    by None = tt
    by (Some entity) = deep entity (nat_lt (length names) most_open) refl (is_open names name) refl

pub opening_wants : (bound : Bound) (names : List (List ℕ)) (spent : ℕ) (name : List ℕ) → Wants bound (opening bound names spent name)
unfolding opening
opening_wants bound names spent name = by (text_bound bound name) refl
  where
    fits : (text : List ℕ) (over : Bool) → nat_lt most_included (spent + length text) ≡ over → Wants bound (counted name spent text)
    fits text true is = rw is tt
    fits text false is = rw is tt

    there : (entity : PeText) (o : Option (List ℕ)) → text_in entity ≡ o → text_bound bound name ≡ Some entity → Wants bound (loaded name spent o)
    there entity None e is = rw is e
    there entity (Some text) e is = fits text (nat_lt most_included (spent + length text)) refl

    deep : (entity : PeText) → text_bound bound name ≡ Some entity → (within : Bool) → nat_lt (length names) most_open ≡ within → (again : Bool) → is_open names name ≡ again → Wants bound (opened names spent name (Some entity))
    deep entity found within e true is = rw is tt
    deep entity found true e false is = rw (is, e) (there entity (text_in entity) refl found)
    deep entity found false e false is = rw (is, e) tt

    by : (o : Option PeText) → text_bound bound name ≡ o → Wants bound (opened names spent name o)
    by None is = tt
    by (Some entity) is = deep entity is (nat_lt (length names) most_open) refl (is_open names name) refl

-- ---- a piece

closed_rises : (manner : Manner) (name : List ℕ) (start n : ℕ) (w : Written) → n ≤ w.spent → IfOk (closed manner name start w) (λ v. n ≤ v.spent)
closed_rises Literal name start n w some = some
closed_rises Body name start n w some = by (nests None (drop start w.text)) refl
  where
    by : (nested : Bool) → nests None (drop start w.text) ≡ nested → IfOk (closed Body name start w) (λ v. n ≤ v.spent)
    by true is = rw is some
    by false is = rw is tt

closed_wants : (bound : Bound) (manner : Manner) (name : List ℕ) (start : ℕ) (w : Written) → Wants bound (closed manner name start w)
closed_wants bound Literal name start w = tt
closed_wants bound Body name start w = by (nests None (drop start w.text)) refl
  where
    by : (nested : Bool) → nests None (drop start w.text) ≡ nested → Wants bound (closed Body name start w)
    by true is = rw is tt
    by false is = rw is tt

module _ (manner : Manner) (deeper : Expanding) (bound : Bound) where
  module _ (n : ℕ) (rises : (names : List (List ℕ)) (w : Written) (text : List ℕ) → n ≤ w.spent → IfOk (deeper names w text) (λ v. n ≤ v.spent)) where
    included_rises : (names : List (List ℕ)) (w : Written) (name : List ℕ) → n ≤ w.spent → IfOk (included manner deeper bound names w name) (λ v. n ≤ v.spent)
    included_rises names w name some =
        if_bound (λ t. w.spent ≤ t.1) (λ v. n ≤ v.spent) (opening bound names w.spent name) _ (opening_rises bound names w.spent name) (λ t more.
        let within : n ≤ t.1 = omega (arith, some, more) in
        if_bound (λ v. n ≤ v.spent) (λ v. n ≤ v.spent) (deeper (names ++ name ∷ []) (record { text = padded manner w.text; spent = t.1 }) t.0) _ (rises _ _ t.0 within) (λ v later. closed_rises manner name _ n v later))

    kind_rises : (names : List (List ℕ)) (w : Written) (text : List ℕ) (len : ℕ) (kind : Kind) → n ≤ w.spent → IfOk (by_kind manner deeper bound names w text len kind) (λ v. n ≤ v.spent)
    kind_rises names w text len (Char c) some = some
    kind_rises names w text len Kept some = some
    kind_rises names w text len Included some = included_rises names w (named len text) some

    step_rises : (names : List (List ℕ)) (at : ℕ) (w : Written) (text : List ℕ) → n ≤ w.spent → IfOk (expansion_step manner deeper bound names at w text) (λ r. n ≤ r.0.spent)
    step_rises names at w text some = by (first_piece manner text)
      where
        by : (o : Option Piece) → IfOk (by_piece manner deeper bound names w text o) (λ r. n ≤ r.0.spent)
        by None = tt
        by (Some p) = if_bound (λ v. n ≤ v.spent) (λ r. n ≤ r.0.spent) (by_kind manner deeper bound names w text p.len p.kind) _ (kind_rises names w text p.len p.kind some) (λ v more. more)

  module _ (wants : (names : List (List ℕ)) (w : Written) (text : List ℕ) → Wants bound (deeper names w text)) where
    included_wants : (names : List (List ℕ)) (w : Written) (name : List ℕ) → Wants bound (included manner deeper bound names w name)
    included_wants names w name =
        wants_bound bound (opening bound names w.spent name) _ (opening_wants bound names w.spent name) (λ t.
        wants_bound bound (deeper (names ++ name ∷ []) (record { text = padded manner w.text; spent = t.1 }) t.0) _ (wants _ _ t.0) (λ v. closed_wants bound manner name _ v))

    kind_wants : (names : List (List ℕ)) (w : Written) (text : List ℕ) (len : ℕ) (kind : Kind) → Wants bound (by_kind manner deeper bound names w text len kind)
    kind_wants names w text len (Char c) = tt
    kind_wants names w text len Kept = tt
    kind_wants names w text len Included = included_wants names w (named len text)

    step_wants : (names : List (List ℕ)) (at : ℕ) (w : Written) (text : List ℕ) → Wants bound (expansion_step manner deeper bound names at w text)
    step_wants names at w text = by (first_piece manner text)
      where
        by : (o : Option Piece) → Wants bound (by_piece manner deeper bound names w text o)
        by None = tt
        by (Some p) = wants_bound bound (by_kind manner deeper bound names w text p.len p.kind) _ (kind_wants names w text p.len p.kind) (λ v. tt)

-- ---- a text

levels_rise : (manner : Manner) (levels : ℕ) (bound : Bound) (n : ℕ) (names : List (List ℕ)) (w : Written) (text : List ℕ) → n ≤ w.spent → IfOk (expansion manner levels bound names w text) (λ v. n ≤ v.spent)
unfolding over
levels_rise manner zero bound n names w text some = tt
levels_rise manner (suc levels) bound n names w text some =
    walk_rises (expansion_step manner (expansion manner levels bound) bound names) n (step_rises manner (expansion manner levels bound) bound n (levels_rise manner levels bound n) names) (length text) 0 w text some

levels_want : (manner : Manner) (levels : ℕ) (bound : Bound) (names : List (List ℕ)) (w : Written) (text : List ℕ) → Wants bound (expansion manner levels bound names w text)
unfolding over
levels_want manner zero bound names w text = tt
levels_want manner (suc levels) bound names w text =
    walk_wants bound (expansion_step manner (expansion manner levels bound) bound names) (step_wants manner (expansion manner levels bound) bound (levels_want manner levels bound) names) (length text) 0 w text

-- the count of included characters does not fall
pub expansion_rises : (manner : Manner) (bound : Bound) (names : List (List ℕ)) (spent : ℕ) (text : List ℕ) → IfOk (expansion_of manner bound names spent text) (λ v. spent ≤ v.spent)
unfolding expansion_of
expansion_rises manner bound names spent text = levels_rise manner (suc (32 - length names)) bound spent names (record { text = []; spent = spent }) text (omega arith)

-- a text that is wanted is not there
pub expansion_wants : (manner : Manner) (bound : Bound) (names : List (List ℕ)) (spent : ℕ) (text : List ℕ) → Wants bound (expansion_of manner bound names spent text)
unfolding expansion_of
expansion_wants manner bound names spent text = levels_want manner (suc (32 - length names)) bound names (record { text = []; spent = spent }) text

-- what an expansion says is spent
pub spent_rises : (manner : Manner) (bound : Bound) (names : List (List ℕ)) (spent : ℕ) (text written : List ℕ) (now : ℕ) → expansion_of manner bound names spent text ≡ Ok (record { text = written; spent = now }) → spent ≤ now
spent_rises manner bound names spent text written now is = let P : Result Written PeFault → Type 0 = λ r. IfOk r (λ v. spent ≤ v.spent) in subst P is (expansion_rises manner bound names spent text)
