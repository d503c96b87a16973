-- What a text stands for stays while other texts are loaded.
use Rattle.std.proofs.Common.{◌≡◌, ℕ, zero, suc, ◌+◌, ◌-◌, List, [], ◌∷◌, ◌++◌, length, drop, Option, Some, None, Result, Ok, Err, refl, ap}
use Rattle.dtd_scanner.specs.Walk.{◌>>=◌, walk, over}
use Rattle.dtd_scanner.specs.References.{named}
use Rattle.pe_expansion.specs.Bound.{Bound, Keeps, text_named, with_outer}
use Rattle.pe_expansion.specs.Expansion.{Written, Expanding, padded, closed, included, by_kind, by_piece, expansion_step, expansion, expansion_of}
use Rattle.pe_expansion.specs.Opening.{opening}
use Rattle.pe_expansion.specs.Pausing.{IsPaused}
use Rattle.pe_expansion.specs.Pieces.{first_piece}
use Rattle.pe_expansion.specs.declared.pausing.PausedExpansion.{PausedExpansion}
use Rattle.pe_expansion.specs.declared.pieces.Kind.{Kind}
use Rattle.pe_expansion.specs.declared.pieces.Kind.TheVariants.{Char, Kept, Included}
use Rattle.pe_expansion.specs.declared.pieces.Piece.{Piece}
use Rattle.pe_expansion.specs.declared.pieces.Manner.{Manner}
use Rattle.pe_expansion.specs.declared.faults.PeFault.{PeFault}
use Rattle.pe_expansion.proofs.KeptTexts.{opening_stays, outer_keeps}
use Rattle.pe_expansion.proofs.Numbering.{paused_keeps}

parts : {A B F : Type 0} (x : Result A F) (f : A → Result B F) (b : B) → (x >>= f) ≡ Ok b → (a : A) × (x ≡ Ok a) × (f a ≡ Ok b)
parts (Ok a) f b is = (a, refl, is)
parts (Err e) f b is = absurd cc

bind_stays : {A B F : Type 0} (x y : Result A F) (f g : A → Result B F) (b : B) → ((a : A) → x ≡ Ok a → y ≡ Ok a) → ((a : A) → f a ≡ Ok b → g a ≡ Ok b) → (x >>= f) ≡ Ok b → (y >>= g) ≡ Ok b
bind_stays x y f g b first later is = let p = parts x f b is in rw (first p.0 p.1) (later p.0 p.2)

walk_stays : (step next : ℕ → Written → List ℕ → Result (Written × ℕ) PeFault) → ((at : ℕ) (w : Written) (text : List ℕ) (r : Written × ℕ) → step at w text ≡ Ok r → next at w text ≡ Ok r)
    → (most at : ℕ) (w : Written) (text : List ℕ) (v : Written) → walk step most at w text ≡ Ok v → walk next most at w text ≡ Ok v
walk_stays step next each most at w [] v is = is
walk_stays step next each zero at w (c ∷ text) v is = is
walk_stays step next each (suc most) at w (c ∷ text) v is =
    bind_stays (step at w (c ∷ text)) (next at w (c ∷ text)) (λ (r : Written × ℕ). walk step most (at + r.1) r.0 (drop (r.1 - 1) text)) (λ (r : Written × ℕ). walk next most (at + r.1) r.0 (drop (r.1 - 1) text)) v
    (each at w (c ∷ text)) (λ r. walk_stays step next each most (at + r.1) r.0 (drop (r.1 - 1) text) v) is

module _ (manner : Manner) (deeper further : Expanding) (bound later : Bound) (keeps : Keeps bound later) (stays : (names : List (List ℕ)) (w : Written) (text : List ℕ) (v : Written) → deeper names w text ≡ Ok v → further names w text ≡ Ok v) where
  included_stays : (names : List (List ℕ)) (w : Written) (name : List ℕ) (v : Written) → included manner deeper bound names w name ≡ Ok v → included manner further later names w name ≡ Ok v
  included_stays names w name v is =
      let start = length (padded manner w.text) in
      let inner = names ++ name ∷ [] in
      let under = λ (t : List ℕ × ℕ). (let opened : Written = record { text = padded manner w.text; spent = t.1 } in opened) in
      bind_stays (opening bound names w.spent name) (opening later names w.spent name) (λ (t : List ℕ × ℕ). deeper inner (under t) t.0 >>= closed manner name start) (λ (t : List ℕ × ℕ). further inner (under t) t.0 >>= closed manner name start) v
      (λ t. opening_stays bound later names w.spent name t keeps)
      (λ t. bind_stays (deeper inner (under t) t.0) (further inner (under t) t.0) (closed manner name start) (closed manner name start) v (stays inner (under t) t.0) (λ u closes. closes)) is

  kind_stays : (names : List (List ℕ)) (w : Written) (text : List ℕ) (len : ℕ) (kind : Kind) (v : Written) → by_kind manner deeper bound names w text len kind ≡ Ok v → by_kind manner further later names w text len kind ≡ Ok v
  kind_stays names w text len (Char c) v is = is
  kind_stays names w text len Kept v is = is
  kind_stays names w text len Included v is = included_stays names w (named len text) v is

  piece_stays : (names : List (List ℕ)) (w : Written) (text : List ℕ) (o : Option Piece) (r : Written × ℕ) → by_piece manner deeper bound names w text o ≡ Ok r → by_piece manner further later names w text o ≡ Ok r
  piece_stays names w text None r is = is
  piece_stays names w text (Some p) r is =
      bind_stays (by_kind manner deeper bound names w text p.len p.kind) (by_kind manner further later names w text p.len p.kind) (λ (u : Written). let x : Result (Written × ℕ) PeFault = Ok (u, p.len) in x) (λ (u : Written). let x : Result (Written × ℕ) PeFault = Ok (u, p.len) in x) r
      (λ u. kind_stays names w text p.len p.kind u) (λ u same. same) is

levels_stay : (manner : Manner) (levels : ℕ) (bound later : Bound) → Keeps bound later → (names : List (List ℕ)) (w : Written) (text : List ℕ) (v : Written) → expansion manner levels bound names w text ≡ Ok v → expansion manner levels later names w text ≡ Ok v
unfolding over
levels_stay manner zero bound later keeps names w text v is = absurd cc
levels_stay manner (suc levels) bound later keeps names w text v is =
    walk_stays (expansion_step manner (expansion manner levels bound) bound names) (expansion_step manner (expansion manner levels later) later names)
    (λ at u part r. piece_stays manner (expansion manner levels bound) (expansion manner levels later) bound later keeps (levels_stay manner levels bound later keeps) names u part (first_piece manner part) r)
    (length text) 0 w text v is

-- what a text stands for, by bindings that keep all texts
pub expansion_stays : (manner : Manner) (bound later : Bound) (names : List (List ℕ)) (spent : ℕ) (text : List ℕ) (v : Written) → Keeps bound later → expansion_of manner bound names spent text ≡ Ok v → expansion_of manner later names spent text ≡ Ok v
unfolding expansion_of
expansion_stays manner bound later names spent text v keeps is = levels_stay manner (suc (32 - length names)) bound later keeps names (record { text = []; spent = spent }) text v is

-- an expansion that stopped, once a text is given to an entity without one
pub paused_given : (bound : Bound) (chain : List (List ℕ)) (outer name text : List ℕ) (e : PausedExpansion) → text_named bound name ≡ None → IsPaused bound chain outer e → IsPaused (with_outer bound name text) chain outer e
paused_given bound chain outer name text e none = paused_keeps bound (with_outer bound name text) chain outer e (outer_keeps bound name text none)
