-- What a loop over an iterator has gone through.
use Rattle.std.proofs.Common.{◌≡◌, ◌∙◌, ◌<◌, ◌+◌, List, [], ◌∷◌, ◌++◌, length, map, take, drop, get_or, Some, None, ap, sym}
use Rattle.std.specs.Prelude.{Option}
use Rattle.std.specs.Iterator.{Yields}
use Rattle.std.proofs.lemmas.List.{map-append, take_more, take-append-drop}
use Rattle.std.proofs.lemmas.Iterator.{YieldsList}
use Rattle.std.proofs.lemmas.Iterator.Consumers.{YieldsList-so_far, YieldsList-turn, YieldsList-end}

-- the list is what was gone through, the item at which the loop stands, and more
pub record StandsAt {A : Type 0} (all before : List A) (x : A) : Type 0 where
  pub rest : List A
  pub whole : (before ++ x ∷ []) ++ rest ≡ all

pub stands-map : {A B : Type 0} (f : A → B) {all before : List A} {x : A} → StandsAt all before x → StandsAt (map f all) (map f before) (f x)
stands-map f {all} {before} {x} place = record {
  rest = map f place.rest;
  whole = sym (map-append f (before ++ x ∷ []) place.rest ∙ ap (λ front. front ++ map f place.rest) (map-append f before (x ∷ []))) ∙ ap (map f) place.whole;
}

module _ {S A B : Type 0} {steps : S → Option A → S → Type 0} {v : A → B} {s : S} {all : List B} (xs : List A) (t : S) (yielded : Yields steps s xs t) (r : Option A) (u : S) where
  pub stands_at : (x : A) → r ≡ Some x → steps t r u → YieldsList steps v s all → StandsAt all (map v xs) (v x)
  stands_at x is step road =
      let so_far : map v xs ≡ take (length xs) all = YieldsList-so_far road xs t yielded in
      let here : (length xs < length all) × (v x ≡ get_or all (length xs) (v x)) = YieldsList-turn road xs t yielded r u x is step in
      let one_more : take (length xs + 1) all ≡ map v xs ++ v x ∷ [] = take_more all (length xs) (v x) here.0 ∙ (λ i. sym so_far i ++ sym here.1 i ∷ []) in
      record { rest = drop (length xs + 1) all; whole = ap (λ front. front ++ drop (length xs + 1) all) (sym one_more) ∙ take-append-drop (length xs + 1) all }

  -- at the end it is what was gone through
  pub ends_at : r ≡ None → steps t r u → YieldsList steps v s all → map v xs ≡ all
  ends_at is step road = (YieldsList-end road xs t yielded r u is step).0
