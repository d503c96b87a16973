-- What is collected from the rows of two contents.
use Rattle.std.proofs.Common.{◌≡◌, ◌*◌, List, [], ◌∷◌, ℕ, length, Bool, ◌&&◌, Result, Ok, Err, IfOk, refl, sym, ap, ◌∙◌, subst}
use Rattle.std.specs.List.{list_all}
use Rattle.jats_chars.specs.declared.NoMemory.{NoMemory}
use Rattle.content_models.specs.declared.content.Content.{Content}
use Rattle.content_models.specs.Model.{Chars, among}
use Rattle.position_automata.specs.Automata.{states, IsDeterministic}
use Rattle.model_inclusion.specs.declared.fault.PairFault.{PairFault}
use Rattle.model_inclusion.specs.declared.fault.PairFault.TheVariants as fault
use Rattle.model_inclusion.specs.Listed.{IsListed, ArePairs, ListsPairs}
use Rattle.model_inclusion.specs.Reaching.{next, Reaches, AreWithin, pairs_from}
use Rattle.model_inclusion.specs.Rows.{AreRows}
use Rattle.model_inclusion.proofs.Listing.{within, are_pairs}

pub inside_by : (keys : List Chars) (a b : Content) (fs ss : List (List (ℕ × ℕ))) (names : ℕ) → AreRows keys a fs → AreRows keys b ss → names ≡ length keys → IsDeterministic b
    → AreWithin fs ss names
inside_by keys a b fs ss names ra rb en db = subst (AreWithin fs ss) (sym en) (within keys a b fs ss ra rb db)

pub collected : (keys : List Chars) (a b : Content) (fs ss : List (List (ℕ × ℕ))) (names : ℕ) → AreRows keys a fs → AreRows keys b ss → names ≡ length keys → IsDeterministic b
    → (width : ℕ) → width ≡ states b → (seen flags : List Bool) → Reaches (next fs ss names) (length fs * length ss) seen → flags ≡ seen
    → (r : Result (List (ℕ × ℕ)) NoMemory) → IfOk r (λ pairs. pairs ≡ pairs_from 0 width flags) → IfOk r (ArePairs keys a b)
collected keys a b fs ss names ra rb en db width ew seen flags h eq (Err f) e = tt
collected keys a b fs ss names ra rb en db width ew seen flags h eq (Ok pairs) e =
    let wide : width ≡ length ss = ew ∙ sym rb.count in
    let k : Reaches (next fs ss (length keys)) (length fs * length ss) seen = subst (λ (n : ℕ). Reaches (next fs ss n) (length fs * length ss) seen) en h in
    let same : pairs ≡ pairs_from 0 (length ss) seen = e ∙ ap (λ z. pairs_from 0 z flags) wide ∙ ap (pairs_from 0 (length ss)) eq in
    subst (ArePairs keys a b) (sym same) (are_pairs keys a b fs ss ra rb db seen k)

-- ---- names that are live alike

module _ (keys live : List Chars) (same : (name : Chars) → among keys name ≡ among live name) (a b : Content) where
  all_same : (names : List Chars) → list_all (among keys) names ≡ list_all (among live) names
  all_same [] = refl
  all_same (name ∷ names) = ap (λ x. x && list_all (among keys) names) (same name) ∙ ap (λ x. among live name && x) (all_same names)

  listed_to : (i j : ℕ) → IsListed keys a b i j → IsListed live a b i j
  listed_to i j h = (h.0, sym (all_same h.0) ∙ h.1, h.2, h.3)

  listed_from : (i j : ℕ) → IsListed live a b i j → IsListed keys a b i j
  listed_from i j h = (h.0, all_same h.0 ∙ h.1, h.2, h.3)

  pairs_same : (pairs : List (ℕ × ℕ)) → ArePairs keys a b pairs → ArePairs live a b pairs
  pairs_same pairs h = record {
    ascending = h.ascending;
    listed = λ i j. ((λ c. listed_to i j ((h.listed i j).0 c)), (λ l. (h.listed i j).1 (listed_from i j l)));
  }

  pub lists_same : (left : ℕ) (r : Result (List (ℕ × ℕ)) PairFault) → ListsPairs keys a b left r → ListsPairs live a b left r
  lists_same left (Ok pairs) h = (pairs_same pairs h.0, h.1)
  lists_same left (Err fault.PairsOver) h = (h.0, pairs_same h.0 h.1, h.2)
  lists_same left (Err fault.NoMemory) h = tt
