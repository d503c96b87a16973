-- Bytes that are no text, and numbers of refusals.
use Rattle.std.proofs.Common.{◌≡◌, ◌∙◌, ◌==◌, ◌||◌, ℕ, Bool, true, false, List, [], ◌∷◌, Result, Ok, Err, refl, ap, sym, subst}
use Rattle.std.specs.List.{list_all, list_any}
use Rattle.std.proofs.lemmas.Bool.{and_parts, eqb-true}
use Rattle.std.specs.Prelude.{IsTrue}
use Rattle.jats_chars.specs.Decoded.{Answers}
use Rattle.jats_chars.specs.declared.decoding.DecodeFault.{DecodeFault}
use Rattle.jats_chars.specs.declared.decoding.DecodeFault.TheVariants as decoding
use Rattle.jats_fault.specs.declared.fault.Fault.{Fault}
use Rattle.jats_fault.specs.Table.{table, has_number}
use Rattle.document_trees.specs.Trees.{Node}
use Rattle.decl_set.specs.Declarations.{Entity}
use Rattle.article_tree.specs.Decoding.{HasRow, StopsDecoding, decode_stop, decoded_article}
use Rattle.article_tree.specs.Faults.{article_numbers, is_article_number}
use Rattle.article_tree.specs.Outcomes.{Fails}
use Rattle.article_tree.specs.Outcomes as outcome
use Rattle.article_tree.specs.InPlace.{article_in_place}
use Rattle.article_tree.specs.Reading.{article_of}
use Rattle.article_tree.specs.declared.stops.ArticleFault.{ArticleFault}
use Rattle.article_tree.specs.declared.stops.ArticleFault.TheVariants.{Refused, NoMemory}
use Rattle.article_tree.proofs.Places.{fault_within}
use Rattle.article_tree.proofs.Placing.{article_placed}
use Rattle.article_tree.proofs.Tagged.{refuses_fails}

pub decode_fails : (entities : List Entity) (article : List ℕ) (said : Result (List ℕ) DecodeFault) (e : DecodeFault) (f : ArticleFault) → Answers said (Err e) → StopsDecoding article e f → Fails f (decoded_article entities article said)
decode_fails entities article said decoding.NoMemory f is stops = rw stops tt
decode_fails entities article said (decoding.NotUtf8 byte) f is stops = refuses_fails f _ _ stops (ap (decoded_article entities article) is)
decode_fails entities article said (decoding.NotChar byte) f is stops = refuses_fails f _ _ stops (ap (decoded_article entities article) is)
decode_fails entities article said decoding.BadTextDecl f is stops = refuses_fails f _ _ stops (ap (decoded_article entities article) is)
decode_fails entities article said decoding.EncodingOther f is stops = refuses_fails f _ _ stops (ap (decoded_article entities article) is)

pub decode_reads : (entities : List Entity) (article text : List ℕ) (said : Result (List ℕ) DecodeFault) (r : Result Node ArticleFault) → said ≡ Ok text → outcome.Answers (λ n. n) (article_in_place entities article text) r
    → outcome.Answers (λ n. n) (decoded_article entities article said) r
decode_reads entities article text said r is h =
    let e : decoded_article entities article said ≡ article_in_place entities article text = ap (decoded_article entities article) is ∙ sym (article_placed entities article text) in
    rw e h

-- what is one of numbers in the table stands there
listed_row : (ns : List ℕ) (n : ℕ) → IsTrue (list_all (has_number table) ns) → IsTrue (list_any (λ m. m == n) ns) → IsTrue (has_number table n)
listed_row [] n all is = cc
listed_row (m ∷ ms) n all is =
    let parts = and_parts (has_number table m) (list_all (has_number table) ms) all in
    by parts.0 (λ t. listed_row ms n parts.1 t) (m == n) refl is
  where
    by : IsTrue (has_number table m) → (IsTrue (list_any (λ k. k == n) ms) → IsTrue (has_number table n)) → (b : Bool) → (m == n) ≡ b → IsTrue (b || list_any (λ k. k == n) ms) → IsTrue (has_number table n)
    by here later true e is = subst (λ (k : ℕ). IsTrue (has_number table k)) (eqb-true m n e) here
    by here later false e is = later is

both_number : (n : ℕ) → IsTrue (is_article_number n) → IsTrue (has_number table n) × IsTrue (is_article_number n)
both_number n is = (listed_row article_numbers n refl is, is)

-- a refusal of bytes, or of their text, is one of an article
stop_number : (article : List ℕ) (e : DecodeFault) → IsTrue (is_article_number (decode_stop article e).number)
stop_number article (decoding.NotUtf8 byte) = refl
stop_number article (decoding.NotChar byte) = refl
stop_number article decoding.BadTextDecl = refl
stop_number article decoding.EncodingOther = refl
stop_number article decoding.NoMemory = refl

number_stands : (entities : List Entity) (article : List ℕ) (said : Result (List ℕ) DecodeFault) (r : Fault) → decoded_article entities article said ≡ Err r → IsTrue (is_article_number r.number)
number_stands entities article (Ok text) r is = (fault_within entities article text r is).number
number_stands entities article (Err e) r is = let f : decode_stop article e ≡ r = cc in subst (λ (x : Fault). IsTrue (is_article_number x.number)) f (stop_number article e)

pub answers_row : (entities : List Entity) (article : List ℕ) (said : Result (List ℕ) DecodeFault) (result : Result Node ArticleFault) → outcome.Answers (λ n. n) (decoded_article entities article said) result → HasRow result
answers_row entities article said (Ok n) is = tt
answers_row entities article said (Err (Refused r)) is = both_number r.number (number_stands entities article said r is)
answers_row entities article said (Err NoMemory) is = tt

-- a node of bytes is that of their text
pub text_found : (entities : List Entity) (article : List ℕ) (node : Node) (said : Result (List ℕ) DecodeFault) → decoded_article entities article said ≡ Ok node → (text : List ℕ) × (said ≡ Ok text) × (article_of entities article text ≡ Ok node)
text_found entities article node (Ok text) is = (text, refl, is)
text_found entities article node (Err e) is = absurd (let f : Err (decode_stop article e) ≡ Ok node = is in cc)
