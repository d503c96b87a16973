-- Words, which are names where their first character may begin one.
use Rattle.std.proofs.Common.{◌≡◌, ◌∙◌, List, [], ◌∷◌, ℕ, suc, ◌+◌, Bool, true, false, cond, refl, sym, ap, arith}
use Rattle.std.specs.Prelude.{◌&&◌, take}
use Rattle.std.specs.List.{list_all, prefix_len}
use Rattle.std.proofs.lemmas.Bool.{and_parts}
use Rattle.jats_chars.specs.Classes.{is_name_char, is_name_start}
use Rattle.jats_chars.specs.Names.{is_name}
use Rattle.text_fronts.specs.Fronts.{word}

module _ (p : ℕ → Bool) where
  -- what is counted from the front passes the test
  pub prefix_all : (t : List ℕ) → list_all p (take (prefix_len p t) t) ≡ true
  prefix_all [] = refl
  prefix_all (c ∷ cs) = by (prefix_all cs) (p c) refl
    where
      by : list_all p (take (prefix_len p cs) cs) ≡ true → (b : Bool) → p c ≡ b → list_all p (take (prefix_len p (c ∷ cs)) (c ∷ cs)) ≡ true
      by later true e =
          let n = prefix_len p cs in
          let one : 1 + n ≡ suc n = omega arith in
          ap (λ b. list_all p (take (cond b (1 + prefix_len p cs) 0) (c ∷ cs))) e ∙ ap (λ k. list_all p (take k (c ∷ cs))) one ∙ ap (λ b. b && list_all p (take (prefix_len p cs) cs)) e ∙ later
      by later false e = ap (λ b. list_all p (take (cond b (1 + prefix_len p cs) 0) (c ∷ cs))) e

pub word_chars : (t : List ℕ) → list_all is_name_char (word t) ≡ true
unfolding word
word_chars t = prefix_all is_name_char t

pub name_by_first : (w rest : List ℕ) (c : ℕ) → w ≡ c ∷ rest → list_all is_name_char w ≡ true → is_name_start c ≡ is_name w
name_by_first w rest c is all =
    let h = and_parts (is_name_char c) (list_all is_name_char rest) (ap (list_all is_name_char) (sym is) ∙ all) in
    and_right (is_name_start c) ∙ ap (λ b. is_name_start c && b) (sym h.1) ∙ ap is_name (sym is)
  where
    and_right : (b : Bool) → b ≡ (b && true)
    and_right true = refl
    and_right false = refl
