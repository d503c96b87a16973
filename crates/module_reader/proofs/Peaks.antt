-- How many parentheses are open in a part of a body.
use Rattle.std.proofs.Common.{◌≡◌, ◌≤◌, ℕ, zero, suc, ◌+◌, ◌-◌, ◌==◌, List, [], ◌∷◌, take, drop, length, Option, Some, None, Bool, true, false, arith, refl, sym, subst, option_map, option_and_then}
use Rattle.std.specs.Prelude.{if◌then◌else◌}
use Rattle.std.specs.List.{prefix_len, suffix_len}
use Rattle.std.proofs.lemmas.Option.{none-some}
use Rattle.jats_chars.specs.Classes.{is_space, is_name_char}
use Rattle.jats_chars.specs.Names.{is_name}
use Rattle.content_models.specs.Parses.{most_open, open_after}
use Rattle.text_fronts.specs.Fronts.{read_space, read_name, skipped, word, after_word, spaced_name, trimmed_end}
use Rattle.declaration_bodies.specs.Elements.{element_of, with_content}

some_is : {X : Type 0} (x y : X) → Some x ≡ Some y → x ≡ y
some_is x y e = cc

after_more : (j k c : ℕ) → j ≤ k → open_after j c ≤ open_after k c
after_more j k c l = by (c == 40) (c == 41)
  where
    by : (a b : Bool) → (if a then j + 1 else (if b then j - 1 else j)) ≤ (if a then k + 1 else (if b then k - 1 else k))
    by true b = omega arith
    by false true = omega arith
    by false false = omega arith

more : (j k : ℕ) (t : List ℕ) → j ≤ k → most_open j t ≤ most_open k t
unfolding most_open
more j k [] l = l
more j k (c ∷ t) l = (let r = more (open_after j c) (open_after k c) t (after_more j k c l) in omega arith)

later : (n : ℕ) (t : List ℕ) → most_open 0 (drop n t) ≤ most_open 0 t
unfolding most_open
later zero t = omega arith
later (suc n) [] = omega arith
later (suc n) (c ∷ t) = (let r = later n t in let m = more 0 (open_after 0 c) t (omega arith) in omega arith)

sooner : (k n : ℕ) (t : List ℕ) → most_open k (take n t) ≤ most_open k t
unfolding most_open
sooner k zero [] = omega arith
sooner k zero (c ∷ t) = omega arith
sooner k (suc n) [] = omega arith
sooner k (suc n) (c ∷ t) = (let r = sooner (open_after k c) n t in omega arith)

trimmed_within : (t : List ℕ) → most_open 0 (trimmed_end t) ≤ most_open 0 t
trimmed_within t = sooner 0 (length t - suffix_len is_space t) t

skipped_within : (t : List ℕ) → most_open 0 (skipped t) ≤ most_open 0 t
unfolding skipped
skipped_within t = later (prefix_len is_space t) t

space_within : (t u : List ℕ) → read_space t ≡ Some u → most_open 0 u ≤ most_open 0 t
space_within [] u e = absurd (none-some _ e)
space_within (c ∷ cs) u e = by (is_space c) e
  where
    by : (b : Bool) → (if b then Some (skipped cs) else None) ≡ Some u → most_open 0 u ≤ most_open 0 (c ∷ cs)
    by true e = (let s = skipped_within cs in let l = later 1 (c ∷ cs) in subst (λ x. most_open 0 x ≤ most_open 0 (c ∷ cs)) (some_is _ _ e) (omega arith))
    by false e = absurd (none-some _ e)

name_within : (t u name : List ℕ) → read_name t ≡ Some (name, u) → most_open 0 u ≤ most_open 0 t
unfolding after_word
name_within t u name e = by (is_name (word t)) e
  where
    front : List ℕ × List ℕ
    front = (word t, after_word t)

    by : (b : Bool) → (if b then Some front else None) ≡ Some (name, u) → most_open 0 u ≤ most_open 0 t
    by true e = (let l = later (prefix_len is_name_char t) t in subst (λ x. most_open 0 x.1 ≤ most_open 0 t) (some_is _ _ e) l)
    by false e = absurd (none-some _ e)

content_within : (t u name text : List ℕ) → with_content (name, t) ≡ Some (u, text) → most_open 0 text ≤ most_open 0 t
content_within t u name text e = by (read_space t) refl e
  where
    as_pair : List ℕ → List ℕ × List ℕ
    as_pair content = (name, trimmed_end content)

    by : (o : Option (List ℕ)) → read_space t ≡ o → option_map as_pair o ≡ Some (u, text) → most_open 0 text ≤ most_open 0 t
    by None f e = absurd (none-some _ e)
    by (Some c) f e =
        (let s = space_within t c f in let w = trimmed_within c in subst (λ x. most_open 0 x.1 ≤ most_open 0 t) (some_is _ _ e) (omega arith))

-- the content of an element opens no more parentheses than its body
pub element_within : (body name text : List ℕ) → element_of body ≡ Some (name, text) → most_open 0 text ≤ most_open 0 body
unfolding element_of
element_within body name text e = by (read_space body) refl e
  where
    named : (t : List ℕ) → most_open 0 t ≤ most_open 0 body → (o : Option (List ℕ × List ℕ)) → read_name t ≡ o → option_and_then with_content o ≡ Some (name, text)
        → most_open 0 text ≤ most_open 0 body
    named t l None f e = absurd (none-some _ e)
    named t l (Some x) f e = (let n = name_within t x.1 x.0 f in let c = content_within x.1 name x.0 text e in omega arith)

    by : (o : Option (List ℕ)) → read_space body ≡ o → option_and_then with_content (option_and_then read_name o) ≡ Some (name, text) → most_open 0 text ≤ most_open 0 body
    by None f e = absurd (none-some _ e)
    by (Some t) f e = named t (space_within body t f) (read_name t) refl e
