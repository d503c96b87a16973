-- Lines and words are cut.
use Rattle.std.proofs.Common.{◌≡◌, ◌≤◌, ◌<◌, ◌+◌, ◌-◌, ◌==◌, ℕ, zero, suc, List, [], ◌∷◌, ◌++◌, Bool, true, false, cond, not, Option, Some, None, refl, sym, ap, ◌∙◌, subst, arith, length, take, drop, slice_get}
use Rattle.std.specs.Prelude.{option_and_then, position, nat_lt}
use Rattle.std.specs.List.{list_all, prefix_len}
use Rattle.std.proofs.lemmas.Bool.{eq-eqb, eqb-true, ltb-true, ltb-false}
use Rattle.std.proofs.lemmas.List.{take_rest}
use Rattle.std.proofs.lemmas.Option.{same_Some, none-some}
use Rattle.std.specs.Cmp.Derive.{both_true}
use Rattle.attribute_types.proofs.TextTests.{on_test}
use Rattle.bound_checker.specs.Certificates.{after, split, spaced}
use Rattle.attlist_merge.proofs.Turns.{one_more, drop_step, drop_all}
use Rattle.bound_checker.specs.Lines.{lines_of, onto}
use Rattle.bound_checker.proofs.Certificates.{is_solid, solid_split, split_at}

abbrev pub is_feed : ℕ → Bool
is_feed c = c == 0xA

abbrev line_len : List ℕ → ℕ
line_len t = prefix_len (λ c. not (is_feed c)) t

-- ---- the first line of a text

pub one_and : (n : ℕ) → 1 + n ≡ suc n
one_and n = omega arith

cut_at : (t : List ℕ) → line_len t < length t → lines_of t ≡ take (line_len t) t ∷ lines_of (drop (suc (line_len t)) t)
cut_at [] l = absurd (omega arith)
cut_at (c ∷ cs) l =
    let P : Bool → Type 0 = λ b. cond (not b) (1 + line_len cs) 0 < length (c ∷ cs) → cond b ([] ∷ lines_of cs) (onto c (lines_of cs)) ≡ take (cond (not b) (1 + line_len cs) 0) (c ∷ cs) ∷ lines_of (drop (suc (cond (not b) (1 + line_len cs) 0)) (c ∷ cs)) in
    on_test P (is_feed c) (λ t l. refl)
    (λ t l. subst (λ n. onto c (lines_of cs) ≡ take n (c ∷ cs) ∷ lines_of (drop (suc n) (c ∷ cs))) (sym (one_and (line_len cs))) (ap (onto c) (cut_at cs (omega (arith, l)))))
    l

last_by : (c : ℕ) (cs : List ℕ) → (0 < length cs → lines_of cs ≡ cs ∷ []) → onto c (lines_of cs) ≡ (c ∷ cs) ∷ []
last_by c [] more = refl
last_by c (d ∷ ds) more = ap (onto c) (more (omega arith))

whole : (t : List ℕ) → 0 < length t → length t ≤ line_len t → lines_of t ≡ t ∷ []
whole [] some l = absurd (omega arith)
whole (c ∷ cs) some l =
    let P : Bool → Type 0 = λ b. length (c ∷ cs) ≤ cond (not b) (1 + line_len cs) 0 → cond b ([] ∷ lines_of cs) (onto c (lines_of cs)) ≡ (c ∷ cs) ∷ [] in
    on_test P (is_feed c) (λ t l. absurd (omega (arith, l))) (λ t l. last_by c cs (λ more. whole cs more (omega (arith, l)))) l

cut_here : (t : List ℕ) (n : ℕ) → Some n ≡ position is_feed t → lines_of t ≡ take n t ∷ lines_of (drop (n + 1) t)
cut_here t n h =
    let P : Bool → Type 0 = λ b. nat_lt (line_len t) (length t) ≡ b → Some n ≡ cond b (Some (line_len t)) None → lines_of t ≡ take n t ∷ lines_of (drop (n + 1) t) in
    on_test P (nat_lt (line_len t) (length t))
    (λ t' e h. let same : line_len t ≡ n = same_Some (line_len t) n (sym h) in
    subst (λ n. lines_of t ≡ take n t ∷ lines_of (drop (n + 1) t)) same (cut_at t (ltb-true (line_len t) (length t) e) ∙ ap (λ k. take (line_len t) t ∷ lines_of (drop k t)) (sym (one_more (line_len t)))))
    (λ t' e h. absurd (none-some n (sym h)))
    refl h

-- with what `&t[n + 1..]` reads as
pub cut_some : (t : List ℕ) (n : ℕ) → Some n ≡ position is_feed t → lines_of t ≡ take n t ∷ lines_of (take (length t - (n + 1)) (drop (n + 1) t))
cut_some t n h = cut_here t n h ∙ ap (λ r. take n t ∷ lines_of r) (sym (take_rest t (n + 1)))

pub cut_none : (t : List ℕ) → 0 < length t → None ≡ position is_feed t → lines_of t ≡ t ∷ []
cut_none t some h =
    let P : Bool → Type 0 = λ b. nat_lt (line_len t) (length t) ≡ b → None ≡ cond b (Some (line_len t)) None → lines_of t ≡ t ∷ [] in
    on_test P (nat_lt (line_len t) (length t)) (λ t' e h. absurd (none-some (line_len t) h)) (λ t' e h. whole t some (ltb-false (line_len t) (length t) e)) refl h

-- ---- the last space

front_and_rest : (xs : List ℕ) (i : ℕ) → xs ≡ take i xs ++ drop i xs
front_and_rest [] zero = refl
front_and_rest [] (suc i) = refl
front_and_rest (x ∷ xs) zero = refl
front_and_rest (x ∷ xs) (suc i) = ap (λ ys. x ∷ ys) (front_and_rest xs i)

pub cut_space : (xs : List ℕ) (i : ℕ) → slice_get xs i ≡ Some 0x20 → xs ≡ spaced (take i xs) (drop (i + 1) xs)
cut_space xs i h = front_and_rest xs i ∙ ap (λ ys. take i xs ++ ys) (drop_step xs i 0x20 h)

pub split_here : (xs : List ℕ) (i : ℕ) → slice_get xs i ≡ Some 0x20 → list_all is_solid (drop (i + 1) xs) ≡ true
    → Some (take i xs, take (length xs - (i + 1)) (drop (i + 1) xs)) ≡ split xs
split_here xs i h solid =
    ap (λ b. Some (take i xs, b)) (take_rest xs (i + 1)) ∙ sym (ap split (cut_space xs i h) ∙ split_at (take i xs) (drop (i + 1) xs) solid)

pub solid_more : (xs : List ℕ) (i c : ℕ) → slice_get xs i ≡ Some c → (c ≡ 0x20 → ⊥) → list_all is_solid (drop (i + 1) xs) ≡ true → list_all is_solid (drop i xs) ≡ true
solid_more xs i c h off solid = ap (list_all is_solid) (drop_step xs i c h) ∙ both_true (ap not (apart (c == 0x20) refl)) solid
  where
    apart : (b : Bool) → (c == 0x20) ≡ b → (c == 0x20) ≡ false
    apart true e = absurd (off (eqb-true c 0x20 e))
    apart false e = e

pub no_split : (xs : List ℕ) (i : ℕ) → i ≤ 0 → list_all is_solid (drop i xs) ≡ true → None ≡ split xs
no_split xs i low h = let e : i ≡ 0 = omega arith in sym (solid_split xs (subst (λ k. list_all is_solid (drop k xs) ≡ true) e h))

-- ---- beginnings

-- one more of the beginning
pub after_more : (p : List ℕ) (i x : ℕ) (left line cs : List ℕ) → slice_get p i ≡ Some x → left ≡ x ∷ cs → after (drop i p) left ≡ after p line → after (drop (i + 1) p) cs ≡ after p line
after_more p i x left line cs h e k = sym (ap (λ q. after q left) (drop_step p i x h) ∙ ap (after (x ∷ drop (i + 1) p)) e ∙ same) ∙ k
  where
    same : after (x ∷ drop (i + 1) p) (x ∷ cs) ≡ after (drop (i + 1) p) cs
    same = rw (eq-eqb x x refl) refl

-- it is another
pub after_other : (p : List ℕ) (i x c : ℕ) (left line cs : List ℕ) → slice_get p i ≡ Some x → left ≡ c ∷ cs → (c ≡ x → ⊥) → after (drop i p) left ≡ after p line → None ≡ after p line
after_other p i x c left line cs h e off k = sym (ap (λ q. after q left) (drop_step p i x h) ∙ ap (after (x ∷ drop (i + 1) p)) e ∙ other (x == c) refl) ∙ k
  where
    other : (b : Bool) → (x == c) ≡ b → cond b (after (drop (i + 1) p) cs) None ≡ None
    other true q = absurd (off (sym (eqb-true x c q)))
    other false q = refl

-- there is no more
pub after_short : (p : List ℕ) (i x : ℕ) (left line : List ℕ) → slice_get p i ≡ Some x → length left ≡ 0 → after (drop i p) left ≡ after p line → None ≡ after p line
after_short p i x [] line h e k = sym (ap (λ q. after q []) (drop_step p i x h)) ∙ k
after_short p i x (c ∷ cs) line h e k = absurd (omega (arith, e))

pub after_all : (p : List ℕ) (i : ℕ) (left line : List ℕ) → length p ≤ i → after (drop i p) left ≡ after p line → Some left ≡ after p line
after_all p i left line past k = sym (ap (λ q. after q left) (drop_all p i past)) ∙ k

-- one beginning behind the other
pub after_both : (p q cs : List ℕ) → after (p ++ q) cs ≡ option_and_then (after q) (after p cs)
after_both [] q cs = refl
after_both (x ∷ p) q [] = refl
after_both (x ∷ p) q (c ∷ cs) =
    let P : Bool → Type 0 = λ b. cond b (after (p ++ q) cs) None ≡ option_and_then (after q) (cond b (after p cs) None) in
    on_test P (x == c) (λ t. after_both p q cs) (λ t. refl)

pub no_both : (p q cs : List ℕ) → after p cs ≡ None → None ≡ after (p ++ q) cs
no_both p q cs h = sym (after_both p q cs ∙ ap (option_and_then (after q)) h)

pub some_both : (p q cs x : List ℕ) (o : Option (List ℕ)) → after p cs ≡ Some x → o ≡ after q x → o ≡ after (p ++ q) cs
some_both p q cs x o h e = e ∙ sym (after_both p q cs ∙ ap (option_and_then (after q)) h)
