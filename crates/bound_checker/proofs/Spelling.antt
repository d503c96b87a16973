-- Digits are read as a number of 32 bits.
use Rattle.std.proofs.Common.{◌≡◌, ◌≤◌, ◌<◌, ◌+◌, ◌*◌, ◌^◌, ℕ, zero, suc, List, [], ◌∷◌, Bool, true, false, cond, Option, Some, None, refl, sym, ap, ◌∙◌, subst, arith, length, take, drop, ◌-◌, ◌==◌, not, ◌++◌, true≢false, slice_get, get_or, append_assoc, length-append}
use Rattle.std.specs.Prelude.{bytes_eq, nat_lt, position, IfSome}
use Rattle.std.specs.List.{list_all, prefix_len}
use Rattle.std.specs.Fmt.{decimal}
use Rattle.std.specs.Char.{digit_value}
use Rattle.std.specs.Str.Parse.{AllDigits, digits_value, digits_value_after}
use Rattle.std.proofs.lemmas.Bool.{lt-ltb, ltb-true, eq-eqb, eqb-true, not-false, and_parts}
use Rattle.std.proofs.lemmas.List.{take_rest, take_at}
use Rattle.std.proofs.lemmas.List.Quantifiers.{position-Some}
use Rattle.std.proofs.lemmas.Fmt.{decimal_is_IsNumeral, decimal-digits_value, first_decimal, decimal_nonempty, decimal_digit}
use Rattle.std.proofs.lemmas.Str.Parse.{numerals_by_value, tells_digits}
use Rattle.std.proofs.lemmas.Option.{cond_some, none-some, same_Some, slice_get-get_or}
use Rattle.attribute_types.proofs.TextTests.{bytes_same}
use Rattle.bound_checker.specs.Certificates.{number_in, after, spaced}
use Rattle.bound_checker.specs.Spelled.{short, short_number_in, begins_number, Writes}
use Rattle.attlist_merge.proofs.Turns.{drop_step, drop_all}
use Rattle.bound_checker.proofs.Certificates.{after_it, is_solid, decimal_solid, number_back}
use Rattle.bound_checker.proofs.Cutting.{cut_space, one_and}

-- the number so far, and the digits that are left
pub record IsRead (all : List ℕ) (n : ℕ) (left : List ℕ) : Type 0 where
  pub back : AllDigits 10 left → AllDigits 10 all
  pub on : AllDigits 10 all → AllDigits 10 left
  pub value : digits_value 10 all ≡ digits_value_after 10 n left

grows : (n : ℕ) (ds : List ℕ) → n ≤ digits_value_after 10 n ds
grows n [] = omega arith
grows n (c ∷ cs) = omega (arith, grows (n * 10 + digit_value c) cs)

-- one more digit
pub read_more : (all : List ℕ) (n i c : ℕ) → slice_get all i ≡ Some c → digit_value c < 10 → IsRead all n (drop i all) → IsRead all (n * 10 + digit_value c) (drop (i + 1) all)
read_more all n i c at digit h =
    let more = subst (IsRead all n) (drop_step all i c at) h in
    record { back = λ d. more.back (digit, d); on = λ d. (more.on d).1; value = more.value }

pub no_digit : (all : List ℕ) (n i c : ℕ) → slice_get all i ≡ Some c → (digit_value c < 10 → ⊥) → IsRead all n (drop i all) → Writes all None
no_digit all n i c at off h d = let more = subst (IsRead all n) (drop_step all i c at) h in absurd (off (more.on d).0)

pub too_large : (all : List ℕ) (n i c : ℕ) → slice_get all i ≡ Some c → 2 ^ 32 ≤ n * 10 + digit_value c → IsRead all n (drop i all) → Writes all None
too_large all n i c at large h d =
    let more = subst (IsRead all n) (drop_step all i c at) h in
    let v = more.value in
    let g = grows (n * 10 + digit_value c) (drop (i + 1) all) in
    omega (arith, v, g, large)

pub read_all : (all : List ℕ) (n i : ℕ) → length all ≤ i → IsRead all n (drop i all) → Writes all (Some n)
read_all all n i past h = let more = subst (IsRead all n) (drop_all all i past) h in (more.back tt, more.value)

-- ---- numbers without leading zeros

none_if : {X : Type 0} (o : Option X) → ((x : X) → o ≡ Some x → ⊥) → None ≡ o
none_if None h = refl
none_if (Some x) h = absurd (h x refl)

short_of : (o : Option ℕ) (n : ℕ) → short o ≡ Some n → (o ≡ Some n) × (n < 2 ^ 32)
short_of None n h = absurd (none-some n h)
short_of (Some m) n h = let t = cond_some (nat_lt m 4294967296) m n h in (ap Some t.1, subst (λ k. k < 2 ^ 32) t.1 (ltb-true m 4294967296 t.0))

number_is : (ds : List ℕ) (n : ℕ) → number_in ds ≡ Some n → ds ≡ decimal n
number_is ds n h =
    let t = cond_some (bytes_eq (decimal (digits_value 10 ds)) ds) (digits_value 10 ds) n h in
    sym (bytes_same (decimal (digits_value 10 ds)) ds t.0) ∙ ap decimal t.1

pub short_back : (ds : List ℕ) (n : ℕ) → short_number_in ds ≡ Some n → (n < 2 ^ 32) × (ds ≡ decimal n)
short_back ds n h = let t = short_of (number_in ds) n h in (t.1, number_is ds n t.0)

short_some : (n : ℕ) → n < 2 ^ 32 → short (Some n) ≡ Some n
short_some n small = ap (λ b. cond b (Some n) None) (lt-ltb n 4294967296 small)

pub short_written : (n : ℕ) → n < 2 ^ 32 → short_number_in (decimal n) ≡ Some n
short_written n small = ap short (number_back n (omega (arith, small))) ∙ short_some n small

begins_one : (ds : List ℕ) → begins_number ds ≡ true → (0 < length ds) × (get_or ds 0 0 ≡ 48 → length ds ≡ 1)
begins_one [] h = absurd (true≢false (sym h))
begins_one (c ∷ []) h = (omega arith, λ e. refl)
begins_one (c ∷ d ∷ cs) h = (omega arith, λ e. absurd (true≢false (sym h ∙ ap not (eq-eqb c 48 e))))

-- the number that is written
short_is : (ds : List ℕ) (n : ℕ) → begins_number ds ≡ true → n < 2 ^ 32 → Writes ds (Some n) → Some n ≡ short_number_in ds
short_is ds n begins small w =
    let one = begins_one ds begins in
    let v = w.1 in
    let e : decimal (digits_value 10 ds) ≡ ds = decimal-digits_value (numerals_by_value _ tells_digits) ds w.0 one.0 one.1 (omega (arith, v, small)) in
    let d : ds ≡ decimal n = sym e ∙ ap decimal v in
    sym (ap short_number_in d ∙ short_written n small)

short_none : (ds : List ℕ) → Writes ds None → None ≡ short_number_in ds
short_none ds w = none_if (short_number_in ds) (λ n h.
    let t = short_back ds n h in
    let numeral = decimal_is_IsNumeral n (let s = t.0 in omega (arith, s)) in
    let large : 2 ^ 32 ≤ digits_value 10 (decimal n) = subst (λ (x : List ℕ). AllDigits 10 x → 2 ^ 32 ≤ digits_value 10 x) t.1 w numeral.0.1 in
    let v = numeral.1 in
    let small = t.0 in
    omega (arith, large, v, small))

led_not : (ds : List ℕ) (n : ℕ) → begins_number ds ≡ false → n < 2 ^ 32 → ds ≡ decimal n → ⊥
led_not [] n h small e = let some = decimal_nonempty n (omega (arith, small)) in let l = ap length e in omega (arith, some, l)
led_not (c ∷ []) n h small e = absurd (true≢false h)
led_not (c ∷ d ∷ cs) zero h small e = let l = ap length (e ∙ decimal_digit 0 (omega arith)) in omega (arith, l)
led_not (c ∷ d ∷ cs) (suc n) h small e =
    let above = first_decimal (suc n) (omega arith) (omega (arith, small)) in
    let first = ap (λ x. get_or x 0 0) e in
    let is : c ≡ 48 = eqb-true c 48 (not-false (c == 48) h) in
    omega (arith, above, first, is)

pub short_led : (ds : List ℕ) → begins_number ds ≡ false → None ≡ short_number_in ds
short_led ds led = none_if (short_number_in ds) (λ n h. let t = short_back ds n h in led_not ds n led t.0 t.1)

-- in one
pub short_by : (ds : List ℕ) (o : Option ℕ) → begins_number ds ≡ true → IfSome o (λ n. n < 2 ^ 32) → Writes ds o → o ≡ short_number_in ds
short_by ds None begins small w = short_none ds w
short_by ds (Some n) begins small w = short_is ds n begins small w

-- ---- a number and a space

after_by : (x c : ℕ) (p cs r : List ℕ) → (after p cs ≡ Some r → cs ≡ p ++ r) → (b : Bool) → (x == c) ≡ b → cond b (after p cs) None ≡ Some r → c ∷ cs ≡ x ∷ (p ++ r)
after_by x c p cs r more true q g = ap (λ y. y ∷ cs) (sym (eqb-true x c q)) ∙ ap (λ ys. x ∷ ys) (more g)
after_by x c p cs r more false q g = absurd (none-some r g)

pub after_is : (p cs r : List ℕ) → after p cs ≡ Some r → cs ≡ p ++ r
after_is [] cs r h = same_Some cs r h
after_is (x ∷ p) [] r h = absurd (none-some r h)
after_is (x ∷ p) (c ∷ cs) r h = after_by x c p cs r (after_is p cs r) (x == c) refl h

abbrev is_space : ℕ → Bool
is_space c = c == 0x20

solid_len : (w r : List ℕ) → list_all is_solid w ≡ true → prefix_len (λ c. not (is_space c)) (w ++ (0x20 ∷ r)) ≡ length w
solid_len [] r h = refl
solid_len (c ∷ w) r h =
    let parts = and_parts (is_solid c) (list_all is_solid w) h in
    ap (λ b. cond b (1 + prefix_len (λ c. not (is_space c)) (w ++ (0x20 ∷ r))) 0) parts.0 ∙ (ap (λ n. 1 + n) (solid_len w r parts.1) ∙ one_and (length w))

first_space : (w r : List ℕ) → list_all is_solid w ≡ true → position is_space (w ++ (0x20 ∷ r)) ≡ Some (length w)
first_space w r h =
    let n = length-append w (0x20 ∷ r) in
    ap (λ n. cond (nat_lt n (length (w ++ (0x20 ∷ r)))) (Some n) None) (solid_len w r h) ∙ ap (λ b. cond b (Some (length w)) None) (lt-ltb (length w) (length (w ++ (0x20 ∷ r))) (omega (arith, n)))

spaced_on : (n : ℕ) (r : List ℕ) → spaced (decimal n) [] ++ r ≡ decimal n ++ (0x20 ∷ r)
spaced_on n r = append_assoc (decimal n) (0x20 ∷ []) r

numbered : (n : ℕ) (words r : List ℕ) → n < 2 ^ 32 → after (spaced (decimal n) []) words ≡ Some r → (words ≡ decimal n ++ (0x20 ∷ r)) × (position is_space words ≡ Some (length (decimal n)))
numbered n words r small h =
    let e = after_is (spaced (decimal n) []) words r h ∙ spaced_on n r in
    (e, ap (position is_space) e ∙ first_space (decimal n) r (decimal_solid n (omega (arith, small))))

pub unspaced : (n : ℕ) (words : List ℕ) → n < 2 ^ 32 → None ≡ position is_space words → None ≡ after (spaced (decimal n) []) words
unspaced n words small h = none_if (after (spaced (decimal n) []) words) (λ r e. none-some (length (decimal n)) (h ∙ (numbered n words r small e).1))

pub other_number : (n at : ℕ) (words : List ℕ) → n < 2 ^ 32 → Some at ≡ position is_space words → (short_number_in (take at words) ≡ Some n → ⊥) → None ≡ after (spaced (decimal n) []) words
other_number n at words small h off = none_if (after (spaced (decimal n) []) words) (λ r e.
    let t = numbered n words r small e in
    let same : length (decimal n) ≡ at = same_Some (length (decimal n)) at (sym (h ∙ t.1)) in
    off (ap (λ x. short_number_in (take at x)) t.0 ∙ (ap short_number_in (take_at (decimal n) (0x20 ∷ r) at same) ∙ short_written n small)))

pub own_number : (n at : ℕ) (words : List ℕ) → Some at ≡ position is_space words → short_number_in (take at words) ≡ Some n
    → Some (take (length words - (at + 1)) (drop (at + 1) words)) ≡ after (spaced (decimal n) []) words
own_number n at words h is =
    let there = position-Some is_space words at 0 (sym h) in
    let here : slice_get words at ≡ Some 0x20 = slice_get-get_or words at 0 there.0 ∙ ap Some (eqb-true (get_or words at 0) 0x20 there.1) in
    let e = cut_space words at here ∙ ap (λ x. spaced x (drop (at + 1) words)) (short_back (take at words) n is).1 ∙ sym (spaced_on n (drop (at + 1) words)) in
    ap Some (take_rest words (at + 1)) ∙ sym (ap (after (spaced (decimal n) [])) e ∙ after_it (spaced (decimal n) []) (drop (at + 1) words))
