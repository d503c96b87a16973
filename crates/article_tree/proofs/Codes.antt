-- Character references at the front of texts.
use Rattle.std.proofs.Common.{◌≡◌, ◌∙◌, ℕ, ◌+◌, ◌-◌, ◌<◌, List, [], ◌∷◌, ◌++◌, length, take, drop, Bool, true, false, eqb, ◌&&◌, Some, None, refl, ap, sym, subst, arith, append_assoc, length-append, codes, inl, inr}
use Rattle.std.specs.Prelude.{IsTrue, nat_eq, nat_lt, nat_le, option_map}
use Rattle.std.specs.List.{list_all, prefix_len, starts_with}
use Rattle.std.proofs.Math.Seq.{drop-append_seam, take-append_seam}
use Rattle.std.proofs.lemmas.List.{take-append-drop, length-take-le}
use Rattle.std.proofs.lemmas.List.Sums.{prefix_len-le-length}
use Rattle.std.proofs.lemmas.Bool.{cond-true, cond-false, and_parts, and_from, eqb-true, leb-true, ltb-true, lt-ltb, false_from_ne_true}
use Rattle.jats_chars.specs.Classes.{is_char}
use Rattle.dtd_scanner.specs.References.{is_digit, is_hex_digit, number, char_of, numeral_end, numeral, char_reference}
use Rattle.dtd_scanner.proofs.Runs.{starts_found, starts_here, run_len, run_passes}
use Rattle.text_fronts.proofs.Fronts.{choose, map_some, if_some}
use Rattle.article_tree.specs.Tokens.{IsCoded}

-- digits and `;`, behind which this stands
pub record Digits (base : ℕ) (digit : ℕ → Bool) (c : ℕ) (text rest : List ℕ) : Type 0 where
  pub digits : List ℕ
  pub some : 0 < length digits
  pub is_char : IsTrue (is_char c)
  pub are_digits : IsTrue (list_all digit digits)
  pub is_number : number base digits ≡ c
  pub form : text ≡ digits ++ (codes ";" ++ rest)

module _ (base : ℕ) (digit : ℕ → Bool) (opening : ℕ) where
  numeral_found : (text : List ℕ) (r : ℕ × ℕ) → numeral base digit opening text ≡ Some r → (rest : List ℕ) × Digits base digit r.0 text rest × (r.1 ≡ opening + length text - length rest) × (length rest < length text)
  numeral_found text r e =
      let n = prefix_len digit text in
      let h = if_some (nat_lt 0 n && starts_with nat_eq (drop n text) (codes ";")) (option_map (λ c. (c, opening + n + 1)) (char_of (number base (take n text)))) r e in
      let p = and_parts (nat_lt 0 n) (starts_with nat_eq (drop n text) (codes ";")) h.0 in
      let m = map_some (λ (c : ℕ). (c, opening + n + 1)) (char_of (number base (take n text))) r h.1 in
      let k = if_some (is_char (number base (take n text))) (Some (number base (take n text))) m.0 m.1 in
      let value : number base (take n text) ≡ m.0 = (let f = k.1 in cc) in
      let size : length (take n text) ≡ n = length-take-le n text (prefix_len-le-length digit text) in
      let some = ltb-true 0 n p.0 in
      let rest = drop 1 (drop n text) in
      let form : text ≡ take n text ++ (codes ";" ++ rest) = sym (take-append-drop n text) ∙ ap (λ t. take n text ++ t) (starts_found (codes ";") (drop n text) p.1) in
      let long : length text ≡ length (take n text) + (1 + length rest) = ap length form ∙ length-append (take n text) (codes ";" ++ rest) ∙ omega arith in
      let is : Digits base digit m.0 text rest = record { digits = take n text; some = omega (arith, size, some); is_char = ap is_char (sym value) ∙ k.0; are_digits = run_passes digit text; is_number = value; form = form } in
      let found : (rest : List ℕ) × Digits base digit m.0 text rest × (opening + n + 1 ≡ opening + length text - length rest) × (length rest < length text) = (rest, is, omega (arith, long, size), omega (arith, long)) in
      subst (λ (r : ℕ × ℕ). (rest : List ℕ) × Digits base digit r.0 text rest × (r.1 ≡ opening + length text - length rest) × (length rest < length text)) m.2 found

  numeral_back : digit 59 ≡ false → (c : ℕ) (digits rest : List ℕ) → 0 < length digits → is_char c ≡ true → list_all digit digits ≡ true → number base digits ≡ c
      → numeral base digit opening (digits ++ (codes ";" ++ rest)) ≡ Some (c, opening + length digits + 1)
  numeral_back none c digits rest some is are value =
      let text = digits ++ (codes ";" ++ rest) in
      ap (numeral_end base opening text) (run_len digit digits (codes ";" ++ rest) are none)
      ∙ cond-true (nat_lt 0 (length digits) && starts_with nat_eq (drop (length digits) text) (codes ";")) _ _
      (and_from (nat_lt 0 (length digits)) _ (lt-ltb 0 (length digits) some) (ap (λ (t : List ℕ). starts_with nat_eq t (codes ";")) (drop-append_seam digits (codes ";" ++ rest)) ∙ starts_here (codes ";") rest))
      ∙ ap (λ (t : List ℕ). option_map (λ (c : ℕ). (c, opening + length digits + 1)) (char_of (number base t))) (take-append_seam digits (codes ";" ++ rest))
      ∙ ap (λ (n : ℕ). option_map (λ (c : ℕ). (c, opening + length digits + 1)) (char_of n)) value
      ∙ ap (option_map (λ (c : ℕ). (c, opening + length digits + 1))) (cond-true (is_char c) (Some c) None is)

behind_of : (opening digits rest text : List ℕ) (n : ℕ) → text ≡ opening ++ (digits ++ (codes ";" ++ rest)) → n ≡ length opening + length digits + 1 → drop n text ≡ rest
behind_of opening digits rest text n form size =
    let front = opening ++ (digits ++ codes ";") in
    let whole : text ≡ front ++ rest = form ∙ sym (simp append_assoc) in
    let long : length front ≡ length opening + (length digits + 1) = length-append opening (digits ++ codes ";") ∙ ap (λ n. length opening + n) (length-append digits (codes ";")) in
    let same : n ≡ length front = omega (arith, size, long) in
    ap (λ k. drop k text) same ∙ ap (drop (length front)) whole ∙ drop-append_seam front rest

-- a digit is no `x`
no_x : (digits rest : List ℕ) → 0 < length digits → list_all is_digit digits ≡ true → starts_with nat_eq (codes "&#" ++ (digits ++ rest)) (codes "&#x") ≡ false
no_x [] rest some are = absurd (omega arith)
no_x (d ∷ digits) rest some are =
    let small = leb-true d 57 (and_parts (nat_le 48 d) (nat_le d 57) (and_parts (is_digit d) (list_all is_digit digits) are).0).1 in
    ap (λ (b : Bool). b && true) (false_from_ne_true (eqb 120 d) (λ is. let e = eqb-true 120 d is in omega (arith, small, e)))

-- ---- a reference

pub coded_found : (text : List ℕ) (r : ℕ × ℕ) → starts_with nat_eq text (codes "&#") ≡ true → char_reference text ≡ Some r → (front : List ℕ) × IsCoded front r.0 × (text ≡ front ++ drop r.1 text)
coded_found text r begins e =
    choose ((front : List ℕ) × IsCoded front r.0 × (text ≡ front ++ drop r.1 text)) (starts_with nat_eq text (codes "&#x")) _ _ r e
    (λ hex f.
    let h = numeral_found 16 is_hex_digit 3 (drop 3 text) r f in
    let d = h.1 in
    let form : text ≡ codes "&#x" ++ (d.digits ++ (codes ";" ++ h.0)) = starts_found (codes "&#x") text hex ∙ ap (λ t. codes "&#x" ++ t) d.form in
    let long : length (drop 3 text) ≡ length d.digits + (1 + length h.0) = ap length d.form ∙ length-append d.digits (codes ";" ++ h.0) ∙ omega arith in
    let rest : drop r.1 text ≡ h.0 = behind_of (codes "&#x") d.digits h.0 text r.1 form (h.2 ∙ omega (arith, long)) in
    (codes "&#x" ++ (d.digits ++ codes ";"), (d.digits, d.some, d.is_char, inr (d.are_digits, d.is_number, refl)), form ∙ sym (simp append_assoc) ∙ ap (λ t. (codes "&#x" ++ (d.digits ++ codes ";")) ++ t) (sym rest)))
    (λ decimal f.
    let h = numeral_found 10 is_digit 2 (drop 2 text) r f in
    let d = h.1 in
    let form : text ≡ codes "&#" ++ (d.digits ++ (codes ";" ++ h.0)) = starts_found (codes "&#") text begins ∙ ap (λ t. codes "&#" ++ t) d.form in
    let long : length (drop 2 text) ≡ length d.digits + (1 + length h.0) = ap length d.form ∙ length-append d.digits (codes ";" ++ h.0) ∙ omega arith in
    let rest : drop r.1 text ≡ h.0 = behind_of (codes "&#") d.digits h.0 text r.1 form (h.2 ∙ omega (arith, long)) in
    (codes "&#" ++ (d.digits ++ codes ";"), (d.digits, d.some, d.is_char, inl (d.are_digits, d.is_number, refl)), form ∙ sym (simp append_assoc) ∙ ap (λ t. (codes "&#" ++ (d.digits ++ codes ";")) ++ t) (sym rest)))

-- what a character reference is written as, in front of a rest
pub record Coded (c : ℕ) (text rest : List ℕ) : Type 0 where
  pub inside : List ℕ
  pub len : ℕ
  pub form : text ≡ 38 ∷ 35 ∷ inside
  pub is : char_reference text ≡ Some (c, len)
  pub behind : drop len text ≡ rest

pub coded_back : (front rest : List ℕ) (c : ℕ) → IsCoded front c → Coded c (front ++ rest) rest
coded_back front rest c (digits, some, is, inl (are, value, form)) =
    let whole : front ++ rest ≡ codes "&#" ++ (digits ++ (codes ";" ++ rest)) = ap (λ t. t ++ rest) form ∙ simp append_assoc in
    record {
      inside = digits ++ (codes ";" ++ rest);
      len = 2 + length digits + 1;
      form = whole;
      is = ap char_reference whole ∙ cond-false (starts_with nat_eq (codes "&#" ++ (digits ++ (codes ";" ++ rest))) (codes "&#x")) _ _ (no_x digits (codes ";" ++ rest) some are)
          ∙ numeral_back 10 is_digit 2 refl c digits rest some is are value;
      behind = behind_of (codes "&#") digits rest (front ++ rest) (2 + length digits + 1) whole (omega arith);
    }
coded_back front rest c (digits, some, is, inr (are, value, form)) =
    let whole : front ++ rest ≡ codes "&#x" ++ (digits ++ (codes ";" ++ rest)) = ap (λ t. t ++ rest) form ∙ simp append_assoc in
    record {
      inside = 120 ∷ (digits ++ (codes ";" ++ rest));
      len = 3 + length digits + 1;
      form = whole;
      is = ap char_reference whole ∙ numeral_back 16 is_hex_digit 3 refl c digits rest some is are value;
      behind = behind_of (codes "&#x") digits rest (front ++ rest) (3 + length digits + 1) whole (omega arith);
    }
