-- Facts on values for the layers above.
use Rattle.std.proofs.Common.{◌≡◌, ◌∙◌, ℕ, suc, ◌+◌, ◌-◌, ◌≤◌, ◌≢◌, ⊎_elim, List, [], ◌∷◌, ◌++◌, length, drop, Bool, true, false, not, cond, ◌||◌, Ok, refl, sym, ap, arith, append_assoc, length-append, eqb}
use Rattle.std.specs.Prelude.{IsTrue, nat_le}
use Rattle.std.specs.List.{list_all, flat_map, AllByRecursion}
use Rattle.std.proofs.Math.Seq.{drop-append_seam, drop-append-add}
use Rattle.std.specs.Cmp.Derive.{both_true}
use Rattle.std.proofs.lemmas.Bool.{and_parts, or_cases, eqb-true, leb-true, false≢true, false_from_ne_true}
use Rattle.std.proofs.lemmas.List.{append-nil}
use Rattle.std.proofs.lemmas.Result.{IfOk-at_ok}
use Rattle.jats_chars.specs.Classes.{in_row, is_char, is_space}
use Rattle.dtd_scanner.specs.Walk.{over}
use Rattle.dtd_scanner.proofs.Walking.{over_end, over_at}
use Rattle.pe_expansion.specs.Expansion.{Written, with}
use Rattle.decl_set.specs.Asked.{are_chars, is_entity_kept}
use Rattle.decl_set.specs.Declarations.{Entity}
use Rattle.decl_set.specs.ValueEscaped.{decimal_reference, escaped, escaped_char, stands_for_itself}
use Rattle.decl_set.specs.Values.{Valuing, value_of, value_step, valued}
use Rattle.decl_set.proofs.ValueChars.{HasChars, valued_keeps}
use Rattle.decl_set.proofs.ValueEscapes.{Writes, decimal_writes, itself_writes}

-- the value of a text of Chars is of Chars, where the texts of entities are
pub value_chars : (entities : List Entity) (names : List (List ℕ)) (spent : ℕ) (raw : List ℕ) (w : Written) → IsTrue (list_all is_entity_kept entities) → IsTrue (are_chars raw) → value_of entities names spent raw ≡ Ok w → IsTrue (are_chars w.text)
unfolding value_of
value_chars entities names spent raw w kept all is =
    IfOk-at_ok HasChars is (valued_keeps entities kept (suc (32 - length names)) names (record { text = []; spent = spent }) raw refl all)

module _ (write : ℕ → List ℕ) (deeper : Valuing) (entities : List Entity) (names : List (List ℕ)) where
  over_written : (before text : List ℕ) (w : Written) → AllByRecursion (λ c. Writes (write c) c) text
      → over (value_step deeper entities names) (length before) w (flat_map write text) ≡ Ok (with w text)
  over_written before [] w all = over_end (value_step deeper entities names) (length before) w [] refl ∙ ap (λ t. Ok (record { text = t; spent = w.spent })) (sym (append-nil w.text))
  over_written before (c ∷ cs) w all =
      let step = value_step deeper entities names in
      let at = length before in
      let n = length (write c) in
      let later = flat_map write cs in
      let whole = before ++ (write c ++ later) in
      let v : Written = with w (c ∷ []) in
      let here : drop at whole ≡ write c ++ later = drop-append_seam before (write c ++ later) in
      let there : drop (at + n) whole ≡ later = drop-append-add before (write c ++ later) n ∙ drop-append_seam (write c) later in
      ap (over step at w) (sym here)
      ∙ over_at step at n w whole (Ok v) (simp length-append (omega (arith, all.0.filled))) all.0.filled (ap (step at w) here ∙ all.0.stands later deeper entities names at w)
      ∙ ap (over step (at + n) v) there
      ∙ ap (λ k. over step k v later) (sym (length-append before (write c)))
      ∙ over_written (before ++ write c) cs v all.1
      ∙ ap (λ t. Ok (record { text = t; spent = w.spent })) (append_assoc w.text (c ∷ []) cs)

-- a text whose characters are each written so that they stand for themselves
pub value_written : (write : ℕ → List ℕ) (entities : List Entity) (names : List (List ℕ)) (spent : ℕ) (text : List ℕ) → AllByRecursion (λ c. Writes (write c) c) text
    → value_of entities names spent (flat_map write text) ≡ Ok (record { text = text; spent = spent })
unfolding value_of
value_written write entities names spent text all = over_written write (valued (32 - length names) entities) entities names [] text (record { text = []; spent = spent }) all

-- a text without `&`, `<` and white space but spaces is its own value
pub value_itself : (entities : List Entity) (names : List (List ℕ)) (spent : ℕ) (raw : List ℕ) → IsTrue (list_all stands_for_itself raw)
    → value_of entities names spent raw ≡ Ok (record { text = raw; spent = spent })
value_itself entities names spent raw all = ap (value_of entities names spent) (sym (singles raw)) ∙ value_written (λ c. c ∷ []) entities names spent raw (each raw all)
  where
    singles : (cs : List ℕ) → flat_map (λ c. c ∷ []) cs ≡ cs
    singles [] = refl
    singles (c ∷ cs) = ap (λ rest. c ∷ rest) (singles cs)

    each : (cs : List ℕ) → IsTrue (list_all stands_for_itself cs) → AllByRecursion (λ c. Writes (c ∷ []) c) cs
    each [] all = tt
    each (c ∷ cs) all = let h = and_parts (stands_for_itself c) (list_all stands_for_itself cs) all in (itself_writes c h.0, each cs h.1)

row : (a b c : ℕ) → in_row c (a, b) ≡ true → (a ≤ c) × (c ≤ b)
row a b c is = let h = and_parts (nat_le a c) (nat_le c b) is in (leb-true a c h.0, leb-true c b h.1)

-- white space is TAB, LF, CR or a space
pub space_left : (c : ℕ) → c ≢ 9 → c ≢ 10 → c ≢ 13 → is_space c ≡ true → c ≡ 32
unfolding is_space
space_left c tab feed back is =
    ⊎_elim (λ first. let h = row 9 10 c first in omega (arith, h.0, h.1))
    (λ rest. ⊎_elim (λ second. let h = row 13 13 c second in omega (arith, h.0, h.1))
    (λ rest. ⊎_elim (λ third. let h = row 32 32 c third in omega (arith, h.0, h.1)) (λ none. absurd (false≢true none))
    (or_cases (in_row c (32, 32)) false rest))
    (or_cases (in_row c (13, 13)) (in_row c (32, 32) || false) rest))
    (or_cases (in_row c (9, 10)) (in_row c (13, 13) || (in_row c (32, 32) || false)) is)

module _ (test : ℕ → Bool) (amp : test 38 ≡ true) (less : test 60 ≡ true) (tab : test 9 ≡ true) (feed : test 10 ≡ true) (back : test 13 ≡ true) where
  apart : (c k : ℕ) → test c ≡ false → test k ≡ true → c ≢ k
  apart c k fails passes = λ e. false≢true (sym fails ∙ ap test e ∙ passes)

  other : (c : ℕ) → test c ≡ false → IsTrue (stands_for_itself c)
  other c is =
      both_true (differs 38 (apart c 38 is amp)) (both_true (differs 60 (apart c 60 is less)) (by (is_space c) refl))
    where
      differs : (k : ℕ) → c ≢ k → not (eqb c k) ≡ true
      differs k other_one = rw (false_from_ne_true (eqb c k) (λ same. other_one (eqb-true c k same))) refl

      by : (b : Bool) → is_space c ≡ b → (not b || eqb c 32) ≡ true
      by true space = let e : c ≡ 32 = space_left c (apart c 9 is tab) (apart c 10 is feed) (apart c 13 is back) space in rw e refl
      by false space = refl

  one : (c : ℕ) → (test c ≡ true → IsTrue (is_char c)) → Writes (escaped_char test c) c
  one c char = by (test c) refl
    where
      by : (b : Bool) → test c ≡ b → Writes (cond b (decimal_reference c) (c ∷ [])) c
      by true is = decimal_writes c (char is)
      by false is = itself_writes c (other c is)

  -- A text in which the characters that pass a test are written as decimal references, among them `&`, `<`, TAB, LF and CR,
  -- has the text itself as its value, where those characters are Chars.
  pub value_escaped : (entities : List Entity) (names : List (List ℕ)) (spent : ℕ) (text : List ℕ) → IsTrue (list_all (λ c. not (test c) || is_char c) text)
      → value_of entities names spent (escaped test text) ≡ Ok (record { text = text; spent = spent })
  value_escaped entities names spent text all = value_written (escaped_char test) entities names spent text (each text all)
    where
      char : (c : ℕ) (b : Bool) → (not b || is_char c) ≡ true → b ≡ true → IsTrue (is_char c)
      char c true is so = is
      char c false is so = absurd (cc)

      each : (cs : List ℕ) → IsTrue (list_all (λ c. not (test c) || is_char c) cs) → AllByRecursion (λ c. Writes (escaped_char test c) c) cs
      each [] all = tt
      each (c ∷ cs) all = let h = and_parts (not (test c) || is_char c) (list_all (λ d. not (test d) || is_char d) cs) all in (one c (char c (test c) h.0), each cs h.1)
