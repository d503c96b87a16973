-- The pieces of bytes one at a time.
use Rattle.std.proofs.Common.{◌≡◌, ℕ, ◌+◌, ◌<◌, ◌≤◌, Bool, true, false, List, [], ◌∷◌, ◌++◌, length, take, drop, Some, None, Ok, Err, refl, sym, ap, subst, arith, ◌∙◌, add_assoc, add-zero, one-add, append-nil, append_assoc, length-drop}
use Rattle.std.specs.Prelude.{◌==◌, Option, Result}
use Rattle.std.specs.List.{All, sum_by, prefix_len, take_while}
use Rattle.std.proofs.lemmas.List.{drop_all, drop-drop, take-append-drop, length-take-le}
use Rattle.std.proofs.lemmas.Bool.Decides.{nat_tests}
use Rattle.std.proofs.lemmas.List.Elements.{All-head, All-tail}
use Rattle.std.proofs.lemmas.List.Sums.{sum_by-cons}
use Rattle.bstr.specs.Utf8.{Decoded, decoded, pieces}
use Rattle.bstr.proofs.lemmas.PieceLemmas.{pieces-step, pieces-nil, piece-bounds}
use Rattle.jats_chars.specs.Classes.{is_char}
use Rattle.jats_chars.specs.Decoded.{spells_char, IsPlain, fault_of, chars_before, chars_of, Answers}
use Rattle.jats_chars.specs.declared.decoding.DecodeFault.{DecodeFault}
use Rattle.jats_chars.proofs.Ends.{end_after, ended, behind, behind-ended}
use Rattle.jats_chars.proofs.Plain.{plain_char, plain_size, plain_is_char}

pub piece_bounds : (bs : List ℕ) → 0 < length bs → (0 < (decoded bs).size) × ((decoded bs).size ≤ length bs)
piece_bounds bs some = let b = piece-bounds bs some in (omega (arith, b.0), b.2)

pub answers_fault : (said : Result (List ℕ) DecodeFault) (found : Option ℕ) (place : ℕ) → said ≡ Err (fault_of found place) → Answers said (Err (fault_of found place))
answers_fault said None place h = h
answers_fault said (Some c) place h = h

pub chars_of-nil : (start : ℕ) → chars_of start [] ≡ Ok []
unfolding chars_of
chars_of-nil start = refl

-- the first piece spells no Char
pub chars_of-stop : (start : ℕ) (p : Decoded) (ps : List Decoded) → spells_char p ≡ false → chars_of start (p ∷ ps) ≡ Err (fault_of p.char start)
unfolding chars_of
chars_of-stop start p ps h = simp (h, add-zero)

-- the bytes of the first piece stand before those of the others
shifted : (start : ℕ) (p : Decoded) (before : List Decoded) → start + sum_by (λ q. q.size) (p ∷ before) ≡ (start + p.size) + sum_by (λ q. q.size) before
shifted start p before = ap (λ n. start + n) (sum_by-cons (λ q. q.size) p before) ∙ sym (add_assoc start p.size (sum_by (λ q. q.size) before))

more_before : (start : ℕ) (p : Decoded) (c : ℕ) (before later : List Decoded) → p.char ≡ Some c → chars_before start (p ∷ before) later ≡ behind (c ∷ []) (chars_before (start + p.size) before later)
more_before start p c before [] h = simp h
more_before start p c before (q ∷ later) h = ap (λ n. Err (fault_of q.char n)) (shifted start p before)

spells : (p : Decoded) (c : ℕ) → p.char ≡ Some c → is_char c ≡ true → spells_char p ≡ true
spells p c h proper = simp h proper

-- the first piece spells a Char
pub chars_of-more : (start : ℕ) (p : Decoded) (c : ℕ) (ps : List Decoded) → p.char ≡ Some c → is_char c ≡ true → chars_of start (p ∷ ps) ≡ behind (c ∷ []) (chars_of (start + p.size) ps)
unfolding chars_of
chars_of-more start p c ps h proper =
    let first : spells_char p ≡ true = spells p c h proper in
    simp (first, one-add) (more_before start p c (take_while spells_char ps) (drop (prefix_len spells_char ps) ps) h)

module _ (start at : ℕ) (bytes out : List ℕ) (after : Bool) where
  -- what the bytes from this place on make of the answer
  abbrev pub from_here : Result (List ℕ) DecodeFault
  from_here = behind out (ended after (chars_of (start + at) (pieces (drop at bytes))))

  pub here-done : length bytes ≤ at → from_here ≡ Ok out
  here-done all =
      let none : drop at bytes ≡ [] = drop_all at bytes all in
      rw (none, pieces-nil, chars_of-nil) (ap Ok (append-nil out))

  some_left : at < length bytes → 0 < length (drop at bytes)
  some_left lt = omega (arith, length-drop at bytes)

  pub here-stop : at < length bytes → spells_char (decoded (drop at bytes)) ≡ false → from_here ≡ Err (fault_of (decoded (drop at bytes)).char (start + at))
  here-stop lt bad = rw (pieces-step (drop at bytes) (some_left lt), chars_of-stop (start + at) (decoded (drop at bytes)) (pieces (drop (decoded (drop at bytes)).size (drop at bytes))) bad) refl

  pub here-more : (c : ℕ) → at < length bytes → (decoded (drop at bytes)).char ≡ Some c → is_char c ≡ true
      → from_here ≡ behind (out ++ end_after after c) (ended (c == 0xD) (chars_of (start + (at + (decoded (drop at bytes)).size)) (pieces (drop (at + (decoded (drop at bytes)).size) bytes))))
  here-more c lt is proper =
      let here = drop at bytes in
      let size = (decoded (drop at bytes)).size in
      let onward : chars_of (start + at + size) (pieces (drop size (drop at bytes))) ≡ chars_of (start + (at + size)) (pieces (drop (at + size) bytes)) = rw (add_assoc start at size, drop-drop size at bytes) refl in
      ap (λ r. behind out (ended after r)) (ap (chars_of (start + at)) (pieces-step (drop at bytes) (some_left lt)) ∙ chars_of-more (start + at) (decoded (drop at bytes)) c (pieces (drop size (drop at bytes))) is proper)
      ∙ behind-ended out after c (chars_of (start + at + size) (pieces (drop size (drop at bytes))))
      ∙ ap (λ r. behind (out ++ end_after after c) (ended (c == 0xD) r)) onward

  -- the same, where what is read stands by itself
  pub here-step : (here : List ℕ) (c size : ℕ) → here ≡ drop at bytes → at < length bytes → (decoded here).char ≡ Some c → (decoded here).size ≡ size → is_char c ≡ true
      → from_here ≡ behind (out ++ end_after after c) (ended (c == 0xD) (chars_of (start + (at + size)) (pieces (drop (at + size) bytes))))
  here-step here c size e lt found fits proper =
      let F : List ℕ → Type 0 = λ h. (decoded h).char ≡ Some c in
      let S : List ℕ → Type 0 = λ h. (decoded h).size ≡ size in
      let P : ℕ → Type 0 = λ n. from_here ≡ behind (out ++ end_after after c) (ended (c == 0xD) (chars_of (start + (at + n)) (pieces (drop (at + n) bytes)))) in
      subst P (subst S e fits) (here-more c lt (subst F e found) proper)

  pub here-fault : (here : List ℕ) (said : Result (List ℕ) DecodeFault) → here ≡ drop at bytes → at < length bytes → spells_char (decoded here) ≡ false → said ≡ from_here
      → Answers said (Err (fault_of (decoded here).char (start + at)))
  here-fault here said e lt bad is =
      let B : List ℕ → Type 0 = λ h. spells_char (decoded h) ≡ false in
      let A : List ℕ → Type 0 = λ h. Answers said (Err (fault_of (decoded h).char (start + at))) in
      subst A (sym e) (answers_fault said (decoded (drop at bytes)).char (start + at) (is ∙ here-stop lt (subst B e bad)))

no_cr : (c : ℕ) → IsPlain c → c == 0xD ≡ false
no_cr c plain = grind (arith, nat_tests, plain)

no_lf : (c : ℕ) → IsPlain c → c == 0xA ≡ false
no_lf c plain = grind (arith, nat_tests, plain)

stays : (after : Bool) (c : ℕ) → IsPlain c → end_after after c ≡ c ∷ []
stays after c plain = simp (no_cr c plain, no_lf c plain)

-- one plain byte
here-plain : (start at : ℕ) (bytes out : List ℕ) (after : Bool) (c : ℕ) (later : List ℕ) → drop at bytes ≡ c ∷ later → at < length bytes → IsPlain c
    → from_here start at bytes out after ≡ from_here start (at + 1) bytes (out ++ c ∷ []) false
here-plain start at bytes out after c later e lt plain =
    let F : List ℕ → Type 0 = λ h. (decoded h).char ≡ Some c in
    let S : List ℕ → Type 0 = λ h. (decoded h).size ≡ 1 in
    let char : (decoded (drop at bytes)).char ≡ Some c = subst F (sym e) (plain_char (c ∷ later) (omega arith) plain.1) in
    let size : (decoded (drop at bytes)).size ≡ 1 = subst S (sym e) (plain_size (c ∷ later) (omega arith) plain.1) in
    here-step start at bytes out after (drop at bytes) c 1 refl lt char size (plain_is_char c plain.0 plain.1)
    ∙ ap (λ xs. from_here start (at + 1) bytes (out ++ xs) (c == 0xD)) (stays after c plain)
    ∙ ap (λ b. from_here start (at + 1) bytes (out ++ c ∷ []) b) (no_cr c plain)

one_on : (at : ℕ) (bytes : List ℕ) (c : ℕ) (later : List ℕ) → drop at bytes ≡ c ∷ later → drop (at + 1) bytes ≡ later
one_on at bytes c later e = sym (drop-drop 1 at bytes) ∙ ap (drop 1) e

some_here : (at : ℕ) (bytes : List ℕ) (c : ℕ) (later : List ℕ) → drop at bytes ≡ c ∷ later → at < length bytes
some_here at bytes c later e = omega (arith, length-drop at bytes, ap length e)

-- plain bytes that a plain byte or nothing precedes
run_on : (start at : ℕ) (bytes out run later : List ℕ) → drop at bytes ≡ run ++ later → All IsPlain run
    → from_here start at bytes out false ≡ from_here start (at + length run) bytes (out ++ run) false
run_on start at bytes out [] later e plain = rw (add-zero, append-nil) refl
run_on start at bytes out (c ∷ run) later e plain =
    here-plain start at bytes out false c (run ++ later) e (some_here at bytes c (run ++ later) e) (All-head IsPlain c run plain)
    ∙ run_on start (at + 1) bytes (out ++ c ∷ []) run later (one_on at bytes c (run ++ later) e) (All-tail IsPlain c run plain)
    ∙ ap (λ n. from_here start n bytes (out ++ c ∷ [] ++ run) false) (add_assoc at 1 (length run) ∙ ap (λ n. at + n) (one-add (length run)))
    ∙ ap (λ xs. from_here start (at + length (c ∷ run)) bytes xs false) (append_assoc out (c ∷ []) run)

-- plain bytes, of which there are some
some_run : (start at : ℕ) (bytes out : List ℕ) (after : Bool) (run later : List ℕ) → drop at bytes ≡ run ++ later → 0 < length run → All IsPlain run
    → from_here start at bytes out after ≡ from_here start (at + length run) bytes (out ++ run) false
some_run start at bytes out after [] later e some plain = elim some [ ]
some_run start at bytes out after (c ∷ run) later e some plain =
    here-plain start at bytes out after c (run ++ later) e (some_here at bytes c (run ++ later) e) (All-head IsPlain c run plain)
    ∙ sym (here-plain start at bytes out false c (run ++ later) e (some_here at bytes c (run ++ later) e) (All-head IsPlain c run plain))
    ∙ run_on start at bytes out (c ∷ run) later e plain

-- the same, where what is read stands by itself
pub here-run : (start at : ℕ) (bytes out : List ℕ) (after : Bool) (here : List ℕ) (run : ℕ) → here ≡ drop at bytes → 0 < run → run ≤ length here → All IsPlain (take run here)
    → from_here start at bytes out after ≡ from_here start (at + run) bytes (out ++ take run here) false
here-run start at bytes out after here run e some within plain =
    let long : length (take run here) ≡ run = length-take-le run here within in
    some_run start at bytes out after (take run here) (drop run here) (sym e ∙ sym (take-append-drop run here)) (omega (arith, long)) plain
    ∙ ap (λ n. from_here start (at + n) bytes (out ++ take run here) false) long
