-- Texts that are decoded are of Chars.
use Rattle.std.proofs.Common.{◌≡◌, ◌∙◌, ℕ, ◌+◌, ◌-◌, ◌==◌, ◌&&◌, Bool, true, false, cond, List, [], ◌∷◌, ◌++◌, drop, length, Option, Some, None, Result, Ok, Err, IfOk, refl, sym, ap, subst}
use Rattle.std.specs.Prelude.{IsTrue}
use Rattle.std.specs.List.{list_all}
use Rattle.std.specs.Cmp.Derive.{both_true}
use Rattle.std.proofs.lemmas.Bool.{and_parts}
use Rattle.std.proofs.lemmas.Result.{IfOk-at_ok}
use Rattle.bstr.specs.Utf8.{Decoded, pieces}
use Rattle.jats_chars.specs.Classes.{is_char}
use Rattle.jats_chars.specs.Decoded.{text_of, chars_of, mark_len, line_ends, lined, undeclared, without_declaration, spells_char, is_some_char, Decodes}
use Rattle.jats_chars.specs.declared.decoding.DecodeFault.{DecodeFault}
use Rattle.jats_chars.proofs.Ends.{behind}
use Rattle.jats_chars.proofs.Pieces.{chars_of-nil, chars_of-stop, chars_of-more}
use Rattle.jats_chars.proofs.Suffixes.{left_of}
use Rattle.decl_set.specs.Asked.{are_chars}
use Rattle.decl_set.proofs.ValueChars.{drop_all}

abbrev IsChars : List ℕ → Type 0
IsChars text = IsTrue (are_chars text)

behind_chars : (c : ℕ) (r : Result (List ℕ) DecodeFault) → is_char c ≡ true → IfOk r IsChars → IfOk (behind (c ∷ []) r) IsChars
behind_chars c (Ok text) is all = both_true is all
behind_chars c (Err f) is all = tt

pieces_chars : (start : ℕ) (ps : List Decoded) → IfOk (chars_of start ps) IsChars
pieces_chars start [] = subst (λ r. IfOk r IsChars) (sym (chars_of-nil start)) refl
pieces_chars start (p ∷ ps) = by p.char refl (pieces_chars (start + p.size) ps)
  where
    stopped : spells_char p ≡ false → IfOk (chars_of start (p ∷ ps)) IsChars
    stopped e = subst (λ r. IfOk r IsChars) (sym (chars_of-stop start p ps e)) tt

    of_char : (c : ℕ) → p.char ≡ Some c → (b : Bool) → is_char c ≡ b → IfOk (chars_of (start + p.size) ps) IsChars → IfOk (chars_of start (p ∷ ps)) IsChars
    of_char c e true is later = subst (λ r. IfOk r IsChars) (sym (chars_of-more start p c ps e is)) (behind_chars c (chars_of (start + p.size) ps) is later)
    of_char c e false is later = stopped (ap is_some_char e ∙ is)

    by : (o : Option ℕ) → p.char ≡ o → IfOk (chars_of (start + p.size) ps) IsChars → IfOk (chars_of start (p ∷ ps)) IsChars
    by None e later = stopped (ap is_some_char e)
    by (Some c) e later = of_char c e (is_char c) refl later

end_char : (c : ℕ) → is_char c ≡ true → is_char (cond (c == 13) 10 c) ≡ true
unfolding is_char
end_char c is = by (c == 13)
  where
    by : (b : Bool) → is_char (cond b 10 c) ≡ true
    by true = refl
    by false = is

ends_chars : (cs : List ℕ) → IsChars cs → IsChars (line_ends cs)
ends_chars [] all = refl
ends_chars (c ∷ []) all = both_true (end_char c (and_parts (is_char c) true all).0) refl
ends_chars (c ∷ d ∷ later) all =
    let h = and_parts (is_char c) (are_chars (d ∷ later)) all in by (c == 13 && d == 10) h.0 (ends_chars (d ∷ later) h.1)
  where
    by : (b : Bool) → is_char c ≡ true → IsChars (line_ends (d ∷ later)) → IsChars (cond b (line_ends (d ∷ later)) (cond (c == 13) 10 c ∷ line_ends (d ∷ later)))
    by true is rest = rest
    by false is rest = both_true (end_char c is) rest

lined_chars : (r : Result (List ℕ) DecodeFault) → IfOk r IsChars → IfOk (lined r) IsChars
lined_chars (Ok cs) all = ends_chars cs all
lined_chars (Err f) all = tt

without_chars : (text : List ℕ) → IsChars text → (r : Result (List ℕ) DecodeFault) → without_declaration text ≡ r → IfOk r IsChars
without_chars text all (Ok rest) is = subst IsChars (sym (left_of text rest is).1) (drop_all (length text - length rest) text all)
without_chars text all (Err f) is = tt

undeclared_chars : (r : Result (List ℕ) DecodeFault) → IfOk r IsChars → IfOk (undeclared r) IsChars
undeclared_chars (Ok text) all = without_chars text all (without_declaration text) refl
undeclared_chars (Err f) all = tt

pub text_chars : (file : List ℕ) → IfOk (text_of file) IsChars
text_chars file = undeclared_chars _ (lined_chars _ (pieces_chars (mark_len file) (pieces (drop (mark_len file) file))))

-- a text that is decoded
pub decoded_chars : (file : List ℕ) (r : Result (List ℕ) DecodeFault) → Decodes file r → IfOk r IsChars
decoded_chars file (Ok text) is = IfOk-at_ok IsChars is (text_chars file)
decoded_chars file (Err f) is = tt
