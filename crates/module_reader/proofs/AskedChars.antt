-- Answers to questions, which are of Chars and counted.
use Rattle.std.proofs.Common.{◌≡◌, ◌∙◌, ℕ, ◌+◌, ◌≤◌, List, [], length, Option, Some, sym, ap, subst, arith}
use Rattle.std.specs.Prelude.{IsTrue}
use Rattle.std.specs.Option.{option_map_or}
use Rattle.decl_set.specs.Asked.{are_chars}
use Rattle.pe_expansion.specs.Expansion.{Written}
use Rattle.pe_expansion.specs.Opening.{opening}
use Rattle.pe_expansion.specs.declared.openings.Opened.{Opened}
use Rattle.pe_expansion.specs.declared.pieces.Manner.{Manner}
use Rattle.module_reader.specs.Asking.{IsOpened, IsWritten, written}
use Rattle.module_reader.specs.Counting.{Counts}
use Rattle.module_reader.specs.Moves.{AreChars, GoesOn, loaded_at}
use Rattle.module_reader.specs.declared.state.State.{State}
use Rattle.module_reader.proofs.Counted.{opening_counts}
use Rattle.module_reader.proofs.ExpansionChars.{expansion_chars}

-- a text of Chars stands for a text of Chars
pub written_chars : (manner : Manner) (names : List (List ℕ)) (first s new : State) (text answer : List ℕ) → IsWritten (written manner s.bound names s.spent text) s new answer → GoesOn first s
    → AreChars first → IsTrue (are_chars text) → IsTrue (are_chars answer)
written_chars manner names first s new text answer is goes kept all = expansion_chars manner s.bound names s.spent text (record { text = answer; spent = new.spent }) (goes.chars kept).bound all is.0

-- a text that opens is counted
pub opened_counts : (names : List (List ℕ)) (first s new : State) (name : List ℕ) (opened : Opened) → IsOpened (opening s.bound names s.spent name) s new name opened → GoesOn first s → Counts names first.spent new opened.number
opened_counts names first s new name opened (text, said, is, there, more) goes =
    let fits = opening_counts s.bound names s.spent name text opened.spent said in
    let spends : first.spent ≤ s.spent = goes.spends in
    let spent : new.spent ≡ opened.spent = ap (λ (t : State). t.spent) is in
    let found : loaded_at new.bound opened.number ≡ Some (name, text) = ap (λ (t : State). loaded_at t.bound opened.number) is ∙ there in
    let long : length (option_map_or (λ (e : List ℕ × List ℕ). e.1) (loaded_at new.bound opened.number) []) ≡ length text = ap (λ (o : Option (List ℕ × List ℕ)). length (option_map_or (λ (e : List ℕ × List ℕ). e.1) o [])) found in
    record {
      room = fits.2;
      counted = omega (arith, fits.0, spends, spent, long);
      within = omega (arith, fits.1, spent);
    }
