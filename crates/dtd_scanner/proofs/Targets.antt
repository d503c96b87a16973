-- Names at the front of texts.
use Rattle.std.proofs.Common.{◌≡◌, ◌∙◌, ℕ, suc, ◌+◌, ◌<◌, List, [], ◌∷◌, ◌++◌, length, take, Bool, true, false, cond, ◌&&◌, ◌||◌, refl, sym, arith, ⊎_elim}
use Rattle.std.specs.Prelude.{nat_le}
use Rattle.std.specs.List.{list_all, prefix_len}
use Rattle.std.proofs.lemmas.Bool.{cond-true, and_parts, and_from, or_left, or_cases, leb-true, false≢true, false_from_ne_true, agree_below_at}
use Rattle.jats_chars.specs.Classes.{is_space, is_name_start, is_name_char, in_rows, name_start_rows, name_more_rows}
use Rattle.jats_chars.specs.Names.{is_name}
use Rattle.dtd_scanner.specs.Items.{first_is}
use Rattle.dtd_scanner.specs.Scanning.{name_len}
use Rattle.dtd_scanner.proofs.Runs.{run_len, run_passes}

-- what may begin a Name may stand in it
pub start_stands : (c : ℕ) → is_name_start c ≡ true → is_name_char c ≡ true
unfolding is_name_start is_name_char
start_stands c is = or_left (in_rows name_start_rows c) (in_rows name_more_rows c) is

-- white space is below 33
pub space_small : (c : ℕ) → is_space c ≡ true → c < 33
unfolding is_space
space_small c is =
    ⊎_elim (λ first. let p = and_parts (nat_le 9 c) (nat_le c 10) first in let h = leb-true c 10 p.1 in omega arith)
    (λ more. ⊎_elim (λ second. let p = and_parts (nat_le 13 c) (nat_le c 13) second in let h = leb-true c 13 p.1 in omega arith)
    (λ last. ⊎_elim (λ third. let p = and_parts (nat_le 32 c) (nat_le c 32) third in let h = leb-true c 32 p.1 in omega arith) (λ none. absurd (false≢true none)) (or_cases (nat_le 32 c && nat_le c 32) false last))
    (or_cases (nat_le 13 c && nat_le c 13) ((nat_le 32 c && nat_le c 32) || false) more))
    (or_cases (nat_le 9 c && nat_le c 10) ((nat_le 13 c && nat_le c 13) || ((nat_le 32 c && nat_le c 32) || false)) is)

-- white space is no character of a Name
pub space_no_name : (c : ℕ) → is_space c ≡ true → is_name_char c ≡ false
unfolding is_space is_name_char
space_no_name c is = false_from_ne_true (is_name_char c) (λ name. false≢true (sym (agree_below_at (λ d. is_space d && is_name_char d) (λ d. false) 33 c refl (space_small c is)) ∙ and_from (is_space c) (is_name_char c) is name))

-- a Name that does not go on
pub name_runs : (name rest : List ℕ) → is_name name ≡ true → first_is is_name_char rest ≡ false → name_len (name ++ rest) ≡ length name
name_runs [] rest is ends = absurd (false≢true is)
name_runs (c ∷ cs) rest is ends =
    let parts = and_parts (is_name_start c) (list_all is_name_char cs) is in
    cond-true (is_name_start c) (prefix_len is_name_char (c ∷ cs ++ rest)) 0 parts.0
    ∙ run_len is_name_char (c ∷ cs) rest (and_from (is_name_char c) (list_all is_name_char cs) (start_stands c parts.0) parts.1) ends

-- the Name that a text begins with
name_taken : (c : ℕ) (cs : List ℕ) (starts : Bool) → is_name_start c ≡ starts → 0 < cond starts (prefix_len is_name_char (c ∷ cs)) 0 → is_name (take (cond starts (prefix_len is_name_char (c ∷ cs)) 0) (c ∷ cs)) ≡ true
name_taken c cs false is some = absurd (omega arith)
name_taken c cs true is some =
    let one : prefix_len is_name_char (c ∷ cs) ≡ suc (prefix_len is_name_char cs) = cond-true (is_name_char c) (1 + prefix_len is_name_char cs) 0 (start_stands c is) ∙ omega arith in
    rw one (and_from (is_name_start c) (list_all is_name_char (take (prefix_len is_name_char cs) cs)) is (run_passes is_name_char cs))

pub name_found : (text : List ℕ) → 0 < name_len text → is_name (take (name_len text) text) ≡ true
name_found [] some = absurd (omega arith)
name_found (c ∷ cs) some = name_taken c cs (is_name_start c) refl some
