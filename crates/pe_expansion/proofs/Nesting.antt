-- Nesting, judged piece by piece.
use Rattle.std.proofs.Common.{◌≡◌, ◌∙◌, ℕ, zero, suc, ◌+◌, ◌-◌, ◌<◌, ◌≤◌, List, [], ◌∷◌, ◌++◌, length, take, drop, get_or, Option, Some, None, Bool, true, false, not, ◌&&◌, ◌||◌, eqb, cond, refl, sym, ap, arith, append_assoc, length-append, length-drop}
use Rattle.std.specs.Prelude.{nat_lt, slice_range}
use Rattle.std.specs.List.{position_or_len}
use Rattle.std.specs.Option.{is_none, option_map, option_map_or}
use Rattle.std.proofs.Math.Bool.{or-false, and-true}
use Rattle.std.proofs.lemmas.List.{append-nil, drop_all, take_all, take-append-le, drop-append-le, take-append-drop, drop-drop}
use Rattle.std.proofs.lemmas.List.Sums.{passes_at_first, fails_before_first, prefix_len-le-length}
use Rattle.std.proofs.lemmas.Bool.{false≢true, ltb-true, ltb-false, lt-ltb, le-ltb, ne_eqb, and_right}
use Rattle.dtd_scanner.specs.Items.{first_is, is_quote}
use Rattle.dtd_scanner.specs.Scanning.{quote_after, reference_len}
use Rattle.jats_chars.specs.Classes.{is_name_start}
use Rattle.pe_expansion.specs.Pieces.{body_piece, quoted_len, reference}
use Rattle.pe_expansion.specs.Expansion.{nests}
use Rattle.pe_expansion.specs.Nesting.{JudgedSoFar, AreJudged}
use Rattle.pe_expansion.specs.declared.pieces.Kind.{Kind}
use Rattle.pe_expansion.specs.declared.pieces.Kind.TheVariants.{Char, Kept, Included}
use Rattle.pe_expansion.specs.declared.pieces.Piece.{Piece}
use Rattle.pe_expansion.specs.declared.stack.Frame.{Frame}

-- a text that nests leaves no quote open
nests_before : (quote : Option ℕ) (part more : List ℕ) → nests quote part ≡ true → nests quote (part ++ more) ≡ nests None more
nests_before None [] more is = refl
nests_before (Some q) [] more is = absurd (false≢true is)
nests_before quote (c ∷ cs) more is = by (is_none quote && (eqb c 60 || eqb c 62)) is (nests_before (quote_after quote c) cs more)
  where
    by : (breaks : Bool) → cond breaks false (nests (quote_after quote c) cs) ≡ true → (nests (quote_after quote c) cs ≡ true → nests (quote_after quote c) (cs ++ more) ≡ nests None more)
        → cond breaks false (nests (quote_after quote c) (cs ++ more)) ≡ nests None more
    by true is later = absurd (false≢true is)
    by false is later = later is

not_either : (a b rest : Bool) → (not a && (not b && rest)) ≡ (not (a || b) && rest)
not_either true b rest = refl
not_either false b rest = refl

-- a part behind a part
judged_on : (broken breaks : Bool) (left later : ℕ) (part next : List ℕ) → 0 < left → JudgedSoFar broken left part → JudgedSoFar breaks later next → JudgedSoFar (broken || breaks) later (part ++ next)
judged_on broken breaks left later part next some first second = λ more ends.
    ap (nests None) (append_assoc part next more)
    ∙ first (next ++ more) (λ none. absurd (omega arith))
    ∙ ap (λ rest. not broken && rest) (second more ends)
    ∙ not_either broken breaks (nests None more)

range_before : (written next : List ℕ) (a b : ℕ) → a ≤ b → b ≤ length written → slice_range (written ++ next) a b ≡ slice_range written a b
range_before written next a b order within =
    ap (take (b - a)) (drop-append-le a written next (omega arith)) ∙ take-append-le (b - a) (drop a written) next (simp length-drop (omega arith))

range_and_rest : (written : List ℕ) (a b : ℕ) → a ≤ b → slice_range written a b ++ drop b written ≡ drop a written
range_and_rest written a b order =
    let e : a + (b - a) ≡ b = omega arith in
    ap (λ rest. slice_range written a b ++ rest) (ap (λ n. drop n written) (sym e) ∙ sym (drop-drop (b - a) a written)) ∙ take-append-drop (b - a) (drop a written)

start_within : (broken : Bool) (left : ℕ) (written : List ℕ) (start : ℕ) (frames : List Frame) → AreJudged broken left written start frames → start ≤ length written
start_within broken left written start [] are = are.0
start_within broken left written start (f ∷ fs) are = omega (arith, are.0, start_within broken left written f.start fs are.2)

-- a piece behind what is written
pub written_on : (broken breaks : Bool) (left later : ℕ) (written next : List ℕ) (start : ℕ) (frames : List Frame) → 0 < left → JudgedSoFar breaks later next → AreJudged broken left written start frames
    → AreJudged (broken || breaks) later (written ++ next) start frames
written_on broken breaks left later written next start [] some so are =
    (simp length-append (omega (arith, are.0)), rw (drop-append-le start written next are.0) (judged_on broken breaks left later (drop start written) next some are.1 so))
written_on broken breaks left later written next start (f ∷ fs) some so are =
    (are.0, rw (range_before written next start f.start are.0 (start_within broken left written f.start fs are.2)) are.1, written_on broken breaks left later written next f.start fs some so are.2)

space_judged : (left : ℕ) → JudgedSoFar false left (32 ∷ [])
space_judged left = λ more ends. refl

-- a text that waits, and one that is opened in it behind a space
pub opened_on : (broken : Bool) (left later : ℕ) (written : List ℕ) (f : Frame) (start : ℕ) (frames : List Frame) → 0 < left → f.start ≡ length (written ++ 32 ∷ []) → f.broken ≡ broken
    → AreJudged broken left written start frames → AreJudged false later (written ++ 32 ∷ []) start (frames ++ f ∷ [])
opened_on broken left later written f start [] some begins same are =
    let behind = written ++ 32 ∷ [] in
    let order : start ≤ f.start = rw (begins, length-append) (omega (arith, are.0)) in
    let range : slice_range behind start f.start ≡ drop start written ++ 32 ∷ [] = take_all (f.start - start) (drop start behind) (rw begins (simp length-drop (omega arith))) ∙ drop-append-le start written (32 ∷ []) are.0 in (
      order,
      λ more.
          ap (λ part. nests None (part ++ more)) range
          ∙ judged_on broken false left 1 (drop start written) (32 ∷ []) some are.1 (space_judged 1) more (λ none. absurd (omega (arith, none)))
          ∙ ap (λ b. not b && nests None more) (or-false broken ∙ sym same),
      (rw begins (omega arith), λ more ends. ap (λ part. nests None (part ++ more)) (drop_all f.start behind (rw begins (omega arith)))),
    )
opened_on broken left later written f start (g ∷ gs) some begins same are =
    (are.0, rw (range_before written (32 ∷ []) start g.start are.0 (start_within broken left written g.start gs are.2)) are.1, opened_on broken left later written f g.start gs some begins same are.2)

-- the text that is read has ended
pub ended : (broken : Bool) (written : List ℕ) (f : Frame) (start : ℕ) (frames : List Frame) → AreJudged broken 0 written start (frames ++ f ∷ []) → nests None (drop f.start written) ≡ not broken
ended broken written f start [] are = ap (nests None) (sym (append-nil (drop f.start written))) ∙ are.2.1 [] (λ none. refl) ∙ and-true (not broken)
ended broken written f start (g ∷ gs) are = ended broken written f g.start gs are.2

-- the last text that waits goes on behind a space
pub closed_on : (broken : Bool) (left later : ℕ) (written : List ℕ) (f : Frame) (start : ℕ) (frames : List Frame) → nests None (drop f.start written) ≡ true → AreJudged broken left written start (frames ++ f ∷ [])
    → AreJudged f.broken later (written ++ 32 ∷ []) start frames
closed_on broken left later written f start [] nested are =
    let within : start ≤ length written = omega (arith, are.0, are.2.0) in
    let part = slice_range written start f.start in
    let inner = drop f.start written in (
      simp length-append (omega arith),
      λ more ends.
          ap (λ text. nests None (text ++ more)) (drop-append-le start written (32 ∷ []) within ∙ ap (λ text. text ++ 32 ∷ []) (sym (range_and_rest written start f.start are.0)))
          ∙ ap (nests None) (append_assoc (part ++ inner) (32 ∷ []) more ∙ append_assoc part inner (32 ∷ more))
          ∙ are.1 (inner ++ (32 ∷ more))
          ∙ ap (λ rest. not f.broken && rest) (nests_before None inner (32 ∷ more) nested),
    )
closed_on broken left later written f start (g ∷ gs) nested are =
    (are.0, rw (range_before written (32 ∷ []) start g.start are.0 (start_within broken left written g.start (gs ++ f ∷ []) are.2)) are.1, closed_on broken left later written f g.start gs nested are.2)

-- a character outside quotes
pub char_judged : (c left : ℕ) → is_quote c ≡ false → JudgedSoFar (eqb c 60 || eqb c 62) left (c ∷ [])
char_judged c left plain = λ more ends. rw plain (by (eqb c 60 || eqb c 62) (nests None more))
  where
    by : (mark rest : Bool) → cond mark false rest ≡ (not mark && rest)
    by true rest = refl
    by false rest = refl

abbrev kind_of : Option Piece → Kind → Kind
kind_of piece other = option_map_or (λ p. p.kind) piece other

pub char_plain : (text : List ℕ) (c len : ℕ) → body_piece text ≡ Some (record { kind = Char c; len = len }) → is_quote c ≡ false
unfolding body_piece
char_plain [] c len is = absurd cc
char_plain (x ∷ xs) c len is = by (eqb x 37 && first_is is_name_start xs) (is_quote x) refl is
  where
    included : (o : Option ℕ) → option_map {U = Piece} (λ n. record { kind = Included; len = n }) o ≡ Some (record { kind = Char c; len = len }) → ⊥
    included None is = absurd cc
    included (Some n) is = let kinds : Included ≡ Char c = ap (λ piece. kind_of piece Kept) is in absurd cc

    by : (mark quote : Bool) → is_quote x ≡ quote → cond mark (reference Included (x ∷ xs)) (cond quote (Some (record { kind = Kept; len = quoted_len x xs })) (Some (record { kind = Char x; len = 1 }))) ≡ Some (record { kind = Char c; len = len })
        → is_quote c ≡ false
    by true quote e is = absurd (included (reference_len (x ∷ xs)) is)
    by false true e is = let kinds : Kept ≡ Char c = ap (λ piece. kind_of piece Kept) is in absurd cc
    by false false e is = let kinds : Char x ≡ Char c = ap (λ piece. kind_of piece Kept) is in let same : x ≡ c = cc in rw (sym same) e

-- a part that is kept
kept_quoted : (c : ℕ) (cs : List ℕ) (len : ℕ) → body_piece (c ∷ cs) ≡ Some (record { kind = Kept; len = len }) → (is_quote c ≡ true) × (len ≡ quoted_len c cs)
unfolding body_piece
kept_quoted c cs len is = by (eqb c 37 && first_is is_name_start cs) (is_quote c) is
  where
    included : (o : Option ℕ) → option_map {U = Piece} (λ n. record { kind = Included; len = n }) o ≡ Some (record { kind = Kept; len = len }) → ⊥
    included None is = absurd cc
    included (Some n) is = let kinds : Included ≡ Kept = ap (λ piece. kind_of piece Kept) is in absurd cc

    by : (mark quote : Bool) → cond mark (reference Included (c ∷ cs)) (cond quote (Some (record { kind = Kept; len = quoted_len c cs })) (Some (record { kind = Char c; len = 1 }))) ≡ Some (record { kind = Kept; len = len })
        → (quote ≡ true) × (len ≡ quoted_len c cs)
    by true quote is = absurd (included (reference_len (c ∷ cs)) is)
    by false true is = (refl, sym (ap (λ piece. option_map_or (λ p. p.len) piece 0) is))
    by false false is = let kinds : Char c ≡ Kept = ap (λ piece. kind_of piece Kept) is in absurd cc

lt_behind : (a b : ℕ) → nat_lt (1 + a) (suc b) ≡ nat_lt a b
lt_behind a b = by (nat_lt a b) refl
  where
    by : (less : Bool) → nat_lt a b ≡ less → nat_lt (1 + a) (suc b) ≡ less
    by true is = let below : a < b = ltb-true a b is in lt-ltb (1 + a) (suc b) (omega arith)
    by false is = let above : b ≤ a = ltb-false a b is in le-ltb (1 + a) (suc b) (omega arith)

-- what follows a quote, up to the same quote or to the end
quoted_nests : (quote : ℕ) (rest : List ℕ) → nests (Some quote) (take (suc (position_or_len (λ c. eqb c quote) rest)) rest) ≡ nat_lt (position_or_len (λ c. eqb c quote) rest) (length rest)
quoted_nests quote [] = refl
quoted_nests quote (c ∷ cs) = by (eqb c quote) (position_or_len (λ x. eqb x quote) cs) (quoted_nests quote cs)
  where
    by : (same : Bool) (n : ℕ) → nests (Some quote) (take (suc n) cs) ≡ nat_lt n (length cs)
        → cond false false (nests (cond same None (Some quote)) (take (cond (not same) (1 + n) 0) cs)) ≡ nat_lt (cond (not same) (1 + n) 0) (suc (length cs))
    by true n later = sym (lt-ltb 0 (suc (length cs)) (omega arith))
    by false n later = let e : 1 + n ≡ suc n = omega arith in ap (λ k. nests (Some quote) (take k cs)) e ∙ later ∙ sym (lt_behind n (length cs))

quoted_start : (c : ℕ) (rest : List ℕ) → is_quote c ≡ true → nests None (c ∷ rest) ≡ nests (Some c) rest
quoted_start c rest quote = by (c_is 60 refl) (c_is 62 refl)
  where
    c_is : (mark : ℕ) → is_quote mark ≡ false → eqb c mark ≡ false
    c_is mark plain = ne_eqb c mark (λ same. absurd (false≢true (sym plain ∙ ap is_quote (sym same) ∙ quote)))

    by : eqb c 60 ≡ false → eqb c 62 ≡ false → nests None (c ∷ rest) ≡ nests (Some c) rest
    by less greater = rw (less, greater, quote) refl

-- the length of a quoted part
quoted_until : (c : ℕ) (cs : List ℕ) (len : ℕ) → len ≡ quoted_len c cs → (closed : Bool) → nat_lt (position_or_len (λ x. eqb x c) cs) (length cs) ≡ closed
    → len ≡ position_or_len (λ x. eqb x c) cs + cond closed 2 1
quoted_until c cs len is true closes = is ∙ rw closes refl
quoted_until c cs len is false unclosed = let e : position_or_len (λ x. eqb x c) cs ≡ length cs = omega (arith, ltb-false (position_or_len (λ x. eqb x c) cs) (length cs) unclosed, prefix_len-le-length (λ x. not (eqb x c)) cs) in is ∙ rw (unclosed, e) refl

-- a quoted part nests where it closes its quote
kept_nests : (c : ℕ) (cs : List ℕ) (len : ℕ) → is_quote c ≡ true → len ≡ quoted_len c cs → nests None (take len (c ∷ cs)) ≡ nat_lt (position_or_len (λ x. eqb x c) cs) (length cs)
kept_nests c cs len quote is = by (nat_lt (position_or_len (λ x. eqb x c) cs) (length cs)) refl
  where
    by : (closed : Bool) → nat_lt (position_or_len (λ x. eqb x c) cs) (length cs) ≡ closed → nests None (take len (c ∷ cs)) ≡ nat_lt (position_or_len (λ x. eqb x c) cs) (length cs)
    by true e =
        let n = position_or_len (λ x. eqb x c) cs in
        let l : len ≡ suc (suc n) = omega (arith, quoted_until c cs len is true e) in
        ap (λ k. nests None (take k (c ∷ cs))) l ∙ quoted_start c (take (suc n) cs) quote ∙ quoted_nests c cs
    by false e =
        let n = position_or_len (λ x. eqb x c) cs in
        let l : len ≡ suc n = omega (arith, quoted_until c cs len is false e) in
        let past : length cs ≤ n = ltb-false n (length cs) e in
        let all : take n cs ≡ take (suc n) cs = take_all n cs past ∙ sym (take_all (suc n) cs (omega arith)) in
        ap (λ k. nests None (take k (c ∷ cs))) l ∙ quoted_start c (take n cs) quote ∙ ap (nests (Some c)) all ∙ quoted_nests c cs

-- its first and its last character tell it
kept_ends : (c : ℕ) (cs : List ℕ) (len : ℕ) → len ≡ quoted_len c cs → (nat_lt 1 len && eqb (get_or (c ∷ cs) (len - 1) 0) c) ≡ nat_lt (position_or_len (λ x. eqb x c) cs) (length cs)
kept_ends c cs len is = by (nat_lt (position_or_len (λ x. eqb x c) cs) (length cs)) refl
  where
    single : (n : ℕ) → n ≡ length cs → len ≡ n + 1 → ((k : ℕ) → k < n → eqb (get_or cs k 0) c ≡ false) → (nat_lt 1 len && eqb (get_or (c ∷ cs) (len - 1) 0) c) ≡ false
    single zero all l apart = rw (le-ltb 1 len (omega arith)) refl
    single (suc n) all l apart = let e : len - 1 ≡ suc n = omega arith in and_right (nat_lt 1 len) _ (rw e (apart n (omega arith)))

    by : (closed : Bool) → nat_lt (position_or_len (λ x. eqb x c) cs) (length cs) ≡ closed → (nat_lt 1 len && eqb (get_or (c ∷ cs) (len - 1) 0) c) ≡ nat_lt (position_or_len (λ x. eqb x c) cs) (length cs)
    by true e =
        let n = position_or_len (λ x. eqb x c) cs in
        let l : len ≡ n + 2 = quoted_until c cs len is true e in
        let last : len - 1 ≡ suc n = omega arith in
        let more : nat_lt 1 len ≡ true = lt-ltb 1 len (omega arith) in
        let same : eqb (get_or cs n 0) c ≡ true = passes_at_first (λ x. eqb x c) cs 0 (ltb-true n (length cs) e) in
        rw (more, last, same, e) refl
    by false e =
        let n = position_or_len (λ x. eqb x c) cs in
        let l : len ≡ n + 1 = quoted_until c cs len is false e in
        let all : n ≡ length cs = omega (arith, ltb-false n (length cs) e, prefix_len-le-length (λ x. not (eqb x c)) cs) in
        single n all l (λ k below. fails_before_first (λ x. eqb x c) cs k 0 below) ∙ sym e

-- a part that is kept nests exactly where it ends with the quote that it begins with
pub kept_closes : (text : List ℕ) (len : ℕ) → body_piece text ≡ Some (record { kind = Kept; len = len }) → (nat_lt 1 len && eqb (get_or text (len - 1) 0) (get_or text 0 0)) ≡ nests None (take len text)
unfolding body_piece
kept_closes [] len is = absurd cc
kept_closes (c ∷ cs) len is = let quoted = kept_quoted c cs len is in kept_ends c cs len quoted.1 ∙ sym (kept_nests c cs len quoted.0 quoted.1)

-- where it does not, it is all that is left to be read
pub kept_judged : (text : List ℕ) (len : ℕ) → body_piece text ≡ Some (record { kind = Kept; len = len }) → JudgedSoFar (not (nests None (take len text))) (length text - len) (take len text)
unfolding body_piece
kept_judged [] len is = absurd cc
kept_judged (c ∷ cs) len is = by (nests None (take len (c ∷ cs))) refl
  where
    by : (nested : Bool) → nests None (take len (c ∷ cs)) ≡ nested → JudgedSoFar (not nested) (length (c ∷ cs) - len) (take len (c ∷ cs))
    by true e = λ more ends. nests_before None (take len (c ∷ cs)) more e
    by false e = λ more ends.
        let quoted = kept_quoted c cs len is in
        let open_quote = sym (kept_nests c cs len quoted.0 quoted.1) ∙ e in
        let l = quoted_until c cs len quoted.1 false open_quote in
        let past = ltb-false (position_or_len (λ x. eqb x c) cs) (length cs) open_quote in
        let none : more ≡ [] = ends (omega (arith, l, past)) in
        rw (none, append-nil (take len (c ∷ cs))) e
