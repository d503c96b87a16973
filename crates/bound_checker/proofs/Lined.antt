-- The lines of a certificate hold no LF, so that its text has them as its lines.
use Rattle.std.proofs.Common.{◌≡◌, ◌≤◌, ◌<◌, ◌+◌, ◌%◌, ◌^◌, ◌==◌, ℕ, List, [], ◌∷◌, ◌++◌, Bool, true, cond, not, Option, Some, None, inl, inr, length, refl, sym, ap, ◌∙◌, subst, arith, true≢false, append_assoc}
use Rattle.std.specs.Prelude.{codes}
use Rattle.std.specs.List.{list_all, AllByRecursion}
use Rattle.std.specs.Fmt.{decimal}
use Rattle.std.specs.Cmp.Derive.{both_true}
use Rattle.std.proofs.lemmas.Bool.{ne_eqb, eqb-true, and_parts}
use Rattle.std.proofs.lemmas.Fmt.{decimal_by_steps}
use Rattle.std.proofs.lemmas.List.Folds.{list_all-append}
use Rattle.attribute_types.proofs.TextTests.{on_test}
use Rattle.jats_chars.specs.Classes.{is_name_start, is_name_char}
use Rattle.jats_chars.specs.Names.{is_name}
use Rattle.content_models.specs.declared.content.Content.{Content}
use Rattle.content_models.specs.declared.content.Content.TheVariants.{Empty, Any, Mixed, Children}
use Rattle.content_models.specs.Proper.{IsProper}
use Rattle.position_automata.specs.Automata.{states}
use Rattle.position_automata.proofs.Tabled.{proper_count}
use Rattle.content_models.specs.Model.{Chars}
use Rattle.decl_set.specs.Asked.{IsKept, IsElement}
use Rattle.decl_set.specs.Declarations.{Declarations, Element, content_in}
use Rattle.decl_set.proofs.Found.{element_is}
use Rattle.tree_costs.specs.declared.cost.Cost.{Cost}
use Rattle.tree_costs.specs.declared.cost.Cost.TheVariants.{Fin, Inf}
use Rattle.tree_costs.specs.Costs.{IsSmall}
use Rattle.bound_checker.specs.declared.tables.StateRow.{StateRow}
use Rattle.bound_checker.specs.declared.tables.PairRow.{PairRow}
use Rattle.bound_checker.specs.declared.tables.Row.{Row}
use Rattle.bound_checker.specs.declared.tables.Tables.{Tables}
use Rattle.bound_checker.specs.Tabled.{IsPair, FitRows, Fits}
use Rattle.bound_checker.specs.Certificates.{spaced, cost_text, costs_text, element_head, state_head, pair_text, state_lines, pair_lines, row_lines, cert_onto, cert_lines, read_lines, IsShort, AreShort}
use Rattle.bound_checker.specs.Lines.{joined, onto, lines_of, IsInline, TextReadsBack, TextIsFound}
use Rattle.bound_checker.proofs.Certificates.{printed_back, printed_found}

-- ---- a test that all characters of certificates pass

pub record IsPassed (p : ℕ → Bool) : Type 0 where
  pub digit : (n : ℕ) → n < 10 → p (48 + n) ≡ true
  pub starts : (c : ℕ) → is_name_start c ≡ true → p c ≡ true
  pub named : (c : ℕ) → is_name_char c ≡ true → p c ≡ true
  pub space : p 0x20 ≡ true
  pub certificate : list_all p (codes "certificate ") ≡ true
  pub version : list_all p (codes "1 ") ≡ true
  pub element : list_all p (codes "element ") ≡ true
  pub state : list_all p (codes "state ") ≡ true
  pub pair : list_all p (codes "pair ") ≡ true
  pub inf : list_all p (codes "inf") ≡ true
  pub end : list_all p (codes "end") ≡ true

abbrev IsFin : Cost → Type 0
IsFin (Fin n) = Unit {0}
IsFin Inf = ⊥

small_pairs : (cap : ℕ) (a : Content) (b : Option Content) (xs : List PairRow) → AllByRecursion (IsPair cap a b) xs → AllByRecursion (λ x. IsSmall cap x.g) xs
small_pairs cap a b [] h = tt
small_pairs cap a None (x ∷ xs) h = elim h.0 [ ]
small_pairs cap a (Some b) (x ∷ xs) h = (h.0.2, small_pairs cap a (Some b) xs h.1)

-- a proper content has few states
few_states : (a : Content) → IsProper a → states a < 2 ^ 32
few_states Empty p = omega arith
few_states Any p = omega arith
few_states (Mixed listed) p = omega arith
few_states (Children part) p = let q = proper_count (Children part) part refl p in omega (arith, q)

module _ (p : ℕ → Bool) (t : IsPassed p) where
  abbrev Passes : List ℕ → Type 0
  Passes line = list_all p line ≡ true

  pass_both : (a b : List ℕ) → Passes a → Passes b → Passes (a ++ b)
  pass_both a b h k = list_all-append p a b ∙ both_true h k

  pass_spaced : (a b : List ℕ) → Passes a → Passes b → Passes (spaced a b)
  pass_spaced a b h k = pass_both a (0x20 ∷ b) h (both_true t.space k)

  pub decimal_passes : (n : ℕ) → n < 2 ^ 64 → Passes (decimal n)
  decimal_passes n fits = decimal_by_steps (λ m ds. Passes ds)
      (λ n small. both_true (t.digit n small) refl)
      (λ n ds large w. list_all-append p ds ((48 + n % 10) ∷ []) ∙ both_true w (both_true (t.digit (n % 10) (omega arith)) refl))
      n fits

  chars_pass : (cs : List ℕ) → list_all is_name_char cs ≡ true → Passes cs
  chars_pass [] h = refl
  chars_pass (c ∷ cs) h = let parts = and_parts (is_name_char c) (list_all is_name_char cs) h in both_true (t.named c parts.0) (chars_pass cs parts.1)

  pub name_passes : (name : List ℕ) → is_name name ≡ true → Passes name
  name_passes [] h = absurd (true≢false (sym h))
  name_passes (c ∷ cs) h = let parts = and_parts (is_name_start c) (list_all is_name_char cs) h in both_true (t.starts c parts.0) (chars_pass cs parts.1)

  cost_passes : (cap : ℕ) (c : Cost) → cap ≤ 100000 → IsSmall cap c → Passes (cost_text c)
  cost_passes cap (Fin n) low (inl e) = absurd (subst IsFin e tt)
  cost_passes cap (Fin n) low (inr h) = decimal_passes n (omega (arith, h, low))
  cost_passes cap Inf low s = t.inf

  costs_pass : (cap : ℕ) (a b : Cost) → cap ≤ 100000 → IsSmall cap a → IsSmall cap b → Passes (costs_text a b)
  costs_pass cap a b low h k = pass_spaced (cost_text a) (cost_text b) (cost_passes cap a low h) (cost_passes cap b low k)

  -- ---- the lines

  abbrev AllPass : List Chars → Type 0
  AllPass lines = AllByRecursion Passes lines

  states_pass : (cap : ℕ) (ss : List StateRow) (i : ℕ) (rest : List Chars) → cap ≤ 100000 → i + length ss < 2 ^ 64
      → AllByRecursion (λ s. IsSmall cap s.p) ss → AllByRecursion (λ s. IsSmall cap s.f) ss → AllPass rest → AllPass (state_lines i ss rest)
  states_pass cap [] i rest low few ps fs h = h
  states_pass cap (s ∷ ss) i rest low few ps fs h = (
    pass_both (state_head i) (costs_text s.p s.f) (pass_both (codes "state ") (spaced (decimal i) []) t.state (pass_spaced (decimal i) [] (decimal_passes i (omega arith)) refl))
        (costs_pass cap s.p s.f low ps.0 fs.0),
    states_pass cap ss (i + 1) rest low (omega arith) ps.1 fs.1 h,
  )

  pairs_pass : (cap : ℕ) (xs : List PairRow) (rest : List Chars) → cap ≤ 100000 → AllByRecursion (λ x. IsSmall cap x.g) xs → AllByRecursion IsShort xs
      → AllPass rest → AllPass (pair_lines xs rest)
  pairs_pass cap [] rest low small short h = h
  pairs_pass cap (x ∷ xs) rest low small short h = (
    pass_both (codes "pair ") (pair_text x) t.pair
        (pass_spaced (spaced (decimal x.i) (decimal x.j)) (cost_text x.g)
        (pass_spaced (decimal x.i) (decimal x.j) (decimal_passes x.i (let s = short.0.0 in omega (arith, s))) (decimal_passes x.j (let s = short.0.1 in omega (arith, s))))
        (cost_passes cap x.g low small.0)),
    pairs_pass cap xs rest low small.1 short.1 h,
  )

  rows_pass : (cap : ℕ) (second : Declarations) (es : List Element) (rows : List Row) (rest : List Chars) → cap ≤ 100000 → AllByRecursion IsElement es
      → FitRows cap second es rows → AllByRecursion AreShort rows → AllPass rest → AllPass (row_lines es rows rest)
  rows_pass cap second [] rows rest low k f short h = h
  rows_pass cap second (e ∷ es) [] rest low k f short h = h
  rows_pass cap second (e ∷ es) (row ∷ rows) rest low k f short h =
      let few = few_states e.1 k.0.proper in
      let count = f.0.count in (
        pass_both (element_head e.0) (costs_text row.m row.v)
            (pass_both (codes "element ") (spaced e.0 []) t.element (pass_spaced e.0 [] (name_passes e.0 k.0.named) refl)) (costs_pass cap row.m row.v low f.0.m f.0.v),
        states_pass cap row.states 0 (pair_lines row.pairs (row_lines es rows rest)) low (omega (arith, few, count)) f.0.p f.0.f
            (pairs_pass cap row.pairs (row_lines es rows rest) low (small_pairs cap e.1 (content_in second e.0) row.pairs f.0.pairs) short.0
            (rows_pass cap second es rows rest low k.1 f.1 short.1 h)),
      )

  -- all lines of a certificate pass the test
  pub lines_pass : (first second : Declarations) (tables : Tables) → IsKept first → Fits first second tables → AllByRecursion AreShort tables.rows
      → AllByRecursion (λ line. list_all p line ≡ true) (cert_lines first tables)
  lines_pass first second tables k f short = (
    pass_both (codes "certificate ") (codes "1 " ++ spaced tables.root (decimal tables.cap)) t.certificate
        (pass_both (codes "1 ") (spaced tables.root (decimal tables.cap)) t.version
        (pass_spaced tables.root (decimal tables.cap) (name_passes tables.root (element_is first tables.root f.root.0 k f.root.1).named)
        (decimal_passes tables.cap (let l = f.cap in omega (arith, l))))),
    rows_pass tables.cap second first.elements tables.rows (codes "end" ∷ []) f.cap k.elements_are f.rows short (t.end, tt),
  )

-- ---- they hold no LF

abbrev pub is_inline : ℕ → Bool
is_inline c = not (c == 0xA)

abbrev AreInline : List Chars → Type 0
AreInline lines = AllByRecursion IsInline lines

digit_inline : (n : ℕ) → n < 10 → is_inline (48 + n) ≡ true
digit_inline n small = ap not (ne_eqb (48 + n) 10 (λ e. omega (arith, e)))

start_inline : (c : ℕ) → is_name_start c ≡ true → is_inline c ≡ true
unfolding is_name_start
start_inline c h =
    let P : Bool → Type 0 = λ b. (c == 0xA) ≡ b → not b ≡ true in
    on_test P (c == 0xA) (λ t q. absurd (true≢false (sym (subst (λ k. is_name_start k ≡ true) (eqb-true c 0xA q) h)))) (λ t q. refl) refl

char_inline : (c : ℕ) → is_name_char c ≡ true → is_inline c ≡ true
unfolding is_name_char
char_inline c h =
    let P : Bool → Type 0 = λ b. (c == 0xA) ≡ b → not b ≡ true in
    on_test P (c == 0xA) (λ t q. absurd (true≢false (sym (subst (λ k. is_name_char k ≡ true) (eqb-true c 0xA q) h)))) (λ t q. refl) refl

pub inline_passed : IsPassed is_inline
inline_passed = record {
  digit = digit_inline;
  starts = start_inline;
  named = char_inline;
  space = refl;
  certificate = refl;
  version = refl;
  element = refl;
  state = refl;
  pair = refl;
  inf = refl;
  end = refl;
}

lines_inline : (first second : Declarations) (tables : Tables) → IsKept first → Fits first second tables → AllByRecursion AreShort tables.rows
    → AreInline (cert_lines first tables)
lines_inline = lines_pass is_inline inline_passed

-- ---- lines that hold no LF are the lines of their text

line_off : (line more : List ℕ) → IsInline line → lines_of (line ++ (0xA ∷ more)) ≡ line ∷ lines_of more
line_off [] more h = refl
line_off (c ∷ line) more h =
    let parts = and_parts (is_inline c) (list_all is_inline line) h in
    let P : Bool → Type 0 = λ b. not b ≡ true → cond b ([] ∷ lines_of (line ++ (0xA ∷ more))) (onto c (lines_of (line ++ (0xA ∷ more)))) ≡ (c ∷ line) ∷ lines_of more in
    on_test P (c == 0xA) (λ t n. absurd (true≢false (sym n))) (λ t n. ap (onto c) (line_off line more parts.1)) parts.0

lines_back : (lines : List Chars) → AreInline lines → lines_of (joined lines) ≡ lines
lines_back [] h = refl
lines_back (line ∷ lines) h = line_off line (joined lines) h.0 ∙ ap (λ x. line ∷ x) (lines_back lines h.1)

-- and so in front of any text
lines_front : (lines : List Chars) (behind : List ℕ) → AreInline lines → lines_of (joined lines ++ behind) ≡ lines ++ lines_of behind
lines_front [] behind h = refl
lines_front (line ∷ lines) behind h =
    ap lines_of (append_assoc line (0xA ∷ joined lines) behind) ∙ (line_off line (joined lines ++ behind) h.0 ∙ ap (λ x. line ∷ x) (lines_front lines behind h.1))

pub text_back : TextReadsBack
text_back first second tables k f short =
    ap (read_lines first second) (lines_back (cert_lines first tables) (lines_inline first second tables k f short)) ∙ printed_back first second tables f short

-- ---- lines behind

states_onto : (ss : List StateRow) (i : ℕ) (rest behind : List Chars) → state_lines i ss rest ++ behind ≡ state_lines i ss (rest ++ behind)
states_onto [] i rest behind = refl
states_onto (s ∷ ss) i rest behind = ap (λ x. (state_head i ++ costs_text s.p s.f) ∷ x) (states_onto ss (i + 1) rest behind)

pairs_onto : (xs : List PairRow) (rest behind : List Chars) → pair_lines xs rest ++ behind ≡ pair_lines xs (rest ++ behind)
pairs_onto [] rest behind = refl
pairs_onto (x ∷ xs) rest behind = ap (λ y. (codes "pair " ++ pair_text x) ∷ y) (pairs_onto xs rest behind)

rows_onto : (es : List Element) (rows : List Row) (rest behind : List Chars) → row_lines es rows rest ++ behind ≡ row_lines es rows (rest ++ behind)
rows_onto [] rows rest behind = refl
rows_onto (e ∷ es) [] rest behind = refl
rows_onto (e ∷ es) (row ∷ rows) rest behind =
    let later = row_lines es rows rest in
    ap (λ y. (element_head e.0 ++ costs_text row.m row.v) ∷ y)
    (states_onto row.states 0 (pair_lines row.pairs later) behind
    ∙ ap (state_lines 0 row.states) (pairs_onto row.pairs later behind ∙ ap (pair_lines row.pairs) (rows_onto es rows rest behind)))

cert_behind : (first : Declarations) (tables : Tables) (behind : List Chars) → cert_lines first tables ++ behind ≡ cert_onto first tables behind
cert_behind first tables behind =
    ap (λ y. (codes "certificate " ++ (codes "1 " ++ spaced tables.root (decimal tables.cap))) ∷ y) (rows_onto first.elements tables.rows (codes "end" ∷ []) behind)

pub text_found : TextIsFound
text_found first second tables before behind k f short inline off =
    let cert = joined (cert_lines first tables) ++ behind in
    ap (read_lines first second) (lines_front before cert inline
    ∙ ap (λ y. before ++ y) (lines_front (cert_lines first tables) behind (lines_inline first second tables k f short) ∙ cert_behind first tables (lines_of behind)))
    ∙ printed_found first second tables before (lines_of behind) f short off
