-- What an output of `compare` says, and how it is certified.
use Rattle.std.proofs.Common.{◌≡◌, ◌∙◌, ◌≤◌, ◌+◌, ◌⊎◌, ℕ, true, false, cond, List, [], ◌∷◌, ◌++◌, Some, Ok, Err, inl, inr, refl, sym, ap, subst, append_assoc, arith, length, nat_eq, nat_lt, true≢false}
use Rattle.std.specs.Prelude.{Option, Result, encode_utf8_all}
use Rattle.std.specs.Char.{encode_utf8}
use Rattle.std.specs.List.{flat_map, list_all}
use Rattle.std.proofs.lemmas.Bool.{and_parts, false_from_ne_true, eqb-true}
use Rattle.jats_fault.specs.declared.fault.Fault.{Fault}
use Rattle.jats_fault.specs.declared.numbers.TheConstants as number
use Rattle.jats_chars.specs.Classes.{is_name_char, is_name_start}
use Rattle.jats_chars.specs.Decoded.{mark_len, text_of, without_declaration}
use Rattle.jats_chars.specs.Names.{is_name}
use Rattle.jats_chars.specs.TextDeclaration.{begins_declaration}
use Rattle.jats_io.specs.Loads.{held}
use Rattle.document_trees.specs.Trees.{Node}
use Rattle.decl_set.specs.Asked.{IsKept}
use Rattle.decl_set.specs.Declarations.{Declarations}
use Rattle.bound_checker.specs.Certificates.{read_lines}
use Rattle.bound_checker.specs.Lines.{lines_of}
use Rattle.bound_checker.specs.declared.check.Broken.{Broken}
use Rattle.bound_checker.specs.declared.tables.Tables.{Tables}
use Rattle.bound_checker.proofs.Lined.{lines_pass, text_found}
use Rattle.tree_costs.specs.declared.cost.Cost.{Cost}
use Rattle.comparison_tables.specs.Outcome.{AreExactTables}
use Rattle.comparison_tables.proofs.TheTables.{tables_are_accepted, tables_are_short}
use Rattle.article_tree.specs.Decoding.{decoded_article}
use Rattle.article_tree.specs.Writing.{IsWritable, enclosed, write, written, written_attribute}
use Rattle.article_tree.proofs.WrittenBack.{read_back}
use Rattle.module_reader.specs.Sources.{Files, file_text, text_held, decoded_by}
use Rattle.module_reader.specs.Stops.{refusal}
use Rattle.tagset_compare.specs.Compared.{Compares}
use Rattle.tagset_compare.specs.Verdicts.{SaysOf, bound_in, tables_in}
use Rattle.tagset_compare.specs.declared.outcome.Verdict.{Verdict}
use Rattle.tagset_compare.specs.declared.outcome.Verdict.TheVariants.{Subset, Not, Over}
use Rattle.tagset_compare.proofs.Telling.{verdict_is_true}
use Rattle.dtd_flattener.proofs.Encoded.{text_read}
use Rattle.dtd_flattener.proofs.TextChars.{is_text_char}
use Rattle.tagset_tool.specs.Headline.{Certifies, Headline, HeadlineLaw, IsReadBack, IsVerified}
use Rattle.tagset_tool.specs.Law.{IsTooLong}
use Rattle.tagset_tool.specs.Outcomes.{after, most_written}
use Rattle.tagset_tool.specs.Output.{outcome_of}
use Rattle.tagset_tool.specs.Words.{Asked}
use Rattle.tagset_tool.specs.commands.Compare.{verdict_lines, verdict_status}
use Rattle.tagset_tool.specs.commands.Verify.{certified, checked, claim, most_certified, verifies_by}
use Rattle.tagset_tool.proofs.Characters.{article_is_text, text_passed}
use Rattle.tagset_tool.proofs.Compared.{Told, both_read, compared_output, first_kept, off_by_one, second_kept, told_by}
use Rattle.tagset_tool.proofs.Named.{first_named, useful_named}
use Rattle.tagset_tool.proofs.Reported.{root_bound}
use Rattle.tagset_tool.proofs.Spelled.{IsPlain, behind, head_lines, heads_beside, heads_inline, verdict_bytes, verdict_chars, verdict_text}

-- ---- texts that begin with no mark and no declaration

angle_unmarked : (rest : List ℕ) → mark_len (encode_utf8_all (60 ∷ rest)) ≡ 0
unfolding encode_utf8
angle_unmarked rest = refl

angle_undeclared : (c : ℕ) (rest : List ℕ) → nat_eq 63 c ≡ false → without_declaration (60 ∷ c ∷ rest) ≡ Ok (60 ∷ c ∷ rest)
unfolding without_declaration begins_declaration
angle_undeclared c rest off = rw off refl

start_off : (c : ℕ) → is_name_start c ≡ true → nat_eq 63 c ≡ false
unfolding is_name_start
start_off c is = false_from_ne_true (nat_eq 63 c) (λ same. true≢false (sym is ∙ ap is_name_start (sym (eqb-true 63 c same)) ∙ refl))

named_undeclared : (name rest : List ℕ) → is_name name ≡ true → without_declaration (60 ∷ (name ++ rest)) ≡ Ok (60 ∷ (name ++ rest))
named_undeclared [] rest named = absurd (true≢false (sym named))
named_undeclared (c ∷ cs) rest named = angle_undeclared c (cs ++ rest) (start_off c (and_parts (is_name_start c) (list_all is_name_char cs) named).0)

article_undeclared : (article : Node) → is_name article.name ≡ true → without_declaration (write article) ≡ Ok (write article)
article_undeclared article named =
    let inside = flat_map written_attribute article.atts ++ enclosed article.name article.items (written article.items) in
    subst (λ (t : List ℕ). without_declaration (60 ∷ t) ≡ Ok (60 ∷ t)) (sym (append_assoc article.name inside [])) (named_undeclared article.name (inside ++ []) named)

-- what is written of a writable article is read back
pub reads_back : (article : Node) → IsWritable article → IsReadBack article
reads_back article writable entities name =
    ap (decoded_article entities name) (text_read (write article) (angle_unmarked _) (article_undeclared article writable.0.0.named) (article_is_text article writable)) ∙ read_back entities name article writable

letter_unmarked : (first : Declarations) (cap : ℕ) (v : Verdict) → mark_len (encode_utf8_all (verdict_text first cap v)) ≡ 0
unfolding encode_utf8
letter_unmarked first cap (Subset tables) = refl
letter_unmarked first cap (Not article broken tables) = refl
letter_unmarked first cap (Over broken tables) = refl

letter_undeclared : (first : Declarations) (cap : ℕ) (v : Verdict) → without_declaration (verdict_text first cap v) ≡ Ok (verdict_text first cap v)
unfolding without_declaration begins_declaration
letter_undeclared first cap (Subset tables) = refl
letter_undeclared first cap (Not article broken tables) = refl
letter_undeclared first cap (Over broken tables) = refl

-- ---- a file that is verified

held_text : (files : Files) (name bytes text : List ℕ) → held files name ≡ Some bytes → nat_lt most_certified (length bytes) ≡ false → text_of bytes ≡ Ok text → file_text most_certified files name ≡ Ok text
unfolding file_text
held_text files name bytes text is short read =
    ap (text_held most_certified name) is
    ∙ ap (λ b. cond b (Err (refusal number.MODULE_LONG name 0 [])) (decoded_by name (λ t. Ok t) (text_of bytes))) short
    ∙ ap (decoded_by name (λ t. Ok t)) read

pub verified : (first second : Declarations) (bytes : List ℕ) (tables : Tables) (bound : Cost) → (c : Certifies first second bytes tables bound) → text_of bytes ≡ Ok c.text → nat_lt most_certified (length bytes) ≡ false
    → IsVerified first second bytes bound
verified first second bytes tables bound c read short words files name one other asks reads_one reads_other is =
    let O : Option Asked → Type 0 = λ o. outcome_of o files 0 (claim bound) in
    let B : Result (Declarations × Declarations) Fault → Type 0 = λ r. after r (λ sets. verifies_by files name sets.0 sets.1) 0 (claim bound) in
    let T : Result (List ℕ) Fault → Type 0 = λ r. after r (λ text. certified first second name (read_lines first second (lines_of text))) 0 (claim bound) in
    let R : Result Tables ℕ → Type 0 = λ r. certified first second name r 0 (claim bound) in
    let K : Option Broken → Type 0 = λ o. checked first tables o 0 (claim bound) in
    subst O (sym asks) (subst B (sym (both_read files one other first second reads_one reads_other))
    (subst T (sym (held_text files name bytes c.text is short read)) (subst R (sym c.found) (subst K (sym c.accepted) (refl, ap claim (sym c.bound_is))))))

-- ---- the verdict

module _ (first second : Declarations) (root : List ℕ) (cap : ℕ) (kf : IsKept first) (ks : IsKept second) where
  exact_of : (v : Verdict) → Compares first second root cap most_written (Ok v) → AreExactTables first second root cap (tables_in v)
  exact_of (Subset tables) is = is.0
  exact_of (Not article broken tables) is = is.0.0
  exact_of (Over broken tables) is = is.0.0

  small_cap : (v : Verdict) → AreExactTables first second root cap (tables_in v) → cap ≤ 100000
  small_cap v exact = let f = exact.fits.cap in let e = exact.cap_is in omega (arith, f, e)

  plain_of : (v : Verdict) → Compares first second root cap most_written (Ok v) → SaysOf first second root cap v → cap ≤ 100000 → IsPlain cap v
  plain_of (Subset tables) is says small = tt
  plain_of (Not article broken tables) is says small = let w = says.within in (first_named second article broken ks says.separating.0 is.2, says.writable, omega (arith, w, small))
  plain_of (Over broken tables) is says small = (useful_named first second root broken kf ks is.1, omega (arith, small))

  -- the output certifies its bound
  certified_by : (v : Verdict) (bytes : List ℕ) → Compares first second root cap most_written (Ok v) → IsPlain cap v → bytes ≡ verdict_lines first cap v → Certifies first second bytes (tables_in v) (bound_in cap v)
  certified_by v bytes is plain said =
      let exact = exact_of v is in
      let short = tables_are_short first second root cap (tables_in v) kf ks exact in
      record {
        text = verdict_text first cap v;
        encoded = said ∙ verdict_bytes first cap v plain;
        found = text_found first second (tables_in v) (head_lines first cap v) (behind v) kf exact.fits short (heads_inline first cap v plain) (heads_beside first cap v);
        accepted = tables_are_accepted first second root cap (tables_in v) kf ks exact;
        bound_is = root_bound first second root cap v kf ks is;
      }

  -- its text is that which is decoded
  decoded_text : (v : Verdict) (bytes : List ℕ) → Compares first second root cap most_written (Ok v) → IsPlain cap v → bytes ≡ verdict_lines first cap v → text_of bytes ≡ Ok (verdict_text first cap v)
  decoded_text v bytes is plain said =
      let exact = exact_of v is in
      let short = tables_are_short first second root cap (tables_in v) kf ks exact in
      let cert = lines_pass is_text_char text_passed first second (tables_in v) kf exact.fits short in
      ap text_of (said ∙ verdict_bytes first cap v plain) ∙ text_read (verdict_text first cap v) (letter_unmarked first cap v) (letter_undeclared first cap v) (verdict_chars first cap v plain cert)

  headline_by : (v : Verdict) (status : ℕ) (bytes : List ℕ) → Compares first second root cap most_written (Ok v) → SaysOf first second root cap v → Certifies first second bytes (tables_in v) (bound_in cap v)
      → IsVerified first second bytes (bound_in cap v) → status ≡ verdict_status v → bytes ≡ verdict_lines first cap v → Headline first second root cap status bytes
  headline_by (Subset tables) status bytes is says cert file status_is said = record {
    one_of = inr (inl status_is);
    subset = λ zero. record { subset = says; tables = tables; lines = said; certified = cert; verified = file };
    separate = λ one. absurd (off_by_one status status_is one);
  }
  headline_by (Not article broken tables) status bytes is says cert file status_is said = record {
    one_of = inr (inr status_is);
    subset = λ zero. absurd (off_by_one status zero status_is);
    separate = λ one. inl (record {
      article = article;
      least = says;
      read_back = reads_back article says.writable;
      broken = broken;
      breaks = is.2;
      tables = tables;
      lines = said;
      certified = cert;
      verified = file;
    });
  }
  headline_by (Over broken tables) status bytes is says cert file status_is said = record {
    one_of = inr (inr status_is);
    subset = λ zero. absurd (off_by_one status zero status_is);
    separate = λ one. inr (record { over = says; broken = broken; breaks = is.1; tables = tables; lines = said; certified = cert; verified = file });
  }

  headline_told : (status : ℕ) (bytes : List ℕ) → Told first second root cap status bytes → Headline first second root cap status bytes
  unfolding certified_by
  headline_told status bytes told =
      let v = told.verdict in
      let says = verdict_is_true first second root cap most_written v kf ks told.compares in
      let plain = plain_of v told.compares says (small_cap v (exact_of v told.compares)) in
      let cert = certified_by v bytes told.compares plain told.bytes_are in
      headline_by v status bytes told.compares says cert
      (verified first second bytes (tables_in v) (bound_in cap v) cert (decoded_text v bytes told.compares plain told.bytes_are) told.short) told.status_is told.bytes_are

  too_long : (status : ℕ) (bytes : List ℕ) → IsTooLong status bytes → Headline first second root cap status bytes
  too_long status bytes long = record {
    one_of = inl long;
    subset = λ zero. absurd (omega (arith, long.0, zero));
    separate = λ one. absurd (omega (arith, long.0, one));
  }

  pub headline_of : (status : ℕ) (bytes : List ℕ) → IsTooLong status bytes ⊎ Told first second root cap status bytes → Headline first second root cap status bytes
  headline_of status bytes (inl long) = too_long status bytes long
  headline_of status bytes (inr told) = headline_told status bytes told

pub headline : HeadlineLaw
headline words files first second root cap status bytes compared output =
    headline_of first second root cap (first_kept words files first second root cap compared) (second_kept words files first second root cap compared) status bytes
    (told_by first second root cap status bytes compared.declared compared.few (compared_output words files first second root cap compared status bytes output))
