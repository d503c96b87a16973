-- Words and files have one output.
use Rattle.std.proofs.Common.{◌≡◌, ◌∙◌, ℕ, Bool, true, false, List, [], ◌∷◌, sym, ap, subst, Some, None, Ok, Err, refl}
use Rattle.std.specs.Prelude.{Option, Result, encode_utf8_all, nat_le}
use Rattle.content_models.specs.declared.content.Content.{Content}
use Rattle.decl_set.specs.Declarations.{Declarations, content_in}
use Rattle.dtd_flattener.specs.Flat.{flat_text}
use Rattle.module_reader.specs.Sources.{Files, file_text}
use Rattle.bound_checker.specs.Certificates.{read_lines}
use Rattle.bound_checker.specs.Lines.{lines_of}
use Rattle.document_trees.specs.Trees.{Node}
use Rattle.dtd_scanner.specs.Walk.{◌>>=◌}
use Rattle.entity_catalog.specs.Named.{Named}
use Rattle.jats_fault.specs.declared.fault.Fault.{Fault}
use Rattle.decl_set.specs.Asked.{IsKept as KeepsAll}
use Rattle.module_reader.specs.Sets.{catalog_from, set_from}
use Rattle.module_reader.proofs.Keeping.{set_kept}
use Rattle.tree_costs.specs.declared.cost.Cost.{Cost}
use Rattle.tree_costs.specs.declared.cost.Cost.TheVariants.{Fin, Inf}
use Rattle.tree_costs.specs.declared.least.Least.{Least}
use Rattle.tree_costs.specs.Leasts.{m_of}
use Rattle.tree_costs.proofs.Unique.{one_least}
use Rattle.separating_article.proofs.Trees.{one_least_article}
use Rattle.tagset_tool.specs.commands.Least.{above_line, by_costs, by_size, least_from, least_in, least_text, leasts, none_line, sized}
use Rattle.bound_checker.specs.Tabled.{costs_of}
use Rattle.bound_checker.specs.Tests.{first_broken}
use Rattle.bound_checker.specs.declared.check.Broken.{Broken}
use Rattle.bound_checker.specs.declared.tables.Tables.{Tables}
use Rattle.tagset_tool.specs.commands.Work.{work_lines}
use Rattle.tagset_tool.specs.commands.Verify.{broken_words, certified, checked, claim, most_certified, verifies, verifies_by}
use Rattle.tagset_compare.specs.declared.fault.CompareFault.{CompareFault}
use Rattle.tagset_compare.specs.declared.fault.CompareFault.TheVariants as compared
use Rattle.tagset_compare.specs.declared.outcome.Verdict.{Verdict}
use Rattle.tagset_compare.proofs.Single.{one_verdict}
use Rattle.tagset_report.specs.declared.fault.ReportFault.{ReportFault}
use Rattle.tagset_report.specs.declared.fault.ReportFault.TheVariants.{RootUndeclared, PairsOver, NoMemory}
use Rattle.tagset_report.specs.declared.outcome.Report.{Report}
use Rattle.tagset_report.proofs.Once.{one_report}
use Rattle.tagset_tool.specs.commands.Report.{reports, reported, telling, report_lines, report_status}
use Rattle.tagset_tool.specs.Counts.{count_lines}
use Rattle.tagset_tool.specs.Outcomes.{IsUnique, Outcome, after, answering, fitting, most_written, refusing}
use Rattle.tagset_tool.specs.Output.{IsOutput, outcome_of, usage_line}
use Rattle.tagset_tool.specs.Refusals.{cert_malformed, output_over, pairs_over, root_undeclared}
use Rattle.tagset_tool.specs.Words.{Asked, SetWords, check, flatten, validate, fill, compare, report, least, verify, work, asked, both_by, set_by}
use Rattle.article_files.specs.Bytes.{article_in}
use Rattle.article_validator.specs.Faults.{fault_list}
use Rattle.article_validator.specs.declared.fault.Invalid.{Invalid}
use Rattle.tagset_tool.specs.commands.Fill.{fills, filled_text}
use Rattle.tagset_tool.specs.commands.Validate.{validates, judged, valid_line, fault_lines}
use Rattle.tagset_tool.specs.commands.Compare.{answers, compares, over_sets, verdict_status, verdict_lines}
use Rattle.tagset_tool.proofs.Outcomes.{after_unique, answering_unique, fitting_unique, refusing_unique}

-- a set that is read is kept
read_kept : (files : Files) (r : Result Named Fault) (entry : List ℕ) (set : Declarations) → (r >>= λ named. set_from (record { files = files; catalog = named }) entry) ≡ Ok set → KeepsAll set
read_kept files (Ok named) entry set is = (set_kept (record { files = files; catalog = named }) entry set is).0
read_kept files (Err fault) entry set is = cc

pub kept_by : (files : Files) (words : SetWords) (set : Declarations) → set_by files words ≡ Ok set → KeepsAll set
kept_by files words set is = read_kept files (catalog_from files words.catalog) words.entry set is

-- and so are two that are read
both_kept : (files : Files) (one other : SetWords) (sets : Declarations × Declarations) → both_by files one other ≡ Ok sets → KeepsAll sets.0 × KeepsAll sets.1
both_kept files one other sets = by (set_by files one) (set_by files other) refl refl
  where
    by : (r t : Result Declarations Fault) → set_by files one ≡ r → set_by files other ≡ t → (r >>= λ first. t >>= λ second. Ok (first, second)) ≡ Ok sets
        → KeepsAll sets.0 × KeepsAll sets.1
    by (Ok a) (Ok b) p q is =
        let same : (a, b) ≡ sets = cc in
        (subst KeepsAll (ap (λ (t : Declarations × Declarations). t.0) same) (kept_by files one a p), subst KeepsAll (ap (λ (t : Declarations × Declarations). t.1) same) (kept_by files other b q))
    by (Ok a) (Err f) p q is = cc
    by (Err f) t p q is = cc

after_kept : {X : Type 0} → (r : Result X Fault) (next : X → Outcome) → ((x : X) → r ≡ Ok x → IsUnique (next x)) → IsUnique (after r next)
after_kept (Err refusal) next each = refusing_unique refusal
after_kept (Ok x) next each = each x refl

-- ---- comparisons

answers_unique : (first : Declarations) (root : List ℕ) (cap : ℕ) (result : Result Verdict CompareFault) → IsUnique (answers first root cap result)
answers_unique first root cap (Ok v) s t b c one other = fitting_unique (verdict_status v) (verdict_lines first cap v) s t b c one other
answers_unique first root cap (Err compared.RootUndeclared) s t b c one other = refusing_unique (root_undeclared root) s t b c one other
answers_unique first root cap (Err (compared.PairsOver name)) s t b c one other = refusing_unique (pairs_over name) s t b c one other
answers_unique first root cap (Err compared.TextOver) s t b c one other = refusing_unique output_over s t b c one other
answers_unique first root cap (Err compared.NoMemory) s t b c one other = absurd one

-- what is answered is no want of memory
answered : (first : Declarations) (root : List ℕ) (cap : ℕ) (result : Result Verdict CompareFault) (s : ℕ) (b : List ℕ) → answers first root cap result s b → result ≡ Err compared.NoMemory → ⊥
answered first root cap result s b told e = subst (λ (r : Result Verdict CompareFault). answers first root cap r s b) e told

sets_unique : (first second : Declarations) (root : List ℕ) (cap : ℕ) → KeepsAll first → KeepsAll second → IsUnique (over_sets first second root cap)
sets_unique first second root cap kf ks s t b c one other =
    let same = one_verdict first second root cap most_written one.0 other.0 kf ks one.1 other.1 (answered first root cap one.0 s b one.2) (answered first root cap other.0 t c other.2) in
    answers_unique first root cap other.0 s t b c (subst (λ (r : Result Verdict CompareFault). answers first root cap r s b) same one.2) other.2

compares_unique : (files : Files) (one other : SetWords) (root : List ℕ) (cap : ℕ) → IsUnique (compares files one other root cap)
compares_unique files one other root cap =
    after_kept (both_by files one other) (λ sets. over_sets sets.0 sets.1 root cap)
    (λ sets is. let kept = both_kept files one other sets is in sets_unique sets.0 sets.1 root cap kept.0 kept.1)

-- ---- reports

telling_unique : (root : List ℕ) (result : Result Report ReportFault) → IsUnique (telling root result)
telling_unique root (Ok found) s t b c one other = fitting_unique (report_status found) (report_lines found) s t b c one other
telling_unique root (Err RootUndeclared) s t b c one other = refusing_unique (root_undeclared root) s t b c one other
telling_unique root (Err (PairsOver name)) s t b c one other = refusing_unique (pairs_over name) s t b c one other
telling_unique root (Err NoMemory) s t b c one other = absurd one

-- what is told is no want of memory
told_of : (root : List ℕ) (result : Result Report ReportFault) (s : ℕ) (b : List ℕ) → telling root result s b → result ≡ Err NoMemory → ⊥
told_of root result s b told e = subst (λ (r : Result Report ReportFault). telling root r s b) e told

reported_unique : (first second : Declarations) (root : List ℕ) → IsUnique (reported first second root)
reported_unique first second root s t b c one other =
    let same = one_report first second root one.0 other.0 one.1 other.1 (told_of root one.0 s b one.2) (told_of root other.0 t c other.2) in
    telling_unique root other.0 s t b c (subst (λ (r : Result Report ReportFault). telling root r s b) same one.2) other.2

reports_unique : (files : Files) (one other : SetWords) (root : List ℕ) → IsUnique (reports files one other root)
reports_unique files one other root =
    after_unique (both_by files one other) (λ sets. reported sets.0 sets.1 root) (λ sets. reported_unique sets.0 sets.1 root)

judged_unique : (faults : List Invalid) → IsUnique (judged faults)
judged_unique [] = answering_unique 0 valid_line
judged_unique (fault ∷ faults) = fitting_unique 1 (fault_lines (fault ∷ faults))

validates_unique : (files : Files) (words : SetWords) (root article : List ℕ) → IsUnique (validates files words root article)
validates_unique files words root article =
    after_unique (set_by files words) (λ set. after (article_in files set.entities article) (λ node. judged (fault_list set root node)))
    (λ set. after_unique (article_in files set.entities article) (λ node. judged (fault_list set root node)) (λ node. judged_unique (fault_list set root node)))

fills_unique : (files : Files) (words : SetWords) (article : List ℕ) → IsUnique (fills files words article)
fills_unique files words article =
    after_unique (set_by files words) (λ set. after (article_in files set.entities article) (λ node. fitting 0 (filled_text set node)))
    (λ set. after_unique (article_in files set.entities article) (λ node. fitting 0 (filled_text set node)) (λ node. fitting_unique 0 (filled_text set node)))

checked_unique : (first : Declarations) (tables : Tables) (o : Option Broken) → IsUnique (checked first tables o)
checked_unique first tables None = answering_unique 0 (claim ((costs_of first tables).v tables.root))
checked_unique first tables (Some broken) = answering_unique 1 (broken_words first broken)

certified_unique : (first second : Declarations) (name : List ℕ) (read : Result Tables ℕ) → IsUnique (certified first second name read)
certified_unique first second name (Err line) = refusing_unique (cert_malformed name line)
certified_unique first second name (Ok tables) = checked_unique first tables (first_broken first second tables)

verified_unique : (files : Files) (name : List ℕ) (first second : Declarations) → IsUnique (verifies_by files name first second)
verified_unique files name first second =
    after_unique (file_text most_certified files name) (λ text. certified first second name (read_lines first second (lines_of text))) (λ text. certified_unique first second name (read_lines first second (lines_of text)))

verifies_unique : (files : Files) (name : List ℕ) (one other : SetWords) → IsUnique (verifies files name one other)
verifies_unique files name one other = after_unique (both_by files one other) (λ sets. verifies_by files name sets.0 sets.1) (λ sets. verified_unique files name sets.0 sets.1)

-- ---- least articles

sized_unique : (set : Declarations) (table : Least) (root : List ℕ) (n : ℕ) (within : Bool) → IsUnique (sized set table root n within)
sized_unique set table root n false s t b c one other = answering_unique 0 (above_line table.cap) s t b c one other
sized_unique set table root n true s t b c one other =
    let same = one_least_article set table root one.0 other.0 one.1 other.1 in
    fitting_unique 0 (least_text n other.0) s t b c (subst (λ (node : Node). fitting 0 (least_text n node) s b) same one.2) other.2

by_size_unique : (set : Declarations) (table : Least) (root : List ℕ) (c : Cost) → IsUnique (by_size set table root c)
by_size_unique set table root Inf s t b c one other = answering_unique 1 none_line s t b c one other
by_size_unique set table root (Fin n) s t b c one other = sized_unique set table root n (nat_le n table.cap) s t b c one other

by_costs_unique : (set : Declarations) (root : List ℕ) (cap : ℕ) → KeepsAll set → IsUnique (by_costs set root cap)
by_costs_unique set root cap kept s t b c one other =
    let same = one_least set one.0 other.0 kept one.2 other.2 (one.1 ∙ sym other.1) in
    by_size_unique set other.0 root (m_of set other.0 root) s t b c (subst (λ (l : Least). by_size set l root (m_of set l root) s b) same one.3) other.3

least_from_unique : (set : Declarations) (root : List ℕ) (cap : ℕ) (o : Option Content) → KeepsAll set → IsUnique (least_from set root cap o)
least_from_unique set root cap None kept s t b c one other = refusing_unique (root_undeclared root) s t b c one other
least_from_unique set root cap (Some content) kept s t b c one other = by_costs_unique set root cap kept s t b c one other

leasts_unique : (files : Files) (words : SetWords) (root : List ℕ) (cap : ℕ) → IsUnique (leasts files words root cap)
leasts_unique files words root cap =
    after_kept (set_by files words) (least_in root cap)
    (λ set is. least_from_unique set root cap (content_in set root) (kept_by files words set is))

outcome_unique : (o : Option Asked) (files : Files) → IsUnique (outcome_of o files)
outcome_unique None files = answering_unique 3 usage_line
outcome_unique (Some (check words)) files = after_unique (set_by files words) (λ set. answering 0 (count_lines set)) (λ set. answering_unique 0 (count_lines set))
outcome_unique (Some (flatten words)) files =
    after_unique (set_by files words) (λ set. fitting 0 (encode_utf8_all (flat_text set))) (λ set. fitting_unique 0 (encode_utf8_all (flat_text set)))
outcome_unique (Some (validate words root article)) files = validates_unique files words root article
outcome_unique (Some (fill words article)) files = fills_unique files words article
outcome_unique (Some (compare first second root cap)) files = compares_unique files first second root cap
outcome_unique (Some (report first second root)) files = reports_unique files first second root
outcome_unique (Some (least words root cap)) files = leasts_unique files words root cap
outcome_unique (Some (verify certificate first second)) files = verifies_unique files certificate first second
outcome_unique (Some (work count)) files = answering_unique 0 (work_lines count)

pub one_output : (words : List (List ℕ)) (files : Files) → IsUnique (IsOutput words files)
one_output words files = outcome_unique (asked words) files
