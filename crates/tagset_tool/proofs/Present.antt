-- Outputs that are not the line of an absent module.
use Rattle.std.proofs.Common.{◌≡◌, ◌∙◌, ℕ, lit<, Bool, true, false, List, [], ◌∷◌, ◌++◌, Some, None, Ok, Err, refl, sym, ap, subst, take, IsTrue, length, nat_lt, map, arith}
use Rattle.std.specs.Prelude.{Option, Result, encode_utf8_all, nat_le}
use Rattle.std.specs.List.{concat, flat_map}
use Rattle.std.proofs.Math.Utf8.{encode}
use Rattle.std.proofs.lemmas.Str.{encode_ascii}
use Rattle.jats_fault.specs.Lines.{line_of}
use Rattle.content_models.specs.declared.content.Content.{Content}
use Rattle.decl_set.specs.Declarations.{Declarations, AttributesOf, content_in}
use Rattle.dtd_flattener.specs.Flat.{Line, written, lines_of, flat_text, list_lines}
use Rattle.document_trees.specs.Trees.{Node}
use Rattle.article_tree.specs.Writing.{write}
use Rattle.article_validator.specs.Filling.{filled}
use Rattle.article_validator.specs.declared.fault.Invalid.{Invalid}
use Rattle.tree_costs.specs.declared.cost.Cost.{Cost}
use Rattle.tree_costs.specs.declared.cost.Cost.TheVariants.{Fin, Inf}
use Rattle.tree_costs.specs.declared.least.Least.{Least}
use Rattle.tree_costs.specs.Leasts.{m_of}
use Rattle.tagset_tool.specs.commands.Least.{above_line, by_size, least_from, least_in, least_text, none_line, sized}
use Rattle.bound_checker.specs.Tabled.{costs_of}
use Rattle.bound_checker.specs.Tests.{first_broken}
use Rattle.bound_checker.specs.declared.check.Broken.{Broken}
use Rattle.bound_checker.specs.declared.tables.Tables.{Tables}
use Rattle.tagset_tool.specs.commands.Verify.{broken_words, certified, checked, claim}
use Rattle.tagset_tool.specs.commands.Work.{work_lines}
use Rattle.tagset_tool.specs.commands.Fill.{filled_text}
use Rattle.tagset_tool.specs.commands.Validate.{judged, fault_lines, valid_line}
use Rattle.tagset_compare.specs.declared.fault.CompareFault.{CompareFault}
use Rattle.tagset_compare.specs.declared.fault.CompareFault.TheVariants as compared
use Rattle.tagset_compare.specs.declared.outcome.Verdict.{Verdict}
use Rattle.tagset_compare.specs.declared.outcome.Verdict.TheVariants.{Subset, Not, Over}
use Rattle.decl_set.specs.declared.breaks.BrokenDecl.{BrokenDecl}
use Rattle.tagset_report.specs.declared.fault.ReportFault.{ReportFault}
use Rattle.tagset_report.specs.declared.fault.ReportFault.TheVariants.{RootUndeclared, PairsOver, NoMemory}
use Rattle.tagset_report.specs.declared.outcome.Report.{Report}
use Rattle.tagset_tool.specs.commands.Report.{count_line, differs_line, report_lines, report_status, reported, telling}
use Rattle.tagset_tool.specs.Counts.{count_lines}
use Rattle.tagset_tool.specs.Outcomes.{answering, fitting, fitting_by, most_written}
use Rattle.tagset_tool.specs.commands.Compare.{answers, over_sets, verdict_lines, verdict_status}
use Rattle.tagset_tool.specs.Refusals.{cert_malformed, pairs_over, root_undeclared, output_over}
use Rattle.tagset_tool.specs.Runs.{is_absence}
use Rattle.tagset_tool.proofs.Heads.{absence_number}

abbrev pub IsPresent : List ℕ → Type 0
IsPresent bytes = IsTrue (is_absence bytes) → ⊥

same_present : (bytes said : List ℕ) → bytes ≡ said → IsPresent said → IsPresent bytes
same_present bytes said is there = subst IsPresent (sym is) there

-- ---- refusals

undeclared_present : (root : List ℕ) → IsPresent (line_of (root_undeclared root))
undeclared_present root t = absurd (let off : 40 ≡ 10 = absence_number (root_undeclared root) (lit< tt) t in omega arith)

pairs_present : (name : List ℕ) → IsPresent (line_of (pairs_over name))
pairs_present name t = absurd (let off : 45 ≡ 10 = absence_number (pairs_over name) (lit< tt) t in omega arith)

over_present : IsPresent (line_of output_over)
over_present t = absurd (let off : 46 ≡ 10 = absence_number output_over (lit< tt) t in omega arith)

-- ---- flat texts

-- a text that begins with `<`
angle_present : (text : List ℕ) → take 1 text ≡ 60 ∷ [] → IsPresent (encode_utf8_all text)
angle_present [] angle t = cc
angle_present (c ∷ rest) angle t =
    let is : c ≡ 60 = cc in
    let P : List ℕ → Type 0 = λ front. IsTrue (is_absence (front ++ encode_utf8_all rest)) in
    let off : IsTrue false = subst P (ap encode is ∙ encode_ascii 60 (lit< tt)) t in
    cc

-- nor with bytes behind it
angle_more : (text : List ℕ) (more : List ℕ) → take 1 text ≡ 60 ∷ [] → IsPresent (encode_utf8_all text ++ more)
angle_more [] more angle t = cc
angle_more (c ∷ rest) more angle t =
    let is : c ≡ 60 = cc in
    let P : List ℕ → Type 0 = λ front. IsTrue (is_absence ((front ++ encode_utf8_all rest) ++ more)) in
    let off : IsTrue false = subst P (ap encode is ∙ encode_ascii 60 (lit< tt)) t in
    cc

-- the text of these lines does not begin so
abbrev Begins : List Line → Type 0
Begins lines = IsPresent (encode_utf8_all (concat (map written lines)))

-- lines before others
lines_begin : {X : Type 0} → (line : X → Line) (xs : List X) (rest : List Line) → ((x : X) (more : List ℕ) → take 1 (written (line x) ++ more) ≡ 60 ∷ []) → Begins rest → Begins (map line xs ++ rest)
lines_begin line [] rest here later = later
lines_begin line (x ∷ xs) rest here later =
    angle_present (written (line x) ++ concat (map written (map line xs ++ rest))) (here x (concat (map written (map line xs ++ rest))))

lists_begin : (lists : List AttributesOf) → Begins (flat_map list_lines lists)
lists_begin [] t = let off : IsTrue false = t in cc
lists_begin (l ∷ ls) t = lines_begin _ l.1 (flat_map list_lines ls) (λ e more. refl) (lists_begin ls) t

flat_begins : (set : Declarations) → Begins (lines_of set)
unfolding lines_of
flat_begins set =
    lines_begin _ set.notations _ (λ n more. refl)
    (lines_begin _ set.entities _ (λ e more. refl)
    (lines_begin _ set.elements _ (λ e more. refl) (lists_begin set.lists)))

size_present : (long : Bool) (wanted : ℕ) (text : List ℕ) (status : ℕ) (bytes : List ℕ) → IsPresent text → fitting_by long wanted text status bytes → IsPresent bytes
size_present true wanted text status bytes there over = same_present bytes (line_of output_over) over.1 over_present
size_present false wanted text status bytes there over = same_present bytes text over.1 there

-- ---- answers

counted_present : (set : Declarations) → IsPresent (count_lines set)
unfolding count_lines
counted_present set t = let off : IsTrue false = t in cc

-- counts are no line of an absent module
pub counts_present : (set : Declarations) (status : ℕ) (bytes : List ℕ) → answering 0 (count_lines set) status bytes → IsPresent bytes
counts_present set status bytes answers = same_present bytes (count_lines set) answers.1 (counted_present set)

-- nor is a flat text
pub flat_present : (set : Declarations) (status : ℕ) (bytes : List ℕ) → fitting 0 (encode_utf8_all (flat_text set)) status bytes → IsPresent bytes
flat_present set status bytes over = size_present (nat_lt most_written (length (encode_utf8_all (flat_text set)))) 0 (encode_utf8_all (flat_text set)) status bytes (flat_begins set) over

-- nor is what is said of an article
pub judged_present : (faults : List Invalid) (status : ℕ) (bytes : List ℕ) → judged faults status bytes → IsPresent bytes
judged_present [] status bytes over = same_present bytes valid_line over.1 (λ t. let off : IsTrue false = t in cc)
judged_present (fault ∷ faults) status bytes over =
    size_present (nat_lt most_written (length (fault_lines (fault ∷ faults)))) 1 (fault_lines (fault ∷ faults)) status bytes (λ t. let off : IsTrue false = t in cc) over

-- nor is an article
pub filled_present : (set : Declarations) (node : Node) (status : ℕ) (bytes : List ℕ) → fitting 0 (filled_text set node) status bytes → IsPresent bytes
filled_present set node status bytes over =
    size_present (nat_lt most_written (length (filled_text set node))) 0 (filled_text set node) status bytes (angle_more (write (filled set node)) (10 ∷ []) refl) over

verdict_present : (first : Declarations) (cap : ℕ) (v : Verdict) → IsPresent (verdict_lines first cap v)
verdict_present first cap (Subset tables) t = let off : IsTrue false = t in cc
verdict_present first cap (Not article broken tables) t = let off : IsTrue false = t in cc
verdict_present first cap (Over broken tables) t = let off : IsTrue false = t in cc

answers_present : (first : Declarations) (root : List ℕ) (cap : ℕ) (result : Result Verdict CompareFault) (status : ℕ) (bytes : List ℕ) → answers first root cap result status bytes → IsPresent bytes
answers_present first root cap (Ok v) status bytes over =
    size_present (nat_lt most_written (length (verdict_lines first cap v))) (verdict_status v) (verdict_lines first cap v) status bytes (verdict_present first cap v) over
answers_present first root cap (Err compared.RootUndeclared) status bytes over = same_present bytes (line_of (root_undeclared root)) over.1 (undeclared_present root)
answers_present first root cap (Err (compared.PairsOver name)) status bytes over = same_present bytes (line_of (pairs_over name)) over.1 (pairs_present name)
answers_present first root cap (Err compared.TextOver) status bytes over = same_present bytes (line_of output_over) over.1 over_present
answers_present first root cap (Err compared.NoMemory) status bytes over = absurd over

-- nor is an answer over two sets
pub sets_present : (first second : Declarations) (root : List ℕ) (cap status : ℕ) (bytes : List ℕ) → over_sets first second root cap status bytes → IsPresent bytes
sets_present first second root cap status bytes over = answers_present first root cap over.0 status bytes over.2

differing_present : (differs : List BrokenDecl) (useful count : ℕ) → IsPresent (flat_map differs_line differs ++ count_line useful count)
differing_present [] useful count t = let off : IsTrue false = t in cc
differing_present (broken ∷ differs) useful count t = let off : IsTrue false = t in cc

telling_present : (root : List ℕ) (result : Result Report ReportFault) (status : ℕ) (bytes : List ℕ) → telling root result status bytes → IsPresent bytes
telling_present root (Ok report) status bytes over =
    size_present (nat_lt most_written (length (report_lines report))) (report_status report) (report_lines report) status bytes (differing_present report.differs report.useful (length report.differs)) over
telling_present root (Err RootUndeclared) status bytes over = same_present bytes (line_of (root_undeclared root)) over.1 (undeclared_present root)
telling_present root (Err (PairsOver name)) status bytes over = same_present bytes (line_of (pairs_over name)) over.1 (pairs_present name)
telling_present root (Err NoMemory) status bytes over = absurd over

-- nor is a report
pub reported_present : (first second : Declarations) (root : List ℕ) (status : ℕ) (bytes : List ℕ) → reported first second root status bytes → IsPresent bytes
reported_present first second root status bytes over = telling_present root over.0 status bytes over.2

-- ---- certificates

malformed_present : (name : List ℕ) (line : ℕ) → IsPresent (line_of (cert_malformed name line))
malformed_present name line t = absurd (let off : 70 ≡ 10 = absence_number (cert_malformed name line) (lit< tt) t in omega arith)

claim_present : (c : Cost) → IsPresent (claim c)
claim_present Inf t = let off : IsTrue false = t in cc
claim_present (Fin n) t = let off : IsTrue false = t in cc

checked_present : (first : Declarations) (tables : Tables) (o : Option Broken) (status : ℕ) (bytes : List ℕ) → checked first tables o status bytes → IsPresent bytes
checked_present first tables None status bytes over = same_present bytes (claim ((costs_of first tables).v tables.root)) over.1 (claim_present ((costs_of first tables).v tables.root))
checked_present first tables (Some broken) status bytes over = same_present bytes (broken_words first broken) over.1 (λ t. let off : IsTrue false = t in cc)

-- nor is what is said of a certificate
pub certified_present : (first second : Declarations) (name : List ℕ) (read : Result Tables ℕ) (status : ℕ) (bytes : List ℕ) → certified first second name read status bytes → IsPresent bytes
certified_present first second name (Err line) status bytes over = same_present bytes (line_of (cert_malformed name line)) over.1 (malformed_present name line)
certified_present first second name (Ok tables) status bytes over = checked_present first tables (first_broken first second tables) status bytes over

-- ---- least articles

sized_present : (set : Declarations) (least : Least) (root : List ℕ) (n : ℕ) (within : Bool) (status : ℕ) (bytes : List ℕ) → sized set least root n within status bytes → IsPresent bytes
sized_present set least root n false status bytes over = same_present bytes (above_line least.cap) over.1 (λ t. let off : IsTrue false = t in cc)
sized_present set least root n true status bytes over =
    size_present (nat_lt most_written (length (least_text n over.0))) 0 (least_text n over.0) status bytes (λ t. let off : IsTrue false = t in cc) over.2

by_size_present : (set : Declarations) (least : Least) (root : List ℕ) (c : Cost) (status : ℕ) (bytes : List ℕ) → by_size set least root c status bytes → IsPresent bytes
by_size_present set least root Inf status bytes over = same_present bytes none_line over.1 (λ t. let off : IsTrue false = t in cc)
by_size_present set least root (Fin n) status bytes over = sized_present set least root n (nat_le n least.cap) status bytes over

least_from_present : (set : Declarations) (root : List ℕ) (cap : ℕ) (o : Option Content) (status : ℕ) (bytes : List ℕ) → least_from set root cap o status bytes → IsPresent bytes
least_from_present set root cap None status bytes over = same_present bytes (line_of (root_undeclared root)) over.1 (undeclared_present root)
least_from_present set root cap (Some content) status bytes over = by_size_present set over.0 root (m_of set over.0 root) status bytes over.3

-- nor is a least article
pub least_present : (root : List ℕ) (cap : ℕ) (set : Declarations) (status : ℕ) (bytes : List ℕ) → least_in root cap set status bytes → IsPresent bytes
least_present root cap set status bytes over = least_from_present set root cap (content_in set root) status bytes over

-- nor are the lines of generated work
pub work_present : (count : ℕ) (status : ℕ) (bytes : List ℕ) → answering 0 (work_lines count) status bytes → IsPresent bytes
work_present count status bytes over = same_present bytes (work_lines count) over.1 (λ t. let off : IsTrue false = t in cc)
