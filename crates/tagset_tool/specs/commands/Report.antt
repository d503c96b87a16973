-- report: the useful elements of the first set that break in the second, each with its first cause.
use Rattle.std.specs.Prelude.{ℕ, ◌==◌, List, [], ◌∷◌, ◌++◌, length, Result, Ok, Err, codes, encode_utf8_all, if◌then◌else◌}
use Rattle.std.specs.Fmt.{decimal}
use Rattle.std.specs.List.{flat_map}
use Rattle.decl_set.specs.Declarations.{Declarations}
use Rattle.decl_set.specs.declared.breaks.BrokenDecl.{BrokenDecl}
use Rattle.module_reader.specs.Sources.{Files}
use Rattle.tagset_report.specs.Reported.{Reports}
use Rattle.tagset_report.specs.declared.fault.ReportFault.{ReportFault}
use Rattle.tagset_report.specs.declared.fault.ReportFault.TheVariants.{RootUndeclared, PairsOver, NoMemory}
use Rattle.tagset_report.specs.declared.outcome.Report.{Report}
use Rattle.tagset_tool.specs.Outcomes.{Outcome, after, fitting, refusing}
use Rattle.tagset_tool.specs.Refusals.{pairs_over, root_undeclared}
use Rattle.tagset_tool.specs.Words.{SetWords, both_by}
use Rattle.tagset_tool.specs.commands.Compare.{cause_name}

-- an element that breaks, with its cause
abbrev pub differs_line : BrokenDecl → List ℕ
differs_line broken = codes "differs " ++ (encode_utf8_all broken.element ++ (codes " " ++ (cause_name broken.cause ++ 10 ∷ [])))

-- how many elements are useful, and how many of them break
abbrev pub count_line : ℕ → ℕ → List ℕ
count_line useful differs = codes "useful " ++ (decimal useful ++ (codes " differs " ++ (decimal differs ++ 10 ∷ [])))

abbrev pub report_lines : Report → List ℕ
report_lines report = flat_map differs_line report.differs ++ count_line report.useful (length report.differs)

-- 0 where none breaks
abbrev pub report_status : Report → ℕ
report_status report = if length report.differs == 0 then 0 else 1

-- the refusal where there is no report
abbrev pub unreported : List ℕ → ReportFault → Outcome
unreported root RootUndeclared status bytes = refusing (root_undeclared root) status bytes
unreported root (PairsOver name) status bytes = refusing (pairs_over name) status bytes
unreported root NoMemory status bytes = ⊥

abbrev pub telling : List ℕ → Result Report ReportFault → Outcome
telling root (Ok report) status bytes = fitting (report_status report) (report_lines report) status bytes
telling root (Err fault) status bytes = unreported root fault status bytes

-- over two sets
abbrev pub reported : Declarations → Declarations → List ℕ → Outcome
reported first second root status bytes = (result : Result Report ReportFault) × Reports first second root result × telling root result status bytes

abbrev pub reports : Files → SetWords → SetWords → List ℕ → Outcome
reports files one other root = after (both_by files one other) (λ sets. reported sets.0 sets.1 root)
