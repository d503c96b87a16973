-- Answers over two sets.
use Rattle.std.proofs.Common.{◌≡◌, ◌∙◌, ℕ, false, List, Some, None, Ok, Err, IfOk, refl, sym, ap, true≢false}
use Rattle.std.specs.Prelude.{Option, Result}
use Rattle.jats_chars.specs.Names.{is_name}
use Rattle.jats_chars.specs.declared.NoMemory.{NoMemory as OutOfMemory}
use Rattle.content_models.specs.declared.content.Content.{Content}
use Rattle.decl_set.specs.Declarations.{Declarations, content_in}
use Rattle.decl_set.specs.Asked.{IsKept}
use Rattle.decl_set.proofs.Found.{element_is}
use Rattle.bound_checker.specs.Tabled.{costs_of}
use Rattle.tagset_report.specs.Reported.{Reports}
use Rattle.tagset_report.specs.declared.fault.ReportFault.{ReportFault}
use Rattle.tagset_report.specs.declared.outcome.Report.{Report}
use Rattle.tagset_compare.specs.Compared.{Compares}
use Rattle.tagset_compare.specs.Verdicts.{bound_in, tables_in}
use Rattle.tagset_compare.specs.declared.fault.CompareFault.{CompareFault}
use Rattle.tagset_compare.specs.declared.outcome.Verdict.{Verdict}
use Rattle.tagset_compare.specs.declared.outcome.Verdict.TheVariants.{Subset, Not, Over}
use Rattle.tagset_compare.proofs.Telling.{bound_is_told}
use Rattle.tagset_tool.specs.Outcomes.{fitting, most_written}
use Rattle.tagset_tool.specs.commands.Compare.{over_sets, uncompared, verdict_lines, verdict_status}
use Rattle.tagset_tool.specs.commands.Report.{report_lines, report_status, reported, unreported}
use Rattle.tagset_tool.specs.declared.answer.Answer.{Answer}

-- what is no Name is not declared
pub unnamed : (set : Declarations) (root : List ℕ) → IsKept set → is_name root ≡ false → content_in set root ≡ None
unnamed set root kept off = by (content_in set root) refl
  where
    by : (o : Option Content) → content_in set root ≡ o → content_in set root ≡ None
    by None found = found
    by (Some a) found = absurd (true≢false (sym (element_is set root a kept found).named ∙ off))

-- an answer that tells a report
pub report_told : (first second : Declarations) (root : List ℕ) (report : Report) (result : Result Answer OutOfMemory) → Reports first second root (Ok report)
    → IfOk result (λ a. fitting (report_status report) (report_lines report) a.status a.bytes.items) → IfOk result (λ a. reported first second root a.status a.bytes.items)
report_told first second root report (Ok a) is fits = (Ok report, is, fits)
report_told first second root report (Err e) is fits = tt

pub report_stopped : (first second : Declarations) (root : List ℕ) (fault : ReportFault) (result : Result Answer OutOfMemory) → Reports first second root (Err fault)
    → IfOk result (λ a. unreported root fault a.status a.bytes.items) → IfOk result (λ a. reported first second root a.status a.bytes.items)
report_stopped first second root fault (Ok a) is told = (Err fault, is, told)
report_stopped first second root fault (Err e) is told = tt

module _ (first second : Declarations) (root : List ℕ) (cap : ℕ) where
  -- one that tells a verdict
  pub verdict_told : (verdict : Verdict) (result : Result Answer OutOfMemory) → Compares first second root cap most_written (Ok verdict)
      → IfOk result (λ a. fitting (verdict_status verdict) (verdict_lines first cap verdict) a.status a.bytes.items) → IfOk result (λ a. over_sets first second root cap a.status a.bytes.items)
  verdict_told verdict (Ok a) is fits = (Ok verdict, is, fits)
  verdict_told verdict (Err e) is fits = tt

  pub compare_stopped : (fault : CompareFault) (result : Result Answer OutOfMemory) → Compares first second root cap most_written (Err fault)
      → IfOk result (λ a. uncompared root fault a.status a.bytes.items) → IfOk result (λ a. over_sets first second root cap a.status a.bytes.items)
  compare_stopped fault (Ok a) is told = (Err fault, is, told)
  compare_stopped fault (Err e) is told = tt

  -- the tables of a verdict are of the root
  pub verdict_root : (verdict : Verdict) → Compares first second root cap most_written (Ok verdict) → (tables_in verdict).root ≡ root
  verdict_root (Subset tables) is = is.0.root_is
  verdict_root (Not article broken tables) is = is.0.0.root_is
  verdict_root (Over broken tables) is = is.0.0.root_is

  -- and v of their root is the bound that it tells
  pub root_bound : (verdict : Verdict) → IsKept first → IsKept second → Compares first second root cap most_written (Ok verdict)
      → (costs_of first (tables_in verdict)).v (tables_in verdict).root ≡ bound_in cap verdict
  root_bound verdict kf ks is = ap (costs_of first (tables_in verdict)).v (verdict_root verdict is) ∙ bound_is_told first second root cap most_written verdict kf ks is
