use Rattle.tagset_report.proofs.Broken.{none_is_listed, one_broken}
use Rattle.tagset_report.proofs.Firsts.{documents_by_useful, first_listed}
use Rattle.tagset_report.proofs.Once.{one_report}
use Rattle.tagset_report.proofs.laws.report_law.Goals as goal

pub returns-clause-none : goal.returns-clause-none
returns-clause-none c = none_is_listed

pub returns-clause-one : goal.returns-clause-one
returns-clause-one c = one_broken

pub returns-clause-first : goal.returns-clause-first
returns-clause-first c = first_listed

pub returns-clause-documents : goal.returns-clause-documents
returns-clause-documents c = documents_by_useful

pub returns-clause-report : goal.returns-clause-report
returns-clause-report c = one_report
