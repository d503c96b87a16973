use Rattle.bound_checker.proofs.Certificates.{printed_back, printed_found}
use Rattle.bound_checker.proofs.Certified.{read_fits}
use Rattle.bound_checker.proofs.Lined.{text_back, text_found}
use Rattle.bound_checker.proofs.Numbered.{fault_is_line}
use Rattle.bound_checker.proofs.laws.certificate_law.Goals as goal

pub returns : goal.returns
returns c = record {
  printed = printed_back;
  text = text_back;
  found = printed_found;
  between = text_found;
  read = read_fits;
  fault = fault_is_line;
}
