use Rattle.dtd_flattener.proofs.Assembly.{reads_back, reads_back_as_file}
use Rattle.dtd_flattener.proofs.laws.flat_law.Goals as goal

pub returns : goal.returns
returns c = record { text = reads_back; file = reads_back_as_file }
