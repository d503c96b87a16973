use Rattle.module_reader.proofs.Contents.{contents_read}
use Rattle.module_reader.proofs.laws.content_law.Goals as goal

pub returns : goal.returns
returns c = contents_read
