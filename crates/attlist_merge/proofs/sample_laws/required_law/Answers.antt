use Rattle.attlist_merge.proofs.Samples.{required_right, required_of_chars, required_named}
use Rattle.attlist_merge.proofs.sample_laws.required_law.Goals as goal

pub returns : goal.returns
returns c = record { right = required_right; chars = required_of_chars; named = required_named }
