use Rattle.attlist_merge.proofs.Samples.{odd_of_chars, shown_of_chars, shown_named}
use Rattle.attlist_merge.proofs.sample_laws.shown_law.Goals as goal

pub returns : goal.returns
returns c = record { odd = odd_of_chars; chars = shown_of_chars; named = shown_named }
