use Rattle.attribute_types.proofs.OfChars.{class_of_chars, sample_of_chars, uncovered_of_chars}
use Rattle.attribute_types.proofs.laws.chars_law.Goals as goal

pub returns : goal.returns
returns c = record { class = class_of_chars; sample = sample_of_chars; uncovered = uncovered_of_chars }
