use Rattle.std.proofs.Common.{◌≡◌, length}
use Rattle.std.specs.List.{list_all}
use Rattle.jats_chars.specs.Names.{is_nmtoken}
use Rattle.attribute_types.specs.Spacing.{words_in}
use Rattle.attribute_types.proofs.spacing.are_nmtokens.Given as goal

abbrev pub invariant-loop-word : goal.invariant-loop-word
invariant-loop-word l = list_all is_nmtoken (words_in l.rest) ≡ list_all is_nmtoken (words_in l.fn.text)

abbrev pub decreases-loop-word : goal.decreases-loop-word
decreases-loop-word l = length l.rest
