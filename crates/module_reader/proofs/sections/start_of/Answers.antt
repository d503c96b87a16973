use Rattle.std.proofs.Common.{arith, ap, ◌∙◌}
use Rattle.text_fronts.specs.Fronts.{trimmed}
use Rattle.module_reader.specs.Keywords.{keyword_of}
use Rattle.module_reader.proofs.Shifting.{starts_ignored, starts_unended}
use Rattle.module_reader.proofs.sections.start_of.Goals as goal

pub returns-in-Some-clause-starts : goal.returns-in-Some-clause-starts
returns-in-Some-clause-starts c =
    starts_ignored c.args.standing.now c.args.text.now c.args.at c.args.next (trimmed c.args.word.now) (omega (arith, c.requires.0)) (c.in-Ignore.ensures ∙ ap (λ w. keyword_of (trimmed w)) c.as_slice.ensures) c.in-Some.end c.in-Some.ensures.end

pub returns-in-None-clause-starts : goal.returns-in-None-clause-starts
returns-in-None-clause-starts c =
    starts_unended c.args.standing.now c.args.text.now c.args.at c.args.next (trimmed c.args.word.now) (omega (arith, c.requires.0)) (c.in-Ignore.ensures ∙ ap (λ w. keyword_of (trimmed w)) c.as_slice.ensures) c.not_ended.result c.in-None.ensures.end c.not_ended.ensures
