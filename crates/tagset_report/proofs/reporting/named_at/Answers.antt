use Rattle.std.proofs.Common.{◌∙◌, refl, slice_get}
use Rattle.tagset_report.proofs.Gathering.{content_there, both_named, not_named}
use Rattle.tagset_report.proofs.reporting.named_at.Goals as goal

pub returns-in-None-automaton_of : goal.returns-in-None-automaton_of
returns-in-None-automaton_of c =
    let o = slice_get c.args.set.now.elements c.args.e in
    let there = content_there c.args.set.now c.count.ensures.kept c.args.e c.in-Some.name.now o refl c.in-Some.ensures in
    absurd (not_named o c.in-Some.name.now c.in-Some.ensures (c.in-None-automaton_of.ensures ∙ there))

pub returns-in-Some-automaton_of : goal.returns-in-Some-automaton_of
returns-in-Some-automaton_of c =
    let o = slice_get c.args.set.now.elements c.args.e in
    let there = content_there c.args.set.now c.count.ensures.kept c.args.e c.in-Some.name.now o refl c.in-Some.ensures in
    both_named o c.in-Some.name.now c.in-Some-automaton_of.automaton.now c.in-Some.ensures (c.in-Some-automaton_of.ensures ∙ there)
