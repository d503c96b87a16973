use Rattle.std.proofs.Common.{◌∙◌, ap}
use Rattle.tagset_report.specs.Finite.{live_of}
use Rattle.tagset_report.proofs.Lively.{live_result}
use Rattle.tagset_report.proofs.live.live_names.Goals as goal

pub returns : goal.returns
returns c =
    live_result c.args.set.now c.args.least.now c.count.ensures.kept c.requires c.in_ok-names.names
    (c.in_ok-names.ensures ∙ ap (live_of c.args.set.now.elements) c.as_slice.ensures) c.new.result c.new.ensures
