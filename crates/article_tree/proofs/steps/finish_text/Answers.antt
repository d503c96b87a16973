use Rattle.std.proofs.Common.{arith}
use Rattle.article_tree.specs.Works.{work_of}
use Rattle.article_tree.proofs.Holding.{stacked_length}
use Rattle.article_tree.proofs.Stepping.{all_ends, goes_on, open_ends}
use Rattle.article_tree.proofs.steps.finish_text.Goals as goal

pub returns-in-None : goal.returns-in-None
returns-in-None c = λ entities typed. all_ends entities (work_of c.args.held.now typed c.args.frame.now c.args.waiting.now) (omega (arith, c.args.waiting.now.ok.0, c.in-None.ensures.cases.0)) c.requires.over

pub returns-then-len-frame : goal.returns-then-len-frame
returns-then-len-frame c = λ entities typed.
    open_ends entities (work_of c.args.held.now typed c.args.frame.now c.args.waiting.now) c.pop.new.self.items c.in-Some.outer c.malformed.result c.in-Some.ensures.items c.requires.over
    (let a = c.args.held.now.opens.ok.0 in let b = stacked_length c.args.held.now.opens.items in omega (arith, a, b, c.len.ensures, c.if-len-frame.true)) c.malformed.ensures

pub returns-else-len-frame : goal.returns-else-len-frame
returns-else-len-frame c = λ entities typed.
    goes_on entities (work_of c.args.held.now typed c.args.frame.now c.args.waiting.now) c.pop.new.self c.in-Some.outer c.in-Some.ensures.items c.requires.over
    (let a = c.args.held.now.opens.ok.0 in let b = stacked_length c.args.held.now.opens.items in omega (arith, a, b, c.len.ensures, c.if-len-frame.false)) c.requires.apart
