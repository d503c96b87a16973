use Rattle.std.proofs.Common.{arith}
use Rattle.article_tree.specs.Works.{work_of}
use Rattle.article_tree.proofs.RunsPut.{run_advances}
use Rattle.article_tree.proofs.reading.turn_inside.Goals as goal

pub returns-then-len-gt0 : goal.returns-then-len-gt0
returns-then-len-gt0 c = λ typed.
    let back = c.split_at.ensures.back in
    run_advances c.args.set.now.entities (work_of c.args.held.now typed c.args.frame.now c.args.waiting.now) c.put_chars.new.held c.run_len-len.result c.split_at-then-len-gt0.result.0.now c.requires.inside
    (let t = c.if-len-gt0.true in omega (arith, t)) (rw back at c.run_len-len.ensures.value) (rw back at c.run_len-len.ensures.within) (rw back at c.split_at-then-len-gt0.ensures.front)
    (rw c.is_white.ensures at c.in_ok-put_chars.ensures.state) (rw c.in_ok-put_chars.ensures.items c.requires.apart)
