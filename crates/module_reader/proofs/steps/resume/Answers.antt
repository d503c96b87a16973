use Rattle.std.proofs.Common.{◌≡◌, ◌∙◌, ap, arith, length, take}
use Rattle.module_reader.specs.Frames.{IsSound, left_of, size_of}
use Rattle.module_reader.proofs.Staying.{there_pop}
use Rattle.module_reader.proofs.Works.{pop_left, pop_names, pop_size, done_left}
use Rattle.module_reader.proofs.steps.resume.Goals as goal

pub returns-in-None-clause-turns : goal.returns-in-None-clause-turns
unfolding left_of
returns-in-None-clause-turns c = λ source.
    let w = c.args.work.now in
    done_left source w.state w.names w.frame w.waiting.items c.requires.over.0 (omega (arith, w.waiting.ok.0, c.in-None.ensures.cases.0)) c.requires.over.1

pub returns-in-Some-clause-turns : goal.returns-in-Some-clause-turns
unfolding left_of
returns-in-Some-clause-turns c = λ source.
    let w = c.args.work.now in
    let ws = c.pop.new.self in
    let count : c.len.result ≡ length ws.items = omega (arith, c.len.ensures, ws.ok.0) in
    let names : c.truncate.new.self ≡ take (length ws.items) w.names = c.truncate.ensures ∙ ap (λ n. take n w.names) count in
    rw names (pop_left source w.state w.names w.frame w.waiting.items c.requires.over.0 ws.items c.in-Some.frame c.in-Some.ensures.items c.requires.over.1)

pub returns-in-Some-clause-nears : goal.returns-in-Some-clause-nears
unfolding IsSound size_of
returns-in-Some-clause-nears c =
    let w = c.args.work.now in
    let ws = c.pop.new.self in
    let count : c.len.result ≡ length ws.items = omega (arith, c.len.ensures, ws.ok.0) in
    let names : c.truncate.new.self ≡ take (length ws.items) w.names = c.truncate.ensures ∙ ap (λ n. take n w.names) count in
    let there = there_pop w.state ws.items c.in-Some.frame (rw c.in-Some.ensures.items at c.requires.sound.1) in (
      (there.1, there.0, c.requires.sound.2, rw names (pop_names w.names c.in-Some.frame ws.items w.waiting.items c.requires.sound.3 c.in-Some.ensures.items)),
      rw names (pop_size w.state w.names w.frame c.in-Some.frame ws.items w.waiting.items c.requires.over.0 c.in-Some.ensures.items),
    )
