use Rattle.std.proofs.Common.{◌≡◌, ◌-◌, ◌+◌, ◌∙◌, ap, refl, subst, arith, length, drop, true, Some}
use Rattle.std.specs.List.{list_all}
use Rattle.std.proofs.lemmas.Option.{slice_get_read}
use Rattle.bound_checker.proofs.Certificates.{is_solid}
use Rattle.bound_checker.proofs.Cutting.{split_here, no_split}
use Rattle.bound_checker.proofs.words.split.Goals as goal

pub returns-then-words-end-eq32 : goal.returns-then-words-end-eq32
returns-then-words-end-eq32 c =
    let within = c.loop-end.invariant.0 in
    let e : c.loop-end.end ≡ c.loop-end.end - 1 + 1 = omega (arith, c.loop-end-test.true) in
    split_here c.args.words.now (c.loop-end.end - 1)
    (slice_get_read c.args.words.now (length c.args.words.now) (c.loop-end.end - 1) c.index-words-end.result refl (omega (arith, within, c.loop-end-test.true)) c.index-words-end.is ∙ ap Some c.if-words-end-eq32.true)
    (subst (λ k. list_all is_solid (drop k c.args.words.now) ≡ true) e c.loop-end.invariant.1)

pub returns : goal.returns
returns c = no_split c.args.words.now c.loop-end.end c.loop-end-test.false c.loop-end.invariant.1
