use Rattle.std.proofs.Common.{rules, tests, ◌∙◌, sym, ap, map}
use Rattle.std.proofs.lemmas.List.{map-append}
use Rattle.std.proofs.lemmas.Iterator.Splits.{YieldsList-from_slice_split}
use Rattle.entity_catalog.specs.Join.{is_slash, kept_of}
use Rattle.entity_catalog.proofs.Kept.{kept_of-push, kept_of-stopped}
use Rattle.entity_catalog.proofs.Yielded.{stands_at, ends_at}
use Rattle.entity_catalog.proofs.paths.kept_parts.Goals as goal

pub returns-then-not-branch : goal.returns-then-not-branch
returns-then-not-branch c =
    kept_of-stopped
    (stands_at c.loop-part.yielded c.loop-part.part-iterator c.loop-part.yielded_by c.next.result c.next.new.self c.in-Some.part c.in-Some.is c.next.ensures.steps
    (YieldsList-from_slice_split _ is_slash c.args.path.now (search rules) (search rules) (search rules) (λ x r q k. search (rules, tests))))
    c.loop-part.invariant.2 (rw c.if-not-branch.true at c.in_ok-keep.ensures)

pub loop-part-preserved : goal.loop-part-preserved
loop-part-preserved c = (
  search rules,
  tt,
  rw map-append (kept_of-push (map (λ x. x.now) c.loop-part.yielded) c.in-Some.part.now _ c.loop-part.invariant.2 ∙ (rw c.if-not-branch.false at c.in_ok-keep.ensures)),
)

pub returns : goal.returns
returns c =
    sym c.loop-part.invariant.2
    ∙ ap kept_of
    (ends_at c.loop-part.yielded c.loop-part.part-iterator c.loop-part.yielded_by c.next.result c.next.new.self c.in-None.is c.next.ensures.steps
    (YieldsList-from_slice_split _ is_slash c.args.path.now (search rules) (search rules) (search rules) (λ x r q k. search (rules, tests))))
