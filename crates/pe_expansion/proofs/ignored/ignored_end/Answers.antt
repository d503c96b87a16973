use Rattle.std.proofs.Common.{◌≡◌, arith, false, drop, sym, nat_eq, ◌&&◌}
use Rattle.pe_expansion.specs.Ignored.{closes}
use Rattle.pe_expansion.proofs.Sections.{end_goes_on}
use Rattle.pe_expansion.proofs.ignored.ignored_end.Goals as goal

pub loop-place-preserved : goal.loop-place-preserved
loop-place-preserved c =
    let text = c.as_slice-text.result.now in
    let place = c.loop-place.place in
    let depth = c.loop-place.depth in
    let goes : (nat_eq depth 0 && closes (drop place text)) ≡ false = rw (sym c.split_at.ensures.back) (rw c.if-ends.false at (sym c.ends.ensures.value)) in
    record {
      found = rw (c.depth_after-depth.ensures.value, c.split_at.ensures.back) (end_goes_on text c.args.at place depth c.loop-place-test.true goes c.loop-place.invariant.found);
      shallow = omega (arith, c.depth_after-depth.ensures.small, c.loop-place.invariant.shallow);
    }
