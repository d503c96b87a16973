use Rattle.std.proofs.Common.{◌+◌, ◌∙◌, false, length, drop, Ok, Err, arith, sym, ap, subst, add-zero, length-drop, length-take-le}
use Rattle.std.specs.Prelude.{List, ℕ, ◌==◌}
use Rattle.jats_chars.specs.Decoded as spec
use Rattle.jats_chars.specs.declared.decoding.DecodeFault.{DecodeFault}
use Rattle.bstr.specs.Utf8.{pieces}
use Rattle.jats_chars.proofs.Ends.{lined-ended, behind-nil, behind, ended}
use Rattle.jats_chars.proofs.Pieces.{from_here, here-done, here-step, here-fault, here-run}
use Rattle.jats_chars.proofs.decoding.read_chars.Goals as goal

pub loop-at-init : goal.loop-at-init
loop-at-init c = record { within = omega arith; len = omega (arith, c.in_ok-chars.ensures.len); room = c.in_ok-chars.ensures.exact; so_far = rw (c.in_ok-chars.ensures.items, add-zero) (lined-ended _ ∙ sym (behind-nil _)) }

pub returns-in-Err : goal.returns-in-Err
returns-in-Err c =
    let A : DecodeFault → Type 0 = λ f. spec.Answers (spec.lined (spec.chars_of c.args.start (pieces c.args.bytes.now))) (Err f) in
    subst A (sym c.in-Err.ensures.found.0)
    (here-fault c.args.start c.loop-at.at c.args.bytes.now c.loop-at.chars.items c.loop-at.after_cr c.rest_of-rest.result.now _ c.rest_of-rest.ensures c.loop-at-test.true c.in-Err.ensures.found.1 c.loop-at.invariant.so_far)

pub loop-at-preserved : goal.loop-at-preserved
loop-at-preserved c = record {
  within = omega (arith, c.in-Ok.ensures.size.1, ap length c.rest_of-rest.ensures, length-drop c.loop-at.at c.args.bytes.now);
  len = omega (arith, c.put.ensures.len, c.in-Ok.ensures.size.0);
  room = c.put.ensures.capacity ∙ c.loop-at.invariant.room;
  so_far =
      c.loop-at.invariant.so_far
      ∙ here-step c.args.start c.loop-at.at c.args.bytes.now c.loop-at.chars.items c.loop-at.after_cr c.rest_of-rest.result.now c.in-Ok.found.0 c.in-Ok.found.1 c.rest_of-rest.ensures c.loop-at-test.true c.in-Ok.ensures.found.0 c.in-Ok.ensures.found.1 c.in-Ok.ensures.found.2
      ∙ ap (λ (xs : List ℕ). behind xs (ended (c.in-Ok.found.0 == 0xD) (spec.chars_of (c.args.start + (c.loop-at.at + c.in-Ok.found.1)) (pieces (drop (c.loop-at.at + c.in-Ok.found.1) c.args.bytes.now))))) (sym c.put.ensures.items);
}

pub loop-at-preserved-then-run-gt0 : goal.loop-at-preserved-then-run-gt0
loop-at-preserved-then-run-gt0 c = record {
  within = omega (arith, c.plain_len-run.ensures.within, ap length c.rest_of-rest.ensures, length-drop c.loop-at.at c.args.bytes.now);
  len = omega (arith, c.put_plain.ensures.len, length-take-le c.plain_len-run.result c.rest_of-rest.result.now c.plain_len-run.ensures.within);
  room = c.put_plain.ensures.capacity ∙ c.loop-at.invariant.room;
  so_far =
      c.loop-at.invariant.so_far
      ∙ here-run c.args.start c.loop-at.at c.args.bytes.now c.loop-at.chars.items c.loop-at.after_cr c.rest_of-rest.result.now c.plain_len-run.result c.rest_of-rest.ensures c.if-run-gt0.true c.plain_len-run.ensures.within c.plain_len-run.ensures.plain
      ∙ ap (λ (xs : List ℕ). from_here c.args.start (c.loop-at.at + c.plain_len-run.result) c.args.bytes.now xs false) (sym c.put_plain.ensures.items);
}

pub returns : goal.returns
returns c = c.loop-at.invariant.so_far ∙ here-done c.args.start c.loop-at.at c.args.bytes.now c.loop-at.chars.items c.loop-at.after_cr c.loop-at-test.false ∙ ap Ok (sym c.from_vec.ensures)
