use Rattle.std.proofs.Common.{◌≡◌, ◌++◌, ◌∷◌, [], Some, true, sym, ap, ◌∙◌}
use Rattle.std.proofs.lemmas.List.{nil_from_length}
use Rattle.jats_chars.specs.Names.{is_nmtoken}
use Rattle.attlist_merge.proofs.Tokens.{tokens_end, tokens_close, tokens_stop, tokens_next}
use Rattle.attlist_merge.proofs.parse.read_tokens.Goals as goal

pub returns-in-None-clause-value : goal.returns-in-None-clause-value
returns-in-None-clause-value c =
    let token = c.word.result.0.now in
    let nmtoken : is_nmtoken token ≡ true = sym c.is_nmtoken_slice.ensures ∙ c.if-not-is_nmtoken_slice.false in
    sym (tokens_end c.args.text.now c.loop-token.tokens c.loop-token.rest.now c.skipped.result.now token c.word.result.1.now c.skipped-in-loop-token.result.now c.loop-token.invariant.few c.skipped.ensures.value c.skipped.ensures.within c.word.ensures.word c.word.ensures.rest c.word.ensures.within nmtoken c.skipped-in-loop-token.ensures.value (nil_from_length c.skipped-in-loop-token.result.now c.in-None.ensures.cases)) ∙ c.loop-token.invariant.value

pub returns-then-c-eq41-clause-value : goal.returns-then-c-eq41-clause-value
returns-then-c-eq41-clause-value c =
    let token = c.word.result.0.now in
    let nmtoken : is_nmtoken token ≡ true = sym c.is_nmtoken_slice.ensures ∙ c.if-not-is_nmtoken_slice.false in
    let copied : c.in_ok-from_slice.field-0 ≡ token = c.in_ok-from_slice.ensures in
    let pushed : c.push.new.self ≡ c.loop-token.tokens ++ token ∷ [] = c.in_ok-push.ensures.ok ∙ ap (λ k. c.loop-token.tokens ++ k ∷ []) copied in
    ap (λ k. Some (k, c.in-Some.after.now)) pushed
    ∙ sym (tokens_close c.args.text.now c.loop-token.tokens c.loop-token.rest.now c.skipped.result.now token c.word.result.1.now c.skipped-in-loop-token.result.now c.loop-token.invariant.few c.skipped.ensures.value c.skipped.ensures.within c.word.ensures.word c.word.ensures.rest c.word.ensures.within nmtoken c.skipped-in-loop-token.ensures.value c.in-Some.c.now c.in-Some.after.now c.in-Some.ensures.cases.0 c.if-c-eq41.true)
    ∙ c.loop-token.invariant.value

pub returns-then-c-ne124-clause-value : goal.returns-then-c-ne124-clause-value
returns-then-c-ne124-clause-value c =
    let token = c.word.result.0.now in
    let nmtoken : is_nmtoken token ≡ true = sym c.is_nmtoken_slice.ensures ∙ c.if-not-is_nmtoken_slice.false in
    sym (tokens_stop c.args.text.now c.loop-token.tokens c.loop-token.rest.now c.skipped.result.now token c.word.result.1.now c.skipped-in-loop-token.result.now c.loop-token.invariant.few c.skipped.ensures.value c.skipped.ensures.within c.word.ensures.word c.word.ensures.rest c.word.ensures.within nmtoken c.skipped-in-loop-token.ensures.value c.in-Some.c.now c.in-Some.after.now c.in-Some.ensures.cases.0 c.if-c-eq41.false c.if-c-ne124.true)
    ∙ c.loop-token.invariant.value

pub loop-token-preserved : goal.loop-token-preserved
loop-token-preserved c =
    let token = c.word.result.0.now in
    let nmtoken : is_nmtoken token ≡ true = sym c.is_nmtoken_slice.ensures ∙ c.if-not-is_nmtoken_slice.false in
    let copied : c.in_ok-from_slice.field-0 ≡ token = c.in_ok-from_slice.ensures in
    let pushed : c.push.new.self ≡ c.loop-token.tokens ++ token ∷ [] = c.in_ok-push.ensures.ok ∙ ap (λ k. c.loop-token.tokens ++ k ∷ []) copied in
    let next = tokens_next c.args.text.now c.loop-token.tokens c.loop-token.rest.now c.skipped.result.now token c.word.result.1.now c.skipped-in-loop-token.result.now c.loop-token.invariant.few c.skipped.ensures.value c.skipped.ensures.within c.word.ensures.word c.word.ensures.rest c.word.ensures.within nmtoken c.skipped-in-loop-token.ensures.value c.in-Some.c.now c.in-Some.after.now c.push.new.self c.in-Some.ensures.cases.0 c.if-c-eq41.false c.if-c-ne124.false pushed in
    record { few = next.0; value = next.1 ∙ c.loop-token.invariant.value }
