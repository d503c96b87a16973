use Rattle.std.proofs.Common.{◌≡◌, ◌++◌, ◌∷◌, [], Some, false, sym, ap, ◌∙◌, subst}
use Rattle.std.specs.Prelude.{option_and_then}
use Rattle.std.proofs.lemmas.List.{nil_from_length}
use Rattle.std.specs.List.{list_all}
use Rattle.jats_chars.specs.Names.{is_name}
use Rattle.text_fronts.specs.Fronts.{word}
use Rattle.attribute_types.proofs.Words.{name_is_nmtoken}
use Rattle.attlist_merge.specs.Reading.{as_notation}
use Rattle.attlist_merge.proofs.Tokens.{tokens_end, tokens_close, tokens_stop, tokens_next}
use Rattle.attlist_merge.proofs.Named.{IsReadAs, named, names_more, no_name}
use Rattle.attlist_merge.proofs.parse.read_names.Goals as goal

pub returns-in_default-clause-value : goal.returns-in_default-clause-value
returns-in_default-clause-value c =
    let token = c.word.result.0.now in
    let none : is_name token ≡ false = subst (IsReadAs token) c.in_default.is c.in_ok-name.ensures in
    sym (no_name _ c.loop-names.names c.loop-names.rest.now (ap is_name (sym (c.word.ensures.word ∙ ap word c.skipped.ensures.value)) ∙ none)) ∙ ap (option_and_then as_notation) c.loop-names.invariant.value

pub returns-in-None-clause-value : goal.returns-in-None-clause-value
returns-in-None-clause-value c =
    let token = c.word.result.0.now in
    let name = subst (IsReadAs token) c.in-Some.is c.in_ok-name.ensures in
    ap (option_and_then as_notation) (sym (tokens_end c.args.text.now c.loop-names.names c.loop-names.rest.now c.skipped.result.now token c.word.result.1.now c.skipped-in-loop-names.result.now c.loop-names.invariant.few c.skipped.ensures.value c.skipped.ensures.within c.word.ensures.word c.word.ensures.rest c.word.ensures.within (name_is_nmtoken token name.1) c.skipped-in-loop-names.ensures.value (nil_from_length c.skipped-in-loop-names.result.now c.in-None.ensures.cases)) ∙ c.loop-names.invariant.value)

pub returns-then-c-eq41-clause-value : goal.returns-then-c-eq41-clause-value
returns-then-c-eq41-clause-value c =
    let token = c.word.result.0.now in
    let name = subst (IsReadAs token) c.in-Some.is c.in_ok-name.ensures in
    let pushed : c.push.new.self ≡ c.loop-names.names ++ token ∷ [] = c.in_ok-push.ensures.ok ∙ ap (λ k. c.loop-names.names ++ k ∷ []) name.0 in
    let names = ap (list_all is_name) pushed ∙ names_more c.loop-names.names token c.loop-names.invariant.named name.1 in
    sym (named c.push.new.self c.in-Some-split_first.after.now names)
    ∙ ap (option_and_then as_notation) (ap (λ k. Some (k, c.in-Some-split_first.after.now)) pushed
    ∙ sym (tokens_close c.args.text.now c.loop-names.names c.loop-names.rest.now c.skipped.result.now token c.word.result.1.now c.skipped-in-loop-names.result.now c.loop-names.invariant.few c.skipped.ensures.value c.skipped.ensures.within c.word.ensures.word c.word.ensures.rest c.word.ensures.within (name_is_nmtoken token name.1) c.skipped-in-loop-names.ensures.value c.in-Some-split_first.c.now c.in-Some-split_first.after.now c.in-Some-split_first.ensures.cases.0 c.if-c-eq41.true)
    ∙ c.loop-names.invariant.value)

pub returns-then-c-ne124-clause-value : goal.returns-then-c-ne124-clause-value
returns-then-c-ne124-clause-value c =
    let token = c.word.result.0.now in
    let name = subst (IsReadAs token) c.in-Some.is c.in_ok-name.ensures in
    ap (option_and_then as_notation) (sym (tokens_stop c.args.text.now c.loop-names.names c.loop-names.rest.now c.skipped.result.now token c.word.result.1.now c.skipped-in-loop-names.result.now c.loop-names.invariant.few c.skipped.ensures.value c.skipped.ensures.within c.word.ensures.word c.word.ensures.rest c.word.ensures.within (name_is_nmtoken token name.1) c.skipped-in-loop-names.ensures.value c.in-Some-split_first.c.now c.in-Some-split_first.after.now c.in-Some-split_first.ensures.cases.0 c.if-c-eq41.false c.if-c-ne124.true)
    ∙ c.loop-names.invariant.value)

pub loop-names-preserved : goal.loop-names-preserved
loop-names-preserved c =
    let token = c.word.result.0.now in
    let name = subst (IsReadAs token) c.in-Some.is c.in_ok-name.ensures in
    let pushed : c.push.new.self ≡ c.loop-names.names ++ token ∷ [] = c.in_ok-push.ensures.ok ∙ ap (λ k. c.loop-names.names ++ k ∷ []) name.0 in
    let names = ap (list_all is_name) pushed ∙ names_more c.loop-names.names token c.loop-names.invariant.named name.1 in
    let next = tokens_next c.args.text.now c.loop-names.names c.loop-names.rest.now c.skipped.result.now token c.word.result.1.now c.skipped-in-loop-names.result.now c.loop-names.invariant.few c.skipped.ensures.value c.skipped.ensures.within c.word.ensures.word c.word.ensures.rest c.word.ensures.within (name_is_nmtoken token name.1) c.skipped-in-loop-names.ensures.value c.in-Some-split_first.c.now c.in-Some-split_first.after.now c.push.new.self c.in-Some-split_first.ensures.cases.0 c.if-c-eq41.false c.if-c-ne124.false pushed in
    record { few = next.0; named = names; value = next.1 ∙ c.loop-names.invariant.value }
