use Rattle.std.proofs.Common.{◌≡◌, ◌<◌, length, Some, false, sym, ap, ◌∙◌, subst}
use Rattle.std.specs.Prelude.{option_map, IfSome}
use Rattle.std.specs.List.{list_all}
use Rattle.jats_chars.specs.Classes.{is_space}
use Rattle.attlist_merge.specs.Reading.{read_definition}
use Rattle.attlist_merge.proofs.Tokens.{definitions_next}
use Rattle.attlist_merge.proofs.parse.read_definitions.Goals as goal

pub loop-rest-preserved : goal.loop-rest-preserved
loop-rest-preserved c =
    let rest = c.loop-rest.rest.now in
    let blank : list_all is_space rest ≡ false = sym c.is_blank.ensures ∙ c.loop-rest-test.true in
    let read : read_definition rest ≡ Some (c.in-Some.att, c.in-Some.after.now) =
    sym c.in_ok-read_definition.ensures.value ∙ ap (option_map (λ x. (x.0, x.1.now))) c.in-Some.is in
    let less : length c.in-Some.after.now < length rest =
    subst (λ o. IfSome o (λ x. length x.1.now < length rest)) c.in-Some.is c.in_ok-read_definition.ensures.within in
    let next = definitions_next c.args.text.now c.loop-rest.atts c.push.new.self rest c.in-Some.after.now c.in-Some.att c.loop-rest.invariant.few blank read less c.in_ok-push-in-Some.ensures.ok in
    record { few = next.0; value = next.1 ∙ c.loop-rest.invariant.value }
