use Rattle.std.proofs.Common.{◌∙◌, List, ℕ, ap, sym, bytes_eq}
use Rattle.std.specs.List.{list_all}
use Rattle.std.specs.Prelude.{is_none}
use Rattle.jats_chars.specs.Names.{is_name}
use Rattle.attribute_types.specs.Classes.{among}
use Rattle.attribute_types.specs.Table.{uncovered}
use Rattle.attribute_types.specs.declared.classes.ValueClass.{ValueClass}
use Rattle.attribute_types.specs.declared.classes.ValueClass.TheVariants.{Tokens}
use Rattle.attribute_types.proofs.Uncovering.{none_found}
use Rattle.attribute_types.proofs.covering.is_covered_list.Goals as goal

pub returns-in-Tokens : goal.returns-in-Tokens
returns-in-Tokens c =
    c.are_all_among.ensures ∙ (ap (λ (others : List (List ℕ)). list_all (among others) c.args.tokens.now) c.as_slice.ensures
    ∙ (sym (none_found (among c.in-Tokens.others) c.args.tokens.now) ∙ sym (ap (λ (s : ValueClass). is_none (uncovered (Tokens c.args.tokens.now) s)) c.in-Tokens.is)))

pub returns-in-FixedToken : goal.returns-in-FixedToken
returns-in-FixedToken c =
    c.are_all.ensures ∙ (sym (none_found (λ t. bytes_eq t c.in-FixedToken.text) c.args.tokens.now) ∙ sym (ap (λ (s : ValueClass). is_none (uncovered (Tokens c.args.tokens.now) s)) c.in-FixedToken.is))

pub returns-in-Name : goal.returns-in-Name
returns-in-Name c = c.are_all_names.ensures ∙ (sym (none_found is_name c.args.tokens.now) ∙ sym (ap (λ (s : ValueClass). is_none (uncovered (Tokens c.args.tokens.now) s)) c.in-Name.is))

pub returns-in-Names : goal.returns-in-Names
returns-in-Names c = c.are_all_names-in-Names.ensures ∙ (sym (none_found is_name c.args.tokens.now) ∙ sym (ap (λ (s : ValueClass). is_none (uncovered (Tokens c.args.tokens.now) s)) c.in-Names.is))
