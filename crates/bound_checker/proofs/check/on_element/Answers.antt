use Rattle.std.proofs.Common.{◌++◌, [], ap, sym, ◌∙◌}
use Rattle.std.specs.List.{flat_map, range_with_len}
use Rattle.std.specs.Option.{option_map_or}
use Rattle.position_automata.specs.Automata.{states}
use Rattle.decl_set.specs.Declarations.{content_in}
use Rattle.bound_checker.specs.Holding.{costs_in}
use Rattle.bound_checker.specs.Tests.{on_state, on_pairs, on_top, failing}
use Rattle.bound_checker.proofs.Firsts.{two_some, two_none}
use Rattle.bound_checker.proofs.check.on_element.Goals as goal

pub returns-in-Some : goal.returns-in-Some
returns-in-Some c =
    two_some (flat_map (on_state c.args.held.now.first.now c.args.held.now.second.now c.args.held.now.tables.now.cap (costs_in c.args.held.now) c.args.held.now.place c.args.held.now.name.now c.args.held.now.automaton.now) (range_with_len 0 (states c.args.held.now.automaton.now)))
    (on_pairs c.args.held.now.first.now c.args.held.now.second.now c.args.held.now.tables.now.cap (costs_in c.args.held.now) c.args.held.now.place c.args.held.now.name.now c.args.held.now.automaton.now (content_in c.args.held.now.second.now c.args.held.now.name.now) c.args.held.now.row.now.pairs ++ on_top c.args.held.now.first.now c.args.held.now.second.now c.args.held.now.tables.now.cap (costs_in c.args.held.now) c.args.held.now.place c.args.held.now.name.now)
    c.on_states.result c.in-Some.broken c.on_states.ensures c.in-Some.is
    ∙ ap (λ o. failing (flat_map (on_state c.args.held.now.first.now c.args.held.now.second.now c.args.held.now.tables.now.cap (costs_in c.args.held.now) c.args.held.now.place c.args.held.now.name.now c.args.held.now.automaton.now) (range_with_len 0 (states c.args.held.now.automaton.now)) ++ (on_pairs c.args.held.now.first.now c.args.held.now.second.now c.args.held.now.tables.now.cap (costs_in c.args.held.now) c.args.held.now.place c.args.held.now.name.now c.args.held.now.automaton.now (content_in c.args.held.now.second.now c.args.held.now.name.now) (option_map_or (λ row. row.pairs) o []) ++ on_top c.args.held.now.first.now c.args.held.now.second.now c.args.held.now.tables.now.cap (costs_in c.args.held.now) c.args.held.now.place c.args.held.now.name.now))) (sym c.requires.row)

pub returns-in-None : goal.returns-in-None
returns-in-None c =
    two_none (flat_map (on_state c.args.held.now.first.now c.args.held.now.second.now c.args.held.now.tables.now.cap (costs_in c.args.held.now) c.args.held.now.place c.args.held.now.name.now c.args.held.now.automaton.now) (range_with_len 0 (states c.args.held.now.automaton.now)))
    (on_pairs c.args.held.now.first.now c.args.held.now.second.now c.args.held.now.tables.now.cap (costs_in c.args.held.now) c.args.held.now.place c.args.held.now.name.now c.args.held.now.automaton.now (content_in c.args.held.now.second.now c.args.held.now.name.now) c.args.held.now.row.now.pairs ++ on_top c.args.held.now.first.now c.args.held.now.second.now c.args.held.now.tables.now.cap (costs_in c.args.held.now) c.args.held.now.place c.args.held.now.name.now)
    c.on_states.result c.after_states.result c.on_states.ensures c.in-None.is c.after_states.ensures
    ∙ ap (λ o. failing (flat_map (on_state c.args.held.now.first.now c.args.held.now.second.now c.args.held.now.tables.now.cap (costs_in c.args.held.now) c.args.held.now.place c.args.held.now.name.now c.args.held.now.automaton.now) (range_with_len 0 (states c.args.held.now.automaton.now)) ++ (on_pairs c.args.held.now.first.now c.args.held.now.second.now c.args.held.now.tables.now.cap (costs_in c.args.held.now) c.args.held.now.place c.args.held.now.name.now c.args.held.now.automaton.now (content_in c.args.held.now.second.now c.args.held.now.name.now) (option_map_or (λ row. row.pairs) o []) ++ on_top c.args.held.now.first.now c.args.held.now.second.now c.args.held.now.tables.now.cap (costs_in c.args.held.now) c.args.held.now.place c.args.held.now.name.now))) (sym c.requires.row)
