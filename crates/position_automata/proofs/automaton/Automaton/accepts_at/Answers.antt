use Rattle.std.proofs.Common.{◌<◌, List, Bool, false, get_or, subst, sym}
use Rattle.std.specs.Bool.{Decides}
use Rattle.content_models.specs.declared.content.Content.{Content}
use Rattle.position_automata.specs.Automata.{Accepts, states}
use Rattle.position_automata.proofs.Stepping.{decided}
use Rattle.position_automata.proofs.automaton.Automaton.accepts_at.Goals as goal

pub returns : goal.returns
returns c =
    let s = c.self.inside in
    let h : c.args.state < states s.content = subst (λ (x : Content). c.args.state < states x) (sym c.self.view_is) c.requires in
    let d : Decides c.flag_at.result (Accepts c.args.self.now c.args.state) =
    subst (λ (x : Content). Decides c.flag_at.result (Accepts x c.args.state)) c.self.view_is
    (subst (λ (b : Bool). Decides b (Accepts s.content c.args.state)) (sym c.flag_at.ensures)
    (subst (λ (flags : List Bool). Decides (get_or flags c.args.state false) (Accepts s.content c.args.state)) (sym c.as_slice.ensures.value) (c.self.invariant.accepting_is c.args.state h))) in
    record { accepts = d; value = decided c.args.self.now c.args.state c.flag_at.result d }
