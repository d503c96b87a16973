use Rattle.std.proofs.Common.{◌≡◌, ◌<◌, ◌≤◌, List, length, get_or, subst, sym, true≢false}
use Rattle.content_models.specs.declared.content.Content.{Content}
use Rattle.content_models.specs.Model.{Chars}
use Rattle.position_automata.specs.Automata.{IsDeterministic}
use Rattle.position_automata.proofs.Running.{start_leads, start_within, leads_more, follows_to, stuck, arrived}
use Rattle.position_automata.proofs.automaton.Automaton.run.Goals as goal

pub loop-name-init : goal.loop-name-init
loop-name-init c = record { leads = start_leads c.args.self.now; within = start_within c.args.self.now }

pub returns-in-None : goal.returns-in-None
returns-in-None c =
    let d : IsDeterministic c.args.self.now = subst (λ (x : Content). IsDeterministic x) c.self.view_is c.self.invariant.deterministic in
    let e : c.as_slice-name-items.result.now ≡ c.args.names.now = c.as_slice-name-items.ensures in (
      (λ t. absurd (true≢false (sym t))),
      (λ t. absurd (stuck c.args.self.now c.args.names.now c.loop-name.name-index c.loop-name.state c.name-item.result d
          (subst (λ (x : List Chars). c.loop-name.name-index < length x) e c.loop-name-test.true)
          (subst (λ (x : List Chars). c.name-item.result ≡ get_or x c.loop-name.name-index c.name-item.result) e c.name-item.is)
          c.loop-name.invariant.leads c.in-None.ensures.follows t)),
    )

pub loop-name-preserved : goal.loop-name-preserved
loop-name-preserved c =
    let e : c.as_slice-name-items.result.now ≡ c.args.names.now = c.as_slice-name-items.ensures in
    record {
      leads = leads_more c.args.self.now c.args.names.now c.loop-name.name-index c.loop-name.state c.in-Some.next c.name-item.result
          (subst (λ (x : List Chars). c.loop-name.name-index < length x) e c.loop-name-test.true)
          (subst (λ (x : List Chars). c.name-item.result ≡ get_or x c.loop-name.name-index c.name-item.result) e c.name-item.is)
          c.loop-name.invariant.leads c.in-Some.ensures.follows;
      within = follows_to c.args.self.now c.loop-name.state c.in-Some.next c.name-item.result c.in-Some.ensures.follows;
    }

pub returns : goal.returns
returns c =
    let d : IsDeterministic c.args.self.now = subst (λ (x : Content). IsDeterministic x) c.self.view_is c.self.invariant.deterministic in
    arrived c.args.self.now c.args.names.now c.loop-name.name-index c.loop-name.state c.accepts_at.result d
    (subst (λ (x : List Chars). length x ≤ c.loop-name.name-index) c.as_slice-name-items.ensures c.loop-name-test.false) c.loop-name.invariant.leads c.accepts_at.ensures.accepts
