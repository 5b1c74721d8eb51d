use Rattle.fb_types.proofs.Common.{ℕ, ◌<◌, length, ap, subst, sym, ◌∙◌, system_of, path_at}
use Rattle.fb_system.proofs.lemmas.rows.Bounds.{resource_named}
use Rattle.fb_system.proofs.lemmas.inputs.TablesOfInputs.{port_there, reached_leads, reached_more, reached_within}
use Rattle.fb_system.proofs.lemmas.networks.SameResource.{leads_nowhere, leads_on, target_there, together}
use Rattle.fb_system.proofs.system.System.reached_by_tables.Goals as goal

pub reached-requires : goal.reached-requires
reached-requires c = port_there _ _ _ _ c.deref.ensures c.self.view_is c.requires

pub returns-in_err-next : goal.returns-in_err-next
returns-in_err-next c =
    leads_nowhere (system_of c.args.self.now) c.args.from c.args.index _ _ c.in_err-next.was c.from_residual.ensures
    (reached_leads _ _ _ _ _ _ c.deref.ensures c.self.view_is c.reached.ensures.leads)

pub resource-receiver-requires : goal.resource-receiver-requires
resource-receiver-requires c =
    target_there (system_of c.args.self.now) _ _ c.in_ok-next.was (reached_within _ _ _ _ c.deref.ensures c.self.view_is c.reached.ensures.within)

pub link-requires-clause-from : goal.link-requires-clause-from
link-requires-clause-from c =
    let sys = system_of c.args.self.now in
    subst (λ n. n < length sys.resource_names) (sym c.resource-sender.ensures) (resource_named c.args.self.now (path_at sys c.args.from.instance) c.facts.ensures.limits)

pub link-requires-clause-to : goal.link-requires-clause-to
link-requires-clause-to c =
    let sys = system_of c.args.self.now in
    subst (λ n. n < length sys.resource_names) (sym c.resource-receiver.ensures) (resource_named c.args.self.now (path_at sys c.in_ok-next.next.target.instance) c.facts.ensures.limits)

pub returns : goal.returns
returns c =
    let sys = system_of c.args.self.now in
    let there = c.in_ok-next.next.target.instance in
    leads_on sys c.args.from c.args.index _ c.in_ok-next.next _ _ c.in_ok-next.was
    (reached_leads _ _ _ _ _ _ c.deref.ensures c.self.view_is c.reached.ensures.leads)
    (reached_within _ _ _ _ c.deref.ensures c.self.view_is c.reached.ensures.within)
    (reached_more _ _ _ _ _ _ c.deref.ensures c.self.view_is c.reached.ensures.more)
    (together sys there c.args.from.instance _ _ c.resource-receiver.ensures c.resource-sender.ensures)
    (c.link.ensures ∙ ap (λ (n : ℕ). sys.link n c.resource-receiver.result) c.resource-sender.ensures
    ∙ ap (sys.link (sys.resource (path_at sys c.args.from.instance))) c.resource-receiver.ensures)
