use Rattle.fb_types.proofs.Common.{ℕ, length, replicate, None, sym, ap, subst, ◌∙◌, Vec, system_of, opening_state}
use Rattle.fb_resource.specs.Openings.{IsOpened}
use Rattle.fb_resource.specs.Posts.{CountsAre}
use Rattle.fb_resource.proofs.lemmas.Begins.{ready_opened as queues_opened}
use Rattle.fb_sim_machine.proofs.lemmas.OpenIs.{at_opened, ready_opened}
use Rattle.fb_sim_machine.proofs.machine.Machine.open.Goals as goal

pub returns-clause-ready : goal.returns-clause-ready
returns-clause-ready c limit =
    let i = c.args.system.now in
    let sys = system_of i in
    let q = c.new-traffic.ensures in
    ready_opened i limit _ c.in_ok-trees.ensures
    (c.in_ok-meters.ensures.items_if_clones_equal (λ y e. e) ∙ ap (λ n. replicate n c.new.result) c.resources.ensures ∙ ap (λ m. replicate (length sys.resource_names) m) c.new.ensures)
    (queues_opened i None c.new-traffic.result (subst (IsOpened i None) (sym q.agenda) c.in_ok-agenda.ensures) (ap (λ (v : Vec ℕ). length v.items) q.sent ∙ c.in_ok-sent.ensures.counted) q.empty) q.empty.mail

pub returns-clause-at : goal.returns-clause-at
returns-clause-at c =
    let i = c.args.system.now in
    let sys = system_of i in
    at_opened i _ (length sys.resource_names) c.facts.ensures.accepted c.in_ok-trees.ensures
    (c.in_ok-meters.ensures.items_if_clones_equal (λ y e. e) ∙ ap (λ n. replicate n c.new.result) c.resources.ensures ∙ ap (λ m. replicate (length sys.resource_names) m) c.new.ensures)
    (subst (λ (v : Vec ℕ). CountsAre v.items (opening_state sys).sent) (sym c.new-traffic.ensures.sent) c.in_ok-sent.ensures.counts)
    (subst (IsOpened i None) (sym c.new-traffic.ensures.agenda) c.in_ok-agenda.ensures)
