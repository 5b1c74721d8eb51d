use Rattle.fb_types.proofs.Common.{subst, IsWithinLimits}
use Rattle.fb_types.specs.declared.deploy.Plan.{Plan}
use Rattle.fb_system.proofs.lemmas.inputs.TablesOfInputs.{accepted_seen, few_of, numbered_seen, plan_seen}
use Rattle.fb_system.proofs.system.System.facts.Goals as goal

pub returns-clause-accepted : goal.returns-clause-accepted
returns-clause-accepted c = accepted_seen _ _ c.self.invariant.tables c.self.view_is

pub returns-clause-limits : goal.returns-clause-limits
returns-clause-limits c = subst (λ (p : Plan). IsWithinLimits p) (plan_seen _ _ _ c.deref-whole.ensures c.self.view_is) c.plan-plan.ensures.limits

pub returns-clause-few : goal.returns-clause-few
returns-clause-few c = few_of _ (accepted_seen _ _ c.self.invariant.tables c.self.view_is)

pub returns-clause-numbered : goal.returns-clause-numbered
returns-clause-numbered c = numbered_seen _ _ _ c.deref-whole.ensures c.self.view_is c.facts.ensures.numbers
