use Rattle.std.proofs.Common.{◌<◌, ℕ, refl, sym, subst}
use Rattle.fb_inspect.proofs.lemmas.lines.NearStop.{step_none, step_used}
use Rattle.fb_inspect.proofs.lemmas.reactions.Placed.{item_is}
use Rattle.fb_inspect.proofs.walk.use_step.Goals as goal

pub index_mut-requires : goal.index_mut-requires
index_mut-requires c = subst (λ (n : ℕ). c.args.key.now.resource < n) (sym c.args.steps.now.ok.0) c.requires

pub returns-clause-used : goal.returns-clause-used
returns-clause-used c =
    let own = c.index_mut.result.now in
    step_used c.step.result c.args.limit c.args.key.now c.args.steps.now.items _ own c.step.new.self
    (item_is c.args.steps.now.items c.args.key.now.resource own c.requires c.index_mut.ensures.value) c.step.ensures.used c.step.ensures.tick c.step.ensures.least refl

pub returns-clause-none : goal.returns-clause-none
returns-clause-none c =
    let own = c.index_mut.result.now in
    step_none c.step.result c.args.limit c.args.key.now c.args.steps.now.items own
    (item_is c.args.steps.now.items c.args.key.now.resource own c.requires c.index_mut.ensures.value) c.step.ensures.none
