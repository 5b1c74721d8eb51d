use Rattle.std.proofs.Common.{◌<◌, ◌^◌, sym, subst}
use Rattle.fb_sim_machine.proofs.lemmas.DeliverIs.{narrow_receiver}
use Rattle.fb_sim_machine.proofs.deliver.receiver.Goals as goal

pub overflow_cast-result : goal.overflow_cast-result
overflow_cast-result c =
    record { fits = subst (λ n. n < 2 ^ 32) (sym c.resource.ensures) (narrow_receiver c.args.system.now c.facts.ensures.accepted c.facts.ensures.limits c.args.message.now) }
