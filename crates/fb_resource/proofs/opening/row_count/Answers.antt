use Rattle.fb_types.proofs.Common.{◌<◌, ◌^◌, List, length, subst, sym}
use Rattle.fb_types.specs.declared.deploy.Stimulus.{Stimulus}
use Rattle.fb_resource.proofs.lemmas.OpenIs.{few_rows}
use Rattle.fb_resource.proofs.opening.row_count.Goals as goal

pub overflow_cast-result : goal.overflow_cast-result
overflow_cast-result c =
    let few = few_rows c.args.system.now c.facts.ensures.accepted in
    record { fits = subst (λ (rows : List Stimulus). length rows < 2 ^ 32) (sym c.stimuli.ensures) few }
