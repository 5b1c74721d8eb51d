use Rattle.fb_check.proofs.lemmas.Common.{List, ◌++◌, ◌∙◌, ap, flat_map, ResourceEntry, NotMappedAt}
use Rattle.fb_check.proofs.lemmas.networks.Mapped.{all_listed, all_mapped, found_among, none_of_all}
use Rattle.fb_check.proofs.networks.mapping.mapping_of.Goals as goal

pub returns-then-plan-clause-found : goal.returns-then-plan-clause-found
returns-then-plan-clause-found c = none_of_all c.args.library.now c.args.plan.now _ c.if-plan.true (c.requires.once c.if-plan.true)

pub returns-then-plan-clause-mapping : goal.returns-then-plan-clause-mapping
returns-then-plan-clause-mapping c = λ _. all_mapped c.args.library.now c.args.plan.now c.if-plan.true (c.requires.once c.if-plan.true)

pub returns-clause-found : goal.returns-clause-found
returns-clause-found c =
    c.in_ok-listed.ensures.found
    ∙ ap (λ (us : List NotMappedAt). c.args.found.now.items ++ us)
    (found_among c.args.library.now c.args.plan.now (flat_map (λ r. r.instances) c.as_slice.result.now) c.as_slice-instances.result.now c.if-plan.false
    (ap (flat_map (λ (r : ResourceEntry). r.instances)) c.as_slice.ensures) c.as_slice-instances.ensures)

pub returns-clause-mapping : goal.returns-clause-mapping
returns-clause-mapping c =
    all_listed c.args.library.now c.args.plan.now c.in_ok-listed.listed c.as_slice.result.now c.as_slice.ensures c.if-plan.false c.in_ok-listed.ensures.indexes c.in_ok-listed.ensures.owners
