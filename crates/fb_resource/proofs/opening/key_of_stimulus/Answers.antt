use Rattle.fb_types.proofs.Common.{refl, sym, ap, subst, ◌∙◌, system_of, stimulus_key, Port}
use Rattle.fb_types.specs.declared.key.Key.{Key}
use Rattle.fb_types.specs.declared.run.Event.TheVariants.{Stimulus}
use Rattle.fb_resource.proofs.lemmas.OpenIs.{stimulus_waits}
use Rattle.fb_resource.proofs.lemmas.PostLaws.{port_path}
use Rattle.fb_resource.specs.Waiting.{MayWait}
use Rattle.fb_resource.proofs.opening.key_of_stimulus.Goals as goal

pub returns-clause-key : goal.returns-clause-key
returns-clause-key c =
    let sys = system_of c.args.system.now in
    let is = c.stimulus-stimulus.ensures in
    let home = ap sys.resource (sym (port_path sys c.stimulus-stimulus.result.target) ∙ ap (λ (q : Port). q.at) is.port) in
    record {
      stimulus = is.stimulus;
      is = is.is;
      key =
          c.stimulus.ensures ∙ ap (λ t. stimulus_key t c.resource_of-resource.result c.args.row) is.tick
          ∙ ap (λ r. stimulus_key is.stimulus.tick r c.args.row) (c.resource_of-resource.ensures.resource ∙ home);
    }

pub returns-clause-waits : goal.returns-clause-waits
returns-clause-waits c =
    let i = c.args.system.now in
    let x = c.stimulus-stimulus.result in
    subst (λ (k : Key). MayWait i 0 k (Stimulus c.args.row)) (sym c.stimulus.ensures)
    (stimulus_waits i c.args.row c.resource_of-resource.result c.args.row x c.stimulus-stimulus.ensures c.requires c.resource_of-resource.ensures.resource c.resource_of-resource.ensures.named c.facts.ensures.accepted refl)
