use Rattle.fb_types.proofs.Common.{List, refl, ap, subst, ◌∙◌, system_of, event_at}
use Rattle.fb_types.specs.declared.library.EventPort.{EventPort}
use Rattle.fb_types.specs.declared.library.Ports.{Ports}
use Rattle.fb_wave.specs.Ports.{events}
use Rattle.fb_inspect.specs.refused.LineFaults.{IsNoEvent, path_and, sign_text}
use Rattle.fb_inspect.proofs.lemmas.words.PortWords.{path_is, renamed}
use Rattle.fb_inspect.proofs.refused.fault_port.port_of.Goals as goal

pub returns-in_default-clause-fault : goal.returns-in_default-clause-fault
returns-in_default-clause-fault c text are = (c.args.words.resource.now, c.args.words.port.now, c.args.words.rest.now, are, c.in_default.ensures)

pub returns-in_default-halves-clause-fault : goal.returns-in_default-halves-clause-fault
returns-in_default-halves-clause-fault c text are = (c.args.words.resource.now, c.args.words.sign.now, c.args.words.rest.now, are, c.in_default-halves.ensures)

pub returns-in_default-instance_of-clause-fault : goal.returns-in_default-instance_of-clause-fault
returns-in_default-instance_of-clause-fault c text are =
    let w = c.args.words in (
      w.resource.now,
      w.sign.now,
      c.in-Some-halves.parts.1.now,
      w.rest.now,
      renamed text w.resource.now w.sign.now w.port.now w.rest.now w.sign.now _ refl c.in-Some-halves.ensures are,
      c.in_default-instance_of.ensures.none,
    )

pub returns-in-None-clause-fault : goal.returns-in-None-clause-fault
returns-in-None-clause-fault c text are =
    let sys = system_of c.args.system.now in
    let w = c.args.words in
    let i = c.in-Some-instance_of.instance in
    let name = c.in-Some-halves.parts.1.now in (
      w.resource.now,
      w.rest.now,
      renamed text w.resource.now w.sign.now w.port.now w.rest.now (sign_text c.in-Some.taken) (path_and sys i name) c.in-Some.ensures
          (path_is sys i w.port.now c.in-Some-halves.parts.0.now name c.in-Some-halves.ensures c.in-Some-instance_of.ensures.found) are,
      c.in-Some-instance_of.ensures.within,
      subst (λ (es : List EventPort). IsNoEvent es name) (c.events_of.ensures ∙ ap (λ (its : Ports). events its c.in-Some.taken) c.ports.ensures) c.in-None.ensures.none,
    )

pub returns-in-Some-event_of-clause-named : goal.returns-in-Some-event_of-clause-named
returns-in-Some-event_of-clause-named c =
    let sys = system_of c.args.system.now in
    let w = c.args.words in
    let i = c.in-Some-instance_of.instance in
    let name = c.in-Some-halves.parts.1.now in
    let same = c.events_of.ensures ∙ ap (λ (its : Ports). events its c.in-Some.taken) c.ports.ensures in
    path_is sys i w.port.now c.in-Some-halves.parts.0.now name c.in-Some-halves.ensures c.in-Some-instance_of.ensures.found
    ∙ ap (path_and sys i) (c.in-Some-event_of.ensures.found ∙ ap (λ (es : List EventPort). event_at es c.in-Some-event_of.event) same)
