use Rattle.fb_types.proofs.Common.{List, ap, sym, ◌∙◌, system_of}
use Rattle.fb_types.specs.declared.library.EventPort.{EventPort}
use Rattle.fb_types.specs.declared.library.Ports.{Ports}
use Rattle.fbsim_command.specs.Known.{events_of, numbered}
use Rattle.fbsim_command.proofs.lemmas.rules.SomeNumber.{event-there}
use Rattle.fbsim_command.proofs.known.any_event.Goals as goal

pub returns-then-branch : goal.returns-then-branch
returns-then-branch c =
    let a = c.args in
    event-there (system_of a.system.now) a.pattern.now a.instance a.taken c.min-event-end.result c.loop-event.event
    (c.min-event-end.ensures ∙ ap (λ (es : List EventPort). numbered es) (c.events_of-count.ensures ∙ ap (λ (its : Ports). events_of its a.taken) c.ports.ensures))
    c.loop-event-test.true (sym c.in_ok-is_of.ensures ∙ c.if-branch.true)
