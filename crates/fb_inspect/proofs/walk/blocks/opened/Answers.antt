use Rattle.fb_types.proofs.Common.{Some, ◌∙◌, ap, subst, Event, system_of, path_at, opening_block}
use Rattle.fb_types.specs.declared.event_kind.EventKind.{EventKind}
use Rattle.fb_net.specs.Blocks as net
use Rattle.fb_net.specs.Worlds.{Represents}
use Rattle.fb_net.specs.declared.block.Block.{Block}
use Rattle.fb_inspect.specs.walk.Looks.{first_due}
use Rattle.fb_inspect.proofs.lemmas.walk.Opened.{basic_opens, basic_there, composite_opens, event_opens}
use Rattle.fb_inspect.proofs.walk.blocks.opened.Goals as goal

pub unreachable-requires : goal.unreachable-requires
unreachable-requires c =
    let sys = system_of c.args.system.now in
    let p = path_at sys c.args.instance in
    let one = basic_there sys c.args.instance c.in-Basic.state (subst (λ (b : Block). Represents sys p (net.own_of b) (opening_block sys p)) c.in-Basic.is c.in_ok-state.ensures.represents) in
    c.in_default.ensures.other one.0 one.1

pub returns-in-Basic-clause-opens : goal.returns-in-Basic-clause-opens
returns-in-Basic-clause-opens c =
    let sys = system_of c.args.system.now in
    let p = path_at sys c.args.instance in
    basic_opens sys c.args.instance c.in-Some.block.now _ c.in-Some.ensures.basic
    (subst (λ (b : Block). Represents sys p (net.own_of b) (opening_block sys p)) c.in-Basic.is c.in_ok-state.ensures.represents) c.in_ok-own-in-Basic.ensures c.in_ok-hidden-in-Basic.ensures

pub returns-in-Event-clause-opens : goal.returns-in-Event-clause-opens
returns-in-Event-clause-opens c =
    let sys = system_of c.args.system.now in
    let p = path_at sys c.args.instance in
    event_opens sys c.args.instance _ (subst (λ (b : Block). Represents sys p (net.own_of b) (opening_block sys p)) c.in-Event.is c.in_ok-state.ensures.represents)
    (c.accepted_are_typed.ensures c.args.system.now c.facts.ensures.accepted).begins c.in_ok-inputs-in-Event.ensures
    (c.first_due-due.ensures ∙ ap (λ (k : EventKind). first_due (Some (Event k))) c.kind.ensures)

pub returns-clause-opens : goal.returns-clause-opens
returns-clause-opens c =
    let sys = system_of c.args.system.now in
    let p = path_at sys c.args.instance in
    composite_opens sys c.args.instance c.in-Composite.field-0
    (subst (λ (b : Block). Represents sys p (net.own_of b) (opening_block sys p)) c.in-Composite.is c.in_ok-state.ensures.represents)
