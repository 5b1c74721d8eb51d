use Rattle.fb_system.proofs.lemmas.Common.{Option, Some, ap, sym, ◌∙◌, option_and_then, option_map, kind_of, network_of, BlockType, kind_of_number, TypeNumber}
use Rattle.fb_system.proofs.lemmas.values.DeclaredInstances.{network_inside, network_outermost}
use Rattle.fb_system.proofs.declared.network_in.Goals as goal

pub returns-in-None : goal.returns-in-None
returns-in-None c = network_outermost c.args.tables.now.library _ c.in-None.is

pub returns-in-Event : goal.returns-in-Event
returns-in-Event c =
    network_inside c.args.tables.now.library _ _ _ _ c.row_at.ensures c.in-Some.is
    (sym (ap (λ (t : TypeNumber). option_and_then network_of (kind_of_number c.args.tables.now.library t)) c.in-Event.is))

pub returns-in-Basic : goal.returns-in-Basic
returns-in-Basic c =
    network_inside c.args.tables.now.library _ _ _ _ c.row_at.ensures c.in-Some.is
    (sym
    (ap (λ (t : TypeNumber). option_and_then network_of (kind_of_number c.args.tables.now.library t)) c.in-Declared.is
    ∙ ap (λ (o : Option BlockType). option_and_then network_of (option_map kind_of o)) (sym c.in_ok-composite-in-Declared.ensures.value ∙ ap Some c.in-Basic.is)))

pub returns-in-Composite : goal.returns-in-Composite
returns-in-Composite c =
    network_inside c.args.tables.now.library _ _ _ _ c.row_at.ensures c.in-Some.is
    (sym
    (ap (λ (t : TypeNumber). option_and_then network_of (kind_of_number c.args.tables.now.library t)) c.in-Declared.is
    ∙ ap (λ (o : Option BlockType). option_and_then network_of (option_map kind_of o)) (sym c.in_ok-composite-in-Declared.ensures.value ∙ ap Some c.in-Composite.is)))
