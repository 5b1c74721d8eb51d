use Rattle.fb_types.proofs.Common.{◌≡◌, ◌∙◌, ap, map, take_all, Name, Ty}
use Rattle.fb_types.specs.Blocks.{variable}
use Rattle.fb_types.specs.EventRows.{variable_of}
use Rattle.fb_types.proofs.lemmas.lists.LoopSteps.{mapped_next}
use Rattle.fb_types.proofs.event_ports.variables.Goals as goal

variable_named : (n m : Name) (t : Ty) → n ≡ m → variable n t ≡ variable m t
variable_named n m t h = ap (λ n. variable n t) h

pub loop-name-preserved : goal.loop-name-preserved
loop-name-preserved c =
    mapped_next variable_of _ _ _ _ _ _ c.loop-name-test.true (variable_named _ _ _ c.in_ok-name.ensures) c.loop-name.invariant
    c.in_ok-push.ensures.ok

pub returns : goal.returns
returns c = c.loop-name.invariant ∙ ap (map variable_of) (take_all c.loop-name.name-index c.args.rows.now c.loop-name-test.false)
