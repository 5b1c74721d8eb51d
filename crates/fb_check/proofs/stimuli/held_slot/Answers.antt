use Rattle.fb_types.proofs.Common.{Bool, Option, None, Some, sym, ◌∙◌, ap, option_copied, if◌then◌else◌}
use Rattle.fb_types.specs.declared.run.InputValue.{InputValue}
use Rattle.fb_check.specs.Directory.{held_slot}
use Rattle.fb_check.specs.declared.directory_making.Input.{Input}
use Rattle.fb_check.proofs.stimuli.held_slot.Goals as goal

pub returns : goal.returns
returns c =
    let v = c.args.value in
    let slot : Option InputValue = Some (record { index = c.in-Some.input.now.index; value = v }) in
    ap (λ (b : Bool). if b then slot else None) (sym c.if-holds.true ∙ c.holds.ensures)
    ∙ ap (λ (o : Option Input). held_slot o v) (ap option_copied (sym c.in-Some.is) ∙ c.get.ensures.value)

pub returns-in_default : goal.returns-in_default
returns-in_default c =
    let v = c.args.value in
    let slot : Option InputValue = Some (record { index = c.in-Some.input.now.index; value = v }) in
    ap (λ (b : Bool). if b then slot else None) (sym c.if-holds.false ∙ c.holds.ensures)
    ∙ ap (λ (o : Option Input). held_slot o v) (ap option_copied (sym c.in-Some.is) ∙ c.get.ensures.value)
