use Rattle.fb_types.proofs.Common.{◌≡◌, true, false, not, ◌&&◌, Option, None, sym, ◌∙◌, if◌then◌else◌}
use Rattle.fb_types.specs.declared.run.InputValue.{InputValue}
use Rattle.fb_check.specs.Directory.{has_pair, held_slot, input_in}
use Rattle.fb_check.proofs.stimuli.slot_of.Goals as goal
use Rattle.fb_check.proofs.stimuli.slot_of.Goals.{else-contains-via-then-contains+else-not-contains, else-contains-via-else-contains}

pub returns-then-not-contains : goal.returns-then-not-contains
returns-then-not-contains c =
    let x = c.args.inputs.now in
    let n = c.args.setting.now.variable in
    let held : Option InputValue = held_slot (input_in x.variables n) c.args.setting.now.value in
    let goes : true ≡ has_pair x.withs c.args.stimulus.now.event n = sym c.if-contains.true ∙ c.contains.ensures in
    let free : false ≡ has_pair c.args.directory.now.targets c.args.stimulus.now.instance n = sym c.if-not-contains.true ∙ c.contains-then-contains.ensures in
    c.held_slot.ensures ∙ (λ i. if goes i && not (free i) then held else None)

pub returns-else-contains : goal.returns-else-contains
returns-else-contains c =
    let x = c.args.inputs.now in
    let n = c.args.setting.now.variable in
    let held : Option InputValue = held_slot (input_in x.variables n) c.args.setting.now.value in
    elim c.else-contains.branch [
      | else-contains-via-then-contains+else-not-contains w ↦
          let goes : true ≡ has_pair x.withs c.args.stimulus.now.event n = sym w.if-contains.true ∙ c.contains.ensures in
          let taken : true ≡ has_pair c.args.directory.now.targets c.args.stimulus.now.instance n = sym w.if-not-contains.false ∙ w.contains-then-contains.ensures in
          λ i. if goes i && not (taken i) then held else None
      | else-contains-via-else-contains w ↦
          let goes : false ≡ has_pair x.withs c.args.stimulus.now.event n = sym w.if-contains.false ∙ c.contains.ensures in
          λ i. if goes i && not (has_pair c.args.directory.now.targets c.args.stimulus.now.instance n) then held else None
    ]
