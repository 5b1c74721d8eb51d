use Rattle.fb_check.proofs.lemmas.Common.{List, sym, ◌∙◌, ap, slice_get, Setting, each_or_none, slot_of}
use Rattle.fb_check_names.proofs.lemmas.Each.{each_more, each_all}
use Rattle.fb_check.proofs.lemmas.networks.SearchLoops.{at_element}
use Rattle.fb_check.proofs.stimuli.slots_of.Goals as goal

pub returns-in-None : goal.returns-in-None
returns-in-None c =
    let x = c.index-settings-index.result in (
      x,
      ap (λ (xs : List Setting). slice_get xs c.loop-index.index) (sym c.as_slice-settings.ensures)
          ∙ at_element c.as_slice-settings.result.now c.loop-index.index x c.loop-index-test.true c.index-settings-index.is,
      sym c.slot_of.ensures ∙ c.in-None.is,
    )

pub loop-index-preserved : goal.loop-index-preserved
loop-index-preserved c =
    each_more (slot_of c.args.directory.now c.args.inputs.now c.args.stimulus.now) _ _ _ _ _ _ c.loop-index-test.true c.index-settings-index.is
    (sym c.slot_of.ensures ∙ c.in-Some.is) c.loop-index.invariant c.in_ok-push-in-Some.ensures.ok

pub returns : goal.returns
returns c =
    let f = slot_of c.args.directory.now c.args.inputs.now c.args.stimulus.now in
    sym (each_all f _ _ _ c.loop-index-test.false c.loop-index.invariant ∙ ap (each_or_none f) c.as_slice-settings.ensures)
