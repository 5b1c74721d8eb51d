use Rattle.fb_inputs.proofs.scan.start_of.Goals as goal

pub returns : goal.returns
returns c = (c.mark_len-mark.ensures.value, c.mark_len-mark.ensures.value)
