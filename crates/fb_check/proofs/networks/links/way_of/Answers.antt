use Rattle.fb_check.proofs.networks.links.way_of.Goals as goal

pub returns : goal.returns
returns c = λ i. (c.as_bytes.ensures i, c.as_bytes-2.ensures i)
