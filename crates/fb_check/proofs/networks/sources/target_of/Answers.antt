use Rattle.fb_check.proofs.networks.sources.target_of.Goals as goal

pub returns : goal.returns
returns c = c.end_names.ensures
