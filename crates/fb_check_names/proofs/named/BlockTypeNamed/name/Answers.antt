use Rattle.fb_check_names.proofs.named.BlockTypeNamed.name.Goals as goal

pub returns : goal.returns
returns c = c.type_name.ensures
