use Rattle.fb_event.proofs.lemmas.Performing.{first_there}
use Rattle.fb_event.proofs.reaction.first.Goals as goal

pub returns-in-len1-up : goal.returns-in-len1-up
returns-in-len1-up c = first_there c.args.inputs.now _ c.in-len1-up.len_at_least
