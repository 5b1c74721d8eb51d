use Rattle.fb_event.proofs.lemmas.Emissions.{bare, shown}
use Rattle.fb_event.proofs.emission.is_bare.Goals as goal

pub returns-in-Flag-clause-bare : goal.returns-in-Flag-clause-bare
returns-in-Flag-clause-bare c = bare c.args.kind c.args.memory.now c.event_block_output.result c.is_none.result c.event_block_output.ensures c.is_none.ensures

pub returns-in-Flag-clause-shown : goal.returns-in-Flag-clause-shown
returns-in-Flag-clause-shown c = shown c.args.kind c.args.memory.now c.event_block_output.result c.is_none.result c.requires c.event_block_output.ensures c.is_none.ensures
