use Rattle.fb_check.specs.types.Mentions.{meant}
use Rattle.fb_check.proofs.lemmas.types.GrowingLists.{meaning_added}
use Rattle.fb_check.proofs.types.mentions.push_mention.Goals as goal

pub returns : goal.returns
returns c = meaning_added c.push_one.result meant c.args.all.now.items c.push_one.new.all.items _ c.push_one.ensures
