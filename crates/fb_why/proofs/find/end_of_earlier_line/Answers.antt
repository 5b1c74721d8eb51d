use Rattle.fb_why.proofs.lemmas.TextReadings.{after-token}
use Rattle.fb_why.proofs.find.end_of_earlier_line.Goals as goal

pub returns-clause-after : goal.returns-clause-after
returns-clause-after c = after-token c.args.text.now c.args.offset c.in_ok-end.end c.place_between.result c.in_ok-end.ensures c.place_between.ensures.there
