use Rattle.fb_expect.proofs.lemmas.traces.Numbering.{product, room}
use Rattle.fb_expect.proofs.tap.product.Goals as goal

pub overflow_mul-result : goal.overflow_mul-result
overflow_mul-result c = record { fits = product c.args.rules c.args.traces c.ranges.rules.fits c.ranges.traces.fits }

pub returns-clause-room : goal.returns-clause-room
returns-clause-room c = room c.args.rules c.args.traces c.ranges.rules.fits c.ranges.traces.fits
