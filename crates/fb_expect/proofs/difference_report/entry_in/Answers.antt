use Rattle.fb_types.specs.declared.run.Form.TheVariants.{One}
use Rattle.fb_expect.proofs.lemmas.traces.Differing.{no-form, two-form}
use Rattle.fb_expect.proofs.difference_report.entry_in.Goals as goal

pub returns-in-Some-clause-some : goal.returns-in-Some-clause-some
returns-in-Some-clause-some c = (One, c.in-Some.ensures.line)

pub returns-in-None-clause-some : goal.returns-in-None-clause-some
returns-in-None-clause-some c = two-form c.args.line.now c.read_entry-in-None.result c.read_entry-in-None.ensures.line

pub returns-in-None-clause-none : goal.returns-in-None-clause-none
returns-in-None-clause-none c = no-form c.args.line.now c.read_entry-in-None.result c.in-None.ensures.only c.read_entry-in-None.ensures.only
