use Rattle.fb_sim.proofs.lemmas.Common.{◌∙◌, ap, sym, after_bytes, Write}
use Rattle.fb_sim.proofs.rounds.all_rounds.with_written.Goals as goal

pub returns-in-Write : goal.returns-in-Write
returns-in-Write c = ap Write c.saturating_add.ensures ∙ sym (ap (after_bytes c.args.written) c.in-Write.is)
