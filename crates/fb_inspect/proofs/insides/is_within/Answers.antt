use Rattle.std.proofs.Common.{sym, ◌∙◌}
use Rattle.fb_inspect.proofs.lemmas.walk.WithinPaths.{within_by, within_none}
use Rattle.fb_inspect.proofs.insides.is_within.Goals as goal

pub returns-in-Some : goal.returns-in-Some
returns-in-Some c = c.is_cut_there.ensures ∙ sym (within_by c.args.whole.now c.args.path.now c.in-Some.rest.now c.in-Some.ensures)

pub returns-in-None : goal.returns-in-None
returns-in-None c = sym (within_none c.args.whole.now c.args.path.now c.in-None.ensures)
