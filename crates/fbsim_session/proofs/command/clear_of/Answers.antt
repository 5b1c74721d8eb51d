use Rattle.fb_types.proofs.Common.{◌∙◌, ◌+◌, ap, min}
use Rattle.fb_inputs.specs.Numbers.{natural}
use Rattle.fbsim_session.specs.Commands.{clear_by}
use Rattle.fbsim_session.proofs.lemmas.Commanding.{clear_equal, no_number}
use Rattle.fbsim_session.proofs.command.clear_of.Goals as goal

pub returns-in-Some-clause-of : goal.returns-in-Some-clause-of
returns-in-Some-clause-of c = c.clear_by.ensures.of ∙ clear_equal (natural c.args.rest.now) c.from.result c.in-Some.number c.from.ensures c.in-Some.ensures

pub returns-in-None-clause-of : goal.returns-in-None-clause-of
returns-in-None-clause-of c = ap clear_by (no_number (natural c.args.rest.now) (λ n. min n (c.from.result + 1)) c.in-None.ensures)
