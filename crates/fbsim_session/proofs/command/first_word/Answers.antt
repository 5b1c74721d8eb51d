use Rattle.std.proofs.Common.{ap, ◌∙◌}
use Rattle.fbsim_session.specs.Commands.{words_by}
use Rattle.fbsim_session.proofs.command.first_word.Goals as goal

pub returns-in-Some : goal.returns-in-Some
returns-in-Some c = (λ k. (c.in-Some.word.now, c.without_blanks.ensures k)) ∙ ap (words_by c.args.text.now) c.in-Some.ensures

pub returns-in-None : goal.returns-in-None
returns-in-None c = ap (words_by c.args.text.now) c.in-None.ensures
