use Rattle.fbsim_command.proofs.lemmas.files.LinesLaws.{lines-agree}
use Rattle.fbsim_command.proofs.laws.lines_agree.Goals as goal

pub returns : goal.returns
returns c = lines-agree
