use Rattle.fbsim_command.proofs.lemmas.names.ReadNames.{read-names}
use Rattle.fbsim_command.proofs.laws.read_names.Goals as goal

pub returns : goal.returns
returns c = read-names
