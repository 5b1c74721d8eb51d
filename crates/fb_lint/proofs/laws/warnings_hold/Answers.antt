use Rattle.fb_lint.proofs.lemmas.WarningsHold.{each_holds}
use Rattle.fb_lint.proofs.laws.warnings_hold.Goals as goal

pub returns : goal.returns
returns c = each_holds
