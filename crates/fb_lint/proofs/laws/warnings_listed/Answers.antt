use Rattle.fb_lint.proofs.lemmas.WarningsListed.{each_listed}
use Rattle.fb_lint.proofs.laws.warnings_listed.Goals as goal

pub returns : goal.returns
returns c = each_listed
