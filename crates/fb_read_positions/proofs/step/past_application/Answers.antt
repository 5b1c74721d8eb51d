use Rattle.fb_read_positions.proofs.lemmas.PassedTokens.{application_passed, read_as}
use Rattle.fb_read_positions.proofs.step.past_application.Goals as goal

pub returns-then-sees : goal.returns-then-sees
returns-then-sees c = read_as _ _ _ _ (application_passed c.args.cursor.now _ c.sees.ensures c.if-sees.true) c.past.ensures
