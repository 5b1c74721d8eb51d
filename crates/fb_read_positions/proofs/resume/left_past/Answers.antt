use Rattle.fb_read_positions.specs.Walks.{pass}
use Rattle.fb_read_positions.proofs.lemmas.TokensLeft.{leaves_if}
use Rattle.fb_read_positions.proofs.resume.left_past.Goals as goal

pub returns : goal.returns
returns c = leaves_if (pass c.args.steps.now c.args.count) c.args.tokens.now c.new-cursor.result c.pass.new.cursor c.pass.result c.left.result c.left_if.result c.new-cursor.ensures c.pass.ensures c.left.ensures c.left_if.ensures
