use Rattle.fb_read_positions.specs.Walks.{pass_actions}
use Rattle.fb_read_positions.proofs.lemmas.TokensLeft.{leaves_if}
use Rattle.fb_read_positions.proofs.resume.left_past_actions.Goals as goal

pub returns : goal.returns
returns c = leaves_if (pass_actions c.args.count) c.args.tokens.now c.new-cursor.result c.pass_actions.new.cursor c.pass_actions.result c.left.result c.left_if.result c.new-cursor.ensures c.pass_actions.ensures c.left.ensures c.left_if.ensures
