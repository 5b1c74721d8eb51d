use Rattle.fb_read_positions.specs.Walks.{to_first}
use Rattle.fb_read_positions.proofs.lemmas.TokensLeft.{leaves_if}
use Rattle.fb_read_positions.proofs.resume.left_at_first.Goals as goal

pub returns : goal.returns
returns c = leaves_if (to_first c.args.list) c.args.tokens.now c.new-cursor.result c.to_first.new.cursor c.to_first.result c.left.result c.left_if.result c.new-cursor.ensures c.to_first.ensures c.left.ensures c.left_if.ensures
