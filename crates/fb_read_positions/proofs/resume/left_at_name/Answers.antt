use Rattle.fb_read_positions.specs.Walks.{to_name}
use Rattle.fb_read_positions.proofs.lemmas.TokensLeft.{leaves_if}
use Rattle.fb_read_positions.proofs.resume.left_at_name.Goals as goal

pub returns : goal.returns
returns c = leaves_if (λ ts. to_name ts c.args.index) c.args.tokens.now c.new-cursor.result c.to_name.new.cursor c.to_name.result c.left.result c.left_if.result c.new-cursor.ensures c.to_name.ensures c.left.ensures c.left_if.ensures
