use Rattle.fb_read.proofs.lemmas.texts.RefusalLaws.{deep-is, read-not-deep, stuck-not-deep}
use Rattle.fb_read.proofs.read.nesting_left.Goals as goal

pub returns-in-Ok : goal.returns-in-Ok
returns-in-Ok c = read-not-deep c.args.tokens.now c.in-Ok.library c.read.new.cursor (rw c.new-cursor.ensures at c.in-Ok.ensures)

pub returns-in-Err-Syntax : goal.returns-in-Err-Syntax
returns-in-Err-Syntax c = stuck-not-deep c.args.tokens.now c.read.new.cursor (rw (c.in-Err-Syntax.field-0-is, c.new-cursor.ensures) at c.in-Err-Syntax.ensures)

pub returns-in-Err-Nesting : goal.returns-in-Err-Nesting
returns-in-Err-Nesting c = deep-is c.args.tokens.now (rw (c.in-Err-Nesting.field-0-is, c.new-cursor.ensures) at c.in-Err-Nesting.ensures)
