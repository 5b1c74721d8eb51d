use Rattle.std.proofs.lemmas.Fmt.{decimal_digit}
use Rattle.fb_trace.proofs.page.Page.append_digit.Goals as goal

pub returns-clause-text : goal.returns-clause-text
returns-clause-text c = rw (decimal_digit c.args.digit c.requires.digit) c.append_byte.ensures.text
