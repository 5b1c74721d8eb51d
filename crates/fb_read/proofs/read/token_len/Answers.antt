use Rattle.fb_read.proofs.read.token_len.Goals as goal

pub returns : goal.returns
returns c = (_, c.in_ok-token.ensures.value, c.in_ok-token.ensures.within.0, c.in_ok-token.ensures.within.1)
