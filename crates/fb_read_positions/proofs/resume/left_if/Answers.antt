use Rattle.std.proofs.Common.{sym}
use Rattle.fb_read.specs.Tokens.{tokens_of}
use Rattle.fb_read_positions.proofs.lemmas.TokensLeft.{was_read, was_refused}
use Rattle.fb_read_positions.proofs.resume.left_if.Goals as goal

pub returns-in-Ok : goal.returns-in-Ok
returns-in-Ok c = λ walk tokens rest reads is. (rest, was_read (walk (tokens_of tokens)) rest c.args.read reads c.in-Ok.is, sym is)

pub returns-in-Memory : goal.returns-in-Memory
returns-in-Memory c = λ walk tokens rest reads is. tt

pub returns-in_default : goal.returns-in_default
returns-in_default c = λ walk tokens rest reads is here e. was_refused (walk (tokens_of tokens)) rest here c.args.read c.in-Err.fault reads c.in-Err.is c.in_default.not-Memory e
