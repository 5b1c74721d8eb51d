use Rattle.std.proofs.Common.{nat_lt, ◌∙◌, ap}
use Rattle.fbsim_command.proofs.expect.are_named.Goals as goal

pub returns : goal.returns
returns c = ap (nat_lt 1) (c.len.ensures ∙ c.args.expect.now.traces.ok.0)
