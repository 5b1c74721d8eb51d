use Rattle.std.proofs.Common.{◌≤◌, ◌^◌, arith}
use Rattle.fbsim_session.proofs.talking.Console.end_of_input.Goals as goal

pub finish-requires-clause-most : goal.finish-requires-clause-most
finish-requires-clause-most g c = let e : c.args.self.now.session.reached ≤ 10 ^ 12 = c.requires.told.1.stands.early in omega arith

pub returns : goal.returns
returns g c = c.finish.ensures
