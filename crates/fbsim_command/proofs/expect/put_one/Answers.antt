use Rattle.fbsim_command.proofs.lemmas.Common.{noted_of, IsUnheld, Memory}
use Rattle.fbsim_command.proofs.lemmas.rules.HeldRules.{passed-on, put-one}
use Rattle.fbsim_command.proofs.expect.put_one.Goals as goal

pub returns-in_err-judged-clause-unheld : goal.returns-in_err-judged-clause-unheld
returns-in_err-judged-clause-unheld g c =
    passed-on c.from_residual.result _ (IsUnheld g.S.Streams.opens c.args.expect.now c.args.source.now c.hold.new.source c.args.at.1.now (noted_of c.hold.new.note)) c.from_residual.ensures.1
    c.in_err-judged.ensures.unheld

pub returns-in_err-put_part-clause-unheld : goal.returns-in_err-put_part-clause-unheld
returns-in_err-put_part-clause-unheld g c =
    passed-on c.from_residual-in_err-put_part.result Memory (IsUnheld g.S.Streams.opens c.args.expect.now c.args.source.now c.hold.new.source c.args.at.1.now (noted_of c.hold.new.note))
    c.from_residual-in_err-put_part.ensures.1 c.in_ok-judged.ensures.unnoted

pub returns-clause-put : goal.returns-clause-put
returns-clause-put g c =
    put-one g.S.Streams.opens c.args.expect.now c.args.rules.now c.args.at.0 c.args.at.1 c.args.source.now c.hold.new.source c.args.text.now.items c.put_part.new.text.items
    c.in_ok-judged.judged.items c.as_slice.result.now c.in_ok-judged.ensures.held c.in_ok-judged.ensures.each c.in_ok-put_part.ensures c.as_slice.ensures.value
