use Rattle.fbsim_command.proofs.lemmas.Common.{Option, subst, arith}
use Rattle.fbsim_command.specs.Nearest.{IsBest}
use Rattle.fbsim_command.specs.declared.near.Candidate.{Candidate}
use Rattle.fbsim_command.proofs.lemmas.names.Nearest.{moves, opens, stays}
use Rattle.fbsim_command.proofs.near.nearer.Goals as goal

pub returns-in_default : goal.returns-in_default
returns-in_default c = λ f was far. opens f c.args.next (subst (λ (o : Option Candidate). IsBest f c.args.next.index o) c.in_default.is was) far

pub returns-then-candidate-next : goal.returns-then-candidate-next
returns-then-candidate-next c = λ f was far.
    stays f c.in-Some.candidate c.args.next (subst (λ (o : Option Candidate). IsBest f c.args.next.index o) c.in-Some.is was) far (let near = c.if-candidate-next.true in omega (arith, near))

pub returns : goal.returns
returns c = λ f was far.
    moves f c.in-Some.candidate c.args.next (subst (λ (o : Option Candidate). IsBest f c.args.next.index o) c.in-Some.is was) far (let near = c.if-candidate-next.false in omega (arith, near))
