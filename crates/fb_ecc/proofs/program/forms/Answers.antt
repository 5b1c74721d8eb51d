use Rattle.fb_types.proofs.Common.{List, subst}
use Rattle.fb_types.specs.declared.library.Algorithm.{Algorithm}
use Rattle.fb_types.specs.declared.library.Transition.{Transition}
use Rattle.fb_st.specs.Frames.{Declared}
use Rattle.fb_ecc.specs.Programs.{AreBodies, AreGuards}
use Rattle.fb_ecc.proofs.program.forms.Goals as goal

pub returns-clause-bodies : goal.returns-clause-bodies
returns-clause-bodies c =
    subst (λ (ds : List Declared). AreBodies ds c.args.block.now.algorithms c.in_ok-bodies.bodies) c.in_ok-scope.ensures
    (subst (λ (xs : List Algorithm). AreBodies c.in_ok-scope.scope.layout.now xs c.in_ok-bodies.bodies) c.as_slice.ensures c.in_ok-bodies.ensures)

pub returns-clause-guards : goal.returns-clause-guards
returns-clause-guards c =
    subst (λ (ds : List Declared). AreGuards ds c.args.block.now.transitions c.in_ok-guards.guards) c.in_ok-scope.ensures
    (subst (λ (xs : List Transition). AreGuards c.in_ok-scope.scope.layout.now xs c.in_ok-guards.guards) c.as_slice-2.ensures c.in_ok-guards.ensures)
