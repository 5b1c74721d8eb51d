use Rattle.std.proofs.Common.{◌≡◌, arith, below_more}
use Rattle.fb_inputs.specs.Positions.{around_deploy}
use Rattle.fb_inputs.proofs.lemmas.positions.StepsAround.{next_step, no_step}
use Rattle.fb_deploy_positions.specs.Entries.{span_at}
use Rattle.fb_deploy_positions.proofs.lemmas.Nearest.{begins, none_at, some_at}
use Rattle.fb_deploy_positions.proofs.outline.Outline.nearest.Goals as goal

pub loop-init : goal.loop-init
loop-init c = record { here = no_step around_deploy c.args.position; nearer = λ k lt. absurd (omega arith) }

pub loop-preserved : goal.loop-preserved
loop-preserved c = record {
  here = next_step around_deploy c.loop.counter c.args.position c.loop.here _ c.around-here.ensures c.loop.invariant.here;
  nearer = below_more _ c.loop.counter c.loop.invariant.nearer
      (none_at (span_at c.args.self.now.text.now) _ c.loop.here _ c.in_ok-span.ensures c.in-None.is c.loop.invariant.here);
}

pub returns-in-Some : goal.returns-in-Some
returns-in-Some c = record {
  steps = c.loop.counter;
  here = some_at (span_at c.args.self.now.text.now) _ c.loop.here _ c.in-Some.span c.in_ok-span.ensures c.in-Some.is c.loop.invariant.here;
  nearer = c.loop.invariant.nearer;
}

pub returns : goal.returns
returns c =
    let last : c.loop.counter ≡ 5 = let ended = c.loop-test.false in let most = c.loop.auto.counter-end in omega (arith, ended, most) in
    record { steps = c.loop.counter; here = begins c.args.self.now.text.now c.args.position c.loop.counter _ last c.start_of.ensures; nearer = c.loop.invariant.nearer }
