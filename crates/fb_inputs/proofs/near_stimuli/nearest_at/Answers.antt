use Rattle.std.proofs.Common.{◌≡◌, ℕ, arith, below_more, subst}
use Rattle.fb_read.specs.declared.token.Span.{Span}
use Rattle.fb_inputs.specs.NearSpans.{IsInStimuli}
use Rattle.fb_inputs.specs.Positions.{around_stimuli}
use Rattle.fb_inputs.specs.declared.position.StimuliPosition.{StimuliPosition}
use Rattle.fb_inputs.proofs.lemmas.positions.NearestSpans.{begins_stimuli}
use Rattle.fb_inputs.proofs.lemmas.positions.StepsAround.{next_step, no_step}
use Rattle.fb_inputs.proofs.near_stimuli.nearest_at.Goals as goal

pub loop-init : goal.loop-init
loop-init c = record { here = no_step around_stimuli c.args.position; nearer = λ k lt. absurd (omega arith); search = c.requires }

pub loop-preserved : goal.loop-preserved
loop-preserved c =
    let none = rw c.in_default.is at (rw c.in_ok-span.was at c.span_at.ensures.found) in
    record {
      here = next_step around_stimuli c.loop.counter c.args.position c.loop.here _ c.around-here.ensures c.loop.invariant.here;
      nearer = below_more _ c.loop.counter c.loop.invariant.nearer (subst (λ (p : StimuliPosition). (other : Span) → IsInStimuli c.args.text.now p other → ⊥) c.loop.invariant.here none);
      search = rw c.in_ok-span.was at c.span_at.ensures.search;
    }

pub returns-in-Some-clause-found : goal.returns-in-Some-clause-found
returns-in-Some-clause-found c =
    let found = rw c.in-Some.is at (rw c.in_ok-span.was at c.span_at.ensures.found) in
    record {
      steps = c.loop.counter;
      here = subst (λ (p : StimuliPosition). IsInStimuli c.args.text.now p c.in-Some.span) c.loop.invariant.here found;
      nearer = c.loop.invariant.nearer;
    }

pub returns-clause-found : goal.returns-clause-found
returns-clause-found c =
    let last : c.loop.counter ≡ 3 = let ended = c.loop-test.false in let most = c.loop.auto.counter-end in omega (arith, ended, most) in
    record { steps = c.loop.counter; here = begins_stimuli c.args.text.now c.args.position c.loop.counter _ last c.start_of.ensures; nearer = c.loop.invariant.nearer }
