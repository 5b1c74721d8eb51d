use Rattle.fb_inputs.proofs.lemmas.Common.{ap, arith, length, err_from_is_err_and, fault_of, value_at, setting, RowFault}
use Rattle.fb_inputs.proofs.lemmas.Each.{more_at, fails_at, not_refused, done_at}
use Rattle.fb_inputs.proofs.lemmas.deployments.TableResults.{if-some}
use Rattle.fb_inputs.proofs.row.settings.Goals as goal

pub returns-in_err-setting : goal.returns-in_err-setting
returns-in_err-setting c =
    let step = rw c.in-Some.is at c.next.ensures.steps in
    let p = err_from_is_err_and c.from_residual.result c.from_residual.ensures.1 in
    let f = c.in_err-setting.field-0.0 in
    rw (p.1, p.2) (if-some (fault_of f) _ _
    (λ (why : RowFault) e. fails_at value_at setting c.loop-word.found c.in-Some.word c.next.new.self.rest.items _ why _ step.0 e c.loop-word.invariant.found)
    (rw c.len.ensures at c.in_err-setting.ensures))

pub loop-word-preserved : goal.loop-word-preserved
loop-word-preserved c =
    let step = rw c.in-Some.is at c.next.ensures.steps in
    record {
      found = rw c.in_ok-push.ensures.ok (more_at value_at setting c.loop-word.found c.in-Some.word c.next.new.self.rest.items _ _ _ step.0 (not_refused _ _ _ (rw c.len.ensures at c.in_ok-setting.ensures)) c.loop-word.invariant.found);
      counted = let before = c.loop-word.invariant.counted in let sizes = ap length step.0 in omega arith;
    }

pub returns : goal.returns
returns c =
    let step = rw c.in-None.is at c.next.ensures.steps in
    done_at value_at setting c.loop-word.found c.loop-word.word-iterator.rest.items _ (omega (arith, c.loop-word.invariant.counted, step.0)) c.loop-word.invariant.found
