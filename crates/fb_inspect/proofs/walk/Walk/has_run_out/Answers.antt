use Rattle.fb_inspect.proofs.lemmas.Common.{◌≡◌, Some, inl, inr, sym, ap, ◌∙◌, arith, false≢true, nat_tests, Reason, left_at}
use Rattle.fb_inspect.proofs.lemmas.lines.NearStop.{kept_at, no_steps, none_kept, out_of_steps}
use Rattle.fb_inspect.proofs.walk.Walk.has_run_out.Goals as goal

pub returns-in-Some-clause-out : goal.returns-in-Some-clause-out
returns-in-Some-clause-out c = λ sys look is yes. inl (c.in-Some.is ∙ ap (λ (r : Reason). Some r) (c.is_for_steps.ensures.steps yes))

pub returns-in-Some-clause-other : goal.returns-in-Some-clause-other
returns-in-Some-clause-other c = λ sys look is within no out. no_steps c.args.stop c.in-Some.reason _ c.in-Some.is (c.is_for_steps.ensures.other no) out

pub returns-in-Some-get-clause-out : goal.returns-in-Some-get-clause-out
returns-in-Some-get-clause-out c = λ sys look is yes.
    let r = c.args.key.now.resource in
    let own = c.in-Some-get.own.now in
    let there = kept_at c.args.self.now.steps.items c.as_slice.result.now r own c.as_slice.ensures.value c.in-Some-get.ensures.lookup.3.0 c.in-Some-get.ensures.lookup.1 in
    let none : c.left_at.result ≡ 0 = grind (arith, nat_tests, yes) in
    inr (c.in_default.is, ap (left_at c.args.limit c.args.key.now.tick) (is.lefts r own there) ∙ sym c.left_at.ensures ∙ none)

pub returns-in-Some-get-clause-other : goal.returns-in-Some-get-clause-other
returns-in-Some-get-clause-other c = λ sys look is within no out.
    let r = c.args.key.now.resource in
    let own = c.in-Some-get.own.now in
    let there = kept_at c.args.self.now.steps.items c.as_slice.result.now r own c.as_slice.ensures.value c.in-Some-get.ensures.lookup.3.0 c.in-Some-get.ensures.lookup.1 in
    let left : c.left_at.result ≡ 0 = c.left_at.ensures ∙ sym (ap (left_at c.args.limit c.args.key.now.tick) (is.lefts r own there)) ∙ out_of_steps c.args.stop _ c.in_default.is out in
    grind (arith, nat_tests, no, left)

pub returns-in-None-clause-out : goal.returns-in-None-clause-out
returns-in-None-clause-out c = λ sys look is yes. absurd (false≢true yes)

pub returns-in-None-clause-other : goal.returns-in-None-clause-other
returns-in-None-clause-other c = λ sys look is within no out.
    none_kept c.args.self.now.steps.items c.as_slice.result.now _ c.args.key.now.resource c.as_slice.ensures.value is.counts within c.in-None.ensures.lookup.3
