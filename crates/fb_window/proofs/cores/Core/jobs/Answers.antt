use Rattle.fb_window.proofs.lemmas.Common.{◌≡◌, ◌≤◌, ◌∙◌, length, refl, ap, subst, sym, arith, Vec, Inputs, system_of, count_of, AreGood, IsOf, JobModel, jobs_of, AreLegal, HasLeft, KeepHorizon, AwayState, CoreState}
use Rattle.fb_window.specs.Reaching.{OfEachCore}
use Rattle.fb_window.proofs.lemmas.bounds.KeptHorizons.{is_away, leave}
use Rattle.fb_window.proofs.lemmas.phases.Leaves.{jobs_few}
use Rattle.fb_window.proofs.lemmas.phases.Passes.{few_resources}
use Rattle.fb_window.proofs.cores.Core.jobs.Goals as goal

pub leave_all-requires-clause-of : goal.leave_all-requires-clause-of
leave_all-requires-clause-of c = λ r x e.
    subst (λ (i : Inputs). IsOf i x) (sym (c.requires.system ∙ sym (ap (λ (s : CoreState). s.system) c.self.view_is))) (c.self.invariant.way.at.each r x e).of

pub leave_all-requires-clause-few : goal.leave_all-requires-clause-few
leave_all-requires-clause-few c =
    let i = c.args.system.now in
    let s : CoreState = c.self.inside.state in
    let good : AreGood i = record { accepted = c.facts.ensures.accepted; limits = c.facts.ensures.limits } in
    let few : count_of (system_of i) ≤ 256 = few_resources i good in
    let same : count_of (system_of i) ≡ count_of (system_of s.system) = ap (λ z. count_of (system_of z)) (c.requires.system ∙ sym (ap (λ (z : CoreState). z.system) c.self.view_is)) in
    let counted : length s.resources.items ≡ count_of (system_of s.system) = c.self.invariant.way.at.counted in
    omega (arith, few, same, counted)

pub leave_all-requires-clause-bounds : goal.leave_all-requires-clause-bounds
leave_all-requires-clause-bounds c =
    let s : CoreState = c.self.inside.state in
    let b = c.args.bounds in
    let good : AreGood s.system =
    subst AreGood (c.requires.system ∙ sym (ap (λ (z : CoreState). z.system) c.self.view_is)) (record { accepted = c.facts.ensures.accepted; limits = c.facts.ensures.limits }) in
    leave s good c.self.invariant b.horizon (subst (λ (z : CoreState). KeepHorizon b.horizon z.resources.items) (sym c.self.view_is) c.requires.clocks) b.all
    (subst (λ (z : CoreState). OfEachCore z.system z.steps z.resources.items (λ d. AreLegal z.system z.steps b.horizon d b.all)) (sym c.self.view_is) c.requires.legal) c.requires.early

pub leave_all-requires-clause-steps : goal.leave_all-requires-clause-steps
leave_all-requires-clause-steps c = (c.self.invariant.some_steps, c.self.invariant.few_steps)

pub invariant_of-result : goal.invariant_of-result
invariant_of-result c =
    let s : CoreState = c.self.inside.state in
    let b = c.args.bounds in
    let w = c.self.invariant.way.at in
    let of = c.requires.system ∙ sym (ap (λ (z : CoreState). z.system) c.self.view_is) in
    let good : AreGood s.system = subst AreGood of (record { accepted = c.facts.ensures.accepted; limits = c.facts.ensures.limits }) in
    let left = c.in_ok-leave_all.ensures in
    let away : AwayState = record { system = s.system; steps = s.steps; horizon = b.horizon; resting = c.leave_all.new.resting; pending = s.pending; jobs = c.of-sent_out.result } in
    is_away s good c.self.invariant b.horizon (subst (λ (z : CoreState). KeepHorizon b.horizon z.resources.items) (sym c.self.view_is) c.requires.clocks) b.all
    (subst (λ (z : CoreState). OfEachCore z.system z.steps z.resources.items (λ d. AreLegal z.system z.steps b.horizon d b.all)) (sym c.self.view_is) c.requires.legal)
    away refl refl refl refl
    (record {
      counted = w.counted;
      numbered = λ r x e. (w.each r x e).number;
      jobs = ap (λ (v : Vec JobModel). v.items) c.of-sent_out.ensures ∙ left.jobs ∙ ap (λ (i : Inputs). jobs_of i s.steps b.all 0 s.resources.items) of;
      resting = left.resting;
    })

pub returns-clause-jobs : goal.returns-clause-jobs
returns-clause-jobs c =
    let s : CoreState = c.self.inside.state in
    let b = c.args.bounds in
    subst (λ (z : CoreState). c.leave_all.new.jobs.items ≡ jobs_of z.system z.steps b.all 0 z.resources.items) c.self.view_is
    (c.in_ok-leave_all.ensures.jobs ∙ ap (λ (i : Inputs). jobs_of i s.steps b.all 0 s.resources.items) (c.requires.system ∙ sym (ap (λ (z : CoreState). z.system) c.self.view_is)))

pub returns-clause-away : goal.returns-clause-away
returns-clause-away c =
    let s : CoreState = c.self.inside.state in
    let b = c.args.bounds in
    let w = c.self.invariant.way.at in
    let of = c.requires.system ∙ sym (ap (λ (z : CoreState). z.system) c.self.view_is) in
    let left = c.in_ok-leave_all.ensures in
    let away : AwayState = record { system = s.system; steps = s.steps; horizon = b.horizon; resting = c.leave_all.new.resting; pending = s.pending; jobs = c.of-sent_out.result } in
    subst (λ (z : CoreState). HasLeft z.resources.items b.all away) c.self.view_is
    (record {
      counted = w.counted;
      numbered = λ r x e. (w.each r x e).number;
      jobs = ap (λ (v : Vec JobModel). v.items) c.of-sent_out.ensures ∙ left.jobs ∙ ap (λ (i : Inputs). jobs_of i s.steps b.all 0 s.resources.items) of;
      resting = left.resting;
    })

pub returns-clause-kept : goal.returns-clause-kept
returns-clause-kept c =
    (ap (λ (z : CoreState). z.system) c.self.view_is, ap (λ (z : CoreState). z.steps) c.self.view_is, refl, ap (λ (z : CoreState). z.pending) c.self.view_is)

pub returns-clause-few : goal.returns-clause-few
returns-clause-few c =
    let i = c.args.system.now in
    let s : CoreState = c.self.inside.state in
    let good : AreGood i = record { accepted = c.facts.ensures.accepted; limits = c.facts.ensures.limits } in
    let few : count_of (system_of i) ≤ 256 = few_resources i good in
    let same : count_of (system_of i) ≡ count_of (system_of s.system) = ap (λ z. count_of (system_of z)) (c.requires.system ∙ sym (ap (λ (z : CoreState). z.system) c.self.view_is)) in
    let counted : length s.resources.items ≡ count_of (system_of s.system) = c.self.invariant.way.at.counted in
    let a = jobs_few i s.steps c.args.bounds.all 0 s.resources.items in
    let b = ap length c.in_ok-leave_all.ensures.jobs in
    omega (arith, a, b, few, same, c.leave_all.new.jobs.ok.0, counted)
