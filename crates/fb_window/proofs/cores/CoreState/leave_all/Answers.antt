use Rattle.fb_window.proofs.lemmas.Common.{◌≡◌, ◌^◌, ◌≤◌, ◌++◌, ℕ, List, [], ◌∷◌, Some, length, map, slice_get, sym, ap, subst, ◌∙◌, append_assoc, arith, slice_index_or, into_iter_items, Resource, job_of, jobs_of, resting_of}
use Rattle.fb_types.proofs.Common.{length-map}
use Rattle.fb_window.proofs.lemmas.phases.Leaves.{jobs_push, map_push, no_more}
use Rattle.fb_laws.proofs.lemmas.lists.Indexes.{middle_at}
use Rattle.fb_window.proofs.cores.CoreState.leave_all.Goals as goal

pub leave-requires-clause-of : goal.leave-requires-clause-of
leave-requires-clause-of c =
    let done = c.loop-resource.yielded in
    let x = c.in-Some.resource in
    let rest = ap (λ z. done ++ z) (sym c.in-Some.ensures.steps.0) ∙ c.loop-resource.invariant.rest in
    c.requires.of (length done) x (middle_at done (into_iter_items c.next.new.self) c.args.resources.items x rest)

pub leave-requires-clause-may : goal.leave-requires-clause-may
leave-requires-clause-may c = λ live.
    let done = c.loop-resource.yielded in
    let x = c.in-Some.resource in
    let bounds = c.args.bounds.now.all in
    let rest = ap (λ z. done ++ z) (sym c.in-Some.ensures.steps.0) ∙ c.loop-resource.invariant.rest in
    let at : slice_get c.args.resources.items (length done) ≡ Some x = middle_at done (into_iter_items c.next.new.self) c.args.resources.items x rest in
    let long : c.len.result ≡ length done = c.len.ensures ∙ c.loop-resource.resting.ok.0 ∙ ap length c.loop-resource.invariant.resting ∙ length-map done resting_of in
    subst (λ (k : ℕ). (x.clock ≤ slice_index_or bounds k 0) × (slice_index_or bounds k 0 ≤ 10 ^ 12)) (sym long) (c.requires.bounds (length done) x at live)

pub loop-resource-preserved : goal.loop-resource-preserved
loop-resource-preserved c =
    let i = c.args.system.now in
    let limit = c.args.steps in
    let bounds = c.args.bounds.now.all in
    let inv = c.loop-resource.invariant in
    let done = c.loop-resource.yielded in
    let x = c.in-Some.resource in
    let step = c.in-Some.ensures.steps in
    let rest = ap (λ z. done ++ z) (sym step.0) ∙ inv.rest in
    let long : c.len.result ≡ length done = c.len.ensures ∙ c.loop-resource.resting.ok.0 ∙ ap length inv.resting ∙ length-map done resting_of in
    record {
      jobs =
          c.in_ok-leave.ensures.jobs ∙ ap (λ z. z ++ job_of i limit (slice_index_or bounds c.len.result 0) x) inv.jobs
          ∙ ap (λ k. jobs_of i limit bounds 0 done ++ job_of i limit (slice_index_or bounds k 0) x) long
          ∙ sym (jobs_push i limit bounds 0 (length done) done x (omega arith));
      resting = c.in_ok-leave.ensures.resting ∙ ap (λ z. z ++ resting_of x ∷ []) inv.resting ∙ sym (map_push resting_of done x);
      rest = append_assoc done (x ∷ []) (into_iter_items c.next.new.self) ∙ rest;
      len = let same = ap length step.0 in omega (arith, inv.len, step.1, same);
    }

pub returns-clause-jobs : goal.returns-clause-jobs
returns-clause-jobs c =
    let inv = c.loop-resource.invariant in
    let all = no_more c.loop-resource.yielded (into_iter_items c.loop-resource.resource-iterator) c.args.resources.items inv.rest (let end = c.in-None.ensures.steps in omega (arith, inv.len, end.0)) in
    inv.jobs ∙ ap (λ (xs : List Resource). jobs_of c.args.system.now c.args.steps c.args.bounds.now.all 0 xs) all

pub returns-clause-resting : goal.returns-clause-resting
returns-clause-resting c =
    let inv = c.loop-resource.invariant in
    let all = no_more c.loop-resource.yielded (into_iter_items c.loop-resource.resource-iterator) c.args.resources.items inv.rest (let end = c.in-None.ensures.steps in omega (arith, inv.len, end.0)) in
    inv.resting ∙ ap (λ (xs : List Resource). map resting_of xs) all
