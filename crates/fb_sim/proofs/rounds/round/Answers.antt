use Rattle.fb_sim.proofs.lemmas.Common.{ℕ, List, All, Ok, map, ◌^◌, ◌≤◌, vec_len, refl, subst, sym, ◌∙◌, arith, Appends, system_of, line_of, Line, BelongsTo, AreLegal, KeepHorizon, OfEachCore, WritesPartOf, text_of, Memory}
use denote.Param.Send.{sendable}
use Rattle.fb_resource.proofs.lemmas.Sends.{done_send}
use Rattle.fb_window.proofs.lemmas.messages.JobsCross.{job_send}
use Rattle.fb_sim.specs.Rounds.{Rounds}
use Rattle.fb_sim.specs.declared.progress.Round.{Round}
use Rattle.fb_sim.proofs.lemmas.rounds.OnePhase.{all_done, out_belongs}
use Rattle.fb_sim.proofs.lemmas.rounds.WindowIs.{is_home_once, on_its_way, round_failed, round_passed, round_wanting, round_whole}
use Rattle.fb_sim.proofs.rounds.round.Goals as goal

pub jobs-requires-clause-system : goal.jobs-requires-clause-system
jobs-requires-clause-system g c = sym c.requires.system

pub jobs-requires-clause-clocks : goal.jobs-requires-clause-clocks
jobs-requires-clause-clocks g c = subst (λ (n : ℕ). KeepHorizon n c.args.core.resources.items) (sym c.bounds-bounds.ensures.horizon) c.requires.clocks

pub jobs-requires-clause-legal : goal.jobs-requires-clause-legal
jobs-requires-clause-legal g c =
    subst (λ (n : ℕ). OfEachCore c.args.core.system c.args.core.steps c.args.core.resources.items (λ d. AreLegal c.args.core.system c.args.core.steps n d c.bounds-bounds.result.all)) (sym c.bounds-bounds.ensures.horizon)
    c.bounds-bounds.ensures.legal

pub settle-requires-clause-system : goal.settle-requires-clause-system
settle-requires-clause-system g c =
    let kept = c.in_ok-away.ensures.kept in
    sym (kept.0 ∙ c.requires.system)

pub settle-requires-clause-done : goal.settle-requires-clause-done
settle-requires-clause-done g c =
    let kept = c.in_ok-away.ensures.kept in
    all_done c.args.core _ c.bounds-bounds.result.all kept.0 kept.1 c.in_ok-away.ensures.away _ _ c.in_ok-away.ensures.jobs c.in_ok-dones.ensures

pub run_all-requires-send-W-Job : goal.run_all-requires-send-W-Job
run_all-requires-send-W-Job g c κs within = search (sendable, job_send) depth 40

pub run_all-requires-send-W-Done : goal.run_all-requires-send-W-Done
run_all-requires-send-W-Done g c κs within = search (sendable, done_send) depth 40

pub bounds-bounds-requires-clause-clocks : goal.bounds-bounds-requires-clause-clocks
bounds-bounds-requires-clause-clocks g c = c.requires.clocks

pub bounds-bounds-requires-clause-early : goal.bounds-bounds-requires-clause-early
bounds-bounds-requires-clause-early g c = c.requires.options.horizon_most

pub jobs-requires-clause-early : goal.jobs-requires-clause-early
jobs-requires-clause-early g c = subst (λ (n : ℕ). n ≤ 10 ^ 12) (sym c.bounds-bounds.ensures.horizon) c.requires.options.horizon_most

pub run_all-requires-clause-few_jobs : goal.run_all-requires-clause-few_jobs
run_all-requires-clause-few_jobs g c κs w =
    let few : vec_len c.in_ok-away.jobs ≤ 1024 = omega (arith, c.in_ok-away.ensures.few) in
    few

pub run_all-requires-clause-few_workers : goal.run_all-requires-clause-few_workers
run_all-requires-clause-few_workers g c κs w = (c.requires.options.workers_least, c.requires.options.workers_most)

pub hand_out-requires : goal.hand_out-requires
hand_out-requires g c =
    let kept = c.in_ok-away.ensures.kept in
    let belong =
    out_belongs c.args.system.now (record { accepted = c.facts.ensures.accepted; limits = c.facts.ensures.limits }) c.args.core c.requires.system c.facts-2.ensures c.args.options.horizon
    c.requires.clocks c.bounds-bounds.result.all c.bounds-bounds.ensures.legal _ kept.0 kept.1 (kept.2 ∙ c.bounds-bounds.ensures.horizon) c.in_ok-away.ensures.away _ c.in_ok-settled.ensures in
    subst (All (BelongsTo (system_of c.args.system.now))) (sym (c.deref.ensures.value ∙ c.parted-round.ensures.lines)) belong

pub returns-in_err-away : goal.returns-in_err-away
returns-in_err-away g c ls h =
    let o = c.args.options in
    let old = g.W.Write.contents c.args.out.now in
    round_passed c.args.system.now o h.steps ls old old _ Memory c.from_residual.ensures.1 (round_wanting c.args.system.now o h.steps ls old old Memory refl refl)

pub returns-in_err-dones : goal.returns-in_err-dones
returns-in_err-dones g c ls h =
    let o = c.args.options in
    let old = g.W.Write.contents c.args.out.now in
    round_passed c.args.system.now o h.steps ls old old _ Memory c.from_residual-in_err-dones.ensures.1 (round_wanting c.args.system.now o h.steps ls old old Memory refl refl)

pub returns-in_err-settled : goal.returns-in_err-settled
returns-in_err-settled g c ls h =
    let o = c.args.options in
    let old = g.W.Write.contents c.args.out.now in
    round_passed c.args.system.now o h.steps ls old old _ Memory c.from_residual-in_err-settled.ensures.1 (round_wanting c.args.system.now o h.steps ls old old Memory refl refl)

pub returns-in_err-hand_out : goal.returns-in_err-hand_out
returns-in_err-hand_out g c ls h =
    let o = c.args.options in
    let kept = c.in_ok-away.ensures.kept in
    let way = on_its_way c.args.system.now o.steps o.horizon c.args.core ls h in
    let home =
    is_home_once c.args.system.now o.steps o.horizon c.args.core ls way c.bounds-bounds.result.all _ kept.0 kept.1 kept.3 c.in_ok-away.ensures.away _
    (record { accepted = c.facts.ensures.accepted; limits = c.facts.ensures.limits }) (kept.2 ∙ c.bounds-bounds.ensures.horizon) c.bounds-bounds.ensures.legal _ c.bounds-bounds.ensures.bounds c.in_ok-settled.ensures in
    let old = g.W.Write.contents c.args.out.now in
    let new = g.W.Write.contents c.hand_out.new.out in
    let e = c.in_err-hand_out.field-0.0 in
    round_passed c.args.system.now o h.steps ls old new _ e c.from_residual-in_err-hand_out.ensures.1
    (round_failed c.args.system.now o h.steps ls old new c.in_ok-settled.settled e home
    (subst (λ (xs : List Line). WritesPartOf old new (text_of c.args.system.now o.form (map (line_of (system_of c.args.system.now)) xs)) e) (c.deref.ensures.value ∙ c.parted-round.ensures.lines) c.in_err-hand_out.ensures.part))

pub returns : goal.returns
returns g c ls h =
    let o = c.args.options in
    let kept = c.in_ok-away.ensures.kept in
    let way = on_its_way c.args.system.now o.steps o.horizon c.args.core ls h in
    let home =
    is_home_once c.args.system.now o.steps o.horizon c.args.core ls way c.bounds-bounds.result.all _ kept.0 kept.1 kept.3 c.in_ok-away.ensures.away _
    (record { accepted = c.facts.ensures.accepted; limits = c.facts.ensures.limits }) (kept.2 ∙ c.bounds-bounds.ensures.horizon) c.bounds-bounds.ensures.legal _ c.bounds-bounds.ensures.bounds c.in_ok-settled.ensures in
    let old = g.W.Write.contents c.args.out.now in
    let new = g.W.Write.contents c.hand_out.new.out in
    subst (λ (r : Round). Rounds c.args.system.now o h.steps ls old new (Ok r)) (sym c.parted-round.ensures.round)
    (round_whole c.args.system.now o h.steps ls old new c.in_ok-settled.settled home
    (subst (λ (xs : List Line). Appends old new (text_of c.args.system.now o.form (map (line_of (system_of c.args.system.now)) xs))) (c.deref.ensures.value ∙ c.parted-round.ensures.lines) c.in_ok-hand_out.ensures.whole.0))
