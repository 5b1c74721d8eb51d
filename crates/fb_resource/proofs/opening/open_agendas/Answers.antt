use Rattle.fb_types.proofs.Common.{rules, ◌≡◌, ◌+◌, ◌<◌, ◌∷◌, [], Some, length, length-append, refl, sym, ap, subst, ◌∙◌, arith, slice_get, slice_get_read, system_of}
use Rattle.fb_types.proofs.lemmas.lists.ByIndex.{slice_get-push}
use Rattle.fb_resource.specs.Openings.{HasRestarts, HasStimuli, IsOpened, OneEach}
use Rattle.fb_resource.proofs.lemmas.Apart.{each_more, restart_apart, stimulus_apart}
use Rattle.fb_resource.proofs.lemmas.OpenIs.{opened, restarts_none, stimuli_none}
use Rattle.fb_resource.proofs.opening.open_agendas.Goals as goal

-- ---- Agendas on which nothing waits

pub loop-preserved : goal.loop-preserved
loop-preserved c =
    let i = c.args.system.now in
    let agendas = c.loop.agendas.items in
    let agenda = c.in_ok-new.field-0 in
    let items = c.in_ok-push.ensures.items in
    record {
      counted = ap length items ∙ length-append agendas (agenda ∷ []) ∙ ap (λ n. n + 1) c.loop.invariant.counted;
      each = λ r a had.
          slice_get-push (λ q. HasStimuli i (Some q) 0) agendas agenda c.loop.invariant.each
          (stimuli_none i (Some (length agendas)) agenda c.in_ok-new.ensures.empty (c.in_ok-new.ensures.due ∙ c.count.ensures)) r a
          (sym (ap (λ zs. slice_get zs r) items) ∙ had);
    }

-- ---- The stimuli

pub loop-row-preserved : goal.loop-row-preserved
loop-row-preserved c =
    let i = c.args.system.now in
    let row = c.loop-row.row in
    let agendas = c.loop-row.agendas.items in
    let key = c.key_of_stimulus-key.result in
    let old = c.index_mut.result.now in
    let is = c.key_of_stimulus-key.ensures.key in
    let may = c.key_of_stimulus-key.ensures.waits in
    let counted = c.loop-row.invariant.counted in
    let named = may.resource in
    let within : key.resource < length agendas = omega (arith, counted, named) in
    stimulus_apart i row key old c.put_stimulus.new.self agendas within (slice_get_read agendas (length agendas) key.resource old refl within c.index_mut.ensures.value) is may
    c.in_ok-put_stimulus.ensures.put c.put_stimulus.ensures.due c.loop-row.invariant

-- ---- The timers that start by themselves

pub loop-instance-init : goal.loop-instance-init
loop-instance-init c =
    let i = c.args.system.now in
    let end : c.loop-row.row ≡ length i.stimuli = search rules in
    each_more i (λ r. HasStimuli i (Some r) (length i.stimuli)) (λ r. HasRestarts i (Some r) 0) c.loop-row.agendas.items (λ r a. restarts_none i (Some r) a)
    (subst (λ n. OneEach i (λ r. HasStimuli i (Some r) n) c.loop-row.agendas.items) end c.loop-row.invariant)

pub start_restart-requires-clause-order : goal.start_restart-requires-clause-order
start_restart-requires-clause-order c =
    let agendas = c.loop-instance.agendas.items in
    let r = c.resource_of-resource.result in
    let old = c.index_mut-in-loop-instance.result.now in
    let counted = c.loop-instance.invariant.counted in
    let within : r < length agendas = omega (arith, counted, c.resource_of-resource.ensures.named) in
    (c.loop-instance.invariant.each r old (slice_get_read agendas (length agendas) r old refl within c.index_mut-in-loop-instance.ensures.value)).order

pub start_restart-requires-clause-timers : goal.start_restart-requires-clause-timers
start_restart-requires-clause-timers c =
    let agendas = c.loop-instance.agendas.items in
    let r = c.resource_of-resource.result in
    let old = c.index_mut-in-loop-instance.result.now in
    let counted = c.loop-instance.invariant.counted in
    let within : r < length agendas = omega (arith, counted, c.resource_of-resource.ensures.named) in
    (c.loop-instance.invariant.each r old (slice_get_read agendas (length agendas) r old refl within c.index_mut-in-loop-instance.ensures.value)).timers

pub loop-instance-preserved : goal.loop-instance-preserved
loop-instance-preserved c =
    let i = c.args.system.now in
    let n = c.loop-instance.instance in
    let agendas = c.loop-instance.agendas.items in
    let r = c.resource_of-resource.result in
    let old = c.index_mut-in-loop-instance.result.now in
    let counted = c.loop-instance.invariant.counted in
    let within : r < length agendas = omega (arith, counted, c.resource_of-resource.ensures.named) in
    let count = c.count-instance-end.ensures in
    let numbered : n < length (system_of i).paths = omega (arith, count, c.loop-instance-test.true) in
    let ok = c.in_ok-start_restart.ensures in
    restart_apart i n r old c.start_restart.new.agenda agendas numbered c.resource_of-resource.ensures.resource within
    (slice_get_read agendas (length agendas) r old refl within c.index_mut-in-loop-instance.ensures.value) ok.put ok.order ok.timers c.start_restart.ensures.due c.loop-instance.invariant

pub returns : goal.returns
returns c =
    let i = c.args.system.now in
    let end : c.loop-instance.instance ≡ length (system_of i).paths = search rules in
    each_more i (λ r. HasRestarts i (Some r) (length (system_of i).paths)) (λ r. IsOpened i (Some r)) c.loop-instance.agendas.items (λ r a. opened i (Some r) a)
    (subst (λ n. OneEach i (λ r. HasRestarts i (Some r) n) c.loop-instance.agendas.items) end c.loop-instance.invariant)
