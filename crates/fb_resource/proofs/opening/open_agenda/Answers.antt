use Rattle.fb_types.proofs.Common.{rules, ◌≡◌, ◌<◌, length, sym, ap, subst, ◌∙◌, arith, system_of}
use Rattle.fb_resource.specs.Openings.{HasRestarts, HasStimuli, is_of}
use Rattle.fb_resource.proofs.lemmas.OpenIs.{opened, restarts_none, restarts_put, restarts_skip, stimuli_none, stimuli_put, stimuli_skip}
use Rattle.fb_resource.proofs.opening.open_agenda.Goals as goal
use Rattle.fb_resource.proofs.opening.open_agenda.Goals.{then-is_asked+in_ok-put_stimulus, else-is_asked, then-is_asked-2+in_ok-start_restart, else-is_asked-2}

-- ---- The stimuli

pub loop-row-init : goal.loop-row-init
loop-row-init c = stimuli_none c.args.system.now c.args.of c.in_ok-agenda.agenda c.in_ok-agenda.ensures.empty (c.in_ok-agenda.ensures.due ∙ c.count.ensures)

pub loop-row-preserved : goal.loop-row-preserved
loop-row-preserved c =
    let i = c.args.system.now in
    let row = c.loop-row.row in
    let old = c.loop-row.agenda in
    let key = c.key_of_stimulus-key.result in
    let is = c.key_of_stimulus-key.ensures.key in
    let may = c.key_of_stimulus-key.ensures.waits in
    elim c.if-is_asked.branch [
      | then-is_asked+in_ok-put_stimulus w ↦
          rw w.agenda-is
          (stimuli_put i c.args.of row key old w.put_stimulus.new.self is may (sym c.is_asked.ensures ∙ w.if-is_asked.true)
          w.in_ok-put_stimulus.ensures.put w.put_stimulus.ensures.due c.loop-row.invariant)
      | else-is_asked w ↦ rw w.agenda-is (stimuli_skip i c.args.of row key old is (sym c.is_asked.ensures ∙ w.if-is_asked.false) c.loop-row.invariant)
    ]

-- ---- The timers that start by themselves

pub loop-instance-init : goal.loop-instance-init
loop-instance-init c =
    let i = c.args.system.now in
    let end : c.loop-row.row ≡ length i.stimuli = search rules in
    restarts_none i c.args.of c.loop-row.agenda (subst (λ n. HasStimuli i c.args.of n c.loop-row.agenda) end c.loop-row.invariant)

pub loop-instance-preserved : goal.loop-instance-preserved
loop-instance-preserved c =
    let i = c.args.system.now in
    let of = c.args.of in
    let n = c.loop-instance.instance in
    let old = c.loop-instance.agenda in
    let inv = c.loop-instance.invariant in
    let count = c.count-instance-end.ensures in
    let within : n < length (system_of i).paths = omega (arith, count, c.loop-instance-test.true) in
    let asked = ap (is_of of) (sym c.resource_of.ensures.resource) ∙ sym c.is_asked-in-loop-instance.ensures in
    elim c.if-is_asked-2.branch [
      | then-is_asked-2+in_ok-start_restart w ↦
          let ok = w.in_ok-start_restart.ensures in
          rw w.agenda-is (restarts_put i of n old w.start_restart.new.agenda within (asked ∙ w.if-is_asked-2.true) ok.put ok.order ok.timers w.start_restart.ensures.due inv)
      | else-is_asked-2 w ↦ rw w.agenda-is (restarts_skip i of n old within (asked ∙ w.if-is_asked-2.false) inv)
    ]

pub returns : goal.returns
returns c =
    let i = c.args.system.now in
    let end : c.loop-instance.instance ≡ length (system_of i).paths = search rules in
    opened i c.args.of c.loop-instance.agenda (subst (λ n. HasRestarts i c.args.of n c.loop-instance.agenda) end c.loop-instance.invariant)
