use Rattle.fb_types.proofs.Common.{◌<◌, ◌≤◌, List, append-nil, ap, arith, length, map, subst, sym, ◌∙◌, All-nil, system_of, Taken, opening, stimulus_of}
use Rattle.fb_types.specs.declared.deploy.Stimulus.{Stimulus}
use Rattle.fb_sim_machine.specs.Machines.{IsAt}
use Rattle.fb_session.specs.Pasts.{IsRow}
use Rattle.fb_session.proofs.session.Session.open.Goals as goal

pub returns-clause-stands : goal.returns-clause-stands
returns-clause-stands c =
    let i = c.args.system.now in
    let m = c.in_ok-machine.machine in
    record {
      judged = c.requires.judge;
      some_steps = c.requires.some;
      few_steps = c.requires.few;
      early = omega arith;
      rows = All-nil (IsRow i);
      counted = ap (λ (ss : List Stimulus). length ss) (c.stimuli.ensures ∙ sym (append-nil i.stimuli));
      chain = tt;
      before = All-nil (λ (x : Taken). x.key.tick < 0);
      ends = tt;
      at = λ alive.
          subst (λ (ss : List Stimulus). IsAt i (opening (system_of i) (map stimulus_of ss)).state (opening (system_of i) (map stimulus_of ss)).agenda m) (sym (append-nil i.stimuli))
          c.in_ok-machine.ensures.at;
      none = λ alive. c.in_ok-machine.ensures.lines;
      goes = λ alive. (0, λ on. omega arith, c.in_ok-machine.ensures.ready c.args.steps, All-nil (λ (x : Taken). x.key.tick ≤ 0));
    }
