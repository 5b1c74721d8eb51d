use Rattle.fb_sim.proofs.lemmas.Common.{Ok, sym, subst, RunsOn, AtEnd, AtMark, End, Stop}
use Rattle.fb_sim.specs.Advances.{RunsTo}
use Rattle.fb_sim.specs.Views.{IsAtTick, stage_of}
use Rattle.fb_sim.specs.declared.rounds.all_rounds.Finish.{Finish}
use Rattle.fb_sim.specs.declared.state.Stage.TheVariants as going
use Rattle.fb_sim.specs.declared.state.SimulationState.{SimulationState}
use Rattle.fb_sim.proofs.lemmas.rounds.AdvanceIs.{onward, advanced_end, advanced_stop, broken_on, short_stop, fails_on, goes_on}
use Rattle.fb_sim.proofs.lemmas.runs.ViewIs.{on_way, ahead_of, stopped_of}
use Rattle.fb_sim.proofs.lemmas.runs.SimulationFields.{seen}
use Rattle.fb_sim.proofs.simulation.Simulation.run_to.Goals as goal

pub run_on-requires-clause-come : goal.run_on-requires-clause-come
run_on-requires-clause-come g c κs w =
    let v = seen c.self.inside in
    let way = on_way v c.args.self.now c.self.view_is (record { accepted = c.facts.ensures.accepted; limits = c.facts.ensures.limits }) c.args.to c.args.core c.requires.ahead c.requires.later in
    (way.lines, way.come)

pub returns-in_err-finish : goal.returns-in_err-finish
returns-in_err-finish g c =
    let v = seen c.self.inside in
    let way = on_way v c.args.self.now c.self.view_is (record { accepted = c.facts.ensures.accepted; limits = c.facts.ensures.limits }) c.args.to c.args.core c.requires.ahead c.requires.later in
    let e = c.in_err-finish.field-0.0 in
    let old = g.W.Write.contents c.args.out.now in
    let new = g.W.Write.contents c.run_on.new.out in
    let broken = broken_on (record v { stage = going.Running }) c.args.to way.later way.lines way.was old new e (c.in_err-finish.ensures way.lines way.come) in
    fails_on v c.args.self.now c.self.view_is c.requires.out c.args.to old new e broken c.from_residual.result c.from_residual.ensures.1

pub invariant_of-self : goal.invariant_of-self
invariant_of-self g c =
    let v = seen c.self.inside in
    let way = on_way v c.args.self.now c.self.view_is (record { accepted = c.facts.ensures.accepted; limits = c.facts.ensures.limits }) c.args.to c.args.core c.requires.ahead c.requires.later in
    let old = g.W.Write.contents c.args.out.now in
    let new = g.W.Write.contents c.run_on.new.out in
    let ran : RunsOn v.inputs (onward v c.args.to) way.lines old new (Ok (AtEnd c.in-AtEnd.core, c.in_ok-finish.written)) =
    subst (λ (f : Finish). RunsOn v.inputs (onward v c.args.to) way.lines old new (Ok (f, c.in_ok-finish.written))) c.in-AtEnd.is (c.in_ok-finish.ensures way.lines way.come) in
    record {
      some_steps = c.self.invariant.some_steps;
      few_steps = c.self.invariant.few_steps;
      some_workers = c.self.invariant.some_workers;
      few_workers = c.self.invariant.few_workers;
      early = c.requires.early;
      at = subst (λ (s : SimulationState). IsAtTick v.inputs v.steps c.args.to s) (sym c.put.ensures) (ahead_of v.inputs v.steps c.args.to c.in-AtEnd.core _ ran.1);
    }

pub returns-in-AtEnd : goal.returns-in-AtEnd
returns-in-AtEnd g c =
    let v = seen c.self.inside in
    let way = on_way v c.args.self.now c.self.view_is (record { accepted = c.facts.ensures.accepted; limits = c.facts.ensures.limits }) c.args.to c.args.core c.requires.ahead c.requires.later in
    let old = g.W.Write.contents c.args.out.now in
    let new = g.W.Write.contents c.run_on.new.out in
    let ran : RunsOn v.inputs (onward v c.args.to) way.lines old new (Ok (AtEnd c.in-AtEnd.core, c.in_ok-finish.written)) =
    subst (λ (f : Finish). RunsOn v.inputs (onward v c.args.to) way.lines old new (Ok (f, c.in_ok-finish.written))) c.in-AtEnd.is (c.in_ok-finish.ensures way.lines way.come) in
    let s = c.args.self.now in
    let gone = advanced_end (record v { stage = going.Running }) c.args.to way.later way.lines way.was old new c.in-AtEnd.core c.in_ok-finish.written ran in
    let n = c.in_ok-finish.written in
    subst (λ (x : SimulationState). RunsTo (record s { stage = going.Running }) (record v { to = c.args.to; stage = stage_of x }) c.args.to old new (Ok (End c.args.to, n))) (sym c.put.ensures)
    (goes_on v s (record v { to = c.args.to; stage = going.Running }) c.self.view_is c.args.to old new (End c.args.to) n gone)

pub close-requires : goal.close-requires
close-requires g c =
    let v = seen c.self.inside in
    let way = on_way v c.args.self.now c.self.view_is (record { accepted = c.facts.ensures.accepted; limits = c.facts.ensures.limits }) c.args.to c.args.core c.requires.ahead c.requires.later in
    let old = g.W.Write.contents c.args.out.now in
    let new = g.W.Write.contents c.run_on.new.out in
    let ran : RunsOn v.inputs (onward v c.args.to) way.lines old new (Ok (AtMark c.in-AtMark.mark, c.in_ok-finish.written)) =
    subst (λ (f : Finish). RunsOn v.inputs (onward v c.args.to) way.lines old new (Ok (f, c.in_ok-finish.written))) c.in-AtMark.is (c.in_ok-finish.ensures way.lines way.come) in
    ran.1.0

pub returns-in_err-close-in-AtMark : goal.returns-in_err-close-in-AtMark
returns-in_err-close-in-AtMark g c =
    let v = seen c.self.inside in
    let way = on_way v c.args.self.now c.self.view_is (record { accepted = c.facts.ensures.accepted; limits = c.facts.ensures.limits }) c.args.to c.args.core c.requires.ahead c.requires.later in
    let e = c.in_err-close-in-AtMark.field-0.0 in
    let old = g.W.Write.contents c.args.out.now in
    let mid = g.W.Write.contents c.run_on.new.out in
    let new = g.W.Write.contents c.close.new.out in
    let ran : RunsOn v.inputs (onward v c.args.to) way.lines old mid (Ok (AtMark c.in-AtMark.mark, c.in_ok-finish.written)) =
    subst (λ (f : Finish). RunsOn v.inputs (onward v c.args.to) way.lines old mid (Ok (f, c.in_ok-finish.written))) c.in-AtMark.is (c.in_ok-finish.ensures way.lines way.come) in
    let broken = short_stop (record v { stage = going.Running }) c.args.to way.later way.lines way.was old mid new c.in-AtMark.mark c.in_ok-finish.written ran e c.in_err-close-in-AtMark.ensures.part in
    fails_on v c.args.self.now c.self.view_is c.requires.out c.args.to old new e broken c.from_residual-in_err-close-in-AtMark.result c.from_residual-in_err-close-in-AtMark.ensures.1

pub invariant_of-self-in-AtMark : goal.invariant_of-self-in-AtMark
invariant_of-self-in-AtMark g c =
    let v = seen c.self.inside in
    let way = on_way v c.args.self.now c.self.view_is (record { accepted = c.facts.ensures.accepted; limits = c.facts.ensures.limits }) c.args.to c.args.core c.requires.ahead c.requires.later in
    let old = g.W.Write.contents c.args.out.now in
    let mid = g.W.Write.contents c.run_on.new.out in
    let ran : RunsOn v.inputs (onward v c.args.to) way.lines old mid (Ok (AtMark c.in-AtMark.mark, c.in_ok-finish.written)) =
    subst (λ (f : Finish). RunsOn v.inputs (onward v c.args.to) way.lines old mid (Ok (f, c.in_ok-finish.written))) c.in-AtMark.is (c.in_ok-finish.ensures way.lines way.come) in
    record {
      some_steps = c.self.invariant.some_steps;
      few_steps = c.self.invariant.few_steps;
      some_workers = c.self.invariant.some_workers;
      few_workers = c.self.invariant.few_workers;
      early = c.requires.early;
      at = subst (λ (s : SimulationState). IsAtTick v.inputs v.steps c.args.to s) (sym c.put-in-AtMark.ensures) (stopped_of v.inputs v.steps c.args.to c.in-AtMark.mark _ ran.1.1);
    }

pub returns : goal.returns
returns g c =
    let v = seen c.self.inside in
    let way = on_way v c.args.self.now c.self.view_is (record { accepted = c.facts.ensures.accepted; limits = c.facts.ensures.limits }) c.args.to c.args.core c.requires.ahead c.requires.later in
    let mark = c.in-AtMark.mark in
    let old = g.W.Write.contents c.args.out.now in
    let mid = g.W.Write.contents c.run_on.new.out in
    let new = g.W.Write.contents c.close.new.out in
    let ran : RunsOn v.inputs (onward v c.args.to) way.lines old mid (Ok (AtMark mark, c.in_ok-finish.written)) =
    subst (λ (f : Finish). RunsOn v.inputs (onward v c.args.to) way.lines old mid (Ok (f, c.in_ok-finish.written))) c.in-AtMark.is (c.in_ok-finish.ensures way.lines way.come) in
    let s = c.args.self.now in
    let gone = advanced_stop (record v { stage = going.Running }) c.args.to way.later way.lines way.was old mid new mark c.in_ok-finish.written ran c.in_ok-close-in-AtMark.ensures.whole in
    let n = c.in_ok-finish.written in
    subst (λ (x : SimulationState). RunsTo (record s { stage = going.Running }) (record v { to = c.args.to; stage = stage_of x }) c.args.to old new (Ok (Stop mark, n))) (sym c.put-in-AtMark.ensures)
    (goes_on v s (record v { to = c.args.to; stage = going.Stopped mark }) c.self.view_is c.args.to old new (Stop mark) n gone)
