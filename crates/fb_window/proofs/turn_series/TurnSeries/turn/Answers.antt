use Rattle.fb_window.proofs.lemmas.Common.{◌≡◌, ◌<◌, length, refl, sym, ap, subst, ◌∙◌, arith, Vec, slice_set, length-set, slice_get_read, Inputs, system_of, Line, Ran, Resource, AreGiven, AreCurrent}
use Rattle.fb_resource.specs.Resources.{HasRun}
use Rattle.fb_laws.proofs.lemmas.lists.Indexes.{one_at}
use Rattle.fb_window.proofs.lemmas.messages.Receives.{set_same}
use Rattle.fb_window.proofs.turn_series.TurnSeries.turn.Goals as goal
use Rattle.fb_window.proofs.turn_series.TurnSeries.turn.Goals.{After-index}

-- the resource that ran, where it is looked at again
looked : (c : After-index) → c.index.result.now ≡ c.run_here.new.self
looked c =
    let xs = c.args.self.now.core.now.resources.items in
    let index = c.args.index in
    let after = c.run_here.new.self in
    let within : index < length xs = c.requires.run.within in
    let same = length-set xs index after in
    one_at (slice_set xs index after) index c.index.result.now after (slice_get_read (slice_set xs index after) (length (slice_set xs index after)) index c.index.result.now refl (omega arith) c.index.ensures) (set_same xs index after within)

pub give-requires-clause-may : goal.give-requires-clause-may
give-requires-clause-may c =
    let d = (goal.at.give-requires-clause-may c).After-index in
    let may = c.requires.may in
    let core = c.args.self.now.core.now in
    let xs = core.resources.items in
    let index = c.args.index in
    let count = length-set xs index c.run_here.new.self in
    record {
      of = may.of;
      few_steps = may.few_steps;
      counted = count ∙ may.counted;
      pending = length-set core.pending.items index c.append_lines.new.kept ∙ may.pending ∙ sym count;
      current =
          subst (λ (z : Resource). AreCurrent c.look_again.new.self.horizon (slice_set xs index z) c.look_again.new.self.ticks.items) (looked d)
          (c.look_again.ensures.current xs may.current);
    }

pub returns-clause-may : goal.returns-clause-may
returns-clause-may c = c.in_ok-give.ensures.may

pub returns-clause-same : goal.returns-clause-same
returns-clause-same c =
    let next = c.give.ensures.same in
    record {
      system = next.system;
      core = next.core;
      nexts = next.nexts;
      horizon = next.horizon ∙ c.look_again.ensures.horizon;
      inputs = next.inputs;
      steps = next.steps;
    }

pub returns-in_err-give-clause-same : goal.returns-in_err-give-clause-same
returns-in_err-give-clause-same c =
    let next = c.give.ensures.same in
    record {
      system = next.system;
      core = next.core;
      nexts = next.nexts;
      horizon = next.horizon ∙ c.look_again.ensures.horizon;
      inputs = next.inputs;
      steps = next.steps;
    }

pub returns-clause-turned : goal.returns-clause-turned
returns-clause-turned c =
    let old = c.args.self.now.core.now in
    let of = c.requires.may.of in
    let index = c.args.index in
    let xs = old.resources.items in
    let ps = old.pending.items in
    let before = c.index_mut.result.now in
    let after = c.run_here.new.self in
    let output = c.in_ok-output.output in
    let kept = c.index_mut-2.result.now in
    let within : index < length xs = c.requires.run.within in
    let counted = c.requires.may.pending in
    let within_too : index < length ps = omega (arith, within, counted) in
    let given = c.in_ok-give.ensures.given in
    record {
      before = before;
      after = after;
      added = output.lines;
      sent = output.sent;
      was = slice_get_read xs (length xs) index before refl within c.index_mut.ensures.value;
      ran = subst (λ (z : Inputs). HasRun z old.steps before c.args.to (Ran after output.lines output.sent output.stop)) of c.in_ok-output.ensures;
      given = subst (λ (z : Inputs). AreGiven (system_of z) output.sent.items (slice_set xs index after) c.give.new.self.core.now.resources.items) of given.given;
      kept = kept;
      lines = c.append_lines.new.kept;
      kept_was = slice_get_read ps (length ps) index kept refl within_too c.index_mut-2.ensures.value;
      joined = c.in_ok-append_lines.ensures;
      pending = ap (λ (v : Vec (Vec Line)). v.items) given.pending;
    }
