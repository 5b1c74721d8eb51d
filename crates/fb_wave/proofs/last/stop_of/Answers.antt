use Rattle.fb_types.specs.Headline.{system_of}
use Rattle.fb_wave.proofs.lemmas.Ends.{no_reason, no_resource, no_word}
use Rattle.fb_wave.proofs.lemmas.Gluing.{stop_glued}
use Rattle.fb_wave.proofs.last.stop_of.Goals as goal

pub returns-clause-stop : goal.returns-clause-stop
returns-clause-stop c =
    record {
      tick = c.in_ok-tick.ensures.range;
      within = c.in_ok-resource.ensures.within;
      is = stop_glued (system_of c.args.system.now) _ _ _ c.args.text.now _ _ _ c.in_ok-tick.ensures.tick c.in_ok-name.ensures.parts c.in_ok-reason.ensures c.in_ok-resource.ensures.named;
    }

pub returns-in_err-name-clause-none : goal.returns-in_err-name-clause-none
returns-in_err-name-clause-none c names =
    rw c.from_residual-in_err-name.ensures
    (no_word (system_of c.args.system.now) c.args.text.now c.in_ok-tick.tick.1.now c.in_ok-tick.tick.0 c.in_ok-tick.ensures.range c.in_ok-tick.ensures.tick
    c.in_err-name.ensures)

pub returns-in_err-resource-clause-none : goal.returns-in_err-resource-clause-none
returns-in_err-resource-clause-none c names =
    rw c.from_residual-in_err-resource.ensures
    (no_resource (system_of c.args.system.now) c.args.text.now c.in_ok-tick.tick.1.now c.in_ok-tick.tick.0 c.in_ok-tick.ensures.range c.in_ok-tick.ensures.tick
    c.in_ok-name.name.0.now c.in_ok-name.name.1.now c.in_ok-name.ensures names c.in_err-resource.ensures.none)

pub returns-in_err-reason-clause-none : goal.returns-in_err-reason-clause-none
returns-in_err-reason-clause-none c names =
    rw c.from_residual-in_err-reason.ensures
    (no_reason (system_of c.args.system.now) c.args.text.now c.in_ok-tick.tick.1.now c.in_ok-tick.tick.0 c.in_ok-tick.ensures.range c.in_ok-tick.ensures.tick
    c.in_ok-name.name.0.now c.in_ok-name.name.1.now c.in_ok-name.ensures names c.in_err-reason.ensures)
