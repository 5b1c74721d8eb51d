use Rattle.std.proofs.Common.{arith}
use Rattle.fb_wave.specs.Scopes.{carried_declarations, variable_declarations, variable_declared}
use Rattle.fb_wave.proofs.lemmas.Declaring.{variables_go}
use Rattle.fb_wave.proofs.lemmas.Listing.{going_on, gone_all}
use Rattle.fb_wave.proofs.signals.put_variables.Goals as goal

pub loop-variable-preserved : goal.loop-variable-preserved
loop-variable-preserved c =
    let events = c.args.events.now in
    record {
      number = omega (arith, c.loop-variable.invariant.number);
      text =
          going_on (variable_declarations variable_declared events) (carried_declarations variable_declared events) c.args.text.now.items c.loop-variable.text.items c.put_variable.new.text.items c.args.first
          c.loop-variable.signal c.loop-variable.variable-index c.args.variables.now c.variable-item.result (variables_go variable_declared events) c.loop-variable-test.true
          c.variable-item.is c.in_ok-put_variable.ensures c.loop-variable.invariant.text;
    }

pub returns : goal.returns
returns c =
    let events = c.args.events.now in
    gone_all (variable_declarations variable_declared events) (carried_declarations variable_declared events) c.args.text.now.items c.loop-variable.text.items c.args.first c.loop-variable.signal
    c.loop-variable.variable-index c.args.variables.now (variables_go variable_declared events) (omega (arith, c.loop-variable-test.false)) c.loop-variable.invariant.text
