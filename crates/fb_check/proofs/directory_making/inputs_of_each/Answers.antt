use Rattle.fb_types.proofs.Common.{List, subst}
use Rattle.fb_types.specs.declared.library.EventPort.{EventPort}
use Rattle.fb_types.specs.declared.library.Variable.{Variable}
use Rattle.fb_check.specs.Directory.{AreEvents, AreVariables, AreWiths}
use Rattle.fb_check.proofs.lemmas.FilledByName.{inputs_more}
use Rattle.fb_check.proofs.directory_making.inputs_of_each.Goals as goal

pub loop-each-preserved : goal.loop-each-preserved
loop-each-preserved g c =
    inputs_more g.T.Interfaced.ports _ _ _ _ _ _ _ c.loop-each-test.true c.each-item.is c.interface-ports.ensures c.loop-each.invariant
    (record {
      events = subst (λ (es : List EventPort). AreEvents es c.in_ok-events_of.field-0) c.as_slice-events.ensures c.in_ok-events_of.ensures;
      withs = subst (λ (es : List EventPort). AreWiths es c.in_ok-withs_of.field-0) c.as_slice-events.ensures c.in_ok-withs_of.ensures;
      variables = subst (λ (vs : List Variable). AreVariables vs c.in_ok-variables_of.field-0) c.as_slice.ensures c.in_ok-variables_of.ensures;
    })
    c.in_ok-push.ensures.ok
