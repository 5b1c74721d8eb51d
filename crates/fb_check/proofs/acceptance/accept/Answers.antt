use Rattle.fb_types.specs.Headline.{inputs}
use Rattle.fb_check.proofs.lemmas.AcceptedInputs.{accepted_is, accepted_of, known_of}
use Rattle.fb_check.proofs.acceptance.accept.Goals as goal

pub interfaces_of-requires : goal.interfaces_of-requires
interfaces_of-requires c = (
  c.plan.result.now,
  c.in_ok-catalog.ensures.catalog,
  known_of (inputs c.args.library c.plan.result.now c.as_slice.result.now) c.in_ok-catalog.ensures.accepted,
)

pub of-requires-clause-accepted : goal.of-requires-clause-accepted
of-requires-clause-accepted c = accepted_is _ _ _ _ _ c.plan.ensures.value c.as_slice.ensures.value c.in_ok-catalog.ensures.accepted

pub returns-clause-accepted : goal.returns-clause-accepted
returns-clause-accepted c =
    accepted_of _ _ c.in_ok-system.ensures (accepted_is _ _ _ _ _ c.plan.ensures.value c.as_slice.ensures.value c.in_ok-catalog.ensures.accepted)
