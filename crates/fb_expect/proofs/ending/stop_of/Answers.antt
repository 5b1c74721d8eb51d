use Rattle.fb_expect.proofs.lemmas.Common.{◌≡◌, ℕ, ◌++◌, codes, ap, ◌∙◌, Text}
use Rattle.fb_expect.specs.Events.{IsStart}
use Rattle.fb_expect.specs.Traces.{IsReason, IsStopText}
use Rattle.fb_expect.proofs.ending.stop_of.Goals as goal

stop : (text : Text) (tick : ℕ) (resource rest reason : Text) → IsStart text tick resource rest → rest ≡ codes " " ++ reason → IsReason reason → IsStopText text tick
stop text tick resource rest reason start blank is = record {
  digits = start.digits;
  resource = resource;
  reason = reason;
  tick_is = start.tick_is;
  resource_is = start.resource_is;
  reason_is = is;
  parts = start.parts ∙ ap (λ (t : Text). start.digits ++ (codes " " ++ (resource ++ t))) blank;
}

pub returns-then-is_reason-clause-text : goal.returns-then-is_reason-clause-text
returns-then-is_reason-clause-text c = stop _ _ _ _ _ c.in_ok-tick.ensures.parts c.in_ok-after_front.ensures.parts (c.is_reason.ensures.reason c.if-is_reason.true)
