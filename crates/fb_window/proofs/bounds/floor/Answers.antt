use Rattle.fb_types.proofs.Common.{◌∙◌, ap, max, sym, floor_of}
use Rattle.fb_window.proofs.bounds.floor.Goals as goal

pub returns-in-None : goal.returns-in-None
returns-in-None c =
    c.max.ensures ∙ ap (λ t. max t c.args.least) c.clock-in-None.ensures ∙ sym (ap (λ s. floor_of s c.args.resource.now.clock c.args.least) (sym c.stopped.ensures ∙ c.in-None.is))
