use Rattle.fb_types.proofs.Common.{List, Option, subst, IfOk-weaker, Position, Name, event_at}
use Rattle.fb_types.specs.declared.run.Emission.{Emission}
use Rattle.fb_ecc.specs.Indexes.{index}
use Rattle.fb_stop.specs.Copies.{HasLocated, begins_at}
use Rattle.fb_stop.specs.Links.{HasReacted}
use Rattle.fb_stop.specs.declared.site.ReactionStop.{ReactionStop}
use Rattle.fb_stop.proofs.copies.locate_in.Goals as goal

pub returns : goal.returns
returns c =
    let t = c.args.block.now in
    let event : Name = event_at t.ports.event_inputs c.args.event in
    let begins : List Emission → Position = begins_at t c.in-Some.state c.args.event c.args.values.now c.args.left in
    let end : Position = index t c.locate.new.state.state c.locate.new.state.frame c.locate.new.meter.left c.locate.new.emits in
    IfOk-weaker c.locate.result (λ (stop : Option ReactionStop). HasReacted t event stop (begins c.clear.new.self) end) (HasLocated t c.args.event c.args.values.now c.args.left c.args.copy.now)
    (λ stop reacted. record {
      state = c.in-Some.state;
      is = c.in-Some.is;
      position = end;
      reacted = subst (λ (es : List Emission). HasReacted t event stop (begins es) end) c.clear.ensures reacted;
    })
    c.locate.ensures.reacted
