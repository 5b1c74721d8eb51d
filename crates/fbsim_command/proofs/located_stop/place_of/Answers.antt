use Rattle.std.proofs.Common.{Option, IfNone, IfSome, subst}
use Rattle.fb_stop.specs.Shown.{IsStopShown}
use Rattle.fb_stop.specs.declared.shown.Shown.{Shown}
use Rattle.fbsim_command.specs.Stops.{IsUnshownStop}
use Rattle.fbsim_command.proofs.lemmas.notes.Located.{operated, positioned}
use Rattle.fbsim_command.proofs.located_stop.place_of.Goals as goal

pub returns-in-Some : goal.returns-in-Some
returns-in-Some c =
    let text = c.args.declaration.now in
    let i = c.args.system.now in
    let stop = c.args.stop.now in
    operated text i stop c.in-Some.shown c.place_between.result (subst (λ (o : Option Shown). IfSome o (IsStopShown text i stop)) c.in-Some.is c.requires.shown)
    c.place_between.ensures.within c.place_between.ensures.place c.place_between.ensures.there

pub returns-in-None : goal.returns-in-None
returns-in-None c =
    let text = c.args.declaration.now in
    let i = c.args.system.now in
    let stop = c.args.stop.now in
    positioned text i stop c.place_of_position.result (subst (λ (o : Option Shown). IfNone o (IsUnshownStop text i stop)) c.in-None.is c.requires.unshown) c.place_of_position.ensures
