use Rattle.fb_types.proofs.Common.{refl, subst, sym, ◌≡◌, ◌<◌, ◌≤◌, IsGood}
use Rattle.fb_types.specs.declared.library.Library.{Library}
use Rattle.fb_check.specs.Directory.{IsTaken}
use Rattle.fb_check.proofs.lemmas.GoodStimuli.{good_from}
use Rattle.fb_session.specs.Pasts.{StandsBy, Talk}
use Rattle.fb_session.specs.declared.stage.Stage.TheVariants as stage
use Rattle.fb_session.proofs.lemmas.GivingIs.{known_names, put_gives}
use Rattle.fb_session.proofs.lemmas.ReadRows.{read_early}
use Rattle.fb_session.proofs.lemmas.Seen.{seen}
use Rattle.fb_session.proofs.session.Session.give.Goals as goal

pub returns-then-stimulus-self : goal.returns-then-stimulus-self
returns-then-stimulus-self c =
    let v = seen c.self.inside in
    let i = c.self.inside.system.now in
    let s = c.in_ok-stimulus.stimulus in
    let was = subst (λ (x : Talk). StandsBy x c.requires.0) (sym c.self.view_is) c.requires.1 in
    let judged = rw c.in-Ok.is at c.in_ok-row.ensures in
    let taken = subst (λ (l : Library). IsTaken l s c.in-Ok.row) was.judged judged in
    let good = good_from i.library s (known_names i c.facts.ensures.accepted) taken.takes in (
      s,
      c.in_ok-stimulus.ensures,
      subst (λ (x : Talk). IsGood x.inputs.library s) c.self.view_is good,
      refl,
      subst (λ (x : Talk). s.tick < x.reached) c.self.view_is c.if-stimulus-self.true,
      refl,
    )

pub put-requires-clause-row : goal.put-requires-clause-row
put-requires-clause-row c =
    let v = seen c.self.inside in
    let i = c.self.inside.system.now in
    let s = c.in_ok-stimulus.stimulus in
    let was = subst (λ (x : Talk). StandsBy x c.requires.0) (sym c.self.view_is) c.requires.1 in
    let judged = rw c.in-Ok.is at c.in_ok-row.ensures in
    let taken = subst (λ (l : Library). IsTaken l s c.in-Ok.row) was.judged judged in
    (s, subst (λ (x : Talk). IsTaken x.inputs.library s c.in-Ok.row) c.self.view_is taken, refl, read_early _ s c.in_ok-stimulus.ensures)

pub returns : goal.returns
returns c =
    let v = seen c.self.inside in
    let i = c.self.inside.system.now in
    let s = c.in_ok-stimulus.stimulus in
    let was = subst (λ (x : Talk). StandsBy x c.requires.0) (sym c.self.view_is) c.requires.1 in
    let judged = rw c.in-Ok.is at c.in_ok-row.ensures in
    let taken = subst (λ (l : Library). IsTaken l s c.in-Ok.row) was.judged judged in
    let good = good_from i.library s (known_names i c.facts.ensures.accepted) taken.takes in
    put_gives c.args.tick.now c.args.event.now c.args.values.now c.args.self.now c.put.new.self s c.in_ok-text.text.items c.put.result c.in_ok-stimulus.ensures
    (subst (λ (x : Talk). IsGood x.inputs.library s) c.self.view_is good) (subst (λ (x : Talk). x.reached ≤ s.tick) c.self.view_is c.if-stimulus-self.false)
    (subst (λ (x : Talk). x.stage ≡ stage.Running) c.self.view_is c.in-Running.is) c.in_ok-text.ensures
    (c.put.ensures s (subst (λ (x : Talk). IsTaken x.inputs.library s c.in-Ok.row) c.self.view_is taken) refl)
