use Rattle.fb_net.proofs.lemmas.Common.{◌≡◌, ◌∙◌, List, ap, map, refl, sym, subst, Inputs, system_of, port_of, Target, InputValue, StillAreOuts, AreKept, InForest, true≢false}
use Rattle.fb_types.proofs.Common.{path_of, Stimulated}
use Rattle.fb_types.specs.declared.run.Event.{Event as Waiting}
use Rattle.fb_types.specs.declared.run.Event.TheVariants as waits
use Rattle.fb_types.specs.declared.run.GivenRow.{GivenRow}
use Rattle.fb_system.specs.Stimuli.{set_of}
use Rattle.fb_net.specs.Events.{event_of}
use Rattle.fb_net.specs.Steps.{MayTake, WasTaken}
use Rattle.fb_net.proofs.lemmas.taking.ByEvent.{arrival-taken, arrival-typed, local-taken, stimulus-is, stimulus-kept, stimulus-lies, stimulus-taken, stimulus-typed}
use Rattle.fb_net.proofs.lemmas.taking.TakingSteps.{stays-whole}
use Rattle.fb_net.proofs.lemmas.emitting.PortRows.{path-of_port}
use Rattle.fb_net.proofs.lemmas.emitting.OutboxKept.{blocks-changed, remembered-then}
use Rattle.fb_net.proofs.lemmas.blocks.BlocksKept.{kept-held, kept-then}
use Rattle.fb_net.proofs.taking.Taking.bring.Goals as goal

-- a row that was given sets what is in its list of slots
given-is : (i : Inputs) (g : GivenRow) (xs : List InputValue) → xs ≡ g.sets
    → event_of i (waits.Given g) ≡ Stimulated (port_of (system_of i) g.target) (map (set_of (system_of i) g.target.instance) xs)
given-is i g xs same =
    ap (λ (ys : List InputValue). Stimulated (port_of (system_of i) g.target) (map (set_of (system_of i) g.target.instance) ys)) (sym same)

pub returns-in-Stimulus : goal.returns-in-Stimulus
returns-in-Stimulus c =
    let a = c.args.self.now in
    let i = a.system.now in
    let k = a.key.now in
    let f = a.forest.now in
    let x = a.outbox.now in
    let s = c.stimulus-stimulus.result in
    let e : Waiting = waits.Stimulus c.in-Stimulus.row in
    let at : Target = s.target in
    let xs = s.sets.now in
    let is = stimulus-is i c.in-Stimulus.row s c.stimulus-stimulus.ensures in
    let mid = c.set_slots.new.forest in
    let changes = c.set_slots.ensures in
    let may = subst (λ (r : Waiting). MayTake a r) c.in-Stimulus.is c.requires.may in
    let kept = stimulus-kept i e at xs is k f mid changes may.event.here in
    record {
      target = record { port = c.stimulus-stimulus.ensures.is_port; composite = λ output. absurd (true≢false (sym output ∙ c.stimulus-stimulus.ensures.input)) };
      here = stimulus-lies i e at xs is f may.event.here ∙ sym kept.resource;
      ready = record { resource = may.ready.resource ∙ sym kept.resource };
      typed = stimulus-typed i e at xs is k f mid changes may.event.here may.belongs may.typed;
      whole = record { same = record { system = refl; key = refl; forest = refl; outbox = refl }; kept = kept };
      taken = λ left end last after arrived stays. subst (λ (r : Waiting). WasTaken a r left end last after) (sym c.in-Stimulus.is) (record {
        taken = stimulus-taken i e at xs is k f mid changes may.event.here last.forest.now x last.outbox.now left after end arrived.reacted;
        outs =
            remembered-then (StillAreOuts i mid x last.forest.now last.outbox.now) (StillAreOuts i f x last.forest.now last.outbox.now) end
            (λ outs were. outs (blocks-changed i f mid x kept.resource were)) arrived.outs;
        fewer = arrived.fewer;
        kept = kept-then i f mid last.forest.now kept stays.kept;
      });
    }

pub set_slots-requires-clause-stands : goal.set_slots-requires-clause-stands
set_slots-requires-clause-stands c =
    let a = c.args.self.now in
    let i = a.system.now in
    let s = c.stimulus-stimulus.result in
    let e : Waiting = waits.Stimulus c.in-Stimulus.row in
    let at : Target = s.target in
    let xs = s.sets.now in
    let is = stimulus-is i c.in-Stimulus.row s c.stimulus-stimulus.ensures in
    let may = subst (λ (r : Waiting). MayTake a r) c.in-Stimulus.is c.requires.may in
    record { here = stimulus-lies i e at xs is a.forest.now may.event.here; whole = (may.belongs.0, may.belongs.1) }

pub returns-in-Given : goal.returns-in-Given
returns-in-Given c =
    let a = c.args.self.now in
    let i = a.system.now in
    let k = a.key.now in
    let f = a.forest.now in
    let x = a.outbox.now in
    let g : GivenRow = c.in-Given.given in
    let e : Waiting = waits.Given g in
    let at : Target = g.target in
    let xs = c.as_slice-sets.result.now in
    let is = given-is i g xs c.as_slice-sets.ensures in
    let mid = c.set_slots-in-Given.new.forest in
    let changes = c.set_slots-in-Given.ensures in
    let may = subst (λ (r : Waiting). MayTake a r) c.in-Given.is c.requires.may in
    let kept = stimulus-kept i e at xs is k f mid changes may.event.here in
    record {
      target = record { port = may.event.numbered.is_port; composite = λ output. absurd (true≢false (sym output ∙ may.event.numbered.input)) };
      here = stimulus-lies i e at xs is f may.event.here ∙ sym kept.resource;
      ready = record { resource = may.ready.resource ∙ sym kept.resource };
      typed = stimulus-typed i e at xs is k f mid changes may.event.here may.belongs may.typed;
      whole = record { same = record { system = refl; key = refl; forest = refl; outbox = refl }; kept = kept };
      taken = λ left end last after arrived stays. subst (λ (r : Waiting). WasTaken a r left end last after) (sym c.in-Given.is) (record {
        taken = stimulus-taken i e at xs is k f mid changes may.event.here last.forest.now x last.outbox.now left after end arrived.reacted;
        outs =
            remembered-then (StillAreOuts i mid x last.forest.now last.outbox.now) (StillAreOuts i f x last.forest.now last.outbox.now) end
            (λ outs were. outs (blocks-changed i f mid x kept.resource were)) arrived.outs;
        fewer = arrived.fewer;
        kept = kept-then i f mid last.forest.now kept stays.kept;
      });
    }

pub set_slots-requires-in-Given-clause-stands : goal.set_slots-requires-in-Given-clause-stands
set_slots-requires-in-Given-clause-stands c =
    let a = c.args.self.now in
    let i = a.system.now in
    let g : GivenRow = c.in-Given.given in
    let e : Waiting = waits.Given g in
    let at : Target = g.target in
    let xs = c.as_slice-sets.result.now in
    let is = given-is i g xs c.as_slice-sets.ensures in
    let may = subst (λ (r : Waiting). MayTake a r) c.in-Given.is c.requires.may in
    record { here = stimulus-lies i e at xs is a.forest.now may.event.here; whole = (may.belongs.0, may.belongs.1) }

pub returns-in-Arrival : goal.returns-in-Arrival
returns-in-Arrival c =
    let a = c.args.self.now in
    let i = a.system.now in
    let k = a.key.now in
    let f = a.forest.now in
    let x = a.outbox.now in
    let m = c.in-Arrival.message in
    let mid = c.hold_carried.new.forest in
    let holds = c.hold_carried.ensures in
    let may = subst (λ (r : Waiting). MayTake a r) c.in-Arrival.is c.requires.may in
    let held = kept-held i f mid _ holds in
    let here : InForest i f m.target.instance = ap (system_of i).resource (sym (path-of_port (system_of i) m.target)) ∙ may.event.here in
    record {
      target = may.event.numbered.0;
      here = here ∙ sym held.resource;
      ready = record { resource = may.ready.resource ∙ sym held.resource };
      typed = arrival-typed i k m f mid holds may.belongs may.typed;
      whole = record { same = record { system = refl; key = refl; forest = refl; outbox = refl }; kept = held };
      taken = λ left end last after arrived stays. subst (λ (r : Waiting). WasTaken a r left end last after) (sym c.in-Arrival.is) (record {
        taken = arrival-taken i k m f mid holds last.forest.now x last.outbox.now left after end arrived.reacted;
        outs =
            remembered-then (StillAreOuts i mid x last.forest.now last.outbox.now) (StillAreOuts i f x last.forest.now last.outbox.now) end
            (λ outs were. outs (blocks-changed i f mid x held.resource were)) arrived.outs;
        fewer = arrived.fewer;
        kept = kept-then i f mid last.forest.now held stays.kept;
      });
    }

pub returns-in-Local : goal.returns-in-Local
returns-in-Local c =
    let a = c.args.self.now in
    let i = a.system.now in
    let k = a.key.now in
    let f = a.forest.now in
    let x = a.outbox.now in
    let at : Target = c.in-Local.target in
    let may = subst (λ (r : Waiting). MayTake a r) c.in-Local.is c.requires.may in
    let here : InForest i f at.instance = ap (system_of i).resource (sym (path-of_port (system_of i) at)) ∙ may.event.here in
    record {
      target = may.event.numbered;
      here = here;
      ready = may.ready;
      typed = may.belongs;
      whole = stays-whole a;
      taken = λ left end last after arrived stays. subst (λ (r : Waiting). WasTaken a r left end last after) (sym c.in-Local.is) (record {
        taken = local-taken i k at f last.forest.now x last.outbox.now left after end arrived.reacted;
        outs = arrived.outs;
        fewer = arrived.fewer;
        kept = stays.kept;
      });
    }
