use Rattle.fb_window.proofs.lemmas.Common.{◌≡◌, ◌<◌, ℕ, List, length, refl, sym, ap, subst, ◌∙◌, arith, All, Vec, AllZip, Some, None, slice_get, Inputs, system_of, stimuli_of, Key, Line, CoreStep, opening_core, machine, IsSchedule, IsNext, waiting, BelongsTo, all_of, AreGood, Resource, AreHome, Does, lists_of, AreCut, edge_of, ArePosted, core_of, AreLegal, HasLeft, IsAt, AwayState}
use Rattle.fb_types.proofs.Common.{AreAccepted, IsWithinLimits}
use Rattle.fb_trace.proofs.lemmas.order.StableSort.{kept}
use Rattle.fb_window.specs.Settling.{IsMerged, Settles, settled_of}
use Rattle.fb_window.specs.Frontiers.{IsEnd, IsFrontier}
use Rattle.fb_window.proofs.lemmas.phases.JobsGiven.{fronts_given}
use Rattle.fb_window.proofs.lemmas.phases.Passes.{few_resources}
use Rattle.fb_window.proofs.lemmas.phases.Rounds.{HasGathered, settle_each, settle_reached}
use Rattle.fb_window.proofs.lemmas.lines.FoundLines.{made_ok}
use Rattle.fb_window.proofs.lemmas.phases.Targets.{fronts_in, lines_belong, rests_in, targets_in}
use Rattle.fb_window.specs.Texts.{KeepsNothing}
use Rattle.fb_window.proofs.cores.Away.settle_apart.Goals as goal
use Rattle.fb_window.proofs.cores.Away.settle_apart.Goals.{After-end_of-end}

pub come_home-requires : goal.come_home-requires
come_home-requires c =
    let a : AwayState = c.self.inside.state in
    let b = c.self.invariant in
    record {
      inputs = a.system;
      limit = a.steps;
      bounds = b.bounds;
      index = 0;
      resources = b.resources;
      is = b.left.resting;
      counted = b.counted;
      done = subst (λ z. AllZip Does z c.args.dones.items) b.left.jobs (subst (λ (z : AwayState). AllZip Does z.jobs.value.items c.args.dones.items) (sym c.self.view_is) c.requires.done);
    }

pub post-posted-requires-clause-counted : goal.post-posted-requires-clause-counted
post-posted-requires-clause-counted c =
    let a : AwayState = c.self.inside.state in
    let b = c.self.invariant in
    let done = subst (λ z. AllZip Does z c.args.dones.items) b.left.jobs (subst (λ (z : AwayState). AllZip Does z.jobs.value.items c.args.dones.items) (sym c.self.view_is) c.requires.done) in
    let home : AreHome a.system a.steps b.bounds b.resources a.pending.items c.in_ok-home.home = c.in_ok-home.ensures.home a.system a.steps b.bounds b.resources b.left.resting done in
    home.resources ∙ b.left.counted ∙ ap (λ (i : Inputs). length (system_of i).resource_names) (sym (c.requires.system ∙ sym (ap (λ (z : AwayState). z.system) c.self.view_is)))

pub post-posted-requires-clause-targets : goal.post-posted-requires-clause-targets
post-posted-requires-clause-targets c =
    let a : AwayState = c.self.inside.state in
    let b = c.self.invariant in
    let done = subst (λ z. AllZip Does z c.args.dones.items) b.left.jobs (subst (λ (z : AwayState). AllZip Does z.jobs.value.items c.args.dones.items) (sym c.self.view_is) c.requires.done) in
    let home = c.in_ok-home.ensures.home a.system a.steps b.bounds b.resources b.left.resting done in
    subst (λ (i : Inputs). All (λ box. All (λ m. m.target.instance < length (system_of i).paths) box.items) c.in_ok-home.home.outboxes.items) (sym (c.requires.system ∙ sym (ap (λ (z : AwayState). z.system) c.self.view_is)))
    (targets_in a.system a.steps b.bounds b.resources a.pending.items c.in_ok-home.home home)

pub end_of-end-requires : goal.end_of-end-requires
end_of-end-requires c =
    let a : AwayState = c.self.inside.state in
    let b = c.self.invariant in
    let done = subst (λ z. AllZip Does z c.args.dones.items) b.left.jobs (subst (λ (z : AwayState). AllZip Does z.jobs.value.items c.args.dones.items) (sym c.self.view_is) c.requires.done) in
    let home : AreHome a.system a.steps b.bounds b.resources a.pending.items c.in_ok-home.home = c.in_ok-home.ensures.home a.system a.steps b.bounds b.resources b.left.resting done in
    let good : AreGood a.system = record {
      accepted = subst AreAccepted (c.requires.system ∙ sym (ap (λ (z : AwayState). z.system) c.self.view_is)) c.facts.ensures.accepted;
      limits = subst (λ (i : Inputs). IsWithinLimits i.plan) (c.requires.system ∙ sym (ap (λ (z : AwayState). z.system) c.self.view_is)) c.facts.ensures.limits;
    } in
    let few = few_resources a.system good in
    let posted = made_ok _ c.post-posted.result c.in_ok-kept.resources c.in_ok-kept.ensures.made c.post-posted.ensures in
    let same = ap (λ (ys : List Resource). length ys) c.deref-3.ensures.value in
    let found = ap (λ (v : Vec Resource). length v.items) (c.in_ok-resources.ensures.kept) in
    omega (arith, few, same, found, posted.counted, home.resources, b.left.counted)

-- what was posted, to the resources that have come home
posted : (c : After-end_of-end)
    → let a : AwayState = c.self.inside.state in ArePosted (system_of a.system) (all_of c.in_ok-home.home.outboxes.items) c.in_ok-home.home.resources.items c.in_ok-kept.resources.items
posted c =
    let h = c.in_ok-home.home in
    subst (λ (i : Inputs). ArePosted (system_of i) (all_of h.outboxes.items) h.resources.items c.in_ok-kept.resources.items) (c.requires.system ∙ sym (ap (λ (z : AwayState). z.system) c.self.view_is))
    (made_ok _ c.post-posted.result c.in_ok-kept.resources c.in_ok-kept.ensures.made c.post-posted.ensures)

-- how the lines that were kept were cut
found : (c : After-end_of-end) → AreCut (edge_of c.frontier_of-frontier.result) c.in_ok-home.home.pending.items c.in_ok-resources.cut.0.items c.in_ok-resources.cut.1.items
found c =
    subst (λ (v : Vec (Vec Line)). AreCut (edge_of c.frontier_of-frontier.result) v.items c.in_ok-resources.cut.0.items c.in_ok-resources.cut.1.items) c.in_ok-kept.ensures.kept
    (made_ok _ c.cut_all.result c.in_ok-resources.cut c.in_ok-resources.ensures.made c.cut_all.ensures)

-- the lines that came home are lines of the system
came : (c : After-end_of-end) → let a : AwayState = c.self.inside.state in All (λ (p : Vec Line). All (BelongsTo (system_of a.system)) p.items) c.in_ok-home.home.pending.items
came c =
    let a : AwayState = c.self.inside.state in
    let b = c.self.invariant in
    let done = subst (λ z. AllZip Does z c.args.dones.items) b.left.jobs (subst (λ (z : AwayState). AllZip Does z.jobs.value.items c.args.dones.items) (sym c.self.view_is) c.requires.done) in
    let h = c.in_ok-home.home in
    let home : AreHome a.system a.steps b.bounds b.resources a.pending.items h = c.in_ok-home.ensures.home a.system a.steps b.bounds b.resources b.left.resting done in
    lines_belong a.system a.steps b.bounds b.resources a.pending.items h home b.belong

-- what the answers rest on
gathered : (c : After-end_of-end) → let a : AwayState = c.self.inside.state in HasGathered a.system a.steps a.horizon a.resting.items a.pending.items c.args.dones.items c.in_ok-home.home
    c.in_ok-kept.resources.items c.in_ok-resources.cut.0.items c.in_ok-resources.cut.1.items c.end_of-end.result
gathered c =
    let a : AwayState = c.self.inside.state in
    let least = c.least_next-least.result in
    let edge = edge_of c.frontier_of-frontier.result in
    record {
      good = record {
        accepted = subst AreAccepted (c.requires.system ∙ sym (ap (λ (z : AwayState). z.system) c.self.view_is)) c.facts.ensures.accepted;
        limits = subst (λ (i : Inputs). IsWithinLimits i.plan) (c.requires.system ∙ sym (ap (λ (z : AwayState). z.system) c.self.view_is)) c.facts.ensures.limits;
      };
      home = λ bounds xs same jobs. c.in_ok-home.ensures.home a.system a.steps bounds xs same jobs;
      found = record {
        least = least;
        edge = edge;
        posted = posted c;
        cap = c.least_next-least.ensures.cap;
        low = subst (λ (ys : List Resource). (r : ℕ) (x : Resource) (j : Key) → slice_get ys r ≡ Some x → j.tick < least → waiting x.agenda j ≡ None) c.deref.ensures.value c.least_next-least.ensures.low;
        there = subst (λ (ys : List Resource). least < a.horizon → (r : ℕ) × (x : Resource) × (slice_get ys r ≡ Some x) × IsNext x.agenda least) c.deref.ensures.value c.least_next-least.ensures.there;
        frontier = subst (λ (ys : List Resource). IsFrontier least ys edge) c.deref-2.ensures.value c.frontier_of-frontier.ensures;
        cut = found c;
        ends = subst (λ (ys : List Resource). IsEnd a.horizon ys c.end_of-end.result) (c.deref-3.ensures.value ∙ ap (λ (v : Vec Resource). v.items) c.in_ok-resources.ensures.kept) c.end_of-end.ensures;
      };
      belongs = rests_in (BelongsTo (system_of a.system)) edge c.in_ok-home.home.pending.items c.in_ok-resources.cut.0.items c.in_ok-resources.cut.1.items (found c) (came c);
    }

-- the lines that are final are lines of the system
finals : (c : After-end_of-end) → let a : AwayState = c.self.inside.state in All (λ (p : Vec Line). All (BelongsTo (system_of a.system)) p.items) c.in_ok-resources.cut.0.items
finals c =
    let a : AwayState = c.self.inside.state in
    fronts_in (BelongsTo (system_of a.system)) (edge_of c.frontier_of-frontier.result) c.in_ok-home.home.pending.items c.in_ok-resources.cut.0.items c.in_ok-resources.cut.1.items
    (found c) (came c)

all_belong : (c : After-end_of-end) (all : List Line) → IsMerged c.in_ok-resources.cut.0.items all → let a : AwayState = c.self.inside.state in All (BelongsTo (system_of a.system)) all
all_belong c all m = let a : AwayState = c.self.inside.state in kept c.in_ok-resources.cut.0.items all m.moved (BelongsTo (system_of a.system)) (finals c)

pub invariant_of-core : goal.invariant_of-core
invariant_of-core c =
    let d = (goal.at.invariant_of-core c).After-end_of-end in
    let a : AwayState = c.self.inside.state in
    let b = c.self.invariant in
    let done = subst (λ (z : AwayState). AllZip Does z.jobs.value.items c.args.dones.items) (sym c.self.view_is) c.requires.done in
    settle_reached a c.args.dones.items done c.in_ok-home.home c.in_ok-kept.resources.items c.in_ok-resources.cut.0.items c.in_ok-resources.cut.1.items
    c.end_of-end.result (gathered d) b.resources b.bounds b.way.steps (λ r. 0) b.left b.way.schedule b.way.at b.way.legal
    b.way.idle b.some_steps b.few_steps c.in_ok-resources.resources c.in_ok-resources.cut.1 (ap (λ (v : Vec Resource). v.items) c.in_ok-resources.ensures.kept) refl

pub returns-clause-settles : goal.returns-clause-settles
returns-clause-settles c =
    let d = (goal.at.returns-clause-settles c).After-end_of-end in
    let s : AwayState = c.self.inside.state in
    let done = subst (λ (z : AwayState). AllZip Does z.jobs.value.items c.args.dones.items) (sym c.self.view_is) c.requires.done in
    let finals = c.in_ok-resources.cut.0 in
    subst
    (λ (a : AwayState). (all : Vec Line) → IsMerged finals.items all.items → (xs : List Resource) (bounds : List ℕ) (es : List (CoreStep (machine (system_of a.system) a.steps))) (workers : ℕ → ℕ) → HasLeft xs bounds a
    → IsSchedule (machine (system_of a.system) a.steps) a.horizon (opening_core (system_of a.system) (stimuli_of a.system) a.steps) es → IsAt a.system a.steps (core_of a.system a.steps es) xs
    → AreLegal a.system a.steps a.horizon (core_of a.system a.steps es) bounds → Settles a.system a.steps a.horizon es bounds (lists_of a.pending.items) workers (settled_of c.reached-reach.result all))
    c.self.view_is
    (λ all m xs bounds es workers left sc at legal.
    rw c.reached-reach.ensures
    (settle_each s c.args.dones.items done c.in_ok-home.home c.in_ok-kept.resources.items c.in_ok-resources.cut.0.items c.in_ok-resources.cut.1.items
    c.end_of-end.result (gathered d) xs bounds es workers left sc at legal _ all m.merged (all_belong d all.items m) refl refl (ap (λ (v : Vec Resource). v.items) c.in_ok-resources.ensures.kept) refl))

pub returns-clause-belong : goal.returns-clause-belong
returns-clause-belong c =
    subst (λ (a : AwayState). All (λ (p : Vec Line). All (BelongsTo (system_of a.system)) p.items) c.in_ok-resources.cut.0.items) c.self.view_is (finals (goal.at.returns-clause-belong c).After-end_of-end)

pub returns-clause-fronts : goal.returns-clause-fronts
returns-clause-fronts c = λ nothing.
    let d = (goal.at.returns-clause-fronts c).After-end_of-end in
    let keeps = subst (λ (a : AwayState). KeepsNothing a) (sym c.self.view_is) nothing in
    fronts_given (edge_of c.frontier_of-frontier.result) c.in_ok-home.home.pending.items c.in_ok-resources.cut.0.items c.in_ok-resources.cut.1.items c.args.dones.items
    (found d) (c.in_ok-home.ensures.lines keeps.resting keeps.pending)
