use Rattle.fb_types.proofs.Common.{◌≡◌, ◌<◌, ◌++◌, ◌∙◌, List, length, map, refl, ap, arith, slice_get_read, system_of, without, line_of}
use Rattle.fb_types.specs.declared.run.Line.{Line}
use Rattle.fb_types.proofs.lemmas.lists.ByIndex.{element_at}
use Rattle.fb_net.specs.Events.{event_of}
use Rattle.fb_stop.proofs.lemmas.runs.Stepping.{copies_after, has_stepped, is_site, left_is, stopping_if}
use Rattle.fb_stop.proofs.replay.Replay.step.Goals as goal

pub site_of-at-requires : goal.site_of-at-requires
site_of-at-requires c = (c.args.least.now.key.resource, c.requires.event)

pub steps_left-left-requires : goal.steps_left-left-requires
steps_left-left-requires c =
    let ready = c.clear_lines.ensures.ready c.args.system.now c.args.limit c.args.least.now.key.tick c.requires.ready in
    let meters = c.clear_lines.new.self.meters.items in
    let counted = ready.meters_counted in
    let named = c.requires.named in
    let r = c.args.least.now.key.resource in
    let within : r < length meters = omega (arith, counted, named) in
    let meter = c.index.result.now in
    ready.meters r meter (slice_get_read meters (length meters) r meter refl within c.index.ensures)

pub take_event-requires-clause-ready : goal.take_event-requires-clause-ready
take_event-requires-clause-ready c = c.clear_lines.ensures.ready c.args.system.now c.args.limit c.args.least.now.key.tick c.requires.ready

pub take_event-requires-clause-represents : goal.take_event-requires-clause-represents
take_event-requires-clause-represents c =
    let r = c.requires.represents in
    (r.0, without c.args.least.now.key r.1, c.clear_lines.ensures.at c.args.system.now r.0 (without c.args.least.now.key r.1) r.2)

pub follow_at-requires-clause-copies : goal.follow_at-requires-clause-copies
follow_at-requires-clause-copies c = (c.requires.represents.0, c.requires.represents.3)

pub follow_at-requires-clause-arrives : goal.follow_at-requires-clause-arrives
follow_at-requires-clause-arrives c = (event_of c.args.system.now c.args.least.now.event, c.site_of-at.ensures)

pub returns-in_default-clause-steps : goal.returns-in_default-clause-steps
returns-in_default-clause-steps c s a at copies =
    let i = c.args.system.now in
    let sys = system_of i in
    let k = c.args.least.now.key in
    let r = k.resource in
    let e = event_of i c.args.least.now.event in
    let run = c.clear_lines.new.self in
    let ready = c.clear_lines.ensures.ready i c.args.limit k.tick c.requires.ready in
    let meters_counted = ready.meters_counted in
    let trees_counted = ready.trees_counted in
    let named = c.requires.named in
    let has_meter : r < length run.meters.items = omega (arith, meters_counted, named) in
    let has_tree : r < length run.trees.items = omega (arith, trees_counted, named) in
    let meter = c.index.result.now in
    let tree = element_at run.trees.items r has_tree in
    let cleared = c.clear_lines.ensures.at i s (without k a) at in
    let here = cleared.here r tree.0 meter tree.1 (slice_get_read run.meters.items (length run.meters.items) r meter refl has_meter c.index.ensures) in
    let left = c.steps_left-left.result in
    let counted = left_is i s r tree.0 meter c.args.limit k.tick here left c.steps_left-left.ensures.some c.steps_left-left.ensures.none in
    let t = c.in_ok-reason.ensures.taken s a cleared in
    let lines = c.take_event.new.self.traffic.outbox.lines.items in
    let lines_are : map (line_of sys) lines ≡ t.effect.lines = t.lines ∙ ap (λ (ls : List Line). map (line_of sys) ls ++ t.effect.lines) c.clear_lines.ensures.none in
    has_stepped i c.args.limit s a k e c.in_ok-reason.field-0 run c.take_event.new.self c.follow_at.new.self t c.in_default.is c.in_ok-follow_at.ensures.run
    (copies_after i c.facts.ensures.numbered c.args.limit s k e t.effect t.takes lines lines_are c.args.self.now.copies.items copies
    c.site_of-at.result left c.follow_at.new.self.copies.items c.site_of-at.ensures counted (t.stops ∙ c.in_default.is) c.in_ok-follow_at.ensures.followed)

pub site_at-requires : goal.site_at-requires
site_at-requires c =
    let represents = c.requires.represents in
    let s = represents.0 in
    let a = represents.1 in
    let i = c.args.system.now in
    let sys = system_of i in
    let k = c.args.least.now.key in
    let r = k.resource in
    let e = event_of i c.args.least.now.event in
    let run = c.clear_lines.new.self in
    let ready = c.clear_lines.ensures.ready i c.args.limit k.tick c.requires.ready in
    let meters_counted = ready.meters_counted in
    let trees_counted = ready.trees_counted in
    let named = c.requires.named in
    let has_meter : r < length run.meters.items = omega (arith, meters_counted, named) in
    let has_tree : r < length run.trees.items = omega (arith, trees_counted, named) in
    let meter = c.index.result.now in
    let tree = element_at run.trees.items r has_tree in
    let cleared = c.clear_lines.ensures.at i s (without k a) represents.2 in
    let here = cleared.here r tree.0 meter tree.1 (slice_get_read run.meters.items (length run.meters.items) r meter refl has_meter c.index.ensures) in
    let left = c.steps_left-left.result in
    let counted = left_is i s r tree.0 meter c.args.limit k.tick here left c.steps_left-left.ensures.some c.steps_left-left.ensures.none in
    let t = c.in_ok-reason.ensures.taken s a cleared in
    let lines = c.take_event.new.self.traffic.outbox.lines.items in
    let lines_are : map (line_of sys) lines ≡ t.effect.lines = t.lines ∙ ap (λ (ls : List Line). map (line_of sys) ls ++ t.effect.lines) c.clear_lines.ensures.none in
    stopping_if i c.facts.ensures.numbered c.args.limit s k e t.effect t.takes lines lines_are c.args.self.now.copies.items represents.3
    c.in-Some.reason (t.stops ∙ c.in-Some.is) c.site_of-at.result left counted c.site_of-at.ensures

pub returns-clause-steps : goal.returns-clause-steps
returns-clause-steps c s a at copies =
    let i = c.args.system.now in
    let sys = system_of i in
    let k = c.args.least.now.key in
    let r = k.resource in
    let e = event_of i c.args.least.now.event in
    let run = c.clear_lines.new.self in
    let ready = c.clear_lines.ensures.ready i c.args.limit k.tick c.requires.ready in
    let meters_counted = ready.meters_counted in
    let trees_counted = ready.trees_counted in
    let named = c.requires.named in
    let has_meter : r < length run.meters.items = omega (arith, meters_counted, named) in
    let has_tree : r < length run.trees.items = omega (arith, trees_counted, named) in
    let meter = c.index.result.now in
    let tree = element_at run.trees.items r has_tree in
    let cleared = c.clear_lines.ensures.at i s (without k a) at in
    let here = cleared.here r tree.0 meter tree.1 (slice_get_read run.meters.items (length run.meters.items) r meter refl has_meter c.index.ensures) in
    let left = c.steps_left-left.result in
    let counted = left_is i s r tree.0 meter c.args.limit k.tick here left c.steps_left-left.ensures.some c.steps_left-left.ensures.none in
    let t = c.in_ok-reason.ensures.taken s a cleared in
    let lines = c.take_event.new.self.traffic.outbox.lines.items in
    let lines_are : map (line_of sys) lines ≡ t.effect.lines = t.lines ∙ ap (λ (ls : List Line). map (line_of sys) ls ++ t.effect.lines) c.clear_lines.ensures.none in
    let stops = t.stops ∙ c.in-Some.is in
    record {
      effect = t.effect;
      takes = t.takes;
      key = refl;
      stops = stops;
      arrives = c.site_of-at.ensures;
      site = is_site i c.facts.ensures.numbered c.args.limit s k e t.effect t.takes lines lines_are c.args.self.now.copies.items copies
          c.in-Some.reason stops c.site_of-at.result left c.in_ok-site.site counted c.site_of-at.ensures c.in_ok-site.ensures.site;
    }
