use Rattle.fb_types.proofs.Common.{◌<◌, Bool, All, length, refl, sym, ap, subst, ◌∙◌, arith, All-nil, slice_get_read}
use Rattle.fb_types.specs.declared.run.Message.{Message}
use Rattle.fb_net.specs.Events.{event_of}
use Rattle.fb_resource.specs.Posts.{IsMessage}
use Rattle.fb_resource.specs.Takings.{AreReady, IsTakenHere, with_least_event}
use Rattle.fb_resource.proofs.lemmas.Meters.{here_later}
use Rattle.fb_sim_machine.proofs.lemmas.ReadyIs.{ready_after}
use Rattle.fb_sim_machine.proofs.lemmas.Nexts.{no_mail, nothing_delivered}
use Rattle.fb_sim_machine.proofs.lemmas.TakenIs.{taken_at}
use Rattle.fb_sim_machine.proofs.machine.Machine.take.Goals as goal

pub take-requires-clause-tree : goal.take-requires-clause-tree
take-requires-clause-tree c =
    let trees = c.args.self.now.trees.items in
    let counted = c.requires.ready.trees_counted in
    let named = c.requires.named in
    let r = c.args.least.now.key.resource in
    let within : r < length trees = omega (arith, counted, named) in
    let tree = c.index_mut.result.now in
    c.requires.ready.trees r tree (slice_get_read trees (length trees) r tree refl within c.index_mut.ensures.value)

pub take-requires-clause-counts : goal.take-requires-clause-counts
take-requires-clause-counts c =
    let meters = c.args.self.now.meters.items in
    let counted = c.requires.ready.meters_counted in
    let named = c.requires.named in
    let r = c.args.least.now.key.resource in
    let within : r < length meters = omega (arith, counted, named) in
    let meter = c.index_mut-2.result.now in
    c.requires.ready.meters r meter (slice_get_read meters (length meters) r meter refl within c.index_mut-2.ensures.value)

pub take-requires-clause-represents : goal.take-requires-clause-represents
take-requires-clause-represents c =
    let trees = c.args.self.now.trees.items in
    let meters = c.args.self.now.meters.items in
    let trees_counted = c.requires.ready.trees_counted in
    let meters_counted = c.requires.ready.meters_counted in
    let named = c.requires.named in
    let r = c.args.least.now.key.resource in
    let has_tree : r < length trees = omega (arith, trees_counted, named) in
    let has_meter : r < length meters = omega (arith, meters_counted, named) in
    let tree = c.index_mut.result.now in
    let meter = c.index_mut-2.result.now in
    let represents = c.requires.represents in
    let here =
    represents.2.here r tree meter (slice_get_read trees (length trees) r tree refl has_tree c.index_mut.ensures.value) (slice_get_read meters (length meters) r meter refl has_meter c.index_mut-2.ensures.value) in
    (represents.0, here_later c.args.system.now represents.0 r 0 c.args.least.now.key.tick tree meter (omega arith) here)

pub returns-then-taken-clause-taken : goal.returns-then-taken-clause-taken
returns-then-taken-clause-taken c s a at =
    let i = c.args.system.now in
    let k = c.args.least.now.key in
    let r = k.resource in
    let ready = c.requires.ready in
    let named = c.requires.named in
    let trees = c.args.self.now.trees.items in
    let meters = c.args.self.now.meters.items in
    let trees_counted = ready.trees_counted in
    let meters_counted = ready.meters_counted in
    let has_tree : r < length trees = omega (arith, trees_counted, named) in
    let has_meter : r < length meters = omega (arith, meters_counted, named) in
    let tree = c.index_mut.result.now in
    let meter = c.index_mut-2.result.now in
    let was = slice_get_read trees (length trees) r tree refl has_tree c.index_mut.ensures.value in
    let had = slice_get_read meters (length meters) r meter refl has_meter c.index_mut-2.ensures.value in
    let new = c.take.new in
    let raised = c.in_ok-taken.taken.raised in
    let z = c.take.new.least in
    let mid = with_least_event raised z new.traffic in
    let none = no_mail raised new.traffic.agenda c.args.self.now.traffic.agenda new.traffic.mail c.args.self.now.traffic.mail c.if-taken.true c.in_ok-taken.ensures.alone ready.delivered in
    taken_at i c.args.limit s a k (event_of i c.args.least.now.event) _ c.args.self.now _ mid new.tree new.counts
    ready.trees has_tree has_meter c.requires.event.here at ready.delivered
    (c.in_ok-taken.ensures.taken s 0 (omega arith) (at.here r tree meter was had) at.sent) (nothing_delivered i mid none) refl refl refl refl

pub returns-clause-taken : goal.returns-clause-taken
returns-clause-taken c s a at =
    let i = c.args.system.now in
    let k = c.args.least.now.key in
    let r = k.resource in
    let ready = c.requires.ready in
    let named = c.requires.named in
    let trees = c.args.self.now.trees.items in
    let meters = c.args.self.now.meters.items in
    let trees_counted = ready.trees_counted in
    let meters_counted = ready.meters_counted in
    let has_tree : r < length trees = omega (arith, trees_counted, named) in
    let has_meter : r < length meters = omega (arith, meters_counted, named) in
    let tree = c.index_mut.result.now in
    let meter = c.index_mut-2.result.now in
    let was = slice_get_read trees (length trees) r tree refl has_tree c.index_mut.ensures.value in
    let had = slice_get_read meters (length meters) r meter refl has_meter c.index_mut-2.ensures.value in
    let new = c.take.new in
    let raised = c.in_ok-taken.taken.raised in
    let z = c.take.new.least in
    let e = event_of i c.args.least.now.event in
    let old = c.args.self.now in
    let mid = new.traffic in
    let taken = subst (λ (b : Bool). IsTakenHere i c.args.limit s k e c.in_ok-taken.taken.stop 0 new.tree new.counts old.traffic (with_least_event b z new.traffic))
    c.if-taken.false (c.in_ok-taken.ensures.taken s 0 (omega arith) (at.here r tree meter was had) at.sent) in
    rw c.if-taken.false
    (taken_at i c.args.limit s a k e _ old _ mid new.tree new.counts
    ready.trees has_tree has_meter c.requires.event.here at ready.delivered taken c.in_ok-deliver.ensures.put refl refl refl refl)

pub returns-then-taken-clause-ready : goal.returns-then-taken-clause-ready
returns-then-taken-clause-ready c =
    let i = c.args.system.now in
    let k = c.args.least.now.key in
    let r = k.resource in
    let ready = c.requires.ready in
    let named = c.requires.named in
    let trees = c.args.self.now.trees.items in
    let meters = c.args.self.now.meters.items in
    let trees_counted = ready.trees_counted in
    let meters_counted = ready.meters_counted in
    let has_tree : r < length trees = omega (arith, trees_counted, named) in
    let has_meter : r < length meters = omega (arith, meters_counted, named) in
    let tree = c.index_mut.result.now in
    let meter = c.index_mut-2.result.now in
    let was = slice_get_read trees (length trees) r tree refl has_tree c.index_mut.ensures.value in
    let had = slice_get_read meters (length meters) r meter refl has_meter c.index_mut-2.ensures.value in
    let new = c.take.new in
    let raised = c.in_ok-taken.taken.raised in
    let z = c.take.new.least in
    let ensured = c.in_ok-taken.ensures in
    ready_after i c.args.limit k c.args.self.now _ new.tree meter new.counts ready has_tree has_meter had ensured.counts ensured.tick (c.take.ensures.tree ∙ ready.trees r tree was) refl refl
    ensured.traffic (no_mail raised new.traffic.agenda c.args.self.now.traffic.agenda new.traffic.mail c.args.self.now.traffic.mail c.if-taken.true ensured.alone ready.delivered)

pub returns-clause-ready : goal.returns-clause-ready
returns-clause-ready c =
    let i = c.args.system.now in
    let k = c.args.least.now.key in
    let r = k.resource in
    let ready = c.requires.ready in
    let named = c.requires.named in
    let trees = c.args.self.now.trees.items in
    let meters = c.args.self.now.meters.items in
    let trees_counted = ready.trees_counted in
    let meters_counted = ready.meters_counted in
    let has_tree : r < length trees = omega (arith, trees_counted, named) in
    let has_meter : r < length meters = omega (arith, meters_counted, named) in
    let tree = c.index_mut.result.now in
    let meter = c.index_mut-2.result.now in
    let was = slice_get_read trees (length trees) r tree refl has_tree c.index_mut.ensures.value in
    let had = slice_get_read meters (length meters) r meter refl has_meter c.index_mut-2.ensures.value in
    let new = c.take.new in
    let raised = c.in_ok-taken.taken.raised in
    let z = c.take.new.least in
    let ensured = c.in_ok-taken.ensures in
    let put = c.in_ok-deliver.ensures in
    let Later = λ (m : Message). k.tick < m.arrives in
    let later = ensured.later (subst (All Later) (sym ready.delivered) (All-nil Later)) in
    let traffic = subst (λ (b : Bool). AreReady i k.tick (with_least_event b z new.traffic)) c.if-taken.false ensured.traffic in
    rw c.if-taken.false
    (ready_after i c.args.limit k c.args.self.now _ new.tree meter new.counts ready has_tree has_meter had ensured.counts ensured.tick (c.take.ensures.tree ∙ ready.trees r tree was) refl refl
    (record {
      order = put.order k.tick traffic.order later;
      due = ap length put.due ∙ traffic.due;
      counted = traffic.counted;
      mail = subst (All (IsMessage i)) (sym put.none) (All-nil (IsMessage i));
      lines = traffic.lines;
      none = traffic.none;
      keeps = traffic.keeps;
    })
    put.none)

pub returns-then-taken-clause-spent : goal.returns-then-taken-clause-spent
returns-then-taken-clause-spent c going =
    let i = c.args.system.now in
    let k = c.args.least.now.key in
    let r = k.resource in
    let ready = c.requires.ready in
    let named = c.requires.named in
    let trees = c.args.self.now.trees.items in
    let meters = c.args.self.now.meters.items in
    let trees_counted = ready.trees_counted in
    let meters_counted = ready.meters_counted in
    let has_tree : r < length trees = omega (arith, trees_counted, named) in
    let has_meter : r < length meters = omega (arith, meters_counted, named) in
    let tree = c.index_mut.result.now in
    let meter = c.index_mut-2.result.now in
    let was = slice_get_read trees (length trees) r tree refl has_tree c.index_mut.ensures.value in
    let had = slice_get_read meters (length meters) r meter refl has_meter c.index_mut-2.ensures.value in
    let new = c.take.new in
    let raised = c.in_ok-taken.taken.raised in
    let z = c.take.new.least in
    let spent = c.in_ok-taken.ensures.spent going in
    record { before = meter; was = had; after = _; now = refl; tick = spent.0; left = spent.1 }

pub returns-clause-spent : goal.returns-clause-spent
returns-clause-spent c going =
    let i = c.args.system.now in
    let k = c.args.least.now.key in
    let r = k.resource in
    let ready = c.requires.ready in
    let named = c.requires.named in
    let trees = c.args.self.now.trees.items in
    let meters = c.args.self.now.meters.items in
    let trees_counted = ready.trees_counted in
    let meters_counted = ready.meters_counted in
    let has_tree : r < length trees = omega (arith, trees_counted, named) in
    let has_meter : r < length meters = omega (arith, meters_counted, named) in
    let tree = c.index_mut.result.now in
    let meter = c.index_mut-2.result.now in
    let was = slice_get_read trees (length trees) r tree refl has_tree c.index_mut.ensures.value in
    let had = slice_get_read meters (length meters) r meter refl has_meter c.index_mut-2.ensures.value in
    let new = c.take.new in
    let raised = c.in_ok-taken.taken.raised in
    let z = c.take.new.least in
    let spent = c.in_ok-taken.ensures.spent going in
    record { before = meter; was = had; after = _; now = refl; tick = spent.0; left = spent.1 }
